-- The rows of a sound set's records: which rows there are, and what two of them may have in common.
use Rattle.std.specs.Prelude.{true, List, [], ◌≡◌, ℕ, ◌<◌, length, get_or}
pub use Rattle.paper.specs.declared.Record.{Record}
use Rattle.paper.specs.Questions.{has_place}
use Rattle.paper.specs.Records.{listings, used_of}
use Rattle.paper.specs.Row.{Row, blank}
use Rattle.paper.specs.Sound.{entry}
use Rattle.row.specs.declared.set.Listed.{Listed}
use Rattle.row.specs.declared.set.SoundSet.{SoundSet}

abbrev pub used_in : SoundSet → List Record
used_in s = used_of s.head s.table.now

-- the used record with this number, and the rows that it lists
abbrev pub record_at : SoundSet → ℕ → Record
record_at s i = entry (used_in s) i

abbrev pub rows_at : SoundSet → ℕ → List Row
rows_at s i = get_or (listings s.head.arity (used_in s)) i []

abbrev pub row_at : SoundSet → Listed → Row
row_at s row = get_or (rows_at s row.at) row.number []

abbrev pub entry_at : SoundSet → Listed → ℕ → ℕ
entry_at s row place = get_or (row_at s row) place blank

-- a used record lists a row of this number
pub record IsListed (s : SoundSet) (row : Listed) : Type 0 where
  pub used : row.at < s.head.used
  pub number : row.number < length (rows_at s row.at)

-- the other is the same row, of a record with the same places
pub record IsSameRow (s : SoundSet) (row other : Listed) : Type 0 where
  pub listed : IsListed s other
  pub flag : (record_at s other.at).flag ≡ (record_at s row.at).flag
  pub entries : row_at s other ≡ row_at s row

-- the other has the same entry at this place, which is one of its record's
pub record HasSameEntry (s : SoundSet) (place : ℕ) (row other : Listed) : Type 0 where
  pub listed : IsListed s other
  pub has : has_place (record_at s other.at).flag place ≡ true
  pub same : entry_at s other place ≡ entry_at s row place
