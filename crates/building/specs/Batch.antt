-- What it is to make a set in a batch. What the numbers mean, `table` has: five make a record, and one is a set.
use Rattle.std.specs.Prelude.{List, ◌++◌, ◌≡◌, ℕ, ◌+◌, ◌*◌, ◌≤◌, length}
pub use Rattle.paper.specs.declared.Record.{Record}
pub use Rattle.table.specs.Batch.{record_at}
unfoldable pub use Rattle.table.specs.Batch.{records_in}
pub use Rattle.table.specs.Sets.{Set, set_in, empty, unit, at}
pub use Rattle.building.specs.declared.batch.Made.{Made}
use Rattle.building.specs.Bounds.{numbered, record_numbers}

-- room for n more records behind the first k of the batch, with `used` in the table: in the batch, and in the numbers
abbrev pub RoomFor : ℕ → ℕ → ℕ → List ℕ → Type 0
RoomFor n used k batch = (record_numbers * (k + n) ≤ length batch) × (used + k + n ≤ numbered)

-- `make`, given any table of `used` records and then the first k of the batch, gives the table and the set that are found afterwards.
-- It makes at most `most` records, and its set is one at hand: empty, unit or a record of the table or of the batch
pub record Makes (make : List Record → List Record × Set) (most used k : ℕ) (batch : List ℕ) (made : Made) (batch' : List ℕ) : Type 0 where
  pub makes : (base : List Record) → length base ≡ used
      → make (base ++ records_in k batch) ≡ (base ++ records_in made.count batch', set_in made.set)
  pub more : k ≤ made.count
  pub few : made.count ≤ k + most
  pub at_hand : made.set ≤ used + made.count + 1
