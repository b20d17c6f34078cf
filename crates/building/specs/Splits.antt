-- The table of triples and what a build notes of it. First a triple as a number, all of them in the paper's order, and where those of a
-- left flag begin; then, for each flag that own flag and left flag make together, the flags that may stand beside it as a mask, and the
-- others as another. Last the marked flags that may stand beside one.
use Rattle.std.specs.Prelude.{cond, List, map, ◌⊎◌, ◌≡◌, ℕ, ◌+◌, ◌*◌, ◌≤◌, ◌<◌, ◌^◌, get_or, length}
use Rattle.std.specs.Int.Bits.{bit_and}
use Rattle.paper.specs.Building.{flags_beside}
use Rattle.paper.specs.Lists.{each, up_to}
use Rattle.paper.specs.Row.{no_place}
use Rattle.paper.specs.Sound.{apart}
use Rattle.building.specs.Bounds.{most_flags, most_places}
use Rattle.building.specs.Rules.{flags_at}
use Rattle.building.specs.Slots.{mark_at}

-- ---- the table
-- a triple as one number: first, second and third are its digits to the base of 16
abbrev pub packed : ℕ → ℕ × ℕ → ℕ
packed first w = most_flags * (most_flags * first + w.0) + w.1

-- those of an own flag, with the flags that the paper puts beside it
abbrev pub triples_of : ℕ → List ℕ
triples_of first = map (packed first) (flags_beside most_places first)

-- each own flag ascending
abbrev pub all_triples : List ℕ
all_triples = each (up_to most_flags) triples_of

-- how many there are: each place is in the first flag, in the second, in the third or in none
abbrev pub triple_count : ℕ
triple_count = 4 ^ most_places

-- where those of a left flag begin, among the triples with no own flag, which come first: behind those of the left flags below it
abbrev pub left_at : ℕ → ℕ
left_at left = length (each (up_to left) (flags_at no_place most_flags))

-- ---- the notes: for each flag the mask of those that share no bit with it, and behind these masks those of the flags that share one
abbrev pub note_numbers : ℕ
note_numbers = 2 * most_flags

abbrev pub free_at : List ℕ → ℕ → ℕ
free_at notes flag = get_or notes flag 0

abbrev pub shared_at : List ℕ → ℕ → ℕ
shared_at notes flag = get_or notes (most_flags + flag) 0

-- the two masks of one flag are right for the flags below size, and the first has no flag above them
pub record Masked (size flag free shared : ℕ) : Type 0 where
  pub beside : (b : ℕ) → b < size → mark_at free b ≡ cond (apart flag b) 1 0
  pub sharing : (b : ℕ) → b < size → mark_at shared b ≡ cond (apart flag b) 0 1
  pub few : free < 2 ^ size

-- those of all flags below size are
pub record Noted (size : ℕ) (notes : List ℕ) : Type 0 where
  pub room : note_numbers ≤ length notes
  pub masks : (flag : ℕ) → flag < size → Masked size flag (free_at notes flag) (shared_at notes flag)

-- ---- the marks of so many flags: of those that are marked, the ones that share no bit with `flag`
pub record Free (size flag marked marks : ℕ) : Type 0 where
  pub few : marks < 2 ^ size
  pub takes : (b : ℕ) → b < size → mark_at marks b ≡ 1 → (mark_at marked b ≡ 1) × (bit_and flag b ≡ 0)
  pub skips : (b : ℕ) → b < size → mark_at marks b ≡ 0 → (mark_at marked b ≡ 0) ⊎ (bit_and flag b ≡ 0 → ⊥)
