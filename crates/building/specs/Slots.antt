-- What a number of the work holds: the set of a slot, in its low 16 bits, and above them, in the number of a shelf's first slot, the shelf's
-- marks. Then when the marks are right, and what it is to put a set into a slot.
use Rattle.std.specs.Prelude.{List, ◌≡◌, ℕ, ◌+◌, ◌<◌, ◌^◌, ◌/◌, ◌%◌, get_or}
use Rattle.std.specs.Int.Bits.{bit_or}
use Rattle.building.specs.Batch.{Set, set_in}
use Rattle.building.specs.Bounds.{slot_sets}

-- the set of a slot, as a number
abbrev pub slot_at : List ℕ → ℕ → ℕ
slot_at work i = get_or work i 0 % slot_sets

-- the slots of one state: work from `from` on, a slot for each flag
abbrev pub shelf_at : List ℕ → ℕ → ℕ → Set
shelf_at work from b = set_in (slot_at work (from + b))

-- the marks of the shelf that starts there, and whether a flag is marked: 1 or 0
abbrev pub marks_at : List ℕ → ℕ → ℕ
marks_at work from = get_or work from 0 / slot_sets

abbrev pub mark_at : ℕ → ℕ → ℕ
mark_at marks b = marks / 2 ^ b % 2

-- a shelf of so many flags has no other marks, and where there is no mark the slot is empty
pub record Marked (size : ℕ) (work : List ℕ) (from : ℕ) : Type 0 where
  pub few : marks_at work from < 2 ^ size
  pub empty : (b : ℕ) → b < size → mark_at (marks_at work from) b ≡ 0 → slot_at work (from + b) ≡ 0

-- the set is put into the slot of a flag of the shelf, and the flag is marked
pub record Puts (shelf flag set : ℕ) (work work' : List ℕ) : Type 0 where
  pub there : slot_at work' (shelf + flag) ≡ set
  pub others : (i : ℕ) → (i ≡ shelf + flag → ⊥) → slot_at work' i ≡ slot_at work i
  pub apart : (i : ℕ) → (i ≡ shelf → ⊥) → (i ≡ shelf + flag → ⊥) → get_or work' i 0 ≡ get_or work i 0
  pub marks : marks_at work' shelf ≡ bit_or (marks_at work shelf) (2 ^ flag)
