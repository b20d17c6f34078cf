-- The slots of the unjoined subtrees as numbers in the lent work: one frame for each, with a shelf for each state.
-- First a frame, then the frames of a stack of slots.
use Rattle.std.specs.Prelude.{◌≡◌, List, [], ◌∷◌, ℕ, ◌+◌, ◌*◌, ◌^◌, ◌<◌, length}
use Rattle.paper.specs.Building.{Slots}
use Rattle.building.specs.Batch.{Set}
use Rattle.building.specs.Slots.{Marked, shelf_at}

-- the numbers of a frame
abbrev pub width : ℕ → ℕ → ℕ
width arity states = states * 2 ^ arity

module _ (arity states : ℕ) where
  -- the frame at base has these slots, as far as there are states and flags, and its shelves are marked
  pub record FrameIs (work : List ℕ) (base : ℕ) (slots : Slots Set) : Type 0 where
    pub sets : (q b : ℕ) → q < states → b < 2 ^ arity → slots q b ≡ shelf_at work (base + q * 2 ^ arity) b
    pub marked : (q : ℕ) → q < states → Marked (2 ^ arity) work (base + q * 2 ^ arity)

  -- the frames of a stack of slots: the last one stands first in the list, and the oldest one's frame is at 0
  abbrev pub FramesAre : List ℕ → List (Slots Set) → Type 0
  FramesAre work [] = Unit {0}
  FramesAre work (slots ∷ others) = FrameIs work (length others * width arity states) slots × FramesAre work others
