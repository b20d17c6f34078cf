-- A branch's rule at a state and a position: where its shelves start in the work, and what its numbers are to be.
use Rattle.std.specs.Prelude.{List, ℕ, ◌+◌, ◌*◌, ◌-◌, ◌^◌, ◌≤◌, ◌<◌, length, get_or}
use Rattle.building.specs.Bounds.{most_flags, most_frames, most_states}
use Rattle.building.specs.Frames.{width}
use Rattle.building.specs.Rules.{Branch}
use Rattle.building.specs.States.{State}

-- where the shelf of a state starts in a frame
abbrev pub shelf_from : State → ℕ → ℕ → ℕ
shelf_from t frame q = frame * width t.shape.arity t.shape.states + q * 2 ^ t.shape.arity

-- the rule, with its shelves: of the left state in the older child's frame, of the right one in the last child's, of its own in the node's
abbrev pub branch_of : List ℕ → State → ℕ → Branch
branch_of input t rule = record {
  used = t.from;
  node = t.node;
  size = 2 ^ t.shape.arity;
  own = get_or input (rule + 2) 0;
  left = shelf_from t (t.top - 2) (get_or input (rule + 3) 0);
  right = shelf_from t (t.top - 1) (get_or input (rule + 4) 0);
  to = shelf_from t t.top (get_or input (rule + 5) 0);
}

-- the rule is there, there are two frames below the node's, and all numbers are in range
pub record BranchReady (input : List ℕ) (t : State) (rule : ℕ) : Type 0 where
  pub inside : rule + 6 ≤ length input
  pub frames : t.top ≤ most_frames
  pub below : 2 ≤ t.top
  pub flag : get_or input (rule + 2) 0 < most_flags
  pub left : get_or input (rule + 3) 0 < most_states
  pub right : get_or input (rule + 4) 0 < most_states
  pub state : get_or input (rule + 5) 0 < most_states
