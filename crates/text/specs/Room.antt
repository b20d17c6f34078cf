-- What the code keeps of the tokens, and the room that there always is for the labels and the image.
use Rattle.std.specs.Prelude.{Bool, cond, ℕ, ◌+◌, ◌*◌, ◌≤◌, length}
use Rattle.text.specs.Bounds.{most_written}
use Rattle.text.specs.Pass.{Kept}
use Rattle.text.specs.declared.tokens.Kept.TheInside.{Inside}

abbrev pub kept_in : Inside → Kept
kept_in k = record { may = k.may_open; depth = k.depth; nodes = k.nodes; waiting = k.waiting; image = k.image }

abbrev pub one : Bool → ℕ
one b = cond b 1 0

-- Every written node has waited, or waits, for its branch; and each has its pad, or a number just before it or open brackets of its
-- own in which the pad is still to come. So the image has at most four bytes a node
pub record Room (k : Kept) : Type 0 where
  pub few : k.nodes ≤ most_written
  pub waited : length k.waiting ≤ k.nodes
  pub room : length k.image + 2 * one k.may + 2 * k.depth + 2 * length k.waiting ≤ 4 * k.nodes
