-- The slots of lists of rows are right, for every numbered tree: leaf by leaf and branch by branch.
use mathlib.Core.List.{List, map}
use Prim.Native.Nat.{◌<◌, ◌^◌, ◌≤◌, ℕ}
use native.Mathlib.Omega.{arith}
use Rattle.paper.specs.Lists.{Once, ◌∈◌}
use Rattle.paper.specs.Query.{Rule, side}
use Rattle.paper.specs.Row.{blank}
use Rattle.paper.specs.Tree.{Tree}
use Rattle.laws.specs.Numbered.{Numbered, branch_numbered, leaf_numbered, rule_flag}
use Rattle.laws.proofs.BranchSlots.{branch_right}
use Rattle.laws.proofs.Held.{Right}
use Rattle.laws.proofs.LeafSlots.{leaf_right}
use Rattle.laws.proofs.Runs.{numbered_below}

module _ (k : ℕ) (rules : List Rule) (deterministic : Once (map side rules)) (small : (r : Rule) → r ∈ rules → rule_flag r < 2 ^ k) where
  -- where no two rules have the same side and every rule's flag is in range
  pub right : {lo : ℕ} {t : Tree} {hi : ℕ} → Numbered lo t hi → hi ≤ blank → Right k rules lo t hi
  right (leaf_numbered {a} {n}) below = leaf_right k rules deterministic small a n below
  right (branch_numbered {a} {n} {lo} {m} {l} {r} nl nr) below =
      branch_right k rules deterministic small a n lo m l r nl nr below (right nl (omega (arith, numbered_below nr))) (right nr (omega arith))
