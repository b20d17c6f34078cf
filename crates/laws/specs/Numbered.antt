-- Words of the proofs about trees and queries that are read.
use Rattle.std.specs.Prelude.{map, ℕ, suc, ◌^◌, ◌<◌}
use Rattle.paper.specs.Lists.{◌∈◌, Once}
use Rattle.paper.specs.Tree.{Tree, leaf, branch}
use Rattle.paper.specs.Query.{Rule, leaf_rule, branch_rule, side, Query}

-- the nodes of the tree are numbered from lo up to, not including, hi, children before their parent and left before right
pub data Numbered : ℕ → Tree → ℕ → Type 0 where
  leaf_numbered : {a n : ℕ} → Numbered n (leaf a n) (suc n)
  branch_numbered : {a n lo m : ℕ} {l r : Tree} → Numbered lo l m → Numbered m r n → Numbered lo (branch a n l r) (suc n)

-- the flag of a rule
abbrev pub rule_flag : Rule → ℕ
rule_flag (leaf_rule a b q) = b
rule_flag (branch_rule a b p q t) = b

-- no two rules have the same kind and left side
abbrev pub Deterministic : Query → Type 0
Deterministic Q = Once (map side Q.rules)

-- the query's flags and accepting states are in range
pub record InRange (Q : Query) : Type 0 where
  pub flags : (r : Rule) → r ∈ Q.rules → rule_flag r < 2 ^ Q.arity
  pub accepts : (q : ℕ) → q ∈ Q.accepting → q < Q.states
