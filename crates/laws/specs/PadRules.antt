-- Request 2026-02's words for a query: the rules that are never used, and the query without them.
use Rattle.std.specs.Prelude.{Bool, false, cond, ◌&&◌, List, [], ◌∷◌, eqb, ltb}
use Rattle.paper.specs.Query.{Rule, leaf_rule, branch_rule, Query}
use Rattle.paper.specs.Row.{no_place}
use Rattle.paper.specs.Tree.{pad_label}

-- the rule would mark a pad: a leaf rule for label 0 with a flag above 0
abbrev pub marks_pad : Rule → Bool
marks_pad (leaf_rule a b q) = eqb a pad_label && ltb no_place b
marks_pad (branch_rule a b p q t) = false

abbrev pub used_rules : List Rule → List Rule
used_rules [] = []
used_rules (r ∷ rs) = cond (marks_pad r) (used_rules rs) (r ∷ used_rules rs)

abbrev pub with_used_rules : Query → Query
with_used_rules Q = record { arity = Q.arity; states = Q.states; rules = used_rules Q.rules; accepting = Q.accepting }
