-- The query that the records after the tree's make: its head, rules and accepting states.
use Rattle.std.specs.Prelude.{Bool, cond, ◌||◌, List, [], ◌∷◌, ℕ, eqb}
use Rattle.std.proofs.Math.Option.{Option, none, some}
use Rattle.paper.specs.Lists.{same}
use Rattle.paper.specs.Stream.{StreamRecord, number}

pub data Rule : Type 0 where
  leaf_rule : (label flag state : ℕ) → Rule
  branch_rule : (label flag left right state : ℕ) → Rule

-- the kind and the left side of a rule
abbrev pub side : Rule → List ℕ
side (leaf_rule a b q) = 17 ∷ a ∷ b ∷ []
side (branch_rule a b p q t) = 18 ∷ a ∷ b ∷ p ∷ q ∷ []

-- the state that a rule names
abbrev pub names : Rule → ℕ
names (leaf_rule a b q) = q
names (branch_rule a b p q t) = t

pub record Query : Type 0 where
  pub arity : ℕ
  pub states : ℕ
  pub rules : List Rule
  pub accepting : List ℕ

abbrev pub is_rule_kind : ℕ → Bool
is_rule_kind k = eqb k 17 || eqb k 18

abbrev pub rule_of : StreamRecord → Rule
rule_of r =
    cond (eqb r.kind 17)
    (leaf_rule (number r 0) (number r 1) (number r 2))
    (branch_rule (number r 0) (number r 1) (number r 2) (number r 3) (number r 4))

-- the rules and the accepting states of the records, in their order
abbrev pub rules_of : List StreamRecord → List Rule
rules_of [] = []
rules_of (r ∷ rs) = cond (is_rule_kind r.kind) (rule_of r ∷ rules_of rs) (rules_of rs)

abbrev pub accepting_of : List StreamRecord → List ℕ
accepting_of [] = []
accepting_of (r ∷ rs) = cond (eqb r.kind 19) (number r 0 ∷ accepting_of rs) (accepting_of rs)

-- the head first, then rules and accepting states in any order. Without a head the input is refused
abbrev pub query_of : List StreamRecord → Query
query_of [] = record { arity = 0; states = 0; rules = []; accepting = [] }
query_of (h ∷ rs) = record { arity = number h 0; states = number h 1; rules = rules_of rs; accepting = accepting_of rs }

-- the state that the rule with this kind and left side names; none where the rule is missing
abbrev pub state_for : List Rule → List ℕ → Option ℕ
state_for [] s = none
state_for (r ∷ rs) s = cond (same (side r) s) (some (names r)) (state_for rs s)
