-- 'What a row is': marking, runs and the accepted rows.
use Rattle.std.specs.Prelude.{◌≡◌, Bool, cond, List, [], ◌∷◌, map, ℕ, zero, suc, ◌+◌, ◌*◌, ◌/◌, ◌%◌, ◌<◌, eqb, length}
use Rattle.std.proofs.Math.Option.{Option, none, some}
use Rattle.paper.specs.Lists.{◌∈◌, each}
use Rattle.paper.specs.Tree.{Tree, leaf, branch, size, pads}
use Rattle.paper.specs.Query.{Rule, Query, state_for}

-- one number for each place: a node, or the mark for a blank place
abbrev pub Row : Type 0
Row = List ℕ

-- Place::BLANK
abbrev pub blank : ℕ
blank = 65535

-- Flag::NONE
abbrev pub no_place : ℕ
no_place = 0

-- the flag with the places whose entry passes the test; place 1 is its lowest bit
abbrev pub flag_of : (ℕ → Bool) → Row → ℕ
flag_of p [] = no_place
flag_of p (x ∷ xs) = cond (p x) 1 0 + 2 * flag_of p xs

-- marking the tree with a row gives node n the flag of the places where it stands
abbrev pub mark : Row → ℕ → ℕ
mark row n = flag_of (λ x. eqb x n) row

-- a branch's state, from its children's: a missing rule ends the run
abbrev pub step_to : List Rule → ℕ → ℕ → Option ℕ → Option ℕ → Option ℕ
step_to rules a b none q = none
step_to rules a b (some p) none = none
step_to rules a b (some p) (some q) = state_for rules (18 ∷ a ∷ b ∷ p ∷ q ∷ [])

-- the state that a run on the tree marked with the row gives the root, by the rule for label, flag and children's states
abbrev pub run : List Rule → Row → Tree → Option ℕ
run rules row (leaf a n) = state_for rules (17 ∷ a ∷ mark row n ∷ [])
run rules row (branch a n l r) = step_to rules a (mark row n) (run rules row l) (run rules row r)

-- the row is in the answer: it gives a node for each place, it names no pad, whatever the rules say, and the root's state is accepting
pub record Accepted (t : Tree) (Q : Query) (row : Row) : Type 0 where
  pub places : length row ≡ Q.arity
  pub nodes : (x : ℕ) → x ∈ row → x < size t
  pub no_pads : (x : ℕ) → x ∈ row → x ∈ pads t → ⊥
  pub state : ℕ
  pub runs : run Q.rules row t ≡ some state
  pub accepts : state ∈ Q.accepting

-- the row with node n at the places of flag b, blank at the others
abbrev pub single_row : ℕ → ℕ → ℕ → Row
single_row zero n b = []
single_row (suc arity) n b = cond (eqb (b % 2) 1) n blank ∷ single_row arity n (b / 2)

-- two rows in one: where the left one is blank, the right one's entry
abbrev pub merge : Row → Row → Row
merge [] ys = []
merge (x ∷ xs) [] = x ∷ xs
merge (x ∷ xs) (y ∷ ys) = cond (eqb x blank) y x ∷ merge xs ys

-- for each left row in order, every right row in order
abbrev pub products : List Row → List Row → List Row
products xs ys = each xs (λ x. map (merge x) ys)
