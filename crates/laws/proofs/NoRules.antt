-- Queries that give the empty set: with no rules, where no record is made, and with no accepting state, where some may be.
-- First steps that change nothing, then the slots without rules, then the two queries.
use mathlib.Core.Path.{◌≡◌, refl, ap}
use mathlib.Core.Bool.{Bool, true, false, cond}
use mathlib.Core.List.{List, [], ◌∷◌}
use Prim.Native.Nat.{ℕ}
use Rattle.paper.specs.Lists.{up_to, has, through}
use Rattle.paper.specs.Tree.{Tree, leaf, branch, root}
use Rattle.paper.specs.Query.{Query}
use Rattle.paper.specs.Building.{record_sets, slots_of, accept_step, made}
use Rattle.laws.specs.Plain.{Record, Set, empty}

-- ---- steps that change nothing
through_still : {A B : Type 0} (f : B → A → B) (b : B) (xs : List A) → ((x : A) → f b x ≡ b) → through f b xs ≡ b
through_still f b [] still = refl
through_still f b (x ∷ xs) still = rw (still x) (through_still f b xs still)

cond_same : {A : Type 0} (c : Bool) (a : A) → cond c a a ≡ a
cond_same true a = refl
cond_same false a = refl

-- ---- the two queries
-- with no rules every slot of every node is empty
pub slots_empty : (arity : ℕ) (t : Tree) (table : List Record) → slots_of record_sets arity [] t table ≡ (table, λ q b. empty)
slots_empty arity (leaf a n) table = refl
slots_empty arity (branch a n l r) table = rw (slots_empty arity l table, slots_empty arity r table)

-- no rules give the empty set, and no record
pub no_rules : (Q : Query) (t : Tree) → Q.rules ≡ [] → made Q t ≡ ([], empty)
no_rules Q t e =
    rw (e, slots_empty Q.arity t [])
    (through_still (accept_step record_sets Q (root t) (λ q b. empty)) ([], empty) (up_to Q.states)
    (λ q. cond_same (has Q.accepting q) ([], empty)))

-- no accepting state gives the empty set
pub none_accepting : (Q : Query) (t : Tree) → Q.accepting ≡ [] → (made Q t).1 ≡ empty
none_accepting Q t e =
    let s = slots_of record_sets Q.arity Q.rules t [] in
    ap {B = Set} (λ z. z.1) (through_still (accept_step record_sets Q (root t) s.1) (s.0, empty) (up_to Q.states) (λ q. rw e))
