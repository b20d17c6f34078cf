-- The building by the tree records in order, with a stack of the slots of the unjoined subtrees, the last one first.
-- First what one record does to the stack, then a list of records, then the slots of a stack of trees, which it is held against.
use Rattle.std.specs.Prelude.{cond, List, [], ◌∷◌, ℕ, suc, eqb}
use Rattle.paper.specs.Stream.{StreamRecord, number}
use Rattle.paper.specs.Tree.{Tree}
use Rattle.paper.specs.Query.{Query}
use Rattle.paper.specs.Building.{Slots, record_sets, leaf_slots, branch_slots, slots_of}
use Rattle.laws.specs.Plain.{Record, Set}
use Rattle.building.specs.Kinds.{leaf_kind}

-- the records made so far, and the slots of the unjoined subtrees
abbrev pub Stack : Type 0
Stack = List Record × List (Slots Set)

-- a leaf's slots come on top
abbrev pub push_slots : Query → ℕ → ℕ → List (Slots Set) → List Record → Stack
push_slots Q label n stack s =
    let (s₁, slots) = leaf_slots record_sets Q.rules label n s in
    (s₁, slots ∷ stack)

-- a branch's slots take the place of the last two, the older one left
abbrev pub join_slots : Query → ℕ → ℕ → List (Slots Set) → List Record → Stack
join_slots Q label n [] s = (s, [])
join_slots Q label n (last ∷ []) s = (s, last ∷ [])
join_slots Q label n (last ∷ older ∷ others) s =
    let (s₁, slots) = branch_slots record_sets Q.arity Q.rules label n older last s in
    (s₁, slots ∷ others)

-- one record, whose node is n
abbrev pub node_slots : Query → StreamRecord → ℕ → List (Slots Set) → List Record → Stack
node_slots Q r n stack s = cond (eqb r.kind leaf_kind) (push_slots Q (number r 0) n stack s) (join_slots Q (number r 0) n stack s)

-- records one after the other, the first of them node n
abbrev pub from_node : Query → List StreamRecord → ℕ → List (Slots Set) → List Record → Stack
from_node Q [] n stack s = (s, stack)
from_node Q (r ∷ rs) n stack s =
    let (s₁, stack₁) = node_slots Q r n stack s in
    from_node Q rs (suc n) stack₁ s₁

-- the slots of a stack of trees, the oldest built first
abbrev pub stack_slots : Query → List Tree → List Record → Stack
stack_slots Q [] s = (s, [])
stack_slots Q (t ∷ ts) s =
    let (s₁, stack) = stack_slots Q ts s in
    let (s₂, slots) = slots_of record_sets Q.arity Q.rules t s₁ in
    (s₂, slots ∷ stack)
