-- 'Building', once for every kind of set: here records of a table; the laws add lists of rows.
-- First the operations on sets, then slots and splits, a leaf, a branch, the tree, the answer, and the work.
use Rattle.std.specs.Prelude.{Bool, true, false, cond, not, ◌&&◌, ◌||◌, List, [], ◌∷◌, ◌++◌, map, ℕ, ◌+◌, ◌*◌, ◌^◌, ◌-◌, eqb, length}
use Rattle.paper.specs.Lists.{each, up_to, through, has}
use Rattle.paper.specs.Tree.{Tree, leaf, branch, root, pad_label}
use Rattle.paper.specs.Query.{Rule, leaf_rule, branch_rule, Query}
use Rattle.paper.specs.Row.{no_place}
use Rattle.paper.specs.Records.{Record, Set, empty, unit, at, single_of, union_of, product_of}
use Rattle.paper.specs.Sound.{apart}

-- E is a set, S what is handed on from step to step. `single node flag` is unit if the flag has no place;
-- `product` and `union` are given the present node and the flag of the result, then the left and the right set
pub record Sets (S E : Type 0) : Type 0 where
  pub nothing : E
  pub is_nothing : E → Bool
  pub single : ℕ → ℕ → S → S × E
  pub product : ℕ → ℕ → E → E → S → S × E
  pub union : ℕ → ℕ → E → E → S → S × E

-- ---- records: what is handed on is the table so far
abbrev pub new_record : Record → List Record → List Record × Set
new_record r table = (table ++ (r ∷ []), at (length table))

abbrev pub single_record : ℕ → ℕ → List Record → List Record × Set
single_record n b table = cond (eqb b no_place) (table, unit) (new_record (single_of n b) table)

-- a product with unit is the other factor, and with empty it is empty
abbrev pub product_record : ℕ → ℕ → Set → Set → List Record → List Record × Set
product_record n b empty right table = (table, empty)
product_record n b unit right table = (table, right)
product_record n b (at i) empty table = (table, empty)
product_record n b (at i) unit table = (table, at i)
product_record n b (at i) (at j) table = new_record (product_of n b i j) table

-- a union with empty is the other set. Unit meets only empty here, which the laws show
abbrev pub union_record : ℕ → ℕ → Set → Set → List Record → List Record × Set
union_record n b empty right table = (table, right)
union_record n b unit right table = (table, unit)
union_record n b (at i) empty table = (table, at i)
union_record n b (at i) unit table = (table, at i)
union_record n b (at i) (at j) table = new_record (union_of n b i j) table

abbrev pub is_empty : Set → Bool
is_empty empty = true
is_empty unit = false
is_empty (at i) = false

abbrev pub record_sets : Sets (List Record) Set
record_sets =
    record { nothing = empty; is_nothing = is_empty; single = single_record; product = product_record; union = union_record }

-- ---- slots
-- a slot for every state and flag
abbrev pub Slots : Type 0 → Type 0
Slots E = ℕ → ℕ → E

-- the set e put in the slot (q, b)
abbrev pub put : {E : Type 0} → Slots E → ℕ → ℕ → E → Slots E
put slots q b e = λ q' b'. cond (eqb q q' && eqb b b') e (slots q' b')

-- ---- splits: one way for a branch to come to a slot, by a rule and the children's slots
pub record Split : Type 0 where
  pub state : ℕ
  pub own : ℕ
  pub left : ℕ
  pub left_flag : ℕ
  pub right : ℕ
  pub right_flag : ℕ

-- all three flags together. They share no bit, so this is their sum
abbrev pub together : Split → ℕ
together x = x.own + x.left_flag + x.right_flag

-- for each b₁ ascending and then b₂ ascending such that b₀, b₁, b₂ share no bit
abbrev pub flags_beside : ℕ → ℕ → List (ℕ × ℕ)
flags_beside arity b₀ =
    each (up_to (2 ^ arity)) (λ b₁.
    each (up_to (2 ^ arity)) (λ b₂.
    cond (apart b₀ b₁ && apart (b₀ + b₁) b₂) ((b₁, b₂) ∷ []) []))

abbrev pub splits_by : ℕ → ℕ → Rule → List Split
splits_by arity label (leaf_rule a b q) = []
splits_by arity label (branch_rule a b₀ p q t) =
    cond (eqb label a)
    (map (λ w. record { state = t; own = b₀; left = p; left_flag = w.0; right = q; right_flag = w.1 }) (flags_beside arity b₀))
    []

-- for each matching rule in file order
abbrev pub splits : ℕ → List Rule → ℕ → List Split
splits arity rules label = each rules (splits_by arity label)

-- request 2026-02: a leaf of this label can stand at the places of this flag. A pad can stand at none
abbrev pub can_stand : ℕ → ℕ → Bool
can_stand label b = not (eqb label pad_label) || eqb b no_place

module _ {S E : Type 0} (A : Sets S E) where
  open A use {nothing, is_nothing, single, product, union}

  -- ---- a leaf: for each matching rule in file order, the single in its slot. A rule of label 0 with a flag above 0 is never used
  abbrev pub leaf_step : ℕ → ℕ → S × Slots E → Rule → S × Slots E
  leaf_step label n (s, slots) (leaf_rule a b q) =
      cond (eqb label a && can_stand label b) (let (s₁, e) = single n b s in (s₁, put slots q b e)) (s, slots)
  leaf_step label n (s, slots) (branch_rule a b p q t) = (s, slots)

  abbrev pub leaf_slots : List Rule → ℕ → ℕ → S → S × Slots E
  leaf_slots rules label n s = through (leaf_step label n) (s, λ q b. nothing) rules

  -- ---- a branch
  -- (single of the own flag times left) times right
  abbrev pub triple : ℕ → Split → E → E → S → S × E
  triple n x left right s =
      let (s₁, own) = single n x.own s in
      let (s₂, inner) = product n (x.own + x.left_flag) own left s₁ in
      product n (together x) inner right s₂

  -- united, on the right, with the slot (q, b)
  abbrev pub unite : ℕ → ℕ → ℕ → Slots E → S × E → S × Slots E
  unite n q b slots (s, e) = let (s₁, new) = union n b (slots q b) e s in (s₁, put slots q b new)

  -- a split is skipped unless both children's slots are non-empty
  abbrev pub branch_step : ℕ → Slots E → Slots E → S × Slots E → Split → S × Slots E
  branch_step n lefts rights (s, slots) x =
      let left : E = lefts x.left x.left_flag in
      let right : E = rights x.right x.right_flag in
      cond (is_nothing left || is_nothing right) (s, slots)
      (unite n x.state (together x) slots (triple n x left right s))

  abbrev pub branch_slots : ℕ → List Rule → ℕ → ℕ → Slots E → Slots E → S → S × Slots E
  branch_slots arity rules label n lefts rights s =
      through (branch_step n lefts rights) (s, λ q b. nothing) (splits arity rules label)

  -- ---- the slots of a tree's root: nodes in order, what is handed on goes from each to the next
  abbrev pub slots_of : ℕ → List Rule → Tree → S → S × Slots E
  slots_of arity rules (leaf a n) s = leaf_slots rules a n s
  slots_of arity rules (branch a n l r) s =
      let (s₁, lefts) = slots_of arity rules l s in
      let (s₂, rights) = slots_of arity rules r s₁ in
      branch_slots arity rules a n lefts rights s₂

-- the flag with all places
abbrev pub all_places : ℕ → ℕ
all_places arity = 2 ^ arity - 1

module _ {S E : Type 0} (A : Sets S E) where
  open A use {nothing, union}

  -- at the end the root's slots (accepting state, all places), states ascending, each on the right of those before
  abbrev pub accept_step : Query → ℕ → Slots E → S × E → ℕ → S × E
  accept_step Q n slots (s, e) q =
      cond (has Q.accepting q) (union n (all_places Q.arity) e (slots q (all_places Q.arity)) s) (s, e)

  abbrev pub answer_of : Query → Tree → S → S × E
  answer_of Q t s =
      let (s₁, slots) = slots_of A Q.arity Q.rules t s in
      through (accept_step Q (root t) slots) (s₁, nothing) (up_to Q.states)

-- the records made, and the set
abbrev pub made : Query → Tree → List Record × Set
made Q t = answer_of record_sets Q t []

-- work for a build, of a tree with so many subtrees ever unjoined
abbrev pub build_work : ℕ → Query → ℕ
build_work most Q = (1 + most) * Q.states * 2 ^ Q.arity
