-- How many records a build makes at most: 4 for each split, and one union less than accepting states at the end.
-- First the flags beside an own flag, by a test that antt computes, then the records of one step, of a node, of the tree, and the end.
use mathlib.Core.Bool.{Bool, ◌&&◌, ◌||◌, cond, false, true}
use mathlib.Core.List.Memᴰ
use mathlib.Core.List.{List, [], ◌∷◌, map}
use mathlib.Core.Logic.{⊎_elim}
use mathlib.Core.Path.{◌∙◌, ◌≡◌, ap, refl}
use Prim.Native.Nat.{◌*◌, ◌+◌, ◌-◌, ◌<◌, ◌^◌, ◌≤◌, suc, zero, ℕ}
use native.Mathlib.Nat.{mul_assoc, mul-le-mul_left, mul-le-mul_right, pow-le-pow_right, suc-mul}
use native.Mathlib.Omega.{arith}
use borrow.Author.Tests.{leb-true}
use lib.Dec.{eqb, leb}
use lib.ListN.{length, length-append, length-map}
use Rattle.paper.specs.Building.{Slots, Split, accept_step, all_places, answer_of, branch_step, can_stand, flags_beside, is_empty, leaf_step, new_record, put}
use Rattle.paper.specs.Building.{product_record, record_sets, single_record, slots_of, splits, splits_by, together, triple, union_record, unite}
use Rattle.paper.specs.Lists.{Once, ◌∈◌, each, every, has, through, up_to}
use Rattle.paper.specs.Query.{Query, Rule, branch_rule, leaf_rule}
use Rattle.paper.specs.Records.{product_of, single_of, union_of}
use Rattle.paper.specs.Tree.{Tree, root}
use Rattle.laws.specs.Numbered.{InRange, Numbered, branch_numbered, leaf_numbered, rule_flag}
use Rattle.laws.specs.Plain.{Record, Set, at, empty, unit}
use Rattle.laws.proofs.Counting.{few_in_numbers}
use Rattle.laws.proofs.Lists.{both_true, has_true, here, in_up_to, once_count_from}
use Rattle.laws.proofs.Splits.{with_flags}

-- ---- the flags beside an own flag
every_passes : (f : ℕ → Bool) (xs : List ℕ) → every (map f xs) ≡ true → (x : ℕ) → x ∈ xs → f x ≡ true
every_passes f [] e x m = absurd (Memᴰ.not-nil m)
every_passes f (y ∷ ys) e x m =
    let (first, others) = both_true (f y) (every (map f ys)) e in
    ⊎_elim (λ w. ap f w ∙ first) (every_passes f ys others x) (Memᴰ.cases_cons m)

-- they are at most 3 to the power of the arity, which is tested for every own flag
abbrev few_beside : ℕ → ℕ → Bool
few_beside k b = leb (length (flags_beside k b)) (3 ^ k)

few_tested : (k : ℕ) → every (map (few_beside k) (up_to (2 ^ k))) ≡ true → (b : ℕ) → b < 2 ^ k → length (flags_beside k b) ≤ 3 ^ k
few_tested k e b h = leb-true (length (flags_beside k b)) (3 ^ k) (every_passes (few_beside k) (up_to (2 ^ k)) e b (in_up_to (2 ^ k) h))

pub few_beside_lem : (k : ℕ) → k ≤ 4 → (b : ℕ) → b < 2 ^ k → length (flags_beside k b) ≤ 3 ^ k
few_beside_lem zero h = few_tested 0 refl
few_beside_lem (suc zero) h = few_tested 1 refl
few_beside_lem (suc (suc zero)) h = few_tested 2 refl
few_beside_lem (suc (suc (suc zero))) h = few_tested 3 refl
few_beside_lem (suc (suc (suc (suc zero)))) h = few_tested 4 refl
few_beside_lem (suc (suc (suc (suc (suc k))))) h = absurd (omega arith)

-- so many splits a rule has at most
few_splits : (k a : ℕ) → k ≤ 4 → (r : Rule) → rule_flag r < 2 ^ k → length (splits_by k a r) ≤ 3 ^ k
few_splits k a few (leaf_rule a' b q) small = omega arith
few_splits k a few (branch_rule a' b p q t) small = go (eqb a a')
  where
    go : (c : Bool) → length (cond c (map (with_flags t b p q) (flags_beside k b)) []) ≤ 3 ^ k
    go true = rw (length-map (flags_beside k b) (with_flags t b p q)) (few_beside_lem k few b small)
    go false = omega arith

-- lists that are each at most c long, one after the other
length_each_le : {A B : Type 0} (c : ℕ) (xs : List A) (f : A → List B) → ((x : A) → x ∈ xs → length (f x) ≤ c) → length (each xs f) ≤ length xs * c
length_each_le c [] f h = omega arith
length_each_le c (x ∷ xs) f h =
    omega (arith, length-append (f x) (each xs f), h x here, length_each_le c xs f (λ z m. h z (Memᴰ.tail m)), suc-mul (length xs) c)

-- ---- the records of one step
-- a single makes at most one
pub one_single : (n b : ℕ) (s : List Record) → length (single_record n b s).0 ≤ length s + 1
one_single n b s = go (eqb b 0)
  where
    go : (c : Bool) → length (cond c (s, unit) (new_record (single_of n b) s)).0 ≤ length s + 1
    go true = omega arith
    go false = omega (arith, length-append s (single_of n b ∷ []))

-- a product too
pub one_product : (n b : ℕ) (x y : Set) (s : List Record) → length (product_record n b x y s).0 ≤ length s + 1
one_product n b empty y s = omega arith
one_product n b unit y s = omega arith
one_product n b (at i) empty s = omega arith
one_product n b (at i) unit s = omega arith
one_product n b (at i) (at j) s = omega (arith, length-append s (product_of n b i j ∷ []))

-- and a union
pub one_union : (n b : ℕ) (x y : Set) (s : List Record) → length (union_record n b x y s).0 ≤ length s + 1
one_union n b empty y s = omega arith
one_union n b unit y s = omega arith
one_union n b (at i) empty s = omega arith
one_union n b (at i) unit s = omega arith
one_union n b (at i) (at j) s = omega (arith, length-append s (union_of n b i j ∷ []))

-- so a leaf's rule makes at most one, and a branch's split at most four: its triple three, and the union
leaf_step_lem : (a n : ℕ) (z : List Record × Slots Set) (r : Rule) → length (leaf_step record_sets a n z r).0 ≤ length z.0 + 1
leaf_step_lem a n z (branch_rule a' b p q t) = omega arith
leaf_step_lem a n z (leaf_rule a' b q) = go (eqb a a' && can_stand a b)
  where
    single : List Record × Set
    single = single_record n b z.0

    go : (c : Bool) → length (cond {A = List Record × Slots Set} c (single.0, put z.1 q b single.1) z).0 ≤ length z.0 + 1
    go true = one_single n b z.0
    go false = omega arith

triple_step : (n : ℕ) (x : Split) (l r : Set) (s : List Record) → length (triple record_sets n x l r s).0 ≤ length s + 3
triple_step n x l r s =
    let b = x.own + x.left_flag in
    let (s₁, own) = single_record n x.own s in
    let (s₂, inner) = product_record n b own l s₁ in
    omega (arith, one_single n x.own s, one_product n b own l s₁, one_product n (together x) inner r s₂)

branch_step_lem : (n : ℕ) (f g : Slots Set) (z : List Record × Slots Set) (x : Split) → length (branch_step record_sets n f g z x).0 ≤ length z.0 + 4
branch_step_lem n f g z x = go (is_empty left || is_empty right)
  where
    left : Set
    left = f x.left x.left_flag

    right : Set
    right = g x.right x.right_flag

    made : List Record × Set
    made = triple record_sets n x left right z.0

    go : (c : Bool)
        → length (cond {A = List Record × Slots Set} c z (unite record_sets n x.state (together x) z.1 made)).0 ≤ length z.0 + 4
    go true = omega arith
    go false =
        omega (arith, triple_step n x left right z.0, one_union n (together x) (z.1 x.state (together x)) made.1 made.0)

-- ---- the records of a node and of the tree
-- steps that each make at most c
through_le : {X Y : Type 0} (c : ℕ) (f : List Record × X → Y → List Record × X)
    → ((z : List Record × X) (y : Y) → length (f z y).0 ≤ length z.0 + c)
    → (ys : List Y) (z : List Record × X) → length (through f z ys).0 ≤ length z.0 + length ys * c
through_le c f h [] z = omega arith
through_le c f h (y ∷ ys) z = omega (arith, h z y, through_le c f h ys (f z y), suc-mul (length ys) c)

module _ (k : ℕ) (few : k ≤ 4) (rules : List Rule) (small : (r : Rule) → r ∈ rules → rule_flag r < 2 ^ k) where
  -- at one node at most
  abbrev per_node : ℕ
  per_node = 4 * 3 ^ k * length rules

  at_leaf : length rules * 1 ≤ per_node
  at_leaf =
      let some : 1 ≤ 3 ^ k = pow-le-pow_right (omega arith) {i = 0} (omega arith) in
      let four : 1 ≤ 4 * 3 ^ k = omega arith in
      omega (arith, mul-le-mul_right (length rules) four)

  at_branch : (a : ℕ) → length (splits k rules a) * 4 ≤ per_node
  at_branch a =
      let each-rule = length_each_le (3 ^ k) rules (splits_by k a) (λ r m. few_splits k a few r (small r m)) in
      omega (arith, mul-le-mul_left 4 each-rule, mul_assoc 4 (3 ^ k) (length rules))

  in_tree : {lo : ℕ} {t : Tree} {hi : ℕ} → Numbered lo t hi → (s : List Record)
      → length (slots_of record_sets k rules t s).0 + per_node * lo ≤ length s + per_node * hi
  in_tree (leaf_numbered {a} {n}) s =
      omega (arith, through_le 1 (leaf_step record_sets a n) (leaf_step_lem a n) rules (s, λ q b. empty), at_leaf)
  in_tree (branch_numbered {a} {n} {lo} {m} {l} {r} nl nr) s =
      let (s₁, lefts) = slots_of record_sets k rules l s in
      let (s₂, rights) = slots_of record_sets k rules r s₁ in
      omega (
        arith,
        in_tree nl s,
        in_tree nr s₁,
        at_branch a,
        through_le 4 (branch_step record_sets n lefts rights) (branch_step_lem n lefts rights) (splits k rules a) (s₂, λ q b. empty),
      )

-- ---- the unions at the end: one less than the states of the list that accept
abbrev accepting_in : List ℕ → List ℕ → List ℕ
accepting_in accepting [] = []
accepting_in accepting (q ∷ qs) = cond (has accepting q) (q ∷ accepting_in accepting qs) (accepting_in accepting qs)

module _ (accepting : List ℕ) where
  mem_accepting : (qs : List ℕ) (x : ℕ) → x ∈ accepting_in accepting qs → (x ∈ qs) × (x ∈ accepting)
  mem_accepting [] x m = absurd (Memᴰ.not-nil m)
  mem_accepting (q ∷ qs) x m = go (has accepting q) refl m (mem_accepting qs x)
    where
      others : List ℕ
      others = accepting_in accepting qs

      further : (x ∈ qs) × (x ∈ accepting) → (x ∈ q ∷ qs) × (x ∈ accepting)
      further (mx, accepts) = (Memᴰ.tail mx, accepts)

      go : (c : Bool) → has accepting q ≡ c → x ∈ cond c (q ∷ others) others → (x ∈ others → (x ∈ qs) × (x ∈ accepting))
          → (x ∈ q ∷ qs) × (x ∈ accepting)
      go true e w ih =
          ⊎_elim (λ z. (Memᴰ.head z, Memᴰ.cast z (has_true accepting q e))) (λ z. further (ih z)) (Memᴰ.cases_cons w)
      go false e w ih = further (ih w)

  once_accepting : (qs : List ℕ) → Once qs → Once (accepting_in accepting qs)
  once_accepting [] o = tt
  once_accepting (q ∷ qs) o = go (has accepting q) (once_accepting qs o.1)
    where
      others : List ℕ
      others = accepting_in accepting qs

      go : (c : Bool) → Once others → Once (cond c (q ∷ others) others)
      go true ih = (λ m. o.0 (mem_accepting qs q m).0, ih)
      go false ih = ih

module _ (Q : Query) (n : ℕ) (f : Slots Set) where
  -- the records left by the unions for these states
  abbrev unions : List Record × Set → List ℕ → ℕ
  unions z qs = length (through (accept_step record_sets Q n f) z qs).0

  abbrev count : List ℕ → ℕ
  count qs = length (accepting_in Q.accepting qs)

  abbrev united : List Record × Set → ℕ → List Record × Set
  united z q = union_record n (all_places Q.arity) z.1 (f q (all_places Q.arity)) z.0

  each_union : (qs : List ℕ) (z : List Record × Set) → unions z qs ≤ length z.0 + count qs
  each_union [] z = omega arith
  each_union (q ∷ qs) z = go (has Q.accepting q) (each_union qs)
    where
      others : List ℕ
      others = accepting_in Q.accepting qs

      go : (c : Bool) → ((y : List Record × Set) → unions y qs ≤ length y.0 + length others)
          → unions (cond {A = List Record × Set} c (united z q) z) qs ≤ length z.0 + length (cond c (q ∷ others) others)
      go true ih = omega (arith, ih (united z q), one_union n (all_places Q.arity) z.1 (f q (all_places Q.arity)) z.0)
      go false ih = ih z

  -- the first union is with empty, and makes none
  end_unions : (qs : List ℕ) (s : List Record) → unions (s, empty) qs ≤ length s + (count qs - 1)
  end_unions [] s = omega arith
  end_unions (q ∷ qs) s = go (has Q.accepting q) (end_unions qs s)
    where
      others : List ℕ
      others = accepting_in Q.accepting qs

      go : (c : Bool) → unions (s, empty) qs ≤ length s + (length others - 1)
          → unions (cond {A = List Record × Set} c (united (s, empty) q) (s, empty)) qs ≤ length s + (length (cond c (q ∷ others) others) - 1)
      go true ih = omega (arith, each_union qs (united (s, empty) q))
      go false ih = ih

-- the records made are at most 4 times 3 to the arity times rules times nodes, plus one less than the accepting states
pub records_bound : (Q : Query) → InRange Q → Q.arity ≤ 4 → (t : Tree) (nodes : ℕ) → Numbered 0 t nodes
    → length (answer_of record_sets Q t []).0 ≤ 4 * 3 ^ Q.arity * length Q.rules * nodes + (length Q.accepting - 1)
records_bound Q numbers_fit few t nodes numbered =
    let (s, slots) = slots_of record_sets Q.arity Q.rules t [] in
    let states = up_to Q.states in
    let chosen = accepting_in Q.accepting states in
    omega (
      arith,
      in_tree Q.arity few Q.rules numbers_fit.flags numbered [],
      end_unions Q (root t) slots states s,
      few_in_numbers Q.accepting chosen (once_accepting Q.accepting states (once_count_from Q.states 0))
          (λ x m. (mem_accepting Q.accepting states x m).1),
    )
