-- The slots of lists of rows, each as one list: a leaf's is the single row if a rule asks for it,
-- a branch's are the rows of its splits, one split after the other. Before them, what the test for a slot says.
use mathlib.Core.Bool.{Bool, ◌&&◌, ◌||◌, cond, false, true}
use mathlib.Core.List.{List, [], ◌++◌, ◌∷◌, append_assoc, append-nil}
use mathlib.Core.Path.{◌∙◌, ◌≡◌, ap, ap₂, refl, sym}
use Prim.Native.Nat.{ℕ}
use borrow.Author.Tests.{eqb-true}
use lib.Dec.{eqb}
use Rattle.paper.specs.Building.{Slots, Split, branch_step, can_stand, leaf_step, put, together}
use Rattle.paper.specs.Lists.{each, is_nil, through}
use Rattle.paper.specs.Query.{Rule, branch_rule, leaf_rule}
use Rattle.paper.specs.Row.{Row, products, single_row}
use Rattle.laws.specs.RowSets.{row_sets}
use Rattle.laws.proofs.Lists.{both_true, each_none}

-- the test that `put` makes finds the slot itself
pub same_slot : (q' b' q b : ℕ) → eqb q' q && eqb b' b ≡ true → (q' ≡ q) × (b' ≡ b)
same_slot q' b' q b e = let h = both_true (eqb q' q) (eqb b' b) e in (eqb-true q' q h.0, eqb-true b' b h.1)

-- ---- a leaf
-- a rule for this label, flag and state stands in the list, and is used
abbrev pub leaf_has : ℕ → ℕ → ℕ → List Rule → Bool
leaf_has a q b [] = false
leaf_has a q b (leaf_rule a' b' q' ∷ rs) = (eqb a a' && can_stand a b') && (eqb q' q && eqb b' b) || leaf_has a q b rs
leaf_has a q b (branch_rule a' b' l r t ∷ rs) = leaf_has a q b rs

module _ (k a n : ℕ) where
  -- the rows of a single
  abbrev one : ℕ → List Row
  one b = single_row k n b ∷ []

  abbrev step : Unit {0} × Slots (List Row) → Rule → Unit {0} × Slots (List Row)
  step = leaf_step (row_sets k) a n

  leaf_step_lem : (f : Slots (List Row)) (a' b' q' q b : ℕ)
      → (step (tt, f) (leaf_rule a' b' q')).1 q b ≡ cond ((eqb a a' && can_stand a b') && (eqb q' q && eqb b' b)) (one b) (f q b)
  leaf_step_lem f a' b' q' q b = by_rule (eqb a a' && can_stand a b')
    where
      by_slot : (c : Bool) → eqb q' q && eqb b' b ≡ c → cond c (one b') (f q b) ≡ cond c (one b) (f q b)
      by_slot true e = ap one (same_slot q' b' q b e).1
      by_slot false e = refl

      by_rule : (c : Bool)
          → (cond {A = Unit {0} × Slots (List Row)} c (tt, put f q' b' (one b')) (tt, f)).1 q b
          ≡ cond (c && (eqb q' q && eqb b' b)) (one b) (f q b)
      by_rule true = by_slot (eqb q' q && eqb b' b) refl
      by_rule false = refl

  -- a leaf's slot has the single row if a rule asks for it, and else what was there
  pub leaf_slots : (rules : List Rule) (f : Slots (List Row)) (q b : ℕ)
      → (through (leaf_step (row_sets k) a n) (tt, f) rules).1 q b ≡ cond (leaf_has a q b rules) (single_row k n b ∷ []) (f q b)
  leaf_slots [] f q b = refl
  leaf_slots (leaf_rule a' b' q' ∷ rs) f q b =
      leaf_slots rs (step (tt, f) (leaf_rule a' b' q')).1 q b
      ∙ ap (cond (leaf_has a q b rs) (one b)) (leaf_step_lem f a' b' q' q b)
      ∙ either_rule (leaf_has a q b rs) ((eqb a a' && can_stand a b') && (eqb q' q && eqb b' b))
    where
      either_rule : (c d : Bool) → cond c (one b) (cond d (one b) (f q b)) ≡ cond (d || c) (one b) (f q b)
      either_rule true true = refl
      either_rule true false = refl
      either_rule false true = refl
      either_rule false false = refl
  leaf_slots (branch_rule a' b' l r t ∷ rs) f q b = leaf_slots rs f q b

-- ---- a branch
-- the single of an own flag times left rows, times right rows
abbrev triple_rows : ℕ → ℕ → ℕ → List Row → List Row → List Row
triple_rows k n b left right = products (products (single_row k n b ∷ []) left) right

module _ (k n : ℕ) (f g : Slots (List Row)) where
  -- the rows of a split
  abbrev pub split_rows : Split → List Row
  split_rows x = triple_rows k n x.own (f x.left x.left_flag) (g x.right x.right_flag)

  -- what a split gives to the slot (q, b)
  abbrev pub gives : ℕ → ℕ → Split → List Row
  gives q b x = cond (eqb x.state q && eqb (together x) b) (split_rows x) []

  abbrev steps : Unit {0} × Slots (List Row) → List Split → Unit {0} × Slots (List Row)
  steps = through (branch_step (row_sets k) n f g)

  -- rows appended in one slot are appended in every slot, if it is that one
  put_append : (h : Slots (List Row)) (q' b' : ℕ) (rows : List Row) (q b : ℕ)
      → put h q' b' (h q' b' ++ rows) q b ≡ h q b ++ cond (eqb q' q && eqb b' b) rows []
  put_append h q' b' rows q b = go (eqb q' q && eqb b' b) refl
    where
      go : (c : Bool) → eqb q' q && eqb b' b ≡ c → cond c (h q' b' ++ rows) (h q b) ≡ h q b ++ cond c rows []
      go true e = let (state, flag) = same_slot q' b' q b e in ap₂ (λ (u v : ℕ). h u v ++ rows) state flag
      go false e = sym (append-nil (h q b))

  append_none : (c : Bool) (old rows : List Row) → rows ≡ [] → old ≡ old ++ cond c rows []
  append_none true old rows e = rw e (sym (append-nil old))
  append_none false old rows e = sym (append-nil old)

  -- one step appends what the split gives; where it is skipped, that is nothing
  branch_step_lem : (h : Slots (List Row)) (x : Split) → branch_step (row_sets k) n f g (tt, h) x ≡ (tt, λ (q b : ℕ). h q b ++ gives q b x)
  branch_step_lem h x = go (f x.left x.left_flag) (g x.right x.right_flag)
    where
      rows : List Row → List Row → List Row
      rows = triple_rows k n x.own

      there : ℕ → ℕ → Bool
      there q b = eqb x.state q && eqb (together x) b

      go : (u v : List Row)
          → ◌≡◌ {A = Unit {0} × Slots (List Row)}
          (cond (is_nil u || is_nil v) (tt, h) (tt, put h x.state (together x) (h x.state (together x) ++ rows u v)))
          (tt, λ (q b : ℕ). h q b ++ cond (there q b) (rows u v) [])
      go [] v = λ i. (tt, λ q b. append_none (there q b) (h q b) (rows [] v) refl i)
      go (u ∷ us) [] =
          λ i. (tt, λ q b. append_none (there q b) (h q b) (rows (u ∷ us) []) (each_none (products (single_row k n x.own ∷ []) (u ∷ us))) i)
      go (u ∷ us) (v ∷ vs) = λ i. (tt, λ q b. put_append h x.state (together x) (rows (u ∷ us) (v ∷ vs)) q b i)

  -- a branch's slot has what was there, and then what each split gives
  pub branch_slots : (xs : List Split) (h : Slots (List Row)) (q b : ℕ)
      → (through (branch_step (row_sets k) n f g) (tt, h) xs).1 q b ≡ h q b ++ each xs (gives q b)
  branch_slots [] h q b = sym (append-nil (h q b))
  branch_slots (x ∷ xs) h q b =
      ap (λ (z : Unit {0} × Slots (List Row)). (steps z xs).1 q b) (branch_step_lem h x)
      ∙ branch_slots xs (λ u v. h u v ++ gives u v x) q b
      ∙ append_assoc (h q b) (gives q b x) (each xs (gives q b))
