-- The rows of a record by the weights before it, kind by kind: first what each kind has, then which kind a record has that has some.
use mathlib.Core.Bool.{Bool, ◌&&◌, cond, false, true}
use mathlib.Core.List.{List}
use mathlib.Core.Logic.{◌⊎◌, inl, inr, ⊎_elim}
use mathlib.Core.Path.{◌≡◌, refl}
use Prim.Native.Nat.{◌*◌, ◌+◌, ◌<◌, ◌≤◌, ℕ}
use native.Mathlib.Omega.{arith}
use borrow.Author.Tests.{eq-eqb, eqb-true, le-leb, leb-true, lt-ltb, ltb-true, ne_eqb}
use lib.Dec.{eqb, ltb}
use lib.ListN.{get_or}
use Rattle.std.specs.Prelude.{Option, Some}
use Rattle.paper.specs.declared.Record.{Record}
use Rattle.paper.specs.Sound.{apart, most_rows}
use Rattle.laws.proofs.Lists.{both_true}
use Rattle.sound.specs.OneRecord.{before, given, if_few, of_both, product_rows, rows_by, single_rows, union_rows}
use Rattle.sound.specs.Weights.{flag_in, rows_in}

-- ---- tests that leave nothing where they fail
pub given_some : {A : Type 0} {c : Bool} {found : Option A} {x : A} → given c found ≡ Some x → (c ≡ true) × (found ≡ Some x)
given_some {c = true} e = (refl, e)
given_some {c = false} e = cc

pub few_some : {rows n : ℕ} → if_few rows ≡ Some n → (rows ≤ most_rows) × (rows ≡ n)
few_some {rows} {n} e =
    let (few, is) = given_some e in
    (leb-true rows most_rows few, (cc))

pub few_is : (n : ℕ) → n ≤ most_rows → if_few n ≡ Some n
few_is n h = rw (le-leb n most_rows h)

module _ (r : Record) (at : ℕ) (weights : List ℕ) where
  abbrev pub left : ℕ
  left = get_or weights r.left 0

  abbrev pub right : ℕ
  right = get_or weights r.right 0

  -- ---- what each kind has
  pub by_single : r.kind ≡ 1 → rows_by r at weights ≡ single_rows r
  unfolding rows_by
  by_single e = rw (eq-eqb r.kind 1 e)

  module _ (before-left : r.left < at) (before-right : r.right < at) where
    pub by_union : r.kind ≡ 2 → rows_by r at weights ≡ union_rows r.flag left right
    unfolding rows_by
    by_union e =
        rw (ne_eqb r.kind 1 (λ w. omega arith), eq-eqb r.kind 2 e, lt-ltb r.left at before-left, lt-ltb r.right at before-right)

    pub by_product : r.kind ≡ 3 → rows_by r at weights ≡ product_rows r.flag left right
    unfolding rows_by
    by_product e =
        rw (
          ne_eqb r.kind 1 (λ w. omega arith),
          ne_eqb r.kind 2 (λ w. omega arith),
          eq-eqb r.kind 3 e,
          lt-ltb r.left at before-left,
          lt-ltb r.right at before-right,
        )

  -- ---- which kind has some
  module _ (n : ℕ) where
    abbrev pub HasBoth : (ℕ → ℕ → Option ℕ) → Type 0
    HasBoth rows = (r.left < at) × (r.right < at) × (rows left right ≡ Some n)

    abbrev pub HasRows : Type 0
    HasRows =
        ((r.kind ≡ 1) × (single_rows r ≡ Some n))
        ⊎ (((r.kind ≡ 2) × HasBoth (union_rows r.flag)) ⊎ ((r.kind ≡ 3) × HasBoth (product_rows r.flag)))

    both : (rows : ℕ → ℕ → Option ℕ) → of_both rows (before r at weights) ≡ Some n → HasBoth rows
    both rows e = go (ltb r.left at && ltb r.right at) refl e
      where
        go : (c : Bool) → ltb r.left at && ltb r.right at ≡ c → of_both rows (given c (Some (left, right))) ≡ Some n → HasBoth rows
        go true is e' = let (l, m) = both_true (ltb r.left at) (ltb r.right at) is in (ltb-true r.left at l, ltb-true r.right at m, e')
        go false is e' = cc

    pub has_rows : rows_by r at weights ≡ Some n → HasRows
    unfolding rows_by
    has_rows e = go (eqb r.kind 1) refl (eqb r.kind 2) refl e
      where
        go : (single : Bool) → eqb r.kind 1 ≡ single → (union : Bool) → eqb r.kind 2 ≡ union
            → cond single (single_rows r)
            (cond union (of_both (union_rows r.flag) (before r at weights))
            (given (eqb r.kind 3) (of_both (product_rows r.flag) (before r at weights)))) ≡ Some n
            → HasRows
        go true is union is' e' = inl (eqb-true r.kind 1 is, e')
        go false is true is' e' = inr (inl (eqb-true r.kind 2 is', both (union_rows r.flag) e'))
        go false is false is' e' =
            let (is'', some) = given_some e' in
            inr (inr (eqb-true r.kind 3 is'', both (product_rows r.flag) some))

    -- ---- few rows
    pub rows_within : rows_by r at weights ≡ Some n → n ≤ most_rows
    rows_within e = ⊎_elim of_single (⊎_elim of_union of_product) (has_rows e)
      where
        few : (c : Bool) (rows : ℕ) → given c (if_few rows) ≡ Some n → n ≤ most_rows
        few c rows e' = let (most, is) = few_some {rows = rows} (given_some {c = c} e').1 in omega (arith, most, is)

        of_single : (r.kind ≡ 1) × (single_rows r ≡ Some n) → n ≤ most_rows
        of_single (kind, e') =
            let some : Some 1 ≡ Some n = (given_some {c = eqb r.left 0 && eqb r.right 0} e').1 in
            let one : 1 ≡ n = cc in
            omega (arith, one)

        of_union : (r.kind ≡ 2) × HasBoth (union_rows r.flag) → n ≤ most_rows
        of_union (kind, (l, m, e')) = few (eqb (flag_in left) r.flag && eqb (flag_in right) r.flag) (rows_in left + rows_in right) e'

        of_product : (r.kind ≡ 3) × HasBoth (product_rows r.flag) → n ≤ most_rows
        of_product (kind, (l, m, e')) =
            few (apart (flag_in left) (flag_in right) && eqb (flag_in left + flag_in right) r.flag) (rows_in left * rows_in right) e'
