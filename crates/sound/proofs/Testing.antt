-- The test of one record over the weights of those before it says what `SoundRecord` says, and finds its rows. First the tests over the
-- weights, then that a record that passes is sound, then that a sound record passes.
use mathlib.Core.Bool.{Bool, ◌&&◌, true}
use mathlib.Core.List.{List}
use mathlib.Core.Logic.{◌⊎◌, inl, inr, ⊎_elim}
use mathlib.Core.Path.{◌∙◌, ◌≡◌, ap, sym}
use Prim.Native.Nat.{◌*◌, ◌+◌, ◌<◌, ◌^◌, ◌≤◌, ℕ}
use native.Mathlib.Omega.{arith}
use borrow.Author.Tests.{eqb-true}
use lib.Dec.{eqb}
use lib.ListN.{get_or, length}
use Rattle.std.specs.Prelude.{Some}
use Rattle.paper.specs.declared.Head.{Head}
use Rattle.paper.specs.declared.Record.{Record}
use Rattle.paper.specs.Sound.{apart, entry, most_rows}
use Rattle.laws.specs.QuestionCauses.{IsProduct, IsSingle, IsUnion}
use Rattle.laws.proofs.Lists.{both_true}
use Rattle.laws.proofs.Tests.{Says, says_and, says_below, says_equal, says_nothing}
use Rattle.sound.specs.Passing.{SoundRecord, Weighing}
use Rattle.sound.specs.OneRecord.{given, if_few, product_rows, record_fits, rows_by, rows_found, single_rows, union_rows}
use Rattle.sound.specs.Weights.{flag_in, rows_in}
use Rattle.sound.proofs.ByKind.{HasBoth, by_product, by_single, by_union, few_is, few_some, given_some, has_rows}
use Rattle.sound.proofs.RowCounts.{product_count, rows_at, single_count, union_count}
use Rattle.sound.proofs.WeightParts.{below_sixteen, flag_in_lem, rows_in_lem}

module _ (h : Head) (used : List Record) (at : ℕ) (work weights : List ℕ) (few_places : h.arity ≤ 4) (there : at < length used)
    (W : Weighing h.arity h.nodes used at work weights) where
  abbrev r : Record
  r = entry used at

  abbrev counted : ℕ → ℕ
  counted j = length (rows_at h.arity used j)

  -- ---- the weights before the record
  module _ (j : ℕ) (l : j < at) where
    low : (entry used j).flag < 16
    low = below_sixteen few_places (W.sound j l).test.flag_below

    pub rows_of_lem : rows_in (get_or weights j 0) ≡ counted j
    rows_of_lem = ap rows_in (W.weighed j l) ∙ rows_in_lem (counted j) (entry used j).flag low

    flag_of : flag_in (get_or weights j 0) ≡ (entry used j).flag
    flag_of = ap flag_in (W.weighed j l) ∙ flag_in_lem (counted j) (entry used j).flag low

  -- so the test of a union and that of a product
  module _ (left : r.left < at) (right : r.right < at) where
    union_test : union_rows r.flag (get_or weights r.left 0) (get_or weights r.right 0)
        ≡ given (eqb (entry used r.left).flag r.flag && eqb (entry used r.right).flag r.flag) (if_few (counted r.left + counted r.right))
    union_test = rw (flag_of r.left left, flag_of r.right right, rows_of_lem r.left left, rows_of_lem r.right right)

    product_test : product_rows r.flag (get_or weights r.left 0) (get_or weights r.right 0)
        ≡ given (apart (entry used r.left).flag (entry used r.right).flag && eqb ((entry used r.left).flag + (entry used r.right).flag) r.flag)
        (if_few (counted r.left * counted r.right))
    product_test = rw (flag_of r.left left, flag_of r.right right, rows_of_lem r.left left, rows_of_lem r.right right)

  -- ---- a record that passes is sound
  abbrev Kind : Type 0
  Kind = IsSingle r ⊎ (IsUnion used at r ⊎ IsProduct used at r)

  module _ (n : ℕ) where
    abbrev Found : Type 0
    Found = Kind × (n ≡ counted at) × (n ≤ most_rows)

    single_passes : (r.kind ≡ 1) × (single_rows r ≡ Some n) → Found
    single_passes (kind, some) =
        let (zeros, one) = given_some some in
        let (left, right) = both_true (eqb r.left 0) (eqb r.right 0) zeros in
        let is : 1 ≡ n = cc in (
          inl (kind, eqb-true r.left 0 left, eqb-true r.right 0 right),
          sym is ∙ sym (single_count h.arity used at there kind),
          omega (arith, is),
        )

    union_passes : (r.kind ≡ 2) × HasBoth r at weights n (union_rows r.flag) → Found
    union_passes (kind, (left, right, some)) =
        let (flags, rows) = given_some (sym (union_test left right) ∙ some) in
        let (on-left, on-right) = both_true _ _ flags in
        let (few, is) = few_some rows in (
          inr (inl (kind, left, right, eqb-true _ _ on-left, eqb-true _ _ on-right)),
          sym is ∙ sym (union_count h.arity used at there left right kind),
          omega (arith, is, few),
        )

    product_passes : (r.kind ≡ 3) × HasBoth r at weights n (product_rows r.flag) → Found
    product_passes (kind, (left, right, some)) =
        let (flags, rows) = given_some (sym (product_test left right) ∙ some) in
        let (share-none, sum) = both_true _ _ flags in
        let (few, is) = few_some rows in (
          inr (inr (kind, left, right, eqb-true _ _ share-none, eqb-true _ _ sum)),
          sym is ∙ sym (product_count h.arity used at there left right kind),
          omega (arith, is, few),
        )

  says_fits : Says (record_fits r h.nodes h.arity) ((r.node < h.nodes) × ((0 < r.flag) × ((r.flag < 2 ^ h.arity) × Unit {0})))
  unfolding record_fits
  says_fits = says_and (says_below _ _) (says_and (says_below _ _) (says_and (says_below _ _) says_nothing))

  pub passes_sound : (n : ℕ) → rows_found h r at weights ≡ Some n → SoundRecord h.arity h.nodes used at × (n ≡ counted at)
  passes_sound n some =
      let (fits, rows) = given_some some in
      let (node, (above, (below, u))) = says_fits.0 fits in
      let (kind, listed, few) = ⊎_elim (single_passes n) (⊎_elim (union_passes n) (product_passes n)) (has_rows r at weights n rows) in (
        record {
          test = record { node = node; flag_above = above; flag_below = below; kind = kind };
          few = omega (arith, listed, few);
        },
        listed,
      )

  -- ---- a sound record passes
  module _ (sound : SoundRecord h.arity h.nodes used at) where
    passing : (flags : Bool) (rows : ℕ) → flags ≡ true → rows ≡ counted at → given flags (if_few rows) ≡ Some (counted at)
    passing flags rows pass e = ap (λ (c : Bool). given c (if_few rows)) pass ∙ few_is rows (omega (arith, e, sound.few)) ∙ ap Some e

    single_found : IsSingle r → rows_by r at weights ≡ Some (counted at)
    single_found (kind, left, right) =
        by_single r at weights kind
        ∙ ap (λ (c : Bool). given c (Some 1)) ((says_and (says_equal _ _) (says_equal _ _)).1 (left, right))
        ∙ ap Some (sym (single_count h.arity used at there kind))

    union_found : IsUnion used at r → rows_by r at weights ≡ Some (counted at)
    union_found (kind, left, right, on-left, on-right) =
        by_union r at weights left right kind
        ∙ union_test left right
        ∙ passing _ _ ((says_and (says_equal _ _) (says_equal _ _)).1 (on-left, on-right))
        (sym (union_count h.arity used at there left right kind))

    product_found : IsProduct used at r → rows_by r at weights ≡ Some (counted at)
    product_found (kind, left, right, share-none, sum) =
        by_product r at weights left right kind
        ∙ product_test left right
        ∙ passing _ _ ((says_and (says_equal _ _) (says_equal _ _)).1 (share-none, sum))
        (sym (product_count h.arity used at there left right kind))

    pub sound_passes : rows_found h r at weights ≡ Some (counted at)
    sound_passes =
        let fits = says_fits.1 (sound.test.node, (sound.test.flag_above, (sound.test.flag_below, tt))) in
        ap (λ (c : Bool). given c (rows_by r at weights)) fits ∙ ⊎_elim single_found (⊎_elim union_found product_found) sound.test.kind
