-- Marked flags that share no bit with one, by the notes. First the marks of two masks together, then that the mask of the notes leaves
-- these flags and no other, and that nothing need be left out where no marked flag shares a bit.
use mathlib.Core.Bool.{Bool, cond, false, true}
use mathlib.Core.List.{List}
use mathlib.Core.Logic.{◌⊎◌, inl, inr}
use mathlib.Core.Path.{◌∙◌, ◌≡◌, ap, refl, sym}
use Prim.Native.Nat.{◌/◌, ◌<◌, ◌%◌, ◌^◌, ℕ}
use native.Mathlib.Nat.{mod-lt}
use native.Mathlib.Omega.{arith}
use borrow.Author.Tests.{eqb-false, eqb-true}
use lib.Bits.{and_le_l, and_le_r, and_mask, and_mod, and_shr, bit_and}
use Rattle.paper.specs.Sound.{apart}
use Rattle.building.specs.Slots.{mark_at}
use Rattle.building.specs.Splits.{Free, Noted, shared_at, free_at}
use Rattle.building.proofs.Marks.{no_mark}

-- ---- a mark of two masks together
and_marks : (m k b : ℕ) → mark_at (bit_and m k) b ≡ bit_and (mark_at m b) (mark_at k b)
and_marks m k b = ap (λ x. x % 2) (and_shr m k b) ∙ and_mod (m / 2 ^ b) (k / 2 ^ b) 1

one_digit : (m b : ℕ) → mark_at m b < 2
one_digit m b = mod-lt (m / 2 ^ b) (omega arith)

-- beside a mark the other decides
beside_one : (m b : ℕ) → bit_and (mark_at m b) 1 ≡ mark_at m b
beside_one m b = and_mask (mark_at m b) 1 ∙ omega (arith, one_digit m b)

-- ---- the notes
module _ {size : ℕ} {notes : List ℕ} (noted : Noted size notes) {flag : ℕ} (below : flag < size) (marked : ℕ) where
  pub free_masked : Free size flag marked (bit_and marked (free_at notes flag))
  free_masked = record { few = omega (arith, and_le_r marked (free_at notes flag), (noted.masks flag below).few); takes = takes; skips = skips }
    where
      takes : (b : ℕ) → b < size → mark_at (bit_and marked (free_at notes flag)) b ≡ 1 → (mark_at marked b ≡ 1) × (bit_and flag b ≡ 0)
      takes b h e = (
        omega (
          arith,
          e,
          and_marks marked (free_at notes flag) b,
          and_le_l (mark_at marked b) (mark_at (free_at notes flag) b),
          one_digit marked b,
        ),
        go (apart flag b) refl,
      )
        where
          go : (c : Bool) → apart flag b ≡ c → bit_and flag b ≡ 0
          go true a = eqb-true (bit_and flag b) 0 a
          go false a =
              absurd
              (omega (
                arith,
                e,
                and_marks marked (free_at notes flag) b,
                and_le_r (mark_at marked b) (mark_at (free_at notes flag) b),
                (noted.masks flag below).beside b h ∙ ap (λ x. cond x 1 0) a,
              ))

      skips : (b : ℕ) → b < size → mark_at (bit_and marked (free_at notes flag)) b ≡ 0 → (mark_at marked b ≡ 0) ⊎ (bit_and flag b ≡ 0 → ⊥)
      skips b h e = go (apart flag b) refl
        where
          go : (c : Bool) → apart flag b ≡ c → (mark_at marked b ≡ 0) ⊎ (bit_and flag b ≡ 0 → ⊥)
          go true a =
              inl
              (sym (beside_one marked b)
              ∙ ap (bit_and (mark_at marked b)) (sym ((noted.masks flag below).beside b h ∙ ap (λ x. cond x 1 0) a))
              ∙ sym (and_marks marked (free_at notes flag) b)
              ∙ e)
          go false a = inr (eqb-false (bit_and flag b) 0 a)

  pub none_shared : marked < 2 ^ size → bit_and marked (shared_at notes flag) ≡ 0 → Free size flag marked marked
  none_shared few e = record { few = few; takes = takes; skips = λ b h w. inl w }
    where
      takes : (b : ℕ) → b < size → mark_at marked b ≡ 1 → (mark_at marked b ≡ 1) × (bit_and flag b ≡ 0)
      takes b h w = (w, go (apart flag b) refl)
        where
          go : (c : Bool) → apart flag b ≡ c → bit_and flag b ≡ 0
          go true a = eqb-true (bit_and flag b) 0 a
          go false a =
              absurd
              (omega (
                arith,
                w,
                sym (beside_one marked b)
                    ∙ ap (bit_and (mark_at marked b)) (sym ((noted.masks flag below).sharing b h ∙ ap (λ x. cond x 0 1) a))
                    ∙ sym (and_marks marked (shared_at notes flag) b)
                    ∙ ap (λ x. mark_at x b) e
                    ∙ no_mark b,
              ))
