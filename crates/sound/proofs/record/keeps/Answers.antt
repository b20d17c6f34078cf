-- `keeps`: where the flags together make the third, one of them has as many places exactly if it is the third.
use Rattle.std.proofs.Common.{◌∙◌, ◌≡◌, ◌&&◌, ℕ, Bool, true, false, eqb, bit_or, ap, ap₂, refl, sym}
use borrow.Author.Tests.{eq-eqb, eqb-false, eqb-true, ne_eqb}
use lib.Bits.{or_comm, or_self}
use lib.Count.{ones}
use Rattle.laws.proofs.Places.{ones_keep}
use Rattle.sound.proofs.record.keeps.Goals as goal

kept : (a b flag : ℕ) → bit_or a b ≡ flag → eqb (ones a) (ones flag) ≡ eqb a flag
kept a b flag made = go (eqb a flag) refl
  where
    go : (c : Bool) → eqb a flag ≡ c → eqb (ones a) (ones flag) ≡ c
    go true e = eq-eqb (ones a) (ones flag) (ap ones (eqb-true a flag e))
    go false e = ne_eqb (ones a) (ones flag) (λ w. eqb-false a flag e (ones_keep a b (w ∙ ap ones (sym made)) ∙ made))

module _ (a b flag : ℕ) where
  both_kept : bit_or a b ≡ flag → eqb (ones a) (ones flag) && eqb (ones b) (ones flag) ≡ eqb a flag && eqb b flag
  both_kept made = ap₂ ◌&&◌ (kept a b flag made) (kept b a flag (or_comm b a ∙ made))

  not_made : (bit_or a b ≡ flag → ⊥) → false ≡ eqb a flag && eqb b flag
  not_made other = go (eqb a flag) refl
    where
      go : (c : Bool) → eqb a flag ≡ c → false ≡ c && eqb b flag
      go true e = sym (ne_eqb b flag (λ w. other (ap₂ bit_or (eqb-true a flag e) w ∙ or_self flag)))
      go false e = refl

pub returns-then-left-right : goal.returns-then-left-right
returns-then-left-right c = let a = c.args in not_made a.left a.right a.flag c.if-left-right.true

pub returns-then-filled-places : goal.returns-then-filled-places
returns-then-filled-places c =
    let a = c.args in
    simp (
      sym (both_kept a.left a.right a.flag c.if-left-right.false),
      sym c.filled-places.ensures,
      sym c.filled.ensures,
      sym c.filled-then-filled-places.ensures,
      eq-eqb _ _ c.if-filled-places.true,
    )
