-- `adds`: where the flags together make the third, their places add exactly if they share none.
use Rattle.std.proofs.Common.{◌∙◌, ◌≡◌, ◌+◌, ◌&&◌, ℕ, Bool, true, false, eqb, bit_and, bit_or, ap, ap₂, refl, sym}
use borrow.Author.Tests.{eq-eqb, eqb-false, eqb-true, ne_eqb}
use lib.Bits.{or_disjoint}
use lib.Count.{ones}
use Rattle.paper.specs.Sound.{apart}
use Rattle.laws.proofs.Places.{ones_add, ones_apart}
use Rattle.sound.proofs.record.adds.Goals as goal

module _ (a b flag : ℕ) where
  added : bit_or a b ≡ flag → eqb (ones a + ones b) (ones flag) ≡ apart a b && eqb (a + b) flag
  added made = go (apart a b) refl
    where
      go : (c : Bool) → apart a b ≡ c → eqb (ones a + ones b) (ones flag) ≡ c && eqb (a + b) flag
      go true e =
          let none : bit_and a b ≡ 0 = eqb-true (bit_and a b) 0 e in
          let sum : a + b ≡ flag = sym (or_disjoint a b none) ∙ made in
          eq-eqb (ones a + ones b) (ones flag) (sym (ones_add a b none) ∙ ap ones sum) ∙ sym (eq-eqb (a + b) flag sum)
      go false e = ne_eqb (ones a + ones b) (ones flag) (λ w. eqb-false (bit_and a b) 0 e (ones_apart a b (w ∙ ap ones (sym made))))

  not_made : (bit_or a b ≡ flag → ⊥) → false ≡ apart a b && eqb (a + b) flag
  not_made other = go (apart a b) refl
    where
      go : (c : Bool) → apart a b ≡ c → false ≡ c && eqb (a + b) flag
      go true e = sym (ne_eqb (a + b) flag (λ w. other (or_disjoint a b (eqb-true (bit_and a b) 0 e) ∙ w)))
      go false e = refl

pub returns-then-left-right : goal.returns-then-left-right
returns-then-left-right c =
    let a = c.args in
    ap₂ eqb (ap₂ ◌+◌ c.filled.ensures c.filled-then-left-right.ensures) c.filled-then-left-right-2.ensures
    ∙ added a.left a.right a.flag c.if-left-right.true

pub returns-else-left-right : goal.returns-else-left-right
returns-else-left-right c =
    let a = c.args in ne_eqb _ _ c.if-left-right.false ∙ not_made a.left a.right a.flag c.if-left-right.false
