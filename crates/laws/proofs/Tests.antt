-- What a test says: the statement that holds exactly where it passes, or exactly where it fails.
use mathlib.Core.Bool.{Bool, ◌&&◌, ◌||◌, and-false, false, not, or-true, true, true≢false}
use mathlib.Core.Logic.Iff
use mathlib.Core.Logic.{◌↔◌, ◌⊎◌, inl, inr, ⊎_elim}
use mathlib.Core.Path.{◌∙◌, ◌≡◌, refl, sym}
use Prim.Native.Nat.{◌<◌, ◌≤◌, ℕ}
use borrow.Author.Tests.{eq-eqb, eqb-false, eqb-true, le-leb, le-ltb, leb-false, leb-true, lt-leb, lt-ltb, ltb-false, ltb-true, ne_eqb, not-false}
use lib.Dec.{eqb, leb, ltb}
use Rattle.laws.proofs.Lists.{both_true, which}

-- ---- tests that pass
-- the test holds exactly where the statement does
abbrev pub Says : Bool → Type 0 → Type 0
Says c P = (c ≡ true) ↔ P

pub says_equal : (a b : ℕ) → Says (eqb a b) (a ≡ b)
says_equal a b = (eqb-true a b, eq-eqb a b)

pub says_below : (a b : ℕ) → Says (ltb a b) (a < b)
says_below a b = (ltb-true a b, lt-ltb a b)

pub says_at_most : (a b : ℕ) → Says (leb a b) (a ≤ b)
says_at_most a b = (leb-true a b, le-leb a b)

pub says_nothing : Says true (Unit {0})
says_nothing = (λ e. tt, λ u. refl)

module _ {a b : Bool} {P Q : Type 0} where
  pub says_and : Says a P → Says b Q → Says (a && b) (P × Q)
  says_and f g = (λ e. let w = both_true a b e in (f.0 w.0, g.0 w.1), λ w. rw (f.1 w.0, g.1 w.1))

  pub says_or : Says a P → Says b Q → Says (a || b) (P ⊎ Q)
  says_or f g = (
    λ e. ⊎_elim (λ w. inl (f.0 w)) (λ w. inr (g.0 (rw w at e))) (which a),
    ⊎_elim (λ p. rw (f.1 p)) (λ q. rw (g.1 q) (or-true a)),
  )

-- ---- tests that fail
-- the test fails exactly where the statement holds
abbrev pub Fails : Bool → Type 0 → Type 0
Fails c P = (c ≡ false) ↔ P

pub fails_equal : (a b : ℕ) → Fails (eqb a b) (a ≡ b → ⊥)
fails_equal a b = (eqb-false a b, ne_eqb a b)

pub fails_below : (a b : ℕ) → Fails (ltb a b) (b ≤ a)
fails_below a b = (ltb-false a b, le-ltb a b)

pub fails_at_most : (a b : ℕ) → Fails (leb a b) (b < a)
fails_at_most a b = (leb-false a b, lt-leb a b)

pub fails_and : {a b : Bool} {P Q : Type 0} → Fails a P → Fails b Q → Fails (a && b) (P ⊎ Q)
fails_and {a} f g = (
  λ e. ⊎_elim (λ w. inr (g.0 (rw w at e))) (λ w. inl (f.0 w)) (which a),
  ⊎_elim (λ p. rw (f.1 p)) (λ q. rw (g.1 q) (and-false a)),
)

-- a test fails where what it says does not hold
pub fails_says : {c : Bool} {P : Type 0} → Says c P → Fails c (P → ⊥)
fails_says {c} f = (λ e p. true≢false (sym (f.1 p) ∙ e), λ n. ⊎_elim (λ e. absurd (n (f.0 e))) (λ e. e) (which c))

pub fails_not : {c : Bool} {P : Type 0} → Says c P → Fails (not c) P
fails_not {c} f = Iff.trans (not-false c, λ e. rw e) f

pub fails_between : (low high a : ℕ) → Fails (leb low a && leb a high) ((a < low) ⊎ (high < a))
fails_between low high a = fails_and (fails_at_most low a) (fails_at_most a high)

pub fails_last : {c : Bool} {P : Type 0} → Fails c P → Fails (c && true) P
fails_last {c = true} f = f
fails_last {c = false} f = f

-- where the test passes the statement does not hold
pub passed_not : {c : Bool} {P : Type 0} → Fails c P → c ≡ true → P → ⊥
passed_not f e p = true≢false (sym e ∙ f.1 p)

-- where the statement does not hold the test passes
pub passes_if_not : {c : Bool} {P : Type 0} → Fails c P → (P → ⊥) → c ≡ true
passes_if_not {c} f not_so = ⊎_elim (λ e. e) (λ e. absurd (not_so (f.0 e))) (which c)
