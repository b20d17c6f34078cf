-- Flags without a place, and the places that stay open after a fix: without a place the others stay as they are, two places
-- can be taken in either order, and after an accepted fixing the others of an allowed list are still allowed.
use mathlib.Core.Path.{◌≡◌, refl, sym, ap, ◌∙◌}
use mathlib.Core.Bool.{Bool, true, false, true≢false, ◌&&◌}
use mathlib.Core.Logic.{◌↔◌}
use mathlib.Core.List.Memᴰ
use mathlib.Core.List.{List, ◌∷◌}
use Prim.Native.Nat.{ℕ, zero, suc, ◌+◌, ◌*◌, ◌/◌, ◌%◌, ◌-◌, ◌≤◌}
use native.Mathlib.Omega.{arith}
use borrow.Author.Tests.{ne_eqb, leb-true}
use lib.Dec.{eqb, leb}
use Rattle.paper.specs.Lists.{◌∈◌}
use Rattle.paper.specs.Questions.{has_place, without, fixed_set}
use Rattle.paper.specs.Refusals.{is_open}
use Rattle.laws.specs.Plain.{Record, Head}
use Rattle.laws.specs.Fixings.{Fixing, Allowed}
use Rattle.laws.proofs.Lists.{both_true, here}

-- ---- flags
-- the lowest place of a flag, and its higher ones
low_place : (b m : ℕ) → (b % 2 + 2 * m) % 2 ≡ b % 2
low_place b m = omega arith

high_places : (b m : ℕ) → (b % 2 + 2 * m) / 2 ≡ m
high_places b m = omega arith

without_low : (b : ℕ) → 2 * (b / 2) / 2 ≡ b / 2
without_low b = omega arith

-- the other places stay
pub without_other : (b i j : ℕ) → (i ≡ j → ⊥) → has_place (without b i) j ≡ has_place b j
without_other b zero zero h = absurd (h refl)
without_other b zero (suc j) h = ap (λ (z : ℕ). has_place z j) (without_low b)
without_other b (suc i) zero h = ap (λ (z : ℕ). eqb z 1) (low_place b (without (b / 2) i))
without_other b (suc i) (suc j) h =
    ap (λ (z : ℕ). has_place z j) (high_places b (without (b / 2) i)) ∙ without_other (b / 2) i j (λ e. h (ap suc e))

-- the place is gone
pub without_same_place : (b i : ℕ) → has_place (without b i) i ≡ false
without_same_place b zero = ne_eqb (2 * (b / 2) % 2) 1 (λ e. omega arith)
without_same_place b (suc i) = ap (λ (z : ℕ). has_place z i) (high_places b (without (b / 2) i)) ∙ without_same_place (b / 2) i

-- ---- open places
-- an open place is at least 1
pub open_from_one : (h : Head) (place : ℕ) → is_open h place ≡ true → 1 ≤ place
open_from_one h place e = leb-true 1 place (both_true (leb 1 place) (leb place h.arity && has_place h.open_places (place - 1)) e).0

-- after a fix the other open places are open, and they alone
module _ (h : Head) (table : List Record) (place n other : ℕ) (stands_open : is_open h place ≡ true) where
  abbrev new : Head
  new = (fixed_set h table place n).0

  -- another place is open as it was
  as_before : 1 ≤ other → (other ≡ place → ⊥) → is_open new other ≡ is_open h other
  as_before from apart =
      let first = open_from_one h place stands_open in
      ap (λ (z : Bool). leb 1 other && (leb other h.arity && z)) (without_other h.open_places (place - 1) (other - 1) (λ q. apart (omega arith)))

  -- and the fixed one is not
  fixed_closed : is_open new other ≡ true → other ≡ place → ⊥
  fixed_closed e q =
      let has = (both_true (leb other h.arity) (has_place new.open_places (other - 1)) (both_true (leb 1 other) _ e).1).1 in
      true≢false (sym has ∙ ap (λ (i : ℕ). has_place (without h.open_places (place - 1)) (i - 1)) q ∙ without_same_place h.open_places (place - 1))

  pub open_after : (is_open new other ≡ true) ↔ ((is_open h other ≡ true) × (other ≡ place → ⊥))
  open_after = (
    λ e. let apart = fixed_closed e in (sym (as_before (open_from_one new other e) apart) ∙ e, apart),
    λ (e, apart). as_before (open_from_one h other e) apart ∙ e,
  )

-- the places of an allowed list are at least 1, and the first is none of the others
pub allowed_apart : (h : Head) (f : Fixing) (fs : List Fixing) → Allowed h (f ∷ fs)
    → (g : Fixing) → g ∈ fs → (1 ≤ g.place) × (g.place ≡ f.place → ⊥)
allowed_apart h f fs a g m = (
  open_from_one h g.place (a.all_open g (Memᴰ.tail m)),
  λ e. a.different.0 (Memᴰ.cast (sym e) (Memᴰ.map (λ (z : Fixing). z.place) m)),
)

-- after an accepted fixing the other places of an allowed list are still open
pub allowed_rest : (h : Head) (f : Fixing) (fs : List Fixing) (table : List Record) → Allowed h (f ∷ fs)
    → Allowed (fixed_set h table f.place f.node).0 fs
allowed_rest h f fs table a = record {
  different = a.different.1;
  all_open = λ g m.
      (open_after h table f.place f.node g.place (a.all_open f here)).1 (a.all_open g (Memᴰ.tail m), (allowed_apart h f fs a g m).1);
  all_nodes = λ g m. a.all_nodes g (Memᴰ.tail m);
}
