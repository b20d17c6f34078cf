-- Flags bit by bit: a place of two flags that share no bit, and a flag without a place.
-- First the lowest bit and the others, then places, then flags without a place.
use mathlib.Core.Bool.{◌||◌, false, true}
use mathlib.Core.Logic.{◌⊎◌, inl, inr, ⊎_elim}
use mathlib.Core.Path.{◌∙◌, ◌≡◌, ap, refl, sym}
use Prim.Native.Nat.{◌%◌, ◌*◌, ◌+◌, ◌/◌, ◌<◌, ◌^◌, ◌≤◌, suc, zero, ℕ}
use native.Mathlib.Omega.{arith}
use borrow.Author.Tests.{eq-eqb, eqb-false, eqb-true, ne_eqb}
use lib.Bits.{and_step, bit_and}
use lib.Dec.{eqb}
use lib.Pow.{shr-shr}
use Rattle.paper.specs.Questions.{has_place, without}
use Rattle.laws.proofs.Lists.{which}
use Rattle.laws.proofs.Rows.{and_digit}

-- ---- the lowest bit and the others
bit_of : (a : ℕ) → (a % 2 ≡ 0) ⊎ (a % 2 ≡ 1)
bit_of a =
    ⊎_elim (λ e. inr (eqb-true (a % 2) 1 e)) (λ e. let h : a % 2 ≡ 1 → ⊥ = eqb-false (a % 2) 1 e in inl (omega arith))
    (which (eqb (a % 2) 1))

-- two flags that share no bit do not share the lowest one, nor any other, and are added bit by bit
module _ (a b : ℕ) (apart : bit_and a b ≡ 0) where
  lows : a % 2 + b % 2 ≤ 1
  lows = omega (arith, and_step a b)

  halves : bit_and (a / 2) (b / 2) ≡ 0
  halves = omega (arith, and_step a b)

  half_sum : (a + b) / 2 ≡ a / 2 + b / 2
  half_sum = omega (arith, lows)

-- ---- places
-- one is found by a shift
pub shifted : (b i : ℕ) → eqb (b / 2 ^ i % 2) 1 ≡ has_place b i
shifted b zero = ap (λ (z : ℕ). eqb (z % 2) 1) (let z : b / 2 ^ 0 ≡ b = omega arith in z)
shifted b (suc i) =
    let step : 1 + i ≡ suc i = omega arith in
    ap (λ (z : ℕ). eqb (z % 2) 1) (ap (λ (z : ℕ). b / 2 ^ z) (sym step) ∙ sym (shr-shr b 1 i)) ∙ shifted (b / 2) i

-- the sum of two flags that share no bit has the places of both
pub bit_sum : (i a b : ℕ) → bit_and a b ≡ 0 → has_place (a + b) i ≡ has_place a i || has_place b i
bit_sum zero a b apart = ⊎_elim even odd (bit_of a)
  where
    even : a % 2 ≡ 0 → eqb ((a + b) % 2) 1 ≡ eqb (a % 2) 1 || eqb (b % 2) 1
    even e =
        let f : (a + b) % 2 ≡ b % 2 = omega arith in
        rw (f, ne_eqb (a % 2) 1 (λ w. omega arith))

    odd : a % 2 ≡ 1 → eqb ((a + b) % 2) 1 ≡ eqb (a % 2) 1 || eqb (b % 2) 1
    odd e = rw (eq-eqb ((a + b) % 2) 1 (omega (arith, lows a b apart)), eq-eqb (a % 2) 1 e)
bit_sum (suc i) a b apart = rw (half_sum a b apart) (bit_sum i (a / 2) (b / 2) (halves a b apart))

-- and no place is in both
pub bit_one : (i a b : ℕ) → bit_and a b ≡ 0 → has_place a i ≡ true → has_place b i ≡ false
bit_one zero a b apart e = ne_eqb (b % 2) 1 (λ w. omega (arith, lows a b apart, eqb-true (a % 2) 1 e))
bit_one (suc i) a b apart e = bit_one i (a / 2) (b / 2) (halves a b apart) e

-- the flag that has none
pub no_places : (i : ℕ) → has_place 0 i ≡ false
no_places zero = refl
no_places (suc i) = no_places i

-- ---- flags without a place
-- leaving out a place goes through the sum of two flags that share no bit
pub without_sum : (i a b : ℕ) → bit_and a b ≡ 0 → without (a + b) i ≡ without a i + without b i
without_sum zero a b apart = omega (arith, lows a b apart)
without_sum (suc i) a b apart =
    rw (half_sum a b apart) (omega (arith, lows a b apart, without_sum i (a / 2) (b / 2) (halves a b apart)))

-- and they still share none
pub without_apart : (i a b : ℕ) → bit_and a b ≡ 0 → bit_and (without a i) (without b i) ≡ 0
without_apart zero a b apart =
    let half_of : (c : ℕ) → 2 * (c / 2) / 2 ≡ c / 2 = λ c. omega arith in
    and_step (without a 0) (without b 0) ∙ rw (half_of a, half_of b, halves a b apart) (omega arith)
without_apart (suc i) a b apart =
    omega (
      arith,
      and_digit (a % 2) (b % 2) (without (a / 2) i) (without (b / 2) i) (omega arith) (omega arith),
      without_apart i (a / 2) (b / 2) (halves a b apart),
      lows a b apart,
    )

-- leaving out a place that is not there changes nothing
pub without_same : (i b : ℕ) → has_place b i ≡ false → without b i ≡ b
without_same zero b e = let h : b % 2 ≡ 1 → ⊥ = eqb-false (b % 2) 1 e in omega arith
without_same (suc i) b e = omega (arith, without_same i (b / 2) e)

without_le : (i b : ℕ) → without b i ≤ b
without_le zero b = omega arith
without_le (suc i) b = omega (arith, without_le i (b / 2))

-- a flag without a place is in range if the flag is
pub without_lt : (k i b : ℕ) → b < 2 ^ k → without b i < 2 ^ k
without_lt k i b h = omega (arith, without_le i b)
