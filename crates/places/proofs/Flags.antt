-- A place of a flag: taken away as a bit; and none at an index where the flag has no digit.
use mathlib.Core.Bool.{false}
use mathlib.Core.Path.{◌∙◌, ◌≡◌, ap}
use Prim.Native.Nat.{◌%◌, ◌*◌, ◌+◌, ◌-◌, ◌/◌, ◌<◌, ◌^◌, ◌≤◌, suc, zero, ℕ}
use native.Mathlib.Omega.{arith}
use borrow.Author.Tests.{ne_eqb}
use lib.Bits.{and_step, and_zero_r, bit_and}
use lib.Pow.{pow_mono, shl_exact}
use Rattle.paper.specs.Questions.{has_place, without}

-- ---- taken away
-- the lowest bit
low_bit : (b : ℕ) → bit_and b (2 ^ 0) ≡ b % 2
low_bit b = omega (arith, and_step b 1, and_zero_r (b / 2))

-- and the others
next_bit : (b i : ℕ) → bit_and b (2 ^ suc i) ≡ bit_and (b / 2) (2 ^ i) * 2
next_bit b i =
    let half : 2 ^ suc i / 2 ≡ 2 ^ i = omega arith in
    let even : 2 ^ suc i % 2 ≡ 0 = omega arith in
    omega (arith, and_step b (2 ^ suc i), ap (bit_and (b / 2)) half)

-- the flag is the one without the place, and the bit
with_bit : (i b : ℕ) → without b i + bit_and b (2 ^ i) ≡ b
with_bit zero b = omega (arith, low_bit b)
with_bit (suc i) b = omega (arith, next_bit b i, with_bit i (b / 2))

-- the bit is 1 shifted, of which nothing is lost
pub place_taken : (b i : ℕ) → i < 16 → b - bit_and b (1 * 2 ^ i % 65536) ≡ without b i
place_taken b i h =
    omega (arith, ap (bit_and b) (shl_exact {a = 1} 1 i 16 (omega arith) (omega arith) ∙ let z : 1 * 2 ^ i ≡ 2 ^ i = omega arith in z), with_bit i b)

-- ---- above the flag
no_place : (i b : ℕ) → b < 2 ^ i → has_place b i ≡ false
no_place zero b h = ne_eqb (b % 2) 1 (λ w. omega arith)
no_place (suc i) b h = no_place i (b / 2) (omega arith)

-- a flag of sixteen digits
pub beyond : (i b : ℕ) → b < 65536 → 16 ≤ i → has_place b i ≡ false
beyond i b h g = no_place i b (omega (arith, pow_mono g))
