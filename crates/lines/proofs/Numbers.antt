-- A number as text has the fewest digits that hold it, as `io::decimal` makes it: so both are one text, of at most 20 digits.
use mathlib.Core.Bool.{Bool, cond, false, true}
use mathlib.Core.List.{List, [], ◌∷◌}
use mathlib.Core.Path.{◌∙◌, ◌≡◌, ap, refl}
use Prim.Native.Nat.{◌%◌, ◌*◌, ◌+◌, ◌-◌, ◌/◌, ◌<◌, ◌^◌, ◌≤◌, suc, zero, ℕ}
use native.Mathlib.Nat.{one-le-pow, pow-le-pow_right, pow-suc, pow-zero}
use native.Mathlib.Numerals.{add-one}
use native.Mathlib.Omega.{arith}
use borrow.Author.Tests.{leb-false, leb-true, ltb-false, ltb-true}
use lib.Dec.{leb, ltb}
use lib.ListN.{length, length-append, take}
use Rattle.io.specs.Digits.{IsDigitCount, last_digits, hex_digit_ascii}
use Rattle.lines.specs.Text.{digits_of, number_text}

length_digits : (k n : ℕ) → length (last_digits 10 k n) ≡ k
length_digits zero n = refl
length_digits (suc k) n =
    length-append (last_digits 10 k (n / 10)) (hex_digit_ascii (n % 10) ∷ []) ∙ ap (λ (j : ℕ). j + 1) (length_digits k (n / 10)) ∙ add-one k

-- one digit more is ten times as much
more : (k : ℕ) → 10 ^ (suc k) ≡ 10 * 10 ^ k
more k = omega (arith, pow-suc 10 k)

-- a number below 10 has one digit, any other one more than its tenth
fewest_one : (n k : ℕ) → n < 10 → IsDigitCount 10 1 n (suc k) → k ≡ 0
fewest_one n zero low e = refl
fewest_one n (suc k) low e =
    let least : 10 ^ (suc k) ≤ n = rw (let z : suc (suc k) - 1 ≡ suc k = omega arith in z) at (e.2 (omega arith)) in
    absurd (omega (arith, least, more k, one-le-pow k 10 (omega arith)))

fewest_tenth : (n k : ℕ) → 10 ≤ n → IsDigitCount 10 1 n (suc k) → IsDigitCount 10 1 (n / 10) k
fewest_tenth n zero high e = absurd (omega (arith, e.1, more 0, pow-zero 10))
fewest_tenth n (suc k) high e = (
  omega arith,
  omega (arith, e.1, more (suc k)),
  λ some.
      let least : 10 ^ (suc k) ≤ n = rw (let z : suc (suc k) - 1 ≡ suc k = omega arith in z) at (e.2 (omega arith)) in
      rw (let z : suc k - 1 ≡ k = omega arith in z) (omega (arith, least, more k)),
)

-- the fewest digits are as many as the definition says, if those are enough
fewest_is : (most n k : ℕ) → k ≤ most + 1 → IsDigitCount 10 1 n k → k ≡ digits_of most n
fewest_is most n zero few e = absurd (omega (arith, e.0))
fewest_is zero n (suc k) few e = omega (arith, few)
fewest_is (suc most) n (suc k) few e = go (ltb n 10) refl (fewest_is most (n / 10) k (omega (arith, few)))
  where
    go : (c : Bool) → ltb n 10 ≡ c → (IsDigitCount 10 1 (n / 10) k → k ≡ digits_of most (n / 10)) → suc k ≡ cond c 1 (1 + digits_of most (n / 10))
    go true t tenth = omega (arith, fewest_one n k (ltb-true n 10 t) e)
    go false t tenth = omega (arith, tenth (fewest_tenth n k (ltb-false n 10 t) e))

decimal_is : (n k : ℕ) → k ≤ 20 → IsDigitCount 10 1 n k → last_digits 10 k n ≡ number_text n
decimal_is n k few e = ap (λ (j : ℕ). last_digits 10 j n) (fewest_is 19 n k few e)

digits_few : (most n : ℕ) → digits_of most n ≤ most + 1
digits_few zero n = omega arith
digits_few (suc most) n = go (ltb n 10) (digits_few most (n / 10))
  where
    go : (c : Bool) → digits_of most (n / 10) ≤ most + 1 → cond c 1 (1 + digits_of most (n / 10)) ≤ suc most + 1
    go true few = omega arith
    go false few = omega (arith, few)

pub number_short : (n : ℕ) → length (number_text n) ≤ 20
number_short n = omega (arith, length_digits (digits_of 19 n) n, digits_few 19 n)

-- a number of 64 bits has at most 20 digits
decimal_short : (n k : ℕ) → n < 2 ^ 64 → IsDigitCount 10 1 n k → k ≤ 20
decimal_short n k low e = go (leb k 20) refl
  where
    go : (c : Bool) → leb k 20 ≡ c → k ≤ 20
    go true t = leb-true k 20 t
    go false t =
        let many : 20 ≤ k - 1 = omega (arith, leb-false k 20 t) in
        let most : 10 ^ 20 ≤ 10 ^ (k - 1) = pow-le-pow_right (omega arith) many in
        absurd (omega (arith, most, e.2 (omega (arith, many)), low))

-- the digits that `io::decimal` makes are the number's text
pub decimal_text : (n k : ℕ) (made : List ℕ) → n < 2 ^ 64 → IsDigitCount 10 1 n k → take k made ≡ last_digits 10 k n → take k made ≡ number_text n
decimal_text n k made low few e = e ∙ decimal_is n k (decimal_short n k low few) few
