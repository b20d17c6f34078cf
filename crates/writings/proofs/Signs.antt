-- What the sign of a byte says of the byte, and the decimal form of a label.
use mathlib.Core.Path.{◌≡◌, refl}
use mathlib.Core.Bool.{Bool, true, false, cond, ◌&&◌}
use mathlib.Core.Logic.{◌⊎◌, inl, inr}
use mathlib.Core.List.{[], ◌∷◌}
use Prim.Native.Nat.{ℕ, ◌+◌, ◌*◌, ◌-◌, ◌/◌, ◌%◌, ◌≤◌, ◌<◌}
use native.Mathlib.Omega.{arith}
use borrow.Author.Tests.{eqb-true, leb-true, leb-false, le-leb, lt-ltb, le-ltb}
use lib.Dec.{eqb, leb}
use Rattle.paper.specs.BracketedText.{decimal}
use Rattle.writings.specs.ReadText.{Symbol, is_blank, is_line_end, is_mark, is_opening, is_closing, is_wrong, Sign, digit, symbol, symbol_of, sign_of}

-- ---- signs
abbrev pub Stands : Symbol → ℕ → Type 0
Stands is_blank b = b ≡ 32
Stands is_line_end b = b ≡ 10
Stands is_mark b = b ≡ 33
Stands is_opening b = b ≡ 40
Stands is_closing b = b ≡ 41
Stands is_wrong b = Unit {0}

abbrev pub Means : Sign → ℕ → Type 0
Means (digit d) b = (b ≡ 48 + d) × (d ≤ 9)
Means (symbol x) b = ((b < 48) ⊎ (57 < b)) × Stands x b

symbol_stands : (b : ℕ) → Stands (symbol_of b) b
symbol_stands b = go (eqb b 32) refl (eqb b 10) refl (eqb b 33) refl (eqb b 40) refl (eqb b 41) refl
  where
    go : (p : Bool) → eqb b 32 ≡ p → (q : Bool) → eqb b 10 ≡ q → (r : Bool) → eqb b 33 ≡ r → (s : Bool) → eqb b 40 ≡ s
        → (u : Bool) → eqb b 41 ≡ u
        → Stands (cond p is_blank (cond q is_line_end (cond r is_mark (cond s is_opening (cond u is_closing is_wrong))))) b
    go true e q h r i s j u k = eqb-true b 32 e
    go false e true h r i s j u k = eqb-true b 10 h
    go false e false h true i s j u k = eqb-true b 33 i
    go false e false h false i true j u k = eqb-true b 40 j
    go false e false h false i false j true k = eqb-true b 41 k
    go false e false h false i false j false k = tt

pub sign_means : (b : ℕ) → Means (sign_of b) b
sign_means b = go (leb 48 b) refl (leb b 57) refl
  where
    go : (p : Bool) → leb 48 b ≡ p → (q : Bool) → leb b 57 ≡ q → Means (cond (p && q) (digit (b - 48)) (symbol (symbol_of b))) b
    go true e true h = omega (arith, leb-true 48 b e, leb-true b 57 h)
    go true e false h = (inr (leb-false b 57 h), symbol_stands b)
    go false e q h = (inl (leb-false 48 b e), symbol_stands b)

pub sign_digit : (d : ℕ) → d ≤ 9 → sign_of (48 + d) ≡ digit d
sign_digit d h = let z : 48 + d - 48 ≡ d = omega arith in
    rw (le-leb 48 (48 + d) (omega arith), le-leb (48 + d) 57 (omega arith), z)

-- ---- the decimal form
pub one_digit : (d : ℕ) → d ≤ 9 → decimal d ≡ (48 + d) ∷ []
one_digit d h = rw (lt-ltb d 10 (omega arith))

pub two_digits : (n d : ℕ) → 1 ≤ n → d ≤ 9 → decimal (10 * n + d) ≡ (48 + n) ∷ (48 + d) ∷ []
two_digits n d one nine =
    let q : (10 * n + d) / 10 ≡ n = omega arith in
    let r : (10 * n + d) % 10 ≡ d = omega arith in
    rw (le-ltb (10 * n + d) 10 (omega arith), q, r)
