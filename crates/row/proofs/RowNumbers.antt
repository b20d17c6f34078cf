-- Rows by their numbers: that a row with a number is listed, and those of a product.
use mathlib.Core.List.{List, [], ◌∷◌, map}
use mathlib.Core.Path.{◌∙◌, ◌≡◌, ap, sym}
use Prim.Native.Nat.{◌%◌, ◌*◌, ◌+◌, ◌/◌, ◌<◌, suc, zero, ℕ}
use native.Mathlib.Nat.{div-add-mod', div-lt_iff_lt-mul, mod-lt, mul-zero, suc-mul}
use native.Mathlib.Omega.{arith}
use lib.ListN.{get_or-append, get_or, length, length-map}
use lib.Seq.{get_or-append-add}
use Rattle.std.proofs.lemmas.List.{get_or-map}
use Rattle.paper.specs.Lists.{◌∈◌}
use Rattle.paper.specs.Row.{Row, merge, products}
use Rattle.laws.proofs.Lists.{in_at}

pub row_listed : (rows : List Row) (n : ℕ) → n < length rows → get_or rows n [] ∈ rows
row_listed rows n h = in_at [] rows n h

-- ---- a product's
-- number i times the right rows and j: the left row i with the right row j
pair_row : (xs ys : List Row) (i j : ℕ) → i < length xs → j < length ys
    → get_or (products xs ys) (i * length ys + j) [] ≡ merge (get_or xs i []) (get_or ys j [])
pair_row [] ys i j hi hj = absurd (omega arith)
pair_row (x ∷ xs) ys zero j hi hj =
    let first : 0 * length ys + j ≡ j = omega arith in
    ap (λ (m : ℕ). get_or (products (x ∷ xs) ys) m []) first
    ∙ get_or-append (map (merge x) ys) (products xs ys) [] j (omega (arith, length-map ys (merge x)))
    ∙ get_or-map (merge x) ys j [] [] hj
pair_row (x ∷ xs) ys (suc i) j hi hj =
    let later : suc i * length ys + j ≡ length (map (merge x) ys) + (i * length ys + j) = omega (arith, length-map ys (merge x), suc-mul i (length ys)) in
    ap (λ (m : ℕ). get_or (products (x ∷ xs) ys) m []) later
    ∙ get_or-append-add (map (merge x) ys) (products xs ys) (i * length ys + j) []
    ∙ pair_row xs ys i j (omega arith) hj

some_factor : (a m n : ℕ) → n < a * m → 0 < m
some_factor a zero n h = absurd (omega (arith, mul-zero a))
some_factor a (suc m) n h = omega arith

-- row n of a product: n by the number of right rows, and what is over
pub record Factors (xs ys : List Row) (n : ℕ) : Type 0 where
  pub some : 0 < length ys
  pub left : n / length ys < length xs
  pub right : n % length ys < length ys
  pub row : get_or (products xs ys) n [] ≡ merge (get_or xs (n / length ys) []) (get_or ys (n % length ys) [])

pub factors : (xs ys : List Row) (n : ℕ) → n < length xs * length ys → Factors xs ys n
factors xs ys n inside = record {
  some = some;
  left = left;
  right = right;
  row = ap (λ (m : ℕ). get_or (products xs ys) m []) (sym (div-add-mod' n (length ys)))
      ∙ pair_row xs ys (n / length ys) (n % length ys) left right;
}
  where
    some : 0 < length ys
    some = some_factor (length xs) (length ys) n inside

    left : n / length ys < length xs
    left = (div-lt_iff_lt-mul some).1 inside

    right : n % length ys < length ys
    right = mod-lt n some
