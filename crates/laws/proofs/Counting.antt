-- How many elements a list without one twice can have, and so rows: at most 4,096 to the power of the arity, the paper's limit.
-- First lists whose elements all stand in another, then numbers below a bound, then rows, each read as a number.
use mathlib.Core.Bool.{Bool, cond, false, not, true, true≢false}
use mathlib.Core.List.Memᴰ
use mathlib.Core.List.{List, [], ◌∷◌, map}
use mathlib.Core.Logic.{⊎_elim}
use mathlib.Core.Path.{◌∙◌, ◌≡◌, ap, refl, sym}
use Prim.Native.Nat.{◌*◌, ◌+◌, ◌<◌, ◌^◌, ◌≤◌, min, suc, zero, ℕ}
use native.Mathlib.Nat.{pow-le-pow_right, pow-suc}
use native.Mathlib.Omega.{arith}
use borrow.Author.Tests.{eq-eqb, eqb-true}
use lib.Dec.{eqb}
use lib.ListN.{length, length-map}
use Rattle.paper.specs.Lists.{Once, ◌∈◌, count_from, up_to}
use Rattle.paper.specs.Row.{Row, blank}
use Rattle.paper.specs.Sound.{most_rows}
use Rattle.laws.proofs.Lists.{here, in_up_to, once_map}
use Rattle.laws.proofs.Shapes.{Shape, not_blank}

-- ---- a list without an element twice, all of them in another, is no longer
module _ {A : Type 0} (eq : A → A → Bool) (true-eq : (x y : A) → eq x y ≡ true → x ≡ y) (eq-true : (x y : A) → x ≡ y → eq x y ≡ true) where
  -- the list without the element m
  abbrev left_out : A → List A → List A
  left_out m [] = []
  left_out m (x ∷ xs) = cond (eq x m) (left_out m xs) (x ∷ left_out m xs)

  mem_left_out : (m : A) (xs : List A) (z : A) → z ∈ left_out m xs → (z ∈ xs) × (z ≡ m → ⊥)
  mem_left_out m [] z w = absurd (Memᴰ.not-nil w)
  mem_left_out m (x ∷ xs) z w = go (eq x m) refl w (mem_left_out m xs z)
    where
      further : (z ∈ xs) × (z ≡ m → ⊥) → (z ∈ x ∷ xs) × (z ≡ m → ⊥)
      further (mz, other) = (Memᴰ.tail mz, other)

      go : (c : Bool) → eq x m ≡ c → z ∈ cond c (left_out m xs) (x ∷ left_out m xs) → (z ∈ left_out m xs → (z ∈ xs) × (z ≡ m → ⊥))
          → (z ∈ x ∷ xs) × (z ≡ m → ⊥)
      go true e v ih = further (ih v)
      go false e v ih =
          ⊎_elim (λ zx. (Memᴰ.head zx, λ zm. true≢false (sym (eq-true x m (sym zx ∙ zm)) ∙ e))) (λ q. further (ih q)) (Memᴰ.cases_cons v)

  once_left_out : (m : A) (xs : List A) → Once xs → Once (left_out m xs)
  once_left_out m [] o = tt
  once_left_out m (x ∷ xs) o = go (eq x m) (once_left_out m xs o.1)
    where
      go : (c : Bool) → Once (left_out m xs) → Once (cond c (left_out m xs) (x ∷ left_out m xs))
      go true ih = ih
      go false ih = (λ w. o.0 (mem_left_out m xs x w).0, ih)

  none_left_out : (m : A) (xs : List A) → (m ∈ xs → ⊥) → left_out m xs ≡ xs
  none_left_out m [] h = refl
  none_left_out m (x ∷ xs) h = go (eq x m) refl (none_left_out m xs (λ w. h (Memᴰ.tail w)))
    where
      go : (c : Bool) → eq x m ≡ c → left_out m xs ≡ xs → cond c (left_out m xs) (x ∷ left_out m xs) ≡ x ∷ xs
      go true e ih = absurd (h (Memᴰ.head (sym (true-eq x m e))))
      go false e ih = rw ih

  left_out_length : (m : A) (xs : List A) → Once xs → length xs ≤ 1 + length (left_out m xs)
  left_out_length m [] o = omega arith
  left_out_length m (x ∷ xs) o = go (eq x m) refl (left_out_length m xs o.1)
    where
      go : (c : Bool) → eq x m ≡ c → length xs ≤ 1 + length (left_out m xs)
          → suc (length xs) ≤ 1 + length (cond c (left_out m xs) (x ∷ left_out m xs))
      go true e ih = omega (arith, ap length (none_left_out m xs (λ w. o.0 (Memᴰ.cast (true-eq x m e) w))))
      go false e ih = omega arith

  -- for each element of the other list, at most one is left out
  pub few_in : (ys xs : List A) → Once xs → ((x : A) → x ∈ xs → x ∈ ys) → length xs ≤ length ys
  few_in [] [] o h = omega arith
  few_in [] (x ∷ xs) o h = absurd (Memᴰ.not-nil (h x here))
  few_in (y ∷ ys) xs o h = omega (arith, left_out_length y xs o, few_in ys (left_out y xs) (once_left_out y xs o) others)
    where
      others : (x : A) → x ∈ left_out y xs → x ∈ ys
      others x w = let (mx, other) = mem_left_out y xs x w in ⊎_elim (λ e. absurd (other e)) (λ m. m) (Memᴰ.cases_cons (h x mx))

-- ---- numbers
-- the same for numbers
pub few_in_numbers : (ys xs : List ℕ) → Once xs → ((x : ℕ) → x ∈ xs → x ∈ ys) → length xs ≤ length ys
few_in_numbers = few_in eqb eqb-true eq-eqb

pub length_count_from : (n k : ℕ) → length (count_from k n) ≡ n
length_count_from zero k = refl
length_count_from (suc n) k = ap suc (length_count_from n (suc k))

-- numbers below a bound, none twice, are at most as many as the bound
pub few_numbers : (M : ℕ) (xs : List ℕ) → Once xs → ((x : ℕ) → x ∈ xs → x < M) → length xs ≤ M
few_numbers M xs o h = omega (arith, few_in_numbers (up_to M) xs o (λ x m. in_up_to M (h x m)), length_count_from M 0)

-- ---- rows
-- a row as a number: its entries are digits, 4,095 for a blank
code : Row → ℕ
code [] = 0
code (x ∷ xs) = min x 4095 + 4096 * code xs

code_lt : (row : Row) → code row < 4096 ^ length row
unfolding code
code_lt [] = omega arith
code_lt (x ∷ xs) = omega (arith, code_lt xs, pow-suc 4096 (length xs))

-- an entry that is no blank is a node
abbrev Nodes : Row → Type 0
Nodes row = (x : ℕ) → x ∈ row → not_blank x ≡ true → x < 4095

digit_inj : (x y : ℕ) → (not_blank x ≡ true → x < 4095) → (not_blank y ≡ true → y < 4095) → min x 4095 ≡ min y 4095 → x ≡ y
digit_inj x y hx hy e = go (eqb x blank) refl (eqb y blank) refl
  where
    go : (c : Bool) → eqb x blank ≡ c → (d : Bool) → eqb y blank ≡ d → x ≡ y
    go true f true g = eqb-true x blank f ∙ sym (eqb-true y blank g)
    go true f false g = absurd (omega (arith, eqb-true x blank f, hy (ap not g)))
    go false f true g = absurd (omega (arith, hx (ap not f), eqb-true y blank g))
    go false f false g = omega (arith, hx (ap not f), hy (ap not g))

code_inj : (x y : Row) → length x ≡ length y → Nodes x → Nodes y → code x ≡ code y → x ≡ y
unfolding code
code_inj [] [] l hx hy e = refl
code_inj [] (y ∷ ys) l hx hy e = absurd (omega arith)
code_inj (x ∷ xs) [] l hx hy e = absurd (omega arith)
code_inj (x ∷ xs) (y ∷ ys) l hx hy e =
    let head = digit_inj x y (hx x here) (hy y here) (omega arith) in
    let tail = code_inj xs ys (omega arith) (λ z m. hx z (Memᴰ.tail m)) (λ z m. hy z (Memᴰ.tail m)) (omega arith) in
    cc (head, tail)

-- so rows that fill the same places, none twice, are at most 4,096 to the power of the arity
pub rows_within : (k b : ℕ) (rows : List Row) → Shape k b rows → Once rows → length rows ≤ 4096 ^ k
rows_within k b rows shape o = rw (length-map rows code) at (few_numbers (4096 ^ k) (map code rows) codes_once codes_below)
  where
    codes_once : Once (map code rows)
    codes_once =
        once_map rows code o
        (λ x z m n e.
        let (lx, fx, nx) = shape x m in
        let (lz, fz, nz) = shape z n in
        code_inj x z (lx ∙ sym lz) nx nz e)

    codes_below : (x : ℕ) → x ∈ map code rows → x < 4096 ^ k
    codes_below x m =
        let (row, mr, e) = Memᴰ.of_map code rows m in
        rw (e, (shape row mr).0) at (code_lt row)

-- a list of rows without a row twice is within the paper's limit, 4,096 to the power of 4
pub within_most_rows : (k b : ℕ) (rows : List Row) → k ≤ 4 → Shape k b rows → Once rows → length rows ≤ most_rows
within_most_rows k b rows few shape o =
    let limit : 4096 ^ k ≤ most_rows = pow-le-pow_right (omega arith) few in
    omega (arith, rows_within k b rows shape o)
