-- Rows by the places that they fill: what stands at a place of the flag, and what at another.
-- First any row, then a single row, then two rows merged, then lists of rows that all fill the same places.
use mathlib.Core.Bool.{Bool, cond, false, false≢true, not, true}
use mathlib.Core.List.Memᴰ
use mathlib.Core.List.{List, [], ◌∷◌}
use mathlib.Core.Logic.{◌⊎◌, inl, inr, ⊎_elim}
use mathlib.Core.Path.{◌∙◌, ◌≡◌, ap, ap₂, refl, sym}
use Prim.Native.Nat.{◌%◌, ◌*◌, ◌+◌, ◌/◌, ◌<◌, ◌^◌, ◌≤◌, min, suc, zero, ℕ}
use native.Mathlib.Omega.{arith}
use borrow.Author.Tests.{eq-eqb, eqb-true, ne_eqb, not-false, not-true}
use lib.Bits.{and_comm, bit_and}
use lib.Dec.{eqb}
use lib.ListN.{get_or, length, set}
use lib.Seq.{ext_get_or}
use Rattle.paper.specs.Lists.{◌∈◌}
use Rattle.paper.specs.Questions.{has_place, without}
use Rattle.paper.specs.Row.{Row, blank, flag_of, mark, merge, products, single_row}
use Rattle.laws.proofs.Bits.{bit_one}
use Rattle.laws.proofs.Lists.{only, which}
use Rattle.laws.proofs.Rows.{bit, bit_lt, flag_of_and, flag_of_single, half, is, keep, keep_single, length_merge, length_single, merge_entry}
use Rattle.laws.proofs.Rows.{odd}
use Rattle.laws.proofs.Splits.{mem_products}

-- ---- any row
abbrev pub not_blank : ℕ → Bool
not_blank x = not (eqb x blank)

-- the flag of the places that a row fills
abbrev pub places_of : Row → ℕ
places_of row = flag_of not_blank row

bit_is_one : (c : Bool) → eqb (bit c) 1 ≡ c
bit_is_one true = refl
bit_is_one false = refl

-- a row's flag has the places whose entry passes the test
pub bit_flag_of : (p : ℕ → Bool) (row : Row) (i : ℕ) → i < length row → has_place (flag_of p row) i ≡ p (get_or row i blank)
bit_flag_of p [] i h = absurd (omega arith)
bit_flag_of p (x ∷ xs) zero h = rw (odd (bit (p x)) (flag_of p xs) (bit_lt (p x))) (bit_is_one (p x))
bit_flag_of p (x ∷ xs) (suc i) h = rw (half (bit (p x)) (flag_of p xs) (bit_lt (p x))) (bit_flag_of p xs i (omega arith))

module _ (k b i : ℕ) (row : Row) (long : length row ≡ k) (fills : places_of row ≡ b) (inside : i < k) where
  entry_place : not_blank (get_or row i blank) ≡ has_place b i
  entry_place = sym (bit_flag_of not_blank row i (omega arith)) ∙ ap (λ (z : ℕ). has_place z i) fills

  -- a row is blank at a place that is not in its flag
  pub entry_blank : has_place b i ≡ false → get_or row i blank ≡ blank
  entry_blank e = eqb-true (get_or row i blank) blank (not-false (eqb (get_or row i blank) blank) (entry_place ∙ e))

  -- and not blank at one that is
  pub entry_node : has_place b i ≡ true → eqb (get_or row i blank) blank ≡ false
  entry_node e = not-true (eqb (get_or row i blank) blank) (entry_place ∙ e)

-- ---- a single row
-- node n at the places of the flag
pub single_at : (k n b i : ℕ) → i < k → get_or (single_row k n b) i blank ≡ cond (has_place b i) n blank
single_at zero n b i h = absurd (omega arith)
single_at (suc k) n b zero h = refl
single_at (suc k) n b (suc i) h = single_at k n (b / 2) i (omega arith)

-- a place blanked is left out of the flag
pub set_single : (k n b i : ℕ) → set (single_row k n b) i blank ≡ single_row k n (without b i)
set_single zero n b i = refl
set_single (suc k) n b zero =
    let low : 2 * (b / 2) % 2 ≡ 0 = omega arith in
    let high : 2 * (b / 2) / 2 ≡ b / 2 = omega arith in
    rw (low, high)
set_single (suc k) n b (suc i) =
    let w = without (b / 2) i in
    let low : (b % 2 + 2 * w) % 2 ≡ b % 2 = omega arith in
    let high : (b % 2 + 2 * w) / 2 ≡ w = omega arith in
    rw (low, high, set_single k n (b / 2) i)

-- what of a row is node n fills the places where n stands
places_keep : (n : ℕ) → (n ≡ blank → ⊥) → (row : Row) → places_of (keep (is n) row) ≡ mark row n
places_keep n not_blank_lem [] = refl
places_keep n not_blank_lem (x ∷ xs) = rw (one (eqb x n) refl, places_keep n not_blank_lem xs)
  where
    one : (c : Bool) → eqb x n ≡ c → not_blank (cond c x blank) ≡ c
    one true e = ap not (ne_eqb x blank (λ w. not_blank_lem (sym (eqb-true x n e) ∙ w)))
    one false e = refl

places_single : (n : ℕ) → (n ≡ blank → ⊥) → (k b : ℕ) → b < 2 ^ k → places_of (single_row k n b) ≡ b
places_single n not_blank_lem k b h =
    ap places_of (sym (keep_single n not_blank_lem k b)) ∙ places_keep n not_blank_lem (single_row k n b) ∙ flag_of_single n not_blank_lem k b h

single_entries : (k n b x : ℕ) → x ∈ single_row k n b → (x ≡ n) ⊎ (x ≡ blank)
single_entries zero n b x m = absurd (Memᴰ.not-nil m)
single_entries (suc k) n b x m = ⊎_elim (go (eqb (b % 2) 1)) (single_entries k n (b / 2) x) (Memᴰ.cases_cons m)
  where
    go : (c : Bool) → x ≡ cond c n blank → (x ≡ n) ⊎ (x ≡ blank)
    go true e = inl e
    go false e = inr e

-- ---- two rows merged
pub merge_at : (x y : Row) (i : ℕ) → length x ≡ length y → get_or (merge x y) i blank ≡ merge_entry (get_or x i blank) (get_or y i blank)
merge_at [] [] i h = refl
merge_at [] (y ∷ ys) i h = absurd (omega arith)
merge_at (x ∷ xs) [] i h = absurd (omega arith)
merge_at (x ∷ xs) (y ∷ ys) zero h = refl
merge_at (x ∷ xs) (y ∷ ys) (suc i) h = merge_at xs ys i (omega arith)

-- where the left row has a node, it stands there
pub merge_at_left : (x y : Row) (i : ℕ) → length x ≡ length y → eqb (get_or x i blank) blank ≡ false
    → get_or (merge x y) i blank ≡ get_or x i blank
merge_at_left x y i h e = merge_at x y i h ∙ rw e refl

-- where the left row is blank, the right row's entry does
pub merge_at_right : (x y : Row) (i : ℕ) → length x ≡ length y → get_or x i blank ≡ blank → get_or (merge x y) i blank ≡ get_or y i blank
merge_at_right x y i h e = merge_at x y i h ∙ rw (eq-eqb (get_or x i blank) blank e) refl

-- a place at which the right row is blank is blanked in the left row
pub set_left : (x y : Row) (i : ℕ) → length x ≡ length y → get_or y i blank ≡ blank → set (merge x y) i blank ≡ merge (set x i blank) y
set_left [] y i h e = refl
set_left (x ∷ xs) [] i h e = absurd (omega arith)
set_left (x ∷ xs) (y ∷ ys) zero h e = rw e
set_left (x ∷ xs) (y ∷ ys) (suc i) h e = rw (set_left xs ys i (omega arith) e)

-- and the other way round
pub set_right : (x y : Row) (i : ℕ) → length x ≡ length y → get_or x i blank ≡ blank → set (merge x y) i blank ≡ merge x (set y i blank)
set_right [] y i h e = refl
set_right (x ∷ xs) [] i h e = absurd (omega arith)
set_right (x ∷ xs) (y ∷ ys) zero h e = rw e
set_right (x ∷ xs) (y ∷ ys) (suc i) h e = rw (set_right xs ys i (omega arith) e)

bit_merge : (x y : ℕ) → min (bit (not_blank x)) (bit (not_blank y)) ≡ 0
    → bit (not_blank (merge_entry x y)) ≡ bit (not_blank x) + bit (not_blank y)
bit_merge x y h = go (eqb x blank) refl (eqb y blank) refl h
  where
    go : (c : Bool) → eqb x blank ≡ c → (d : Bool) → eqb y blank ≡ d → min (bit (not c)) (bit (not d)) ≡ 0
        → bit (not_blank (cond c y x)) ≡ bit (not c) + bit (not d)
    go true e true f m = rw f
    go true e false f m = rw f
    go false e true f m = rw e
    go false e false f m = absurd (let z : ◌≡◌ {A = ℕ} 1 0 = m in omega arith)

-- rows that share no place: their merger fills the places of both
pub flag_of_merge : (x y : Row) → length x ≡ length y → bit_and (places_of x) (places_of y) ≡ 0 → places_of (merge x y) ≡ places_of x + places_of y
flag_of_merge [] [] h apart = refl
flag_of_merge [] (y ∷ ys) h apart = absurd (omega arith)
flag_of_merge (x ∷ xs) [] h apart = absurd (omega arith)
flag_of_merge (x ∷ xs) (y ∷ ys) h apart =
    let both = flag_of_and not_blank not_blank x y xs ys in
    omega (arith, bit_merge x y (omega (arith, both)), flag_of_merge xs ys (omega arith) (omega (arith, both)))

merge_entries : (x y : Row) (z : ℕ) → z ∈ merge x y → (z ∈ x) ⊎ (z ∈ y)
merge_entries [] y z m = absurd (Memᴰ.not-nil m)
merge_entries (x ∷ xs) [] z m = inl m
merge_entries (x ∷ xs) (y ∷ ys) z m =
    ⊎_elim (go (eqb x blank)) (λ w. ⊎_elim (λ v. inl (Memᴰ.tail v)) (λ v. inr (Memᴰ.tail v)) (merge_entries xs ys z w))
    (Memᴰ.cases_cons m)
  where
    go : (c : Bool) → z ≡ cond c y x → (z ∈ x ∷ xs) ⊎ (z ∈ y ∷ ys)
    go true e = inr (Memᴰ.head e)
    go false e = inl (Memᴰ.head e)

-- rows that share no place can be read off their merger: at a place of b stands the left entry, at a place of c the right one
pub merge_inj : (b c : ℕ) (x x' y y' : Row) → bit_and b c ≡ 0 → places_of x ≡ b → places_of x' ≡ b → places_of y ≡ c → places_of y' ≡ c
    → length x ≡ length x' → length x ≡ length y → length x' ≡ length y' → merge x y ≡ merge x' y' → (x ≡ x') × (y ≡ y')
merge_inj b c x x' y y' apart fx fx' fy fy' l lx lx' e =
    (ext_get_or blank x x' l lefts, ext_get_or blank y y' (sym lx ∙ l ∙ lx') (λ i w. rights i (omega arith)))
  where
    k : ℕ
    k = length x

    same_at : (i : ℕ) → get_or (merge x y) i blank ≡ get_or (merge x' y') i blank
    same_at i = ap (λ (z : Row). get_or z i blank) e

    lefts : (i : ℕ) → i < k → get_or x i blank ≡ get_or x' i blank
    lefts i w = ⊎_elim there elsewhere (which (has_place b i))
      where
        there : has_place b i ≡ true → get_or x i blank ≡ get_or x' i blank
        there h =
            sym (merge_at_left x y i lx (entry_node k b i x refl fx w h))
            ∙ same_at i
            ∙ merge_at_left x' y' i lx' (entry_node k b i x' (sym l) fx' w h)

        elsewhere : has_place b i ≡ false → get_or x i blank ≡ get_or x' i blank
        elsewhere h = entry_blank k b i x refl fx w h ∙ sym (entry_blank k b i x' (sym l) fx' w h)

    rights : (i : ℕ) → i < k → get_or y i blank ≡ get_or y' i blank
    rights i w = ⊎_elim there elsewhere (which (has_place c i))
      where
        there : has_place c i ≡ true → get_or y i blank ≡ get_or y' i blank
        there h =
            let left : has_place b i ≡ false = bit_one i c b (and_comm c b ∙ apart) h in
            sym (merge_at_right x y i lx (entry_blank k b i x refl fx w left))
            ∙ same_at i
            ∙ merge_at_right x' y' i lx' (entry_blank k b i x' (sym l) fx' w left)

        elsewhere : has_place c i ≡ false → get_or y i blank ≡ get_or y' i blank
        elsewhere h = entry_blank k c i y (sym lx) fy w h ∙ sym (entry_blank k c i y' (sym (l ∙ lx')) fy' w h)

-- ---- lists of rows that fill the same places
-- every row of the list has this length, these places filled, and nodes of a tree with N nodes there
abbrev pub ShapeBelow : ℕ → ℕ → ℕ → List Row → Type 0
ShapeBelow N k b rows = (row : Row) → row ∈ rows → (length row ≡ k) × (places_of row ≡ b) × ((x : ℕ) → x ∈ row → not_blank x ≡ true → x < N)

-- the same with the nodes of the largest tree
abbrev pub Shape : ℕ → ℕ → List Row → Type 0
Shape = ShapeBelow 4095

pub shape_few : (N : ℕ) → N ≤ 4095 → (k b : ℕ) (rows : List Row) → ShapeBelow N k b rows → Shape k b rows
shape_few N few k b rows s row m =
    let (long, fills, nodes) = s row m in
    (long, fills, λ x w f. omega (arith, few, nodes x w f))

-- the list of a single has its flag's places
pub shape_single : (k N : ℕ) → N ≤ 4095 → (n b : ℕ) → n < N → b < 2 ^ k → ShapeBelow N k b (single_row k n b ∷ [])
shape_single k N few n b node small row m =
    let not_blank_lem : n ≡ blank → ⊥ = λ e. omega arith in
    rw (only m) (
      length_single k n b,
      places_single n not_blank_lem k b small,
      λ x w f. ⊎_elim (λ e. omega arith) (λ e. absurd (false≢true (ap not (sym (eq-eqb x blank e)) ∙ f))) (single_entries k n b x w),
    )

-- the list of a product has the places of both factors, which share none
pub shape_product : (N k b c : ℕ) (xs ys : List Row) → bit_and b c ≡ 0 → ShapeBelow N k b xs → ShapeBelow N k c ys
    → ShapeBelow N k (b + c) (products xs ys)
shape_product N k b c xs ys apart hx hy row m =
    let (x, y, mx, my, e) = mem_products xs ys m in
    let (lx, fx, nx) = hx x mx in
    let (ly, fy, ny) = hy y my in
    rw e (
      length_merge x y (lx ∙ sym ly) ∙ lx,
      flag_of_merge x y (lx ∙ sym ly) (ap₂ bit_and fx fy ∙ apart) ∙ ap₂ (λ (u v : ℕ). u + v) fx fy,
      λ z w f. ⊎_elim (λ v. nx z v f) (λ v. ny z v f) (merge_entries x y z w),
    )
