-- Rows restricted to the places of a flag. First place by place, then two flags that share no bit and rows merged, then which
-- restricted rows a single, a union and a product list, then a row that fits its set.
use mathlib.Core.Bool.{Bool, ◌&&◌, ◌||◌, cond, false, not, or-false, true, true≢false}
use mathlib.Core.List.Memᴰ
use mathlib.Core.List.{List, [], ◌++◌, ◌∷◌}
use mathlib.Core.Path.{◌∙◌, ◌≡◌, ap, refl, sym}
use Prim.Native.Nat.{◌%◌, ◌+◌, ◌/◌, ◌<◌, suc, zero, ℕ}
use native.Mathlib.Omega.{arith}
use borrow.Author.Tests.{eqb-true}
use lib.Bits.{and_comm, bit_and}
use lib.Dec.{eqb, ltb}
use lib.ListN.{get_or, length, replicate}
use lib.Seq.{ext_get_or}
use Rattle.std.specs.List.{enumerate_from, list_all}
use Rattle.paper.specs.declared.Head.{Head}
use Rattle.paper.specs.Lists.{same}
use Rattle.paper.specs.Questions.{has_place, is_listed}
use Rattle.paper.specs.Refusals.{entries_fit}
use Rattle.paper.specs.Row.{Row, blank, merge, products, single_row}
use Rattle.laws.proofs.Bits.{bit_one, bit_sum}
use Rattle.laws.proofs.Listed.{in_listed, listed_in}
use Rattle.laws.proofs.Lists.{both_true, iff_eq, or_left, or_right}
use Rattle.laws.proofs.Rows.{length_merge, merge_entry}
use Rattle.laws.proofs.Shapes.{Shape, entry_blank, entry_node, merge_at, merge_at_left, merge_at_right, places_of}
use Rattle.laws.proofs.Splits.{in_products, mem_products}
use Rattle.member.specs.Rows.{stands}

-- the row, blank at the places that the flag lacks
abbrev pub restricted : ℕ → Row → Row
restricted b [] = []
restricted b (x ∷ xs) = cond (eqb (b % 2) 1) x blank ∷ restricted (b / 2) xs

-- ---- place by place
length_restricted : (b : ℕ) (row : Row) → length (restricted b row) ≡ length row
length_restricted b [] = refl
length_restricted b (x ∷ xs) = ap suc (length_restricted (b / 2) xs)

restricted_at : (b : ℕ) (row : Row) (i : ℕ) → i < length row → get_or (restricted b row) i blank ≡ cond (has_place b i) (get_or row i blank) blank
restricted_at b [] i h = absurd (omega arith)
restricted_at b (x ∷ xs) zero h = refl
restricted_at b (x ∷ xs) (suc i) h = restricted_at (b / 2) xs i (omega arith)

-- a row is the restricted one if it is so at each place
restricted_is : (b : ℕ) (row other : Row) → length other ≡ length row
    → ((i : ℕ) → i < length row → cond (has_place b i) (get_or row i blank) blank ≡ get_or other i blank) → restricted b row ≡ other
restricted_is b row other long each =
    ext_get_or blank (restricted b row) other (length_restricted b row ∙ sym long)
    (λ i h. let w : i < length row = omega (arith, length_restricted b row) in restricted_at b row i w ∙ each i w)

-- restricted to a flag with more places first, and then to the flag
restricted_within : (a c : ℕ) (row : Row) → ((i : ℕ) → has_place a i ≡ true → has_place c i ≡ true) → restricted a (restricted c row) ≡ restricted a row
restricted_within a c row more =
    restricted_is a (restricted c row) (restricted a row) (length_restricted a row ∙ sym (length_restricted c row))
    (λ i h. let w : i < length row = omega (arith, length_restricted c row) in
    rw (restricted_at c row i w, restricted_at a row i w) (go i (get_or row i blank) (has_place a i) refl))
  where
    go : (i x : ℕ) (d : Bool) → has_place a i ≡ d → cond d (cond (has_place c i) x blank) blank ≡ cond d x blank
    go i x true e = rw (more i e)
    go i x false e = refl

-- ---- two flags that share no bit
module _ (a b : ℕ) (apart : bit_and a b ≡ 0) where
  -- a row restricted to both and then to one of them
  first_of_both : (row : Row) → restricted a (restricted (a + b) row) ≡ restricted a row
  first_of_both row = restricted_within a (a + b) row (λ i e. bit_sum i a b apart ∙ or_left (has_place a i) (has_place b i) e)

  second_of_both : (row : Row) → restricted b (restricted (a + b) row) ≡ restricted b row
  second_of_both row = restricted_within b (a + b) row (λ i e. bit_sum i a b apart ∙ or_right (has_place a i) (has_place b i) e)

  -- the row restricted to each, merged
  merge_restricted : (row : Row) → restricted (a + b) row ≡ merge (restricted a row) (restricted b row)
  merge_restricted row =
      restricted_is (a + b) row (merge left right) (length_merge left right same_length ∙ length_restricted a row)
      (λ i h. rw (merge_at left right i same_length, restricted_at a row i h, restricted_at b row i h, bit_sum i a b apart)
      (go i (has_place a i) refl (has_place b i) refl (get_or row i blank)))
    where
      left : Row
      left = restricted a row

      right : Row
      right = restricted b row

      same_length : length left ≡ length right
      same_length = length_restricted a row ∙ sym (length_restricted b row)

      blank_last : (x : ℕ) (c : Bool) → eqb x blank ≡ c → x ≡ cond c blank x
      blank_last x true e = eqb-true x blank e
      blank_last x false e = refl

      go : (i : ℕ) (c : Bool) → has_place a i ≡ c → (d : Bool) → has_place b i ≡ d → (x : ℕ)
          → cond (c || d) x blank ≡ merge_entry (cond c x blank) (cond d x blank)
      go i true e true f x = absurd (true≢false (sym f ∙ bit_one i a b apart e))
      go i true e false f x = blank_last x (eqb x blank) refl
      go i false e true f x = refl
      go i false e false f x = refl

  -- rows of these flags, merged, and restricted to one of them
  module _ (x y : Row) (same_length : length x ≡ length y) (left : places_of x ≡ a) (right : places_of y ≡ b) where
    long : length (merge x y) ≡ length x
    long = length_merge x y same_length

    merged_first : restricted a (merge x y) ≡ x
    merged_first =
        restricted_is a (merge x y) x (sym long) (λ i h. let w : i < length x = omega (arith, long) in go i w (has_place a i) refl)
      where
        go : (i : ℕ) → i < length x → (c : Bool) → has_place a i ≡ c → cond c (get_or (merge x y) i blank) blank ≡ get_or x i blank
        go i w true e = merge_at_left x y i same_length (entry_node (length x) a i x refl left w e)
        go i w false e = sym (entry_blank (length x) a i x refl left w e)

    merged_second : restricted b (merge x y) ≡ y
    merged_second =
        restricted_is b (merge x y) y (sym same_length ∙ sym long) (λ i h. let w : i < length x = omega (arith, long) in go i w (has_place b i) refl)
      where
        go : (i : ℕ) → i < length x → (c : Bool) → has_place b i ≡ c → cond c (get_or (merge x y) i blank) blank ≡ get_or y i blank
        go i w true e =
            merge_at_right x y i same_length (entry_blank (length x) a i x refl left w (bit_one i b a (and_comm b a ∙ apart) e))
        go i w false e = sym (entry_blank (length x) b i y (sym same_length) right w e)

-- ---- which restricted rows are listed
-- a single lists the row at whose places its node stands; `rest` has the flag's places from i on
single_same : (n b i rest : ℕ) (row : Row) → ((j : ℕ) → has_place b (i + j) ≡ has_place rest j)
    → same (single_row (length row) n rest) (restricted rest row) ≡ list_all (λ p. not (has_place b p.0) || eqb n p.1) (enumerate_from i row)
single_same n b i rest [] left = refl
single_same n b i rest (x ∷ xs) left =
    let first : has_place b i ≡ eqb (rest % 2) 1 = (let z : i ≡ i + 0 = omega arith in ap (has_place b) z) ∙ left 0 in
    let others = single_same n b (i + 1) (rest / 2) xs (λ j. (let z : i + 1 + j ≡ i + suc j = omega arith in ap (has_place b) z) ∙ left (suc j)) in
    rw (first, others) (go (eqb (rest % 2) 1) (list_all (λ p. not (has_place b p.0) || eqb n p.1) (enumerate_from (i + 1) xs)))
  where
    go : (c more : Bool) → eqb (cond c n blank) (cond c x blank) && more ≡ (not c || eqb n x) && more
    go true more = refl
    go false more = refl

pub single_lists : (k n b : ℕ) (row : Row) → length row ≡ k → is_listed (single_row k n b ∷ []) (restricted b row) ≡ stands n b row
single_lists k n b row long =
    rw (← long) (or-false (same (single_row (length row) n b) (restricted b row))
    ∙ single_same n b 0 b row (λ j. let z : 0 + j ≡ j = omega arith in rw z))

-- a union lists the rows of both operands
pub union_lists : (left right : List Row) (row : Row) → is_listed (left ++ right) row ≡ is_listed left row || is_listed right row
union_lists [] right row = refl
union_lists (x ∷ xs) right row = rw (union_lists xs right row) (go (same x row))
  where
    go : (c : Bool) → c || (is_listed xs row || is_listed right row) ≡ (c || is_listed xs row) || is_listed right row
    go true = refl
    go false = refl

-- a product lists the row if each factor lists the row restricted to its own flag
pub product_lists : (k a b : ℕ) (left right : List Row) (row : Row) → bit_and a b ≡ 0 → Shape k a left → Shape k b right
    → is_listed (products left right) (restricted (a + b) row) ≡ is_listed left (restricted a row) && is_listed right (restricted b row)
product_lists k a b left right row apart shaped shaped' =
    iff_eq (is_listed (products left right) (restricted (a + b) row)) (is_listed left (restricted a row) && is_listed right (restricted b row)) parts whole
  where
    parts : is_listed (products left right) (restricted (a + b) row) ≡ true
        → is_listed left (restricted a row) && is_listed right (restricted b row) ≡ true
    parts e =
        let (x, y, mx, my, is) = mem_products left right (listed_in (products left right) (restricted (a + b) row) e) in
        let (lx, px, nx) = shaped x mx in
        let (ly, py, ny) = shaped' y my in
        let first : x ≡ restricted a row =
        sym (merged_first a b apart x y (lx ∙ sym ly) px py) ∙ ap (restricted a) (sym is) ∙ first_of_both a b apart row in
        let second : y ≡ restricted b row =
        sym (merged_second a b apart x y (lx ∙ sym ly) px py) ∙ ap (restricted b) (sym is) ∙ second_of_both a b apart row in
        rw (in_listed left (restricted a row) (Memᴰ.cast (sym first) mx), in_listed right (restricted b row) (Memᴰ.cast (sym second) my))

    whole : is_listed left (restricted a row) && is_listed right (restricted b row) ≡ true
        → is_listed (products left right) (restricted (a + b) row) ≡ true
    whole e =
        let (l, r) = both_true (is_listed left (restricted a row)) (is_listed right (restricted b row)) e in
        in_listed (products left right) (restricted (a + b) row)
        (Memᴰ.cast (merge_restricted a b apart row)
        (in_products left right (listed_in left (restricted a row) l) (listed_in right (restricted b row) r)))

-- ---- a row that fits is blank at the places that are not open
fits_from : (h : Head) (row : Row) (i b : ℕ) → ((j : ℕ) → has_place h.open_places (i + j) ≡ has_place b j) → entries_fit h i row ≡ true
    → restricted b row ≡ row
fits_from h [] i b same-places e = refl
fits_from h (x ∷ xs) i b same-places e =
    let first : has_place h.open_places i ≡ eqb (b % 2) 1 = (let z : i ≡ i + 0 = omega arith in ap (has_place h.open_places) z) ∙ same-places 0 in
    let (here, others) = both_true (cond (has_place h.open_places i) (ltb x h.nodes) (eqb x blank)) (entries_fit h (suc i) xs) e in
    cc (
      go (eqb (b % 2) 1) (rw first at here),
      fits_from h xs (suc i) (b / 2) (λ j. (let z : suc i + j ≡ i + suc j = omega arith in ap (has_place h.open_places) z) ∙ same-places (suc j)) others,
    )
  where
    go : (c : Bool) → cond c (ltb x h.nodes) (eqb x blank) ≡ true → cond c x blank ≡ x
    go true f = refl
    go false f = sym (eqb-true x blank f)

pub fits_restricted : (h : Head) (row : Row) → entries_fit h 0 row ≡ true → restricted h.open_places row ≡ row
fits_restricted h row e = fits_from h row 0 h.open_places (λ j. let z : 0 + j ≡ j = omega arith in rw z) e

-- with no open place it is all blank
pub restricted_none : (row : Row) → restricted 0 row ≡ replicate (length row) blank
restricted_none [] = refl
restricted_none (x ∷ xs) = rw (restricted_none xs)
