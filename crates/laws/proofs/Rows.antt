-- Facts about rows, for the slots of a tree: what of a row lies among the nodes that pass a test.
-- In order: binary digits; the flag of a row and the row blanked outside a test, for one test and for two that no number passes both;
-- merging two rows that share no place; the row of one node.
use mathlib.Core.Bool.{Bool, ◌||◌, cond, false, false≢true, true, true≢false}
use mathlib.Core.List.{[], ◌∷◌, head-eq_of_cons-eq, tail-eq_of_cons-eq}
use mathlib.Core.Logic.{⊎_elim}
use mathlib.Core.Path.{◌∙◌, ◌≡◌, ap, refl, sym}
use Prim.Native.Nat.{◌%◌, ◌*◌, ◌+◌, ◌/◌, ◌<◌, ◌^◌, min, suc, zero, ℕ}
use native.Mathlib.Nat.{pow-suc}
use native.Mathlib.Omega.{arith}
use borrow.Author.Tests.{eq-eqb, eqb-false, eqb-true, ne_eqb}
use lib.Bits.{and_step, bit_and}
use lib.Dec.{eqb}
use lib.ListN.{length}
use Rattle.paper.specs.Row.{Row, blank, flag_of, mark, merge, single_row}
use Rattle.laws.proofs.Lists.{not_then_false, which}

-- an entry, blank if it fails the test
abbrev pub keep_entry : (ℕ → Bool) → ℕ → ℕ
keep_entry p x = cond (p x) x blank

-- a row, blank where an entry fails the test
abbrev pub keep : (ℕ → Bool) → Row → Row
keep p [] = []
keep p (x ∷ xs) = keep_entry p x ∷ keep p xs

-- one entry of a merger
abbrev pub merge_entry : ℕ → ℕ → ℕ
merge_entry x y = cond (eqb x blank) y x

-- the test for one node
abbrev pub is : ℕ → ℕ → Bool
is n x = eqb x n

-- the test for one of two
abbrev pub either : (ℕ → Bool) → (ℕ → Bool) → ℕ → Bool
either p q x = p x || q x

-- no number passes both tests
abbrev pub Apart : (ℕ → Bool) → (ℕ → Bool) → Type 0
Apart p q = (x : ℕ) → p x ≡ true → q x ≡ true → ⊥

-- ---- binary digits
-- half of a number whose lowest digit is c and whose other digits are those of m
pub half : (c m : ℕ) → c < 2 → (c + 2 * m) / 2 ≡ m
half c m h = omega arith

-- its lowest digit
pub odd : (c m : ℕ) → c < 2 → (c + 2 * m) % 2 ≡ c
odd c m h = omega arith

-- the bits that two such numbers share
pub and_digit : (c d m n : ℕ) → c < 2 → d < 2 → bit_and (c + 2 * m) (d + 2 * n) ≡ bit_and m n * 2 + min c d
and_digit c d m n hc hd = and_step (c + 2 * m) (d + 2 * n) ∙ rw (half c m hc, half d n hd, odd c m hc, odd d n hd)

-- a test as a digit
abbrev pub bit : Bool → ℕ
bit b = cond b 1 0

-- it is 0 or 1
pub bit_lt : (b : Bool) → bit b < 2
bit_lt true = omega arith
bit_lt false = omega arith

bit_or : (a b : Bool) → (a ≡ true → b ≡ true → ⊥) → bit (a || b) ≡ bit a + bit b
bit_or true true apart = absurd (apart refl refl)
bit_or true false apart = refl
bit_or false true apart = refl
bit_or false false apart = refl

bit_min : (a b : Bool) → (a ≡ true → b ≡ true → ⊥) → min (bit a) (bit b) ≡ 0
bit_min true true apart = absurd (apart refl refl)
bit_min true false apart = refl
bit_min false true apart = refl
bit_min false false apart = refl

not_both : (a b : Bool) → min (bit a) (bit b) ≡ 0 → a ≡ true → b ≡ false
not_both true true e h = absurd (let z : ◌≡◌ {A = ℕ} 1 0 = e in omega arith)
not_both true false e h = refl
not_both false b e h = absurd (false≢true h)

-- ---- the flag of a row, and the row blanked outside a test
-- blanking keeps the length
pub length_keep : (p : ℕ → Bool) (row : Row) → length (keep p row) ≡ length row
length_keep p [] = refl
length_keep p (x ∷ xs) = ap suc (length_keep p xs)

-- a flag has a bit for each place and no more
pub flag_of_lt : (p : ℕ → Bool) (row : Row) → flag_of p row < 2 ^ length row
flag_of_lt p [] = omega arith
flag_of_lt p (x ∷ xs) = omega (arith, flag_of_lt p xs, bit_lt (p x), pow-suc 2 (length xs))

-- the bits that two flags share, at the first place and at the others
pub flag_of_and : (p q : ℕ → Bool) (x y : ℕ) (xs ys : Row)
    → bit_and (flag_of p (x ∷ xs)) (flag_of q (y ∷ ys)) ≡ bit_and (flag_of p xs) (flag_of q ys) * 2 + min (bit (p x)) (bit (q y))
flag_of_and p q x y xs ys = and_digit (bit (p x)) (bit (q y)) (flag_of p xs) (flag_of q ys) (bit_lt (p x)) (bit_lt (q y))

-- tests that agree give the same flag
pub flag_of_cong : (p q : ℕ → Bool) → ((x : ℕ) → p x ≡ q x) → (row : Row) → flag_of p row ≡ flag_of q row
flag_of_cong p q agree [] = refl
flag_of_cong p q agree (x ∷ xs) = rw (agree x, flag_of_cong p q agree xs)

-- and blank the same entries
pub keep_cong : (p q : ℕ → Bool) → ((x : ℕ) → p x ≡ q x) → (row : Row) → keep p row ≡ keep q row
keep_cong p q agree [] = refl
keep_cong p q agree (x ∷ xs) = rw (agree x, keep_cong p q agree xs)

-- q asks more than p: the entries that fail p may be blanked before q is asked
module _ (p q : ℕ → Bool) (q-blank : q blank ≡ false) (more : (x : ℕ) → q x ≡ true → p x ≡ true) where
  entry_passes : (x : ℕ) → q (keep_entry p x) ≡ q x
  entry_passes x = ⊎_elim (λ e. rw e) (λ e. rw e (q-blank ∙ sym (fails e))) (which (p x))
    where
      fails : p x ≡ false → q x ≡ false
      fails e = not_then_false (q x) (λ t. true≢false (sym (more x t) ∙ e))

  -- q's flag stays
  pub flag_of_keep : (row : Row) → flag_of q (keep p row) ≡ flag_of q row
  flag_of_keep [] = refl
  flag_of_keep (x ∷ xs) = rw (entry_passes x, flag_of_keep xs)

  entry_kept : (x : ℕ) → keep_entry q (keep_entry p x) ≡ keep_entry q x
  entry_kept x = rw (entry_passes x) (⊎_elim (λ e. rw (e, more x e)) (λ e. rw e) (which (q x)))

  -- and q blanks the same
  pub keep_keep : (row : Row) → keep q (keep p row) ≡ keep q row
  keep_keep [] = refl
  keep_keep (x ∷ xs) = cc (entry_kept x, keep_keep xs)

-- ---- two tests that no number passes both
module _ (p q : ℕ → Bool) (apart : Apart p q) where
  -- a row's flag for one of the two tests is the sum of its flags for each
  pub flag_of_either : (row : Row) → flag_of (either p q) row ≡ flag_of p row + flag_of q row
  flag_of_either [] = refl
  flag_of_either (x ∷ xs) = omega (arith, bit_or (p x) (q x) (apart x), flag_of_either xs)

  -- and those two share no bit
  pub flag_of_apart : (row : Row) → bit_and (flag_of p row) (flag_of q row) ≡ 0
  flag_of_apart [] = refl
  flag_of_apart (x ∷ xs) = omega (arith, flag_of_and p q x x xs xs, bit_min (p x) (q x) (apart x), flag_of_apart xs)

-- ---- merging
-- a merger of two rows of one length has that length
pub length_merge : (x y : Row) → length x ≡ length y → length (merge x y) ≡ length x
length_merge [] ys h = refl
length_merge (x ∷ xs) [] h = refl
length_merge (x ∷ xs) (y ∷ ys) h = ap suc (length_merge xs ys (omega arith))

-- what of a row passes p or q is what passes p, merged with what passes q
pub keep_merge : (p q : ℕ → Bool) → p blank ≡ false → (row : Row) → keep (either p q) row ≡ merge (keep p row) (keep q row)
keep_merge p q p-blank [] = refl
keep_merge p q p-blank (x ∷ xs) = cc (⊎_elim passes fails (which (p x)), keep_merge p q p-blank xs)
  where
    passes : p x ≡ true → keep_entry (either p q) x ≡ merge_entry (keep_entry p x) (keep_entry q x)
    passes e = rw (e, ne_eqb x blank (λ w. true≢false (sym e ∙ ap p w ∙ p-blank)))

    fails : p x ≡ false → keep_entry (either p q) x ≡ merge_entry (keep_entry p x) (keep_entry q x)
    fails e = rw e

-- x has nodes only where p holds, y only where q does, and they share no place: their merger shows both again
module _ (p q : ℕ → Bool) (p-blank : p blank ≡ false) (apart : Apart p q) where
  pub record Fitting (x y : Row) : Type 0 where
    pub same_length : length x ≡ length y
    pub first_kept : keep p x ≡ x
    pub second_kept : keep q y ≡ y
    pub shares_none : bit_and (flag_of p x) (flag_of q y) ≡ 0

  -- what stands at one place: a node of the left row, or the right row's entry
  data Met (x y : ℕ) : Type 0 where
    first : p x ≡ true → q x ≡ false → y ≡ blank → merge_entry x y ≡ x → Met x y
    second : x ≡ blank → p y ≡ false → keep_entry q y ≡ y → merge_entry x y ≡ y → Met x y

  met : (x y : ℕ) → keep_entry p x ≡ x → keep_entry q y ≡ y → min (bit (p x)) (bit (q y)) ≡ 0 → Met x y
  met x y hx hy none = ⊎_elim passes fails (which (p x))
    where
      passes : p x ≡ true → Met x y
      passes e =
          let f : q y ≡ false = not_both (p x) (q y) none e in
          let node : eqb x blank ≡ false = ne_eqb x blank (λ w. true≢false (sym e ∙ ap p w ∙ p-blank)) in
          first e (not_then_false (q x) (apart x e)) (sym hy ∙ rw f refl) (rw node refl)

      blank_fails : q y ≡ false → p y ≡ false
      blank_fails e = ap p (sym hy ∙ rw e refl) ∙ p-blank

      fails : p x ≡ false → Met x y
      fails e =
          let x-blank : x ≡ blank = sym hx ∙ rw e refl in
          let py : p y ≡ false = ⊎_elim (λ t. not_then_false (p y) (λ u. apart y u t)) blank_fails (which (q y)) in
          second x-blank py hy (rw (eq-eqb x blank x-blank) refl)

  met_first : {x y : ℕ} → Met x y → keep_entry p (merge_entry x y) ≡ x
  met_first (first px qx y-blank e) = rw (e, px)
  met_first (second x-blank py hy e) = rw (e, py) (sym x-blank)

  met_second : {x y : ℕ} → Met x y → keep_entry q (merge_entry x y) ≡ y
  met_second (first px qx y-blank e) = rw (e, qx) (sym y-blank)
  met_second (second x-blank py hy e) = rw e hy

  met_both : {x y : ℕ} → Met x y → keep_entry (either p q) (merge_entry x y) ≡ merge_entry x y
  met_both (first px qx y-blank e) = rw (e, px)
  met_both (second x-blank py hy e) = rw (e, py) hy

  head_met : {x y : ℕ} {xs ys : Row} → Fitting (x ∷ xs) (y ∷ ys) → Met x y
  head_met {x} {y} {xs} {ys} h =
      met x y (head-eq_of_cons-eq h.first_kept) (head-eq_of_cons-eq h.second_kept)
      (omega (arith, h.shares_none, flag_of_and p q x y xs ys))

  tail_fits : {x y : ℕ} {xs ys : Row} → Fitting (x ∷ xs) (y ∷ ys) → Fitting xs ys
  tail_fits {x} {y} {xs} {ys} h = record {
    same_length = omega (arith, h.same_length);
    first_kept = tail-eq_of_cons-eq h.first_kept;
    second_kept = tail-eq_of_cons-eq h.second_kept;
    shares_none = omega (arith, h.shares_none, flag_of_and p q x y xs ys);
  }

  -- what of the merger passes p is the left row
  pub merge_first : (x y : Row) → Fitting x y → keep p (merge x y) ≡ x
  merge_first [] ys h = refl
  merge_first (x ∷ xs) [] h = absurd (omega (arith, h.same_length))
  merge_first (x ∷ xs) (y ∷ ys) h = cc (met_first (head_met h), merge_first xs ys (tail_fits h))

  -- what passes q is the right row
  pub merge_second : (x y : Row) → Fitting x y → keep q (merge x y) ≡ y
  merge_second [] [] h = refl
  merge_second [] (y ∷ ys) h = absurd (omega (arith, h.same_length))
  merge_second (x ∷ xs) [] h = absurd (omega (arith, h.same_length))
  merge_second (x ∷ xs) (y ∷ ys) h = cc (met_second (head_met h), merge_second xs ys (tail_fits h))

  -- and all of it passes one of them
  pub merge_both : (x y : Row) → Fitting x y → keep (either p q) (merge x y) ≡ merge x y
  merge_both [] ys h = refl
  merge_both (x ∷ xs) [] h = absurd (omega (arith, h.same_length))
  merge_both (x ∷ xs) (y ∷ ys) h = cc (met_both (head_met h), merge_both xs ys (tail_fits h))

-- ---- the row of one node
-- a single row has a place for each of the arity
pub length_single : (k n b : ℕ) → length (single_row k n b) ≡ k
length_single zero n b = refl
length_single (suc k) n b = ap suc (length_single k n (b / 2))

-- what of a row is node n is the single row of n, at the places where n stands
pub keep_is : (n : ℕ) (row : Row) → keep (is n) row ≡ single_row (length row) n (mark row n)
keep_is n [] = refl
keep_is n (x ∷ xs) =
    let digit = bit_lt (eqb x n) in
    rw (odd (bit (eqb x n)) (mark xs n) digit, half (bit (eqb x n)) (mark xs n) digit) (cc (head (eqb x n) refl, keep_is n xs))
  where
    head : (b : Bool) → eqb x n ≡ b → cond b x blank ≡ cond (eqb (bit b) 1) n blank
    head true e = eqb-true x n e
    head false e = refl

module _ (n : ℕ) (not_blank_lem : n ≡ blank → ⊥) where
  -- the test for a node fails for a blank
  pub is_blank : is n blank ≡ false
  is_blank = ne_eqb blank n (λ e. not_blank_lem (sym e))

  -- node n stands in its single row at the places of the flag
  pub flag_of_single : (k b : ℕ) → b < 2 ^ k → mark (single_row k n b) n ≡ b
  flag_of_single zero b h = omega arith
  flag_of_single (suc k) b h =
      omega (arith, flag_of_single k (b / 2) (omega (arith, pow-suc 2 k)), ⊎_elim odd_case even_case (which (eqb (b % 2) 1)))
    where
      odd_case : eqb (b % 2) 1 ≡ true → bit (eqb (cond (eqb (b % 2) 1) n blank) n) ≡ b % 2
      odd_case e = rw (e, eq-eqb n n refl) (sym (eqb-true (b % 2) 1 e))

      even_case : eqb (b % 2) 1 ≡ false → bit (eqb (cond (eqb (b % 2) 1) n blank) n) ≡ b % 2
      even_case e = let f : b % 2 ≡ 1 → ⊥ = eqb-false (b % 2) 1 e in rw (e, is_blank) (omega arith)

  -- and nothing else does
  pub keep_single : (k b : ℕ) → keep (is n) (single_row k n b) ≡ single_row k n b
  keep_single zero b = refl
  keep_single (suc k) b = cc (head (eqb (b % 2) 1), keep_single k (b / 2))
    where
      head : (c : Bool) → keep_entry (is n) (cond c n blank) ≡ cond c n blank
      head true = rw (eq-eqb n n refl)
      head false = rw is_blank
