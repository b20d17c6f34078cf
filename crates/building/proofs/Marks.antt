-- The marks of a shelf as the binary digits of a number. First one mark of a number; then the first mark and the others, in one step; then
-- marks taken one after the other; last a mark that is added, and a mask that is made flag by flag. The idea: the lowest digit is the first
-- mark, or the first mark stands one up from that of the half.
use mathlib.Core.Bool.{Bool, cond, false, true}
use mathlib.Core.Path.{◌∙◌, ◌≡◌, ap, refl, subst, sym}
use Prim.Native.Nat.{◌*◌, ◌+◌, ◌-◌, ◌/◌, ◌<◌, ◌%◌, ◌^◌, ◌≤◌, min, suc, zero, ℕ}
use native.Mathlib.Nat.{div-add-mod', div-div-eq-div-mul, div-eq_of_lt, div-one, div_self, mod-lt, mul-div_cancel, mul-mod_left, pow-succ'}
use native.Mathlib.Nat.{zero-div}
use native.Mathlib.Omega.{arith}
use borrow.Author.Count.{below_more}
use borrow.Author.Tests.{ltb-false, ltb-true}
use lib.Arith.{digits_div, digits_mod}
use lib.Bits.{and_le_l, and_le_r, and_self, and_step, bit_and, bit_or, or_add_and, or_lt, or_mod, or_shr, or_zero_r, shifted_even, shifted_half}
use lib.Count.{count_trailing_zeros, under}
use lib.Dec.{ltb}
use lib.Pow.{pow-lt, pow_mono, pow_pos, shl-shr}
use Rattle.building.specs.Bounds.{most_flags}
use Rattle.building.specs.Slots.{mark_at}

-- ---- one mark
-- of the digits without the lowest
later_digit : (m b : ℕ) → mark_at m (suc b) ≡ mark_at (m / 2) b
later_digit m b = ap (λ x. m / x % 2) (pow-succ' 2 b) ∙ ap (λ x. x % 2) (sym (div-div-eq-div-mul m 2 (2 ^ b)))

lowest_digit : (m : ℕ) → mark_at m 0 ≡ m % 2
lowest_digit m = ap (λ x. x % 2) (div-one m)

pub no_mark : (b : ℕ) → mark_at 0 b ≡ 0
no_mark b = ap (λ x. x % 2) (zero-div (2 ^ b))

-- none so far up
high_mark : (k m b : ℕ) → m < 2 ^ k → k ≤ b → mark_at m b ≡ 0
high_mark k m b h l = ap (λ x. x % 2) (div-eq_of_lt (omega (arith, pow_mono l)))

-- ---- the first mark
-- it is the first, and the marks left are the others
record Taken (marks first left : ℕ) : Type 0 where
  below : (b : ℕ) → b < first → mark_at marks b ≡ 0
  here : mark_at marks first ≡ 1
  gone : (b : ℕ) → b ≤ first → mark_at left b ≡ 0
  kept : (b : ℕ) → first < b → mark_at left b ≡ mark_at marks b

-- the lowest digit is 0: the first mark is one up from that of the half
taken_up : (m first left : ℕ) → m % 2 ≡ 0 → Taken (m / 2) first left → Taken m (suc first) (left * 2)
taken_up m first left e t = record { below = below; here = later_digit m first ∙ t.here; gone = gone; kept = kept }
  where
    doubled : (b : ℕ) → mark_at (left * 2) (suc b) ≡ mark_at left b
    doubled b = later_digit (left * 2) b ∙ ap (λ x. mark_at x b) (mul-div_cancel left (omega arith))

    below : (b : ℕ) → b < suc first → mark_at m b ≡ 0
    below zero h = lowest_digit m ∙ e
    below (suc b) h = later_digit m b ∙ t.below b (omega arith)

    gone : (b : ℕ) → b ≤ suc first → mark_at (left * 2) b ≡ 0
    gone zero h = lowest_digit (left * 2) ∙ mul-mod_left left 2
    gone (suc b) h = doubled b ∙ t.gone b (omega arith)

    kept : (b : ℕ) → suc first < b → mark_at (left * 2) b ≡ mark_at m b
    kept zero h = absurd (omega arith)
    kept (suc b) h = doubled b ∙ t.kept b (omega arith) ∙ sym (later_digit m b)

-- it is 1: it is the first mark
taken_here : (m : ℕ) → m % 2 ≡ 1 → Taken m 0 (m / 2 * 2)
taken_here m e = record { below = λ b h. absurd (omega arith); here = lowest_digit m ∙ e; gone = gone; kept = kept }
  where
    gone : (b : ℕ) → b ≤ 0 → mark_at (m / 2 * 2) b ≡ 0
    gone zero h = lowest_digit (m / 2 * 2) ∙ mul-mod_left (m / 2) 2
    gone (suc b) h = absurd (omega arith)

    kept : (b : ℕ) → 0 < b → mark_at (m / 2 * 2) b ≡ mark_at m b
    kept zero h = absurd (omega arith)
    kept (suc b) h =
        later_digit (m / 2 * 2) b ∙ ap (λ x. mark_at x b) (mul-div_cancel (m / 2) (omega arith)) ∙ sym (later_digit m b)

-- so it is with what the code computes
left_up : (m : ℕ) → 0 < m → m % 2 ≡ 0 → bit_and m (m - 1) ≡ bit_and (m / 2) (m / 2 - 1) * 2
left_up m h e =
    let before : (m / 2 - 1) * 2 + 1 ≡ m - 1 = omega (arith, div-add-mod' m 2) in
    let half : (m - 1) / 2 ≡ m / 2 - 1 = ap (λ x. x / 2) (sym before) ∙ digits_div (m / 2 - 1) (omega arith) in
    and_step m (m - 1) ∙ (λ i. bit_and (m / 2) (half i) * 2 + min (e i) ((m - 1) % 2)) ∙ omega arith

left_here : (m : ℕ) → m % 2 ≡ 1 → bit_and m (m - 1) ≡ m / 2 * 2
left_here m e =
    let before : m / 2 * 2 + 0 ≡ m - 1 = omega (arith, div-add-mod' m 2) in
    let half : (m - 1) / 2 ≡ m / 2 = ap (λ x. x / 2) (sym before) ∙ digits_div (m / 2) (omega arith) in
    let digit : (m - 1) % 2 ≡ 0 = ap (λ x. x % 2) (sym before) ∙ digits_mod (m / 2) (omega arith) in
    and_step m (m - 1) ∙ (λ i. bit_and (m / 2) (half i) * 2 + min (m % 2) (digit i)) ∙ omega (arith, and_self (m / 2))

first_taken : (k m : ℕ) → 0 < m → m < 2 ^ k → Taken m (count_trailing_zeros k m) (bit_and m (m - 1))
unfolding count_trailing_zeros
first_taken zero m h l = absurd (omega arith)
first_taken (suc k) m h l = go (m % 2) refl (first_taken k (m / 2))
  where
    go : (r : ℕ) → m % 2 ≡ r → (0 < m / 2 → m / 2 < 2 ^ k → Taken (m / 2) (count_trailing_zeros k (m / 2)) (bit_and (m / 2) (m / 2 - 1)))
        → Taken m (under r (count_trailing_zeros k (m / 2))) (bit_and m (m - 1))
    go zero e half =
        subst (Taken m (suc (count_trailing_zeros k (m / 2)))) (sym (left_up m h e))
        (taken_up m (count_trailing_zeros k (m / 2)) (bit_and (m / 2) (m / 2 - 1)) e
        (half (omega (arith, div-add-mod' m 2)) (omega (arith, div-add-mod' m 2))))
    go (suc r) e half =
        let odd : m % 2 ≡ 1 = omega (arith, mod-lt m {m = 2} (omega arith)) in
        subst (Taken m 0) (sym (left_here m odd)) (taken_here m odd)

-- ---- marks one after the other
-- the first flag that is marked, and the marks without it, as the code computes them
abbrev pub first_mark : ℕ → ℕ
first_mark marks = count_trailing_zeros 64 marks

abbrev pub later_marks : ℕ → ℕ
later_marks marks = bit_and marks (marks - 1)

-- of marks of so many flags, those before n are taken
pub record Rest (size all n marks : ℕ) : Type 0 where
  pub small : size ≤ most_flags
  pub far : n ≤ size
  pub few : marks < 2 ^ size
  taken : (b : ℕ) → b < n → mark_at marks b ≡ 0
  left : (b : ℕ) → n ≤ b → mark_at marks b ≡ mark_at all b

pub rest_starts : (size all : ℕ) → size ≤ most_flags → all < 2 ^ size → Rest size all 0 all
rest_starts size all small few = record {
  small = small;
  far = omega arith;
  few = few;
  taken = λ b h. absurd (omega arith);
  left = λ b h. refl;
}

-- none is left
pub rest_ends : (size all n marks : ℕ) → Rest size all n marks → marks ≡ 0 → (b : ℕ) → n ≤ b → mark_at all b ≡ 0
rest_ends size all n marks r e b h = sym (r.left b h) ∙ ap (λ x. mark_at x b) e ∙ no_mark b

-- the first of those left, and the others
module _ (size all n marks : ℕ) (r : Rest size all n marks) (some : (marks ≡ 0 → ⊥)) where
  taken_first : Taken marks (first_mark marks) (later_marks marks)
  taken_first = first_taken 64 marks (omega arith) (omega (arith, r.few, pow_mono {i = size} {j = most_flags} r.small))

  pub first_below : first_mark marks < size
  first_below = go (ltb (first_mark marks) size) refl
    where
      go : (c : Bool) → ltb (first_mark marks) size ≡ c → first_mark marks < size
      go true h = ltb-true (first_mark marks) size h
      go false h = absurd (omega (arith, taken_first.here, high_mark size marks (first_mark marks) r.few (ltb-false (first_mark marks) size h)))

  pub first_onward : n ≤ first_mark marks
  first_onward = go (ltb (first_mark marks) n) refl
    where
      go : (c : Bool) → ltb (first_mark marks) n ≡ c → n ≤ first_mark marks
      go true h = absurd (omega (arith, taken_first.here, r.taken (first_mark marks) (ltb-true (first_mark marks) n h)))
      go false h = ltb-false (first_mark marks) n h

  pub none_between : (b : ℕ) → n ≤ b → b < first_mark marks → mark_at all b ≡ 0
  none_between b h l = sym (r.left b h) ∙ taken_first.below b l

  pub first_marked : mark_at all (first_mark marks) ≡ 1
  first_marked = sym (r.left (first_mark marks) first_onward) ∙ taken_first.here

  pub rest_onward : Rest size all (first_mark marks + 1) (later_marks marks)
  rest_onward = record {
    small = r.small;
    far = omega (arith, first_below);
    few = omega (arith, and_le_l marks (marks - 1), r.few);
    taken = λ b h. taken_first.gone b (omega arith);
    left = λ b h. taken_first.kept b (omega arith) ∙ r.left b (omega (arith, first_onward));
  }

-- ---- a mark that is added
or_marks : (m k b : ℕ) → mark_at (bit_or m k) b ≡ bit_or (mark_at m b) (mark_at k b)
or_marks m k b = ap (λ x. x % 2) (or_shr m k b) ∙ or_mod (m / 2 ^ b) (k / 2 ^ b) 1

-- where there is none afterwards, there was none before, and it is not the one that is added
pub not_added : (m flag b : ℕ) → mark_at (bit_or m (2 ^ flag)) b ≡ 0 → (mark_at m b ≡ 0) × (b ≡ flag → ⊥)
not_added m flag b e = (both.0, λ same. omega (arith, both.1, added same))
  where
    both : (mark_at m b ≡ 0) × (mark_at (2 ^ flag) b ≡ 0)
    both =
        let x : ℕ = mark_at m b in
        let y : ℕ = mark_at (2 ^ flag) b in
        omega (arith, or_marks m (2 ^ flag) b, or_add_and x y, and_le_l x y, and_le_r x y)

    added : b ≡ flag → mark_at (2 ^ flag) b ≡ 1
    added same = ap (λ x. mark_at (2 ^ flag) x) same ∙ ap (λ x. x % 2) (div_self (pow_pos flag))

-- the marks stay few
pub few_added : (size m flag : ℕ) → m < 2 ^ size → flag < size → bit_or m (2 ^ flag) < 2 ^ size
few_added size m flag few h = or_lt size m (2 ^ flag) few (pow-lt h)

-- ---- a mask that is made flag by flag
-- it has the flags below n that pass the test, and no others
pub record Mask (test : ℕ → Bool) (n marks : ℕ) : Type 0 where
  pub few : marks < 2 ^ n
  pub right : (b : ℕ) → b < n → mark_at marks b ≡ cond (test b) 1 0

-- the mark of a flag is no lower one
lower_mark : (flag b : ℕ) → b < flag → mark_at (1 * 2 ^ flag) b ≡ 0
lower_mark zero b h = absurd (omega arith)
lower_mark (suc flag) zero h = lowest_digit (1 * 2 ^ suc flag) ∙ shifted_even 1 flag
lower_mark (suc flag) (suc b) h =
    later_digit (1 * 2 ^ suc flag) b ∙ ap (λ x. mark_at x b) (shifted_half 1 flag) ∙ lower_mark flag b (omega arith)

-- the next flag passes and is marked, or does not and is not
module _ {test : ℕ → Bool} {n marks : ℕ} (m : Mask test n marks) where
  wider : marks < 2 ^ (n + 1)
  wider = omega (arith, m.few, pow-lt {i = n} {j = n + 1} (omega arith))

  pub mask_marked : test n ≡ true → Mask test (n + 1) (bit_or marks (1 * 2 ^ n))
  mask_marked e = record { few = few; right = below_more (λ b. mark_at (bit_or marks (1 * 2 ^ n)) b ≡ cond (test b) 1 0) n before here }
    where
      few : bit_or marks (1 * 2 ^ n) < 2 ^ (n + 1)
      few = or_lt (n + 1) marks (1 * 2 ^ n) wider (omega (arith, pow-lt {i = n} {j = n + 1} (omega arith)))

      before : (b : ℕ) → b < n → mark_at (bit_or marks (1 * 2 ^ n)) b ≡ cond (test b) 1 0
      before b h = or_marks marks (1 * 2 ^ n) b ∙ ap (bit_or (mark_at marks b)) (lower_mark n b h) ∙ or_zero_r (mark_at marks b) ∙ m.right b h

      here : mark_at (bit_or marks (1 * 2 ^ n)) n ≡ cond (test n) 1 0
      here = rw e (or_marks marks (1 * 2 ^ n) n ∙ (λ i. bit_or (high_mark n marks n m.few (omega arith) i) (one i)))
        where
          one : mark_at (1 * 2 ^ n) n ≡ 1
          one = ap (λ x. x % 2) (shl-shr 1 n)

  pub mask_unmarked : test n ≡ false → Mask test (n + 1) marks
  mask_unmarked e = record {
    few = wider;
    right = below_more (λ b. mark_at marks b ≡ cond (test b) 1 0) n m.right (rw e (high_mark n marks n m.few (omega arith)));
  }
