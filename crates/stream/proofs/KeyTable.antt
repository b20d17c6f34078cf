-- The table of keys as words of bits: a key that is put in is there, and no other comes or goes; a new table has none.
use mathlib.Core.Bool.{◌||◌, false, or-false, or-true, true}
use mathlib.Core.List.Memᴰ
use mathlib.Core.List.{List, []}
use mathlib.Core.Logic.{◌⊎◌, inl, inr, ⊎_elim}
use mathlib.Core.Path.{◌∙◌, ◌≡◌, ap, sym}
use Prim.Native.Nat.{◌%◌, ◌*◌, ◌+◌, ◌-◌, ◌/◌, ◌<◌, ◌^◌, ◌≤◌, max, suc, ℕ}
use native.Mathlib.Nat.{div-eq_of_lt, zero-div}
use native.Mathlib.Omega.{arith}
use borrow.Author.Tests.{eq-eqb, eqb-false, eqb-true, ltb-false, ltb-true}
use lib.Bits.{bit_or, or_shr, or_step, shifted_even}
use lib.Dec.{eqb, ltb}
use lib.ListN.{get_or-eq_default, get_or, get_or-replicate, length, length-replicate, replicate, set}
use lib.Pow.{pow-add, pow-lt, shl-shr}
use lib.Seq.{get_or-set_other, get_or-set_same}
use Rattle.laws.proofs.Lists.{which}
use Rattle.stream.specs.Keys.{TableOf, has_key, keys_of}
use Rattle.stream.specs.Reading.{QueryFacts}

-- ---- digits
-- the digit of two numbers joined is the larger of theirs
or_digit : (a b i : ℕ) → bit_or a b / 2 ^ i % 2 ≡ max (a / 2 ^ i % 2) (b / 2 ^ i % 2)
or_digit a b i = ap (λ n. n % 2) (or_shr a b i) ∙ omega (arith, or_step (a / 2 ^ i) (b / 2 ^ i))

-- a power of 2 has one digit, at its exponent
power_digit : (j : ℕ) → 2 ^ j / 2 ^ j % 2 ≡ 1
power_digit j = ap (λ n. n / 2 ^ j % 2) (let z : 2 ^ j ≡ 1 * 2 ^ j = omega arith in z) ∙ ap (λ n. n % 2) (shl-shr 1 j)

no_digit : (i j : ℕ) → (i ≡ j → ⊥) → 2 ^ j / 2 ^ i % 2 ≡ 0
no_digit i j other = ⊎_elim (λ e. low (ltb-true i j e)) (λ e. high (ltb-false i j e)) (which (ltb i j))
  where
    low : i < j → 2 ^ j / 2 ^ i % 2 ≡ 0
    low h =
        let d : ℕ = j - suc i in
        let e : j ≡ suc d + i = omega arith in
        ap (λ n. 2 ^ n / 2 ^ i % 2) e ∙ ap (λ n. n / 2 ^ i % 2) (pow-add 2 (suc d) i) ∙ ap (λ n. n % 2) (shl-shr (2 ^ suc d) i)
        ∙ omega (arith, shifted_even 1 d)

    high : j ≤ i → 2 ^ j / 2 ^ i % 2 ≡ 0
    high h = ap (λ n. n % 2) (div-eq_of_lt (pow-lt (let l : j < i = omega arith in l)))

-- a bit put in is there, and every other one stays as it is
pub digit_put : (a j i : ℕ) → eqb (bit_or a (2 ^ j) / 2 ^ i % 2) 1 ≡ eqb (a / 2 ^ i % 2) 1 || eqb j i
digit_put a j i = ⊎_elim (λ e. here (eqb-true j i e)) (λ e. other e (eqb-false j i e)) (which (eqb j i))
  where
    here : j ≡ i → eqb (bit_or a (2 ^ j) / 2 ^ i % 2) 1 ≡ eqb (a / 2 ^ i % 2) 1 || eqb j i
    here e =
        eq-eqb (bit_or a (2 ^ j) / 2 ^ i % 2) 1 (omega (arith, or_digit a (2 ^ j) i, power_digit i, ap (λ n. 2 ^ n / 2 ^ i % 2) e))
        ∙ rw (eq-eqb j i e) (sym (or-true (eqb (a / 2 ^ i % 2) 1)))

    other : eqb j i ≡ false → (j ≡ i → ⊥) → eqb (bit_or a (2 ^ j) / 2 ^ i % 2) 1 ≡ eqb (a / 2 ^ i % 2) 1 || eqb j i
    other e n =
        ap (λ d. eqb d 1) (let z : bit_or a (2 ^ j) / 2 ^ i % 2 ≡ a / 2 ^ i % 2 = omega (arith, or_digit a (2 ^ j) i, no_digit i j (λ w. n (sym w))) in z)
        ∙ rw e (sym (or-false (eqb (a / 2 ^ i % 2) 1)))

-- ---- a key put in
module _ (said : List ℕ) (key mask : ℕ) (inside : key / 64 < length said) (one : mask ≡ 2 ^ (key % 64)) where
  abbrev said' : List ℕ
  said' = set said (key / 64) (bit_or (get_or said (key / 64) 0) mask)

  -- the digits of its word
  digit : (i : ℕ) → get_or said' (key / 64) 0 / 2 ^ i % 2 ≡ max (get_or said (key / 64) 0 / 2 ^ i % 2) (2 ^ (key % 64) / 2 ^ i % 2)
  digit i =
      ap (λ w. w / 2 ^ i % 2) (get_or-set_same said (key / 64) (bit_or (get_or said (key / 64) 0) mask) 0 inside)
      ∙ or_digit (get_or said (key / 64) 0) mask i ∙ ap (λ m. max (get_or said (key / 64) 0 / 2 ^ i % 2) (m / 2 ^ i % 2)) one

  itself : has_key said' key ≡ true
  itself = eq-eqb (get_or said' (key / 64) 0 / 2 ^ (key % 64) % 2) 1 (omega (arith, digit (key % 64), power_digit (key % 64)))

  other : (k : ℕ) → (key ≡ k → ⊥) → has_key said' k ≡ has_key said k
  other k n =
      ap (λ d. eqb d 1)
      (⊎_elim (λ e. near (eqb-true (k / 64) (key / 64) e)) (λ e. far (eqb-false (k / 64) (key / 64) e)) (which (eqb (k / 64) (key / 64))))
    where
      near : k / 64 ≡ key / 64 → get_or said' (k / 64) 0 / 2 ^ (k % 64) % 2 ≡ get_or said (k / 64) 0 / 2 ^ (k % 64) % 2
      near e =
          let d : k % 64 ≡ key % 64 → ⊥ = λ w. n (omega arith) in
          rw e (omega (arith, digit (k % 64), no_digit (k % 64) (key % 64) d))

      far : (k / 64 ≡ key / 64 → ⊥) → get_or said' (k / 64) 0 / 2 ^ (k % 64) % 2 ≡ get_or said (k / 64) 0 / 2 ^ (k % 64) % 2
      far d = ap (λ w. w / 2 ^ (k % 64) % 2) (get_or-set_other said (key / 64) (k / 64) _ 0 d)

  pub key_put : (k : ℕ) → has_key said' k ≡ eqb key k || has_key said k
  key_put k = ⊎_elim (λ e. rw e (ap (has_key said') (sym (eqb-true key k e)) ∙ itself)) (λ e. rw e (other k (eqb-false key k e))) (which (eqb key k))

-- ---- a new table
no_key : (n k : ℕ) → has_key (replicate n 0) k ≡ false
no_key n k = ap (λ w. eqb (w / 2 ^ (k % 64) % 2) 1) (blank (which (ltb (k / 64) n))) ∙ ap (λ d. eqb (d % 2) 1) (zero-div (2 ^ (k % 64)))
  where
    blank : (ltb (k / 64) n ≡ true) ⊎ (ltb (k / 64) n ≡ false) → ◌≡◌ {A = ℕ} (get_or (replicate n 0) (k / 64) 0) 0
    blank (inl e) = get_or-replicate n (k / 64) 0 0 (ltb-true (k / 64) n e)
    blank (inr e) = get_or-eq_default (replicate n 0) 0 (omega (arith, length-replicate {A = ℕ} n 0, ltb-false (k / 64) n e))

-- it is the table of no records, if it has room for the keys of the query
pub new_table : (f : QueryFacts) (n : ℕ) → keys_of f ≤ 64 * n → TableOf f [] (replicate n 0)
new_table f n h = record {
  room = omega (arith, length-replicate {A = ℕ} n 0);
  fitting = λ r m. absurd (Memᴰ.not-nil m);
  keys = no_key n;
}
