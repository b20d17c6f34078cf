-- A slot of the work and the marks of its shelf. First a set put into a slot, in numbers; then that a shelf stays marked: where its numbers
-- stay, and where a set is put into one of its slots.
use mathlib.Core.Bool.{Bool, false, true}
use mathlib.Core.List.{List}
use mathlib.Core.Path.{◌∙◌, ◌≡◌, ap, refl, subst, sym}
use Prim.Native.Nat.{◌*◌, ◌+◌, ◌/◌, ◌<◌, ◌%◌, ◌^◌, ℕ}
use native.Mathlib.Nat.{mul-mod_left}
use native.Mathlib.Omega.{arith}
use borrow.Author.Tests.{eqb-false, eqb-true}
use lib.Arith.{digits_div, digits_mod}
use lib.Bits.{bit_or, or_mod, or_shr, or_zero_r}
use lib.Dec.{eqb}
use lib.ListN.{get_or, length, length-set, set}
use lib.Pow.{shl-shr}
use lib.Seq.{get_or-set_other, get_or-set_same}
use Rattle.building.specs.Bounds.{slot_sets}
use Rattle.building.specs.Slots.{Marked, Puts, marks_at, slot_at}
use Rattle.building.proofs.Marks.{few_added, not_added}

-- ---- a set put into a slot
-- the mark of a flag, above the set
module _ (n flag mark : ℕ) (e : mark ≡ 2 ^ flag * 2 ^ 16) where
  marked_set : bit_or n mark % slot_sets ≡ n % slot_sets
  marked_set =
      ap (λ x. bit_or n x % slot_sets) e
      ∙ or_mod n (2 ^ flag * 2 ^ 16) 16
      ∙ ap (bit_or (n % slot_sets)) (mul-mod_left (2 ^ flag) (2 ^ 16))
      ∙ or_zero_r (n % slot_sets)

  marked_marks : bit_or n mark / slot_sets ≡ bit_or (n / slot_sets) (2 ^ flag)
  marked_marks =
      ap (λ x. bit_or n x / slot_sets) e ∙ or_shr n (2 ^ flag * 2 ^ 16) 16 ∙ ap (bit_or (n / slot_sets)) (shl-shr (2 ^ flag) 16)

-- the flag is marked, and then a number is written to its slot: the set, and above it the marks if it is the shelf's first number
module _ (work : List ℕ) (shelf flag mark : ℕ) (e : mark ≡ 2 ^ flag * 2 ^ 16) (inside : shelf + flag < length work) where
  abbrev first : List ℕ
  first = set work shelf (bit_or (get_or work shelf 0) mark)

  first_length : length first ≡ length work
  first_length = length-set work shelf (bit_or (get_or work shelf 0) mark)

  at_shelf : get_or first shelf 0 ≡ bit_or (get_or work shelf 0) mark
  at_shelf = get_or-set_same work shelf (bit_or (get_or work shelf 0) mark) 0 (omega arith)

  other_shelf : (i : ℕ) → (i ≡ shelf → ⊥) → get_or first i 0 ≡ get_or work i 0
  other_shelf i h = get_or-set_other work shelf i (bit_or (get_or work shelf 0) mark) 0 h

  -- the first step changes no set
  same_set : (i : ℕ) → slot_at first i ≡ slot_at work i
  same_set i = go (eqb i shelf) refl
    where
      go : (c : Bool) → eqb i shelf ≡ c → slot_at first i ≡ slot_at work i
      go true w =
          ap (slot_at first) (eqb-true i shelf w) ∙ ap (λ x. x % slot_sets) at_shelf ∙ marked_set (get_or work shelf 0) flag mark e
          ∙ ap (slot_at work) (sym (eqb-true i shelf w))
      go false w = ap (λ x. x % slot_sets) (other_shelf i (eqb-false i shelf w))

  module _ (at n new : ℕ) (here : at ≡ shelf + flag) (low : n % slot_sets ≡ new) (high : at ≡ shelf → n / slot_sets ≡ marks_at first shelf) where
    abbrev last : List ℕ
    last = set first at n

    at_slot : get_or last at 0 ≡ n
    at_slot = get_or-set_same first at n 0 (omega (arith, first_length))

    other_slot : (i : ℕ) → (i ≡ at → ⊥) → get_or last i 0 ≡ get_or first i 0
    other_slot i h = get_or-set_other first at i n 0 h

    -- the second changes no mark
    same_marks : marks_at last shelf ≡ marks_at first shelf
    same_marks = go (eqb at shelf) refl
      where
        go : (c : Bool) → eqb at shelf ≡ c → marks_at last shelf ≡ marks_at first shelf
        go true w =
            let there = eqb-true at shelf w in
            ap (marks_at last) (sym there) ∙ ap (λ x. x / slot_sets) at_slot ∙ high there
        go false w = ap (λ x. x / slot_sets) (other_slot shelf (λ there. eqb-false at shelf w (sym there)))

    number_put : Puts shelf flag new work last
    number_put = record {
      there = ap (slot_at last) (sym here) ∙ ap (λ x. x % slot_sets) at_slot ∙ low;
      others = λ i h. ap (λ x. x % slot_sets) (other_slot i (λ w. h (w ∙ here))) ∙ same_set i;
      apart = λ i h h'. other_slot i (λ w. h' (w ∙ here)) ∙ other_shelf i h;
      marks = same_marks ∙ ap (λ x. x / slot_sets) at_shelf ∙ marked_marks (get_or work shelf 0) flag mark e;
    }

  module _ (new : ℕ) (small : new < slot_sets) where
    -- at flag 0 the number keeps its marks
    pub first_put : flag ≡ 0 → Puts shelf flag new work (set first shelf (get_or first shelf 0 / slot_sets * slot_sets + new))
    first_put zero_flag =
        let above = marks_at first shelf in
        number_put shelf (above * slot_sets + new) new (omega arith) (digits_mod above small) (λ w. digits_div above small)

    -- at another the set is the whole number
    pub other_put : (flag ≡ 0 → ⊥) → Puts shelf flag new work (set first (shelf + flag) new)
    other_put some_flag = number_put (shelf + flag) new new refl (omega arith) (λ w. absurd (some_flag (omega arith)))

-- ---- a shelf stays marked
-- the same numbers, here or elsewhere
pub marked_same : (size : ℕ) (work work' : List ℕ) (from from' : ℕ) → 0 < size
    → ((b : ℕ) → b < size → get_or work' (from' + b) 0 ≡ get_or work (from + b) 0) → Marked size work from → Marked size work' from'
marked_same size work work' from from' some same m = record {
  few = subst (λ x. x < 2 ^ size) (sym marks) m.few;
  empty = λ b h e. ap (λ x. x % slot_sets) (same b h) ∙ m.empty b h (ap (λ x. x / 2 ^ b % 2) (sym marks) ∙ e);
}
  where
    marks : marks_at work' from' ≡ marks_at work from
    marks =
        ap (marks_at work') (let e : from' ≡ from' + 0 = omega arith in e) ∙ ap (λ x. x / slot_sets) (same 0 some)
        ∙ ap (marks_at work) (let e : from + 0 ≡ from = omega arith in e)

-- a set put into a slot
pub marked_put : (size shelf flag new : ℕ) (work work' : List ℕ) → flag < size → Puts shelf flag new work work' → Marked size work shelf
    → Marked size work' shelf
marked_put size shelf flag new work work' h p m = record {
  few = subst (λ x. x < 2 ^ size) (sym p.marks) (few_added size (marks_at work shelf) flag m.few h);
  empty = λ b l e.
      let before = not_added (marks_at work shelf) flag b (ap (λ x. x / 2 ^ b % 2) (sym p.marks) ∙ e) in
      p.others (shelf + b) (λ same. before.1 (omega arith)) ∙ m.empty b l before.0;
}
