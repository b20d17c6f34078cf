-- How many places a flag has. First two flags: where they share no place, and only there, their places add, as a product's do; where
-- one fills as many as both together it is both, as in a union. Then the flag of a row, which has a place for each entry that passes
-- the test, and the places of a record.
use mathlib.Core.Bool.{Bool, cond, false, true}
use mathlib.Core.List.{List, [], ◌∷◌}
use mathlib.Core.Path.{◌∙◌, ◌≡◌, ap, refl, sym}
use Prim.Native.Nat.{◌%◌, ◌*◌, ◌+◌, ◌/◌, ◌<◌, ◌≤◌, max, min, ℕ}
use native.Mathlib.Omega.{arith}
use lib.Arith.{bin_ind}
use lib.Bits.{and_step, bit_and, bit_or, or_disjoint, or_step}
use lib.Count.{ones, ones_step}
use lib.ListN.{get_or, length}
use lib.Seq.{length-take-le}
use Rattle.paper.specs.Lists.{◌∈◌}
use Rattle.paper.specs.Records.{filled, listings, used_of}
use Rattle.paper.specs.Row.{Row, flag_of, no_place}
use Rattle.paper.specs.Sound.{entry}
use Rattle.laws.specs.Plain.{Head, Record}
use Rattle.laws.specs.QuestionCauses.{IsProduct, IsUnion, Sound}
use Rattle.laws.proofs.Shaped.{shaped_all}
use Rattle.laws.proofs.Shapes.{not_blank}
use Rattle.laws.proofs.SoundRecords.{SoundFrom, sound_from_all}

ones_none : ones no_place ≡ 0
unfolding ones
ones_none = refl

-- ---- two flags
-- the lowest digits of two flags, and then the halves
or_digit : (a b : ℕ) → ones (bit_or a b) ≡ max (a % 2) (b % 2) + ones (bit_or (a / 2) (b / 2))
or_digit a b =
    let half : bit_or a b / 2 ≡ bit_or (a / 2) (b / 2) = omega (arith, or_step a b) in
    omega (arith, or_step a b, ones_step (bit_or a b), ap ones half)

and_digit : (a b : ℕ) → ones (bit_and a b) ≡ min (a % 2) (b % 2) + ones (bit_and (a / 2) (b / 2))
and_digit a b =
    let half : bit_and a b / 2 ≡ bit_and (a / 2) (b / 2) = omega (arith, and_step a b) in
    omega (arith, and_step a b, ones_step (bit_and a b), ap ones half)

-- the places of either, and those of both once more, are the places of each
ones_share : (a b : ℕ) → ones (bit_or a b) + ones (bit_and a b) ≡ ones a + ones b
ones_share =
    bin_ind (λ (a : ℕ). (b : ℕ) → ones (bit_or a b) + ones (bit_and a b) ≡ ones a + ones b) (λ b. omega (arith, ones_none))
    (λ a ih b. omega (arith, or_digit a b, and_digit a b, ones_step a, ones_step b, ih (b / 2)))

-- a flag that fills no place has none
ones_zero : (a : ℕ) → ones a ≡ 0 → a ≡ 0
ones_zero = bin_ind (λ (a : ℕ). ones a ≡ 0 → a ≡ 0) (λ e. refl) (λ a ih e. omega (arith, ones_step a, ih (omega (arith, ones_step a))))

-- a product's places add
pub ones_add : (a b : ℕ) → bit_and a b ≡ 0 → ones (a + b) ≡ ones a + ones b
ones_add a b h = omega (arith, ap ones (or_disjoint a b h), ap ones h, ones_none, ones_share a b)

-- and where they add, the flags share none
pub ones_apart : (a b : ℕ) → ones a + ones b ≡ ones (bit_or a b) → bit_and a b ≡ 0
ones_apart a b h = ones_zero (bit_and a b) (omega (arith, ones_share a b))

-- two flags together fill no fewer places than one of them
ones_grow : (a b : ℕ) → ones a ≤ ones (bit_or a b)
ones_grow =
    bin_ind (λ (a : ℕ). (b : ℕ) → ones a ≤ ones (bit_or a b)) (λ b. omega (arith, ones_none))
    (λ a ih b. omega (arith, or_digit a b, ones_step a, ih (b / 2)))

-- and where they fill as many, they are that one: a union's places keep
pub ones_keep : (a b : ℕ) → ones a ≡ ones (bit_or a b) → a ≡ bit_or a b
ones_keep =
    bin_ind (λ (a : ℕ). (b : ℕ) → ones a ≡ ones (bit_or a b) → a ≡ bit_or a b) (λ b h. sym (ones_zero b (sym h ∙ ones_none)))
    (λ a ih b h.
    let halves : ones (a / 2) ≡ ones (bit_or (a / 2) (b / 2)) = omega (arith, or_digit a b, ones_step a, ones_grow (a / 2) (b / 2)) in
    omega (arith, or_step a b, or_digit a b, ones_step a, halves, ih (b / 2) halves))

-- ---- rows
-- the number of entries that pass the test
abbrev pub entries_passing : (ℕ → Bool) → Row → ℕ
entries_passing p [] = 0
entries_passing p (x ∷ xs) = cond (p x) 1 0 + entries_passing p xs

ones_digit : (c : Bool) (m : ℕ) → ones (cond c 1 0 + 2 * m) ≡ cond c 1 0 + ones m
ones_digit true m = omega (arith, ones_step (1 + 2 * m), ap ones (let z : (1 + 2 * m) / 2 ≡ m = omega arith in z))
ones_digit false m = omega (arith, ones_step (0 + 2 * m), ap ones (let z : (0 + 2 * m) / 2 ≡ m = omega arith in z))

-- the flag of a row has one place for each entry that passes the test
pub ones_flag_of : (p : ℕ → Bool) (row : Row) → ones (flag_of p row) ≡ entries_passing p row
ones_flag_of p [] = ones_none
ones_flag_of p (x ∷ xs) = ones_digit (p x) (flag_of p xs) ∙ ap (λ (z : ℕ). cond (p x) 1 0 + z) (ones_flag_of p xs)

-- ---- records
-- a product fills the places of both its operands
pub filled_adds : (used : List Record) (i : ℕ) (r : Record) → IsProduct used i r
    → filled r ≡ filled (entry used r.left) + filled (entry used r.right)
filled_adds used i r e =
    ap ones (sym e.4) ∙ ones_add (entry used r.left).flag (entry used r.right).flag e.3

-- a union fills the places of either
pub filled_keeps : (used : List Record) (i : ℕ) (r : Record) → IsUnion used i r
    → (filled (entry used r.left) ≡ filled r) × (filled (entry used r.right) ≡ filled r)
filled_keeps used i r e = (ap ones e.3, ap ones e.4)

-- every row that a used record of a sound set lists has so many entries that are not blank
pub rows_filled : (h : Head) (table : List Record) → Sound h table → (i : ℕ) → i < h.used → (row : Row)
    → row ∈ get_or (listings h.arity (used_of h table)) i [] → entries_passing not_blank row ≡ filled (entry (used_of h table) i)
rows_filled h table S i below row m =
    let number : length (used_of h table) ≡ h.used = length-take-le h.used table S.used_there in
    let sound : SoundFrom h.arity h.nodes [] (used_of h table) =
    (sound_from_all h.arity h.nodes (used_of h table)).1 (λ j w. S.records j (omega arith)) in
    let shape = shaped_all h.arity h.nodes S.few_nodes (used_of h table) sound i (omega arith) in
    sym (ones_flag_of not_blank row) ∙ ap ones (shape row m).1
