-- The table of triples: one theorem, that it has all of them in the paper's order, and where those of each left flag begin. Then what stands
-- where in it; the masks of a flag, made from it; last the masks of all flags. The idea: the place at hand is behind the triples of the
-- right flags passed, so that the next right flag's own stands there, or that flag shares a bit.
use mathlib.Core.Bool.{Bool, cond, false, not, true}
use mathlib.Core.List.Memᴰ
use mathlib.Core.List.{List, [], ◌++◌, ◌∷◌, append_assoc, append-nil, map, map-append}
use mathlib.Core.Path.{◌∙◌, ◌≡◌, ap, refl, subst, subst₂, sym}
use Prim.Native.Nat.{◌*◌, ◌+◌, ◌-◌, ◌<◌, ◌^◌, ◌≤◌, suc, zero, ℕ}
use native.Mathlib.Omega.{arith}
use borrow.Author.Count.{below_more}
use borrow.Author.Tests.{eqb-true}
use lib.Bits.{and_zero_l, bit_or}
use lib.Dec.{eqb}
use lib.ListN.{get_or, length, length-append, length-map, length-set, set}
use lib.Seq.{get_or_at, get_or-set_other, get_or-set_same}
use Rattle.paper.specs.Building.{flags_beside}
use Rattle.paper.specs.Lists.{◌∈◌, count_from, each, up_to}
use Rattle.paper.specs.Sound.{apart}
use Rattle.laws.proofs.Lists.{in_at, mem_each, mem_up_to, not_then_false}
use Rattle.laws.proofs.Splits.{mem_flags_beside}
use Rattle.stream.proofs.Table.{at_entry}
use Rattle.building.specs.Bounds.{most_flags, most_places, rule_splits}
use Rattle.building.specs.Rules.{flags_at, pair_at}
use Rattle.building.specs.Splits.{Masked, all_triples, free_at, left_at, note_numbers, packed, shared_at, triple_count, triples_of}
use Rattle.building.proofs.Marks.{Mask, mask_marked, mask_unmarked}
use Rattle.building.proofs.Running.{each_le, each_up_to}

-- ---- the table, as the source has it
abbrev pub triples : List ℕ
triples =
    0x000 ∷ 0x001 ∷ 0x002 ∷ 0x003 ∷ 0x004 ∷ 0x005 ∷ 0x006 ∷ 0x007 ∷ 0x008 ∷ 0x009 ∷ 0x00a ∷ 0x00b ∷ 0x00c ∷ 0x00d ∷ 0x00e ∷ 0x00f ∷
    0x010 ∷ 0x012 ∷ 0x014 ∷ 0x016 ∷ 0x018 ∷ 0x01a ∷ 0x01c ∷ 0x01e ∷ 0x020 ∷ 0x021 ∷ 0x024 ∷ 0x025 ∷ 0x028 ∷ 0x029 ∷ 0x02c ∷ 0x02d ∷
    0x030 ∷ 0x034 ∷ 0x038 ∷ 0x03c ∷ 0x040 ∷ 0x041 ∷ 0x042 ∷ 0x043 ∷ 0x048 ∷ 0x049 ∷ 0x04a ∷ 0x04b ∷ 0x050 ∷ 0x052 ∷ 0x058 ∷ 0x05a ∷
    0x060 ∷ 0x061 ∷ 0x068 ∷ 0x069 ∷ 0x070 ∷ 0x078 ∷ 0x080 ∷ 0x081 ∷ 0x082 ∷ 0x083 ∷ 0x084 ∷ 0x085 ∷ 0x086 ∷ 0x087 ∷ 0x090 ∷ 0x092 ∷
    0x094 ∷ 0x096 ∷ 0x0a0 ∷ 0x0a1 ∷ 0x0a4 ∷ 0x0a5 ∷ 0x0b0 ∷ 0x0b4 ∷ 0x0c0 ∷ 0x0c1 ∷ 0x0c2 ∷ 0x0c3 ∷ 0x0d0 ∷ 0x0d2 ∷ 0x0e0 ∷ 0x0e1 ∷
    0x0f0 ∷ 0x100 ∷ 0x102 ∷ 0x104 ∷ 0x106 ∷ 0x108 ∷ 0x10a ∷ 0x10c ∷ 0x10e ∷ 0x120 ∷ 0x124 ∷ 0x128 ∷ 0x12c ∷ 0x140 ∷ 0x142 ∷ 0x148 ∷
    0x14a ∷ 0x160 ∷ 0x168 ∷ 0x180 ∷ 0x182 ∷ 0x184 ∷ 0x186 ∷ 0x1a0 ∷ 0x1a4 ∷ 0x1c0 ∷ 0x1c2 ∷ 0x1e0 ∷ 0x200 ∷ 0x201 ∷ 0x204 ∷ 0x205 ∷
    0x208 ∷ 0x209 ∷ 0x20c ∷ 0x20d ∷ 0x210 ∷ 0x214 ∷ 0x218 ∷ 0x21c ∷ 0x240 ∷ 0x241 ∷ 0x248 ∷ 0x249 ∷ 0x250 ∷ 0x258 ∷ 0x280 ∷ 0x281 ∷
    0x284 ∷ 0x285 ∷ 0x290 ∷ 0x294 ∷ 0x2c0 ∷ 0x2c1 ∷ 0x2d0 ∷ 0x300 ∷ 0x304 ∷ 0x308 ∷ 0x30c ∷ 0x340 ∷ 0x348 ∷ 0x380 ∷ 0x384 ∷ 0x3c0 ∷
    0x400 ∷ 0x401 ∷ 0x402 ∷ 0x403 ∷ 0x408 ∷ 0x409 ∷ 0x40a ∷ 0x40b ∷ 0x410 ∷ 0x412 ∷ 0x418 ∷ 0x41a ∷ 0x420 ∷ 0x421 ∷ 0x428 ∷ 0x429 ∷
    0x430 ∷ 0x438 ∷ 0x480 ∷ 0x481 ∷ 0x482 ∷ 0x483 ∷ 0x490 ∷ 0x492 ∷ 0x4a0 ∷ 0x4a1 ∷ 0x4b0 ∷ 0x500 ∷ 0x502 ∷ 0x508 ∷ 0x50a ∷ 0x520 ∷
    0x528 ∷ 0x580 ∷ 0x582 ∷ 0x5a0 ∷ 0x600 ∷ 0x601 ∷ 0x608 ∷ 0x609 ∷ 0x610 ∷ 0x618 ∷ 0x680 ∷ 0x681 ∷ 0x690 ∷ 0x700 ∷ 0x708 ∷ 0x780 ∷
    0x800 ∷ 0x801 ∷ 0x802 ∷ 0x803 ∷ 0x804 ∷ 0x805 ∷ 0x806 ∷ 0x807 ∷ 0x810 ∷ 0x812 ∷ 0x814 ∷ 0x816 ∷ 0x820 ∷ 0x821 ∷ 0x824 ∷ 0x825 ∷
    0x830 ∷ 0x834 ∷ 0x840 ∷ 0x841 ∷ 0x842 ∷ 0x843 ∷ 0x850 ∷ 0x852 ∷ 0x860 ∷ 0x861 ∷ 0x870 ∷ 0x900 ∷ 0x902 ∷ 0x904 ∷ 0x906 ∷ 0x920 ∷
    0x924 ∷ 0x940 ∷ 0x942 ∷ 0x960 ∷ 0xa00 ∷ 0xa01 ∷ 0xa04 ∷ 0xa05 ∷ 0xa10 ∷ 0xa14 ∷ 0xa40 ∷ 0xa41 ∷ 0xa50 ∷ 0xb00 ∷ 0xb04 ∷ 0xb40 ∷
    0xc00 ∷ 0xc01 ∷ 0xc02 ∷ 0xc03 ∷ 0xc10 ∷ 0xc12 ∷ 0xc20 ∷ 0xc21 ∷ 0xc30 ∷ 0xd00 ∷ 0xd02 ∷ 0xd20 ∷ 0xe00 ∷ 0xe01 ∷ 0xe10 ∷ 0xf00 ∷ []

-- it has each triple of flags that share no bit once, in the paper's order, and nothing else
pub the_triples : triples ≡ all_triples
the_triples = refl

-- so many
count : length all_triples ≡ triple_count
count = ap length (sym the_triples)

-- the table of lefts, as the source has it
abbrev pub lefts : List ℕ
lefts = 0 ∷ 16 ∷ 24 ∷ 32 ∷ 36 ∷ 44 ∷ 48 ∷ 52 ∷ 54 ∷ 62 ∷ 66 ∷ 70 ∷ 72 ∷ 76 ∷ 78 ∷ 80 ∷ []

-- its rule at one entry: with no own flag, the triples of the left flag begin there
begins : ℕ → ℕ → Bool
begins left x = eqb x (left_at left)

pub left_at_lem : (left : ℕ) → left < most_flags → get_or lefts left 0 ≡ left_at left
unfolding begins
left_at_lem left h = eqb-true (get_or lefts left 0) (left_at left) (at_entry begins lefts refl left h)

-- ---- what stands where
-- of lists for each number
module _ {B : Type 0} (f : ℕ → List B) where
  past : (n d : ℕ) → (rest : List B) × (each (up_to (n + 1 + d)) f ≡ each (up_to n) f ++ (f n ++ rest))
  past n zero = (
    [],
    ap (λ m. each (up_to m) f) (let z : n + 1 + 0 ≡ n + 1 = omega arith in z) ∙ each_up_to f n
        ∙ ap (λ r. each (up_to n) f ++ r) (sym (append-nil (f n))),
  )
  past n (suc d) =
      let (rest, e) = past n d in (
        rest ++ f (n + 1 + d),
        ap (λ m. each (up_to m) f) (let z : n + 1 + suc d ≡ (n + 1 + d) + 1 = omega arith in z) ∙ each_up_to f (n + 1 + d)
            ∙ rw (e, append_assoc, append_assoc),
      )

  -- the list of n is behind those of the numbers below n
  each_around : (n m : ℕ) → n < m → (rest : List B) × (each (up_to m) f ≡ each (up_to n) f ++ (f n ++ rest))
  each_around n m h =
      let (rest, e) = past n (m - (n + 1)) in
      (rest, ap (λ k. each (up_to k) f) (let z : m ≡ n + 1 + (m - (n + 1)) = omega arith in z) ∙ e)

-- of the table: an entry is a triple of flags, and the third shares no bit with the others
entry_is : {x : ℕ} → x ∈ all_triples
    → (first : ℕ) × (w : ℕ × ℕ) × (first < most_flags) × (w.0 < most_flags) × (w.1 < most_flags) × (apart (first + w.0) w.1 ≡ true)
    × (packed first w ≡ x)
entry_is m =
    let (first, mf, n) = mem_each (up_to most_flags) triples_of m in
    let (w, mw, e) = Memᴰ.of_map (packed first) (flags_beside most_places first) n in
    let (left_lt, right_lt, inner, outer) = mem_flags_beside most_places first w mw in
    (first, w, mem_up_to most_flags mf, left_lt, right_lt, outer, e)

-- ---- the masks of a flag
-- with no own flag a left flag and a right one are a pair of the paper if they share no bit
pair_of : (left right : ℕ) → pair_at 0 left right ≡ cond (apart left right) ((left, right) ∷ []) []
pair_of left right = rw (and_zero_l left, (let z : 0 + left ≡ left = omega arith in z))

-- the place at hand for b: behind the triples of the left flags below flag, and of flag itself with a right flag below b
abbrev place_at : ℕ → ℕ → ℕ
place_at flag b = left_at flag + length (flags_at 0 b flag)

-- the place at hand for the next right flag
module _ (flag b : ℕ) where
  next_place : place_at flag (b + 1) ≡ place_at flag b + length (cond {A = List (ℕ × ℕ)} (apart flag b) ((flag, b) ∷ []) [])
  next_place =
      omega (
        arith,
        ap length (each_up_to (pair_at 0 flag) b),
        length-append (flags_at 0 b flag) (pair_at 0 flag b),
        ap length (pair_of flag b),
      )

  pub place_apart : apart flag b ≡ true → place_at flag (b + 1) ≡ place_at flag b + 1
  place_apart e = next_place ∙ rw e

  pub place_shared : apart flag b ≡ false → place_at flag (b + 1) ≡ place_at flag b
  place_shared e = next_place ∙ rw e (omega arith)

-- what stands at it
module _ (flag b : ℕ) (t : flag < most_flags) (l : b < most_flags) where
  -- the pairs before it: those of the left flags below flag, and those of flag
  abbrev passed : List (ℕ × ℕ)
  passed = each (up_to flag) (flags_at 0 most_flags) ++ flags_at 0 b flag

  -- the pairs, cut there
  cut_pairs : apart flag b ≡ true → (after : List (ℕ × ℕ)) × (flags_beside most_places 0 ≡ passed ++ ((flag, b) ∷ after))
  cut_pairs e =
      let (higher, around) = each_around (flags_at 0 most_flags) flag most_flags t in
      let (more, beside) = each_around (pair_at 0 flag) b most_flags l in
      let below : List (ℕ × ℕ) = each (up_to flag) (flags_at 0 most_flags) in
      let from : List (ℕ × ℕ) = pair_at 0 flag b ++ more in (
        more ++ higher,
        around ∙ ap {B = List (ℕ × ℕ)} (λ xs. below ++ (xs ++ higher)) beside
            ∙ ap {B = List (ℕ × ℕ)} (λ xs. below ++ xs) (append_assoc (flags_at 0 b flag) from higher)
            ∙ sym (append_assoc below (flags_at 0 b flag) (from ++ higher)) ∙ rw (pair_of flag b, e),
      )

  -- the table, cut there: it begins with the triples that have no own flag
  cut : apart flag b ≡ true
      → (before after : List ℕ) × (length before ≡ place_at flag b) × (all_triples ≡ before ++ (packed 0 (flag, b) ∷ after))
  cut e =
      let (after, pairs) = cut_pairs e in
      let others : List ℕ = each (count_from 1 (most_flags - 1)) triples_of in
      let from : List ℕ = packed 0 (flag, b) ∷ map (packed 0) after in (
        map (packed 0) passed,
        map (packed 0) after ++ others,
        length-map passed (packed 0) ∙ length-append (each (up_to flag) (flags_at 0 most_flags)) (flags_at 0 b flag),
        ap {B = List ℕ} (λ xs. map (packed 0) xs ++ others) pairs
            ∙ ap {B = List ℕ} (λ xs. xs ++ others) (map-append (packed 0) passed ((flag, b) ∷ after))
            ∙ append_assoc (map (packed 0) passed) from others,
      )

  -- where b shares no bit its triple is at hand
  at_hand : apart flag b ≡ true → (place_at flag b < length all_triples) × (get_or all_triples (place_at flag b) 0 ≡ packed 0 (flag, b))
  at_hand e =
      let (before, after, long, whole) = cut e in (
        omega (arith, long, ap length whole, length-append before (packed 0 (flag, b) ∷ after)),
        ap (λ xs. get_or xs (place_at flag b) 0) whole ∙ get_or_at before (packed 0 (flag, b)) after 0 (place_at flag b) long,
      )

  -- a triple with no own flag is in the table only if the other two share no bit
  listed : packed 0 (flag, b) ∈ all_triples → apart flag b ≡ true
  listed m =
      let (first, w, _, left_lt, right_lt, outer, e) = entry_is m in
      let same_sum : first + w.0 ≡ flag = omega arith in
      let same-right : w.1 ≡ b = omega arith in
      (λ i. apart (sym same_sum i) (sym same-right i)) ∙ outer

  -- so b shares no bit where its triple stands at any place, and shares one where it is not at hand
  module _ (table : List ℕ) (whole : table ≡ all_triples) (i : ℕ) where
    pub shown : i < triple_count → get_or table i 0 ≡ packed 0 (flag, b) → apart flag b ≡ true
    shown h e =
        listed (subst (λ x. x ∈ all_triples) (ap (λ xs. get_or xs i 0) (sym whole) ∙ e) (in_at 0 all_triples i (omega (arith, count))))

    pub not_shown : i ≡ place_at flag b → (get_or table i 0 ≡ packed 0 (flag, b) → ⊥) → apart flag b ≡ false
    not_shown p h =
        not_then_false (apart flag b)
        (λ e. h (ap (λ xs. get_or xs i 0) whole ∙ ap (λ n. get_or all_triples n 0) p ∙ (at_hand e).1))

-- every place at hand is within the table: there are no more pairs than triples
pub place_small : (flag b : ℕ) → flag < most_flags → b ≤ most_flags → place_at flag b < triple_count
place_small flag b t l =
    let pairs : left_at most_flags ≡ rule_splits = refl in
    omega (
      arith,
      pairs,
      each_le (pair_at 0 flag) b most_flags l,
      ap length (each_up_to (flags_at 0 most_flags) flag),
      length-append (each (up_to flag) (flags_at 0 most_flags)) (flags_at 0 most_flags flag),
      each_le (flags_at 0 most_flags) (flag + 1) most_flags (omega arith),
    )

-- the loop over the right flags: where it stands, and a turn
pub record Masking (flag b free shared i : ℕ) : Type 0 where
  pub place : i ≡ place_at flag b
  pub beside : Mask (apart flag) b free
  pub sharing : Mask (λ n. not (apart flag n)) b shared

module _ {flag b free shared i : ℕ} (m : Masking flag b free shared i) where
  pub masking_apart : apart flag b ≡ true → Masking flag (b + 1) (bit_or free (1 * 2 ^ b)) shared (i + 1)
  masking_apart e = record {
    place = omega (arith, m.place, place_apart flag b e);
    beside = mask_marked m.beside e;
    sharing = mask_unmarked m.sharing (ap not e);
  }

  pub masking_shared : apart flag b ≡ false → Masking flag (b + 1) free (bit_or shared (1 * 2 ^ b)) i
  masking_shared e = record {
    place = omega (arith, m.place, place_shared flag b e);
    beside = mask_unmarked m.beside e;
    sharing = mask_marked m.sharing (ap not e);
  }

-- ---- the masks of all flags
-- those of one more are put into the notes
abbrev with_masks : ℕ → ℕ → ℕ → List ℕ → List ℕ
with_masks flag free shared notes = set (set notes flag free) (most_flags + flag) shared

module _ (size flag free shared : ℕ) (notes : List ℕ) (room : note_numbers ≤ length notes) (small : flag < most_flags) where
  -- they stand there, and those of the flags before stay
  pub noted_onward : ((n : ℕ) → n < flag → Masked size n (free_at notes n) (shared_at notes n)) → Masked size flag free shared
      → let notes' = with_masks flag free shared notes in
      (n : ℕ) → n < flag + 1 → Masked size n (free_at notes' n) (shared_at notes' n)
  noted_onward before m = below_more (λ n. Masked size n (free_at notes' n) (shared_at notes' n)) flag earlier here
    where
      notes' : List ℕ
      notes' = with_masks flag free shared notes

      other : (i : ℕ) → (i ≡ flag → ⊥) → (i ≡ most_flags + flag → ⊥) → get_or notes' i 0 ≡ get_or notes i 0
      other i h k = get_or-set_other (set notes flag free) (most_flags + flag) i shared 0 k ∙ get_or-set_other notes flag i free 0 h

      earlier : (n : ℕ) → n < flag → Masked size n (free_at notes' n) (shared_at notes' n)
      earlier n h =
          subst₂ (Masked size n) (sym (other n (omega arith) (omega arith))) (sym (other (most_flags + n) (omega arith) (omega arith)))
          (before n h)

      first : free_at notes' flag ≡ free
      first =
          get_or-set_other (set notes flag free) (most_flags + flag) flag shared 0 (λ e. omega arith)
          ∙ get_or-set_same notes flag free 0 (omega arith)

      second : shared_at notes' flag ≡ shared
      second = get_or-set_same (set notes flag free) (most_flags + flag) shared 0 (omega (arith, length-set notes flag free))

      here : Masked size flag (free_at notes' flag) (shared_at notes' flag)
      here = subst₂ (Masked size flag) (sym first) (sym second) m
