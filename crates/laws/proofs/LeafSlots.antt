-- The slots of a leaf are right: what stands in them is what they hold, and nothing stands twice.
-- First when a rule asks for the single row, then what a leaf that is a pad can be marked with, then the slots.
use mathlib.Core.Bool.{Bool, ◌&&◌, ◌||◌, cond, false, false≢true, not, true}
use mathlib.Core.List.Memᴰ
use mathlib.Core.List.{List, [], ◌∷◌, map}
use mathlib.Core.Logic.{⊎_elim}
use mathlib.Core.Path.{◌∙◌, ◌≡◌, ap, ap₂, refl, sym}
use Prim.Native.Nat.{◌<◌, ◌^◌, suc, ℕ}
use native.Mathlib.Omega.{arith}
use borrow.Author.Tests.{eq-eqb, eqb-true}
use lib.Dec.{eqb}
use lib.ListN.{length}
use Rattle.paper.specs.Building.{can_stand}
use Rattle.paper.specs.Lists.{Once, ◌∈◌}
use Rattle.paper.specs.Query.{Rule, branch_rule, leaf_rule, side}
use Rattle.paper.specs.Row.{Row, blank, flag_of, mark, no_place, single_row}
use Rattle.paper.specs.Tree.{leaf, pad_label}
use Rattle.laws.specs.Numbered.{rule_flag}
use Rattle.laws.proofs.Held.{Holds, PadsUnmarked, Right, in_within, slot_rows, within, within_true}
use Rattle.laws.proofs.Lists.{both_true, iff_eq, in_cond, mem_cond, once_cond, once_one, only, or_cases, or_left, or_right}
use Rattle.laws.proofs.Pads.{leaf_pad, pad_leaf}
use Rattle.laws.proofs.Rows.{flag_of_cong, flag_of_single, is, keep, keep_cong, keep_is, keep_single, length_single}
use Rattle.laws.proofs.Runs.{finds_rule, leaf_parts, rule_found}
use Rattle.laws.proofs.Slots.{leaf_slots, leaf_has, same_slot}

-- ---- `leaf_has` finds exactly the rules of the list that are used
leaf_has_lem : (a q b : ℕ) (rules : List Rule) → leaf_has a q b rules ≡ true → (leaf_rule a b q ∈ rules) × (can_stand a b ≡ true)
leaf_has_lem a q b [] e = absurd (false≢true e)
leaf_has_lem a q b (leaf_rule a' b' q' ∷ rs) e =
    ⊎_elim first (λ h. let (rule, stands) = leaf_has_lem a q b rs h in (Memᴰ.tail rule, stands))
    (or_cases ((eqb a a' && can_stand a b') && (eqb q' q && eqb b' b)) (leaf_has a q b rs) e)
  where
    first : (eqb a a' && can_stand a b') && (eqb q' q && eqb b' b) ≡ true → (leaf_rule a b q ∈ leaf_rule a' b' q' ∷ rs) × (can_stand a b ≡ true)
    first h =
        let (used, slot) = both_true (eqb a a' && can_stand a b') (eqb q' q && eqb b' b) h in
        let (label, stands) = both_true (eqb a a') (can_stand a b') used in
        let (state, flag) = same_slot q' b' q b slot in
        let same : leaf_rule a b q ≡ leaf_rule a' b' q' = cc (eqb-true a a' label) in
        (Memᴰ.head same, ap (can_stand a) (sym flag) ∙ stands)
leaf_has_lem a q b (branch_rule a' b' l r t ∷ rs) e = let (rule, stands) = leaf_has_lem a q b rs e in (Memᴰ.tail rule, stands)

has_leaf : (a q b : ℕ) (rules : List Rule) → leaf_rule a b q ∈ rules → can_stand a b ≡ true → leaf_has a q b rules ≡ true
has_leaf a q b [] m stands = absurd (Memᴰ.not-nil m)
has_leaf a q b (leaf_rule a' b' q' ∷ rs) m stands =
    ⊎_elim (λ e. or_left asked (leaf_has a q b rs) (first e)) (λ n. or_right asked (leaf_has a q b rs) (has_leaf a q b rs n stands))
    (Memᴰ.cases_cons m)
  where
    asked : Bool
    asked = (eqb a a' && can_stand a b') && (eqb q' q && eqb b' b)

    first : leaf_rule a b q ≡ leaf_rule a' b' q' → asked ≡ true
    first e =
        let flag : b' ≡ b = cc in
        rw (eq-eqb a a' (cc), ap (can_stand a) flag ∙ stands, eq-eqb q' q (cc), eq-eqb b' b flag)
has_leaf a q b (branch_rule a' b' l r t ∷ rs) m stands =
    ⊎_elim (λ e. absurd (let z : ◌≡◌ {A = ℕ} 0 1 = cc in omega arith)) (λ n. has_leaf a q b rs n stands) (Memᴰ.cases_cons m)

-- ---- a leaf that is a pad is marked with no place exactly if it can stand there
module _ (a n : ℕ) (row : Row) where
  stands_unmarked : can_stand a (mark row n) ≡ true → PadsUnmarked (leaf a n) row
  stands_unmarked stands x m =
      let (pad, it) = pad_leaf a n m in
      ap (mark row) it ∙ eqb-true (mark row n) no_place (rw (eq-eqb a pad_label pad) at stands)

  unmarked_stands : PadsUnmarked (leaf a n) row → can_stand a (mark row n) ≡ true
  unmarked_stands unmarked = go (eqb a pad_label) refl
    where
      go : (c : Bool) → eqb a pad_label ≡ c → not c || eqb (mark row n) no_place ≡ true
      go true pad = eq-eqb (mark row n) no_place (unmarked n (leaf_pad a n (eqb-true a pad_label pad)))
      go false other = refl

-- ---- the slots
module _ (k : ℕ) (rules : List Rule) (deterministic : Once (map side rules)) (small : (r : Rule) → r ∈ rules → rule_flag r < 2 ^ k)
    (a n : ℕ) (below : n < blank) where
  not_blank_lem : n ≡ blank → ⊥
  not_blank_lem e = omega arith

  -- the leaf's interval has one node
  one_node : (x : ℕ) → within n (suc n) x ≡ is n x
  one_node x =
      iff_eq (within n (suc n) x) (is n x)
      (λ e. let h = within_true n (suc n) x e in eq-eqb x n (omega arith))
      (λ e. let h : x ≡ n = eqb-true x n e in in_within n (suc n) x (omega arith) (omega arith))

  flag_mark : (row : Row) → flag_of (within n (suc n)) row ≡ mark row n
  flag_mark = flag_of_cong (within n (suc n)) (is n) one_node

  keep_node : (row : Row) → keep (within n (suc n)) row ≡ keep (is n) row
  keep_node = keep_cong (within n (suc n)) (is n) one_node

  -- building a leaf puts in each slot the single row, if a rule asks for it
  slot_rows_lem : (q b : ℕ) → slot_rows k rules (leaf a n) q b ≡ cond (leaf_has a q b rules) (single_row k n b ∷ []) []
  slot_rows_lem = leaf_slots k a n rules (λ u v. [])

  -- a row of a slot is held there
  leaf_sound : (q b : ℕ) (row : Row) → row ∈ slot_rows k rules (leaf a n) q b → Holds k rules n (leaf a n) (suc n) q b row
  leaf_sound q b row m =
      let (asked, mr) = mem_cond (leaf_has a q b rules) (single_row k n b ∷ []) (rw (slot_rows_lem q b) at m) in
      let e : row ≡ single_row k n b = only mr in
      let (rule, stands) = leaf_has_lem a q b rules asked in
      let marked : mark row n ≡ b = ap (λ (z : Row). mark z n) e ∙ flag_of_single n not_blank_lem k b (small (leaf_rule a b q) rule) in
      record {
        places = ap length e ∙ length_single k n b;
        kept = keep_node row ∙ rw e (keep_single n not_blank_lem k b);
        flag = flag_mark row ∙ marked;
        unmarked = stands_unmarked a n row (ap (can_stand a) marked ∙ stands);
        runs = rw marked (finds_rule rules deterministic (leaf_rule a b q) rule);
      }

  -- a row that a slot holds stands in it
  leaf_complete : (q b : ℕ) (row : Row) → Holds k rules n (leaf a n) (suc n) q b row → row ∈ slot_rows k rules (leaf a n) q b
  leaf_complete q b row h =
      let marked : mark row n ≡ b = sym (flag_mark row) ∙ h.flag in
      let e : row ≡ single_row k n b = sym h.kept ∙ keep_node row ∙ keep_is n row ∙ ap₂ (λ (u v : ℕ). single_row u n v) h.places marked in
      let (found, in-rules, side-is, names-it) = rule_found rules (17 ∷ a ∷ mark row n ∷ []) q h.runs in
      let rule : found ≡ leaf_rule a b q = leaf_parts found a (mark row n) side-is ∙ ap₂ (leaf_rule a) marked names-it in
      let stands : can_stand a b ≡ true = ap (can_stand a) (sym marked) ∙ unmarked_stands a n row h.unmarked in
      rw (slot_rows_lem q b) (in_cond (leaf_has a q b rules) (has_leaf a q b rules (Memᴰ.cast (sym rule) in-rules) stands) (Memᴰ.head e))

  -- no row stands in a slot twice
  leaf_once : (q b : ℕ) → Once (slot_rows k rules (leaf a n) q b)
  leaf_once q b = rw (slot_rows_lem q b) (once_cond (leaf_has a q b rules) (single_row k n b ∷ []) (once_one (single_row k n b)))

  -- so the slots of a leaf are right
  pub leaf_right : Right k rules n (leaf a n) (suc n)
  leaf_right = record { sound = leaf_sound; complete = leaf_complete; once = leaf_once }
