-- One tree record after those before it. First how many subtrees are unjoined, and the most ever, then the tests of one record.
use mathlib.Core.Bool.{Bool, ◌||◌, cond, false, true}
use mathlib.Core.List.{List, [], ◌++◌, ◌∷◌}
use mathlib.Core.Logic.{⊎_elim}
use mathlib.Core.Path.{◌≡◌, refl}
use Prim.Native.Nat.{◌+◌, ◌-◌, ◌<◌, ◌≤◌, max, suc, ℕ}
use native.Mathlib.Omega.{arith}
use borrow.Author.Tests.{eq-eqb, le-leb, le-ltb, lt-leb, lt-ltb, ltb-true, ne_eqb}
use lib.Dec.{eqb, leb, ltb}
use lib.ListN.{get_or, length}
use Rattle.paper.specs.Lists.{through}
use Rattle.paper.specs.Refusals.{Test, no_at, refused, tests_at, tree_tests, unless}
use Rattle.paper.specs.Stream.{StreamRecord, body_length, is_tree_kind, number}
use Rattle.paper.specs.Tree.{Tree, grow, join, leaf, most_from, most_unjoined, unjoined}
use Rattle.laws.specs.StreamCauses.{TreeKind}
use Rattle.laws.proofs.Lists.{both_true, or_left, or_right}
use Rattle.laws.proofs.Replies.{Passes}
use Rattle.laws.proofs.StreamPlaces.{join_length, tree_kind, unjoined_snoc}
use Rattle.stream.specs.OneRecord.{is_tree_at}
use Rattle.stream.specs.Positions.{after, record_at, records_between}
use Rattle.stream.specs.Reading.{tree_facts}
use Rattle.stream.proofs.Positions.{cut_here, number_byte, whole_here}

-- ---- subtrees unjoined
-- a leaf is one more, and a branch that finds two makes one of them
unjoined_leaf : (before : List StreamRecord) (r : StreamRecord) → r.kind ≡ 1
    → length (unjoined (before ++ (r ∷ []))) ≡ suc (length (unjoined before))
unjoined_leaf before r e = rw (unjoined_snoc before r, e) refl

unjoined_branch : (before : List StreamRecord) (r : StreamRecord) → r.kind ≡ 2 → 2 ≤ length (unjoined before)
    → suc (length (unjoined (before ++ (r ∷ [])))) ≡ length (unjoined before)
unjoined_branch before r e two = rw (unjoined_snoc before r, e) (join_length _ _ (unjoined before) two)

most_from_snoc : (s : List Tree × ℕ) (before : List StreamRecord) (r : StreamRecord)
    → most_from s (before ++ (r ∷ [])) ≡ max (most_from s before) (length (grow (through grow s before) r).0)
most_from_snoc s [] r = omega arith
most_from_snoc s (x ∷ xs) r = omega (arith, most_from_snoc (grow s x) xs r)

-- with one more record the most is the most so far, or what is unjoined then
most_snoc : (before : List StreamRecord) (r : StreamRecord)
    → most_unjoined (before ++ (r ∷ [])) ≡ max (most_unjoined before) (length (unjoined (before ++ (r ∷ []))))
most_snoc before r = rw (unjoined_snoc before r) (most_from_snoc ([], 0) before r)

few_from : (s : List Tree × ℕ) (records : List StreamRecord) → length (through grow s records).0 ≤ max (length s.0) (most_from s records)
few_from s [] = omega arith
few_from s (r ∷ rs) = omega (arith, few_from (grow s r) rs)

-- never are more unjoined than the most
pub unjoined_most : (records : List StreamRecord) → length (unjoined records) ≤ most_unjoined records
unjoined_most records = omega (arith, few_from ([], 0) records)

join_few : (label n : ℕ) (ts : List Tree) → length (join label n ts) ≤ length ts
join_few label n [] = omega arith
join_few label n (last ∷ []) = omega arith
join_few label n (last ∷ older ∷ others) = omega arith

pub grow_few : (s : List Tree × ℕ) (r : StreamRecord) → length (grow s r).0 ≤ suc (length s.0)
grow_few s r = go (eqb r.kind 1)
  where
    go : (c : Bool) → length (cond c (leaf (number r 0) s.1 ∷ s.0) (join (number r 0) s.1 s.0)) ≤ suc (length s.0)
    go true = omega arith
    go false = omega (arith, join_few (number r 0) s.1 s.0)

few_through : (s : List Tree × ℕ) (records : List StreamRecord) → length (through grow s records).0 ≤ length s.0 + length records
few_through s [] = omega arith
few_through s (r ∷ rs) = omega (arith, few_through (grow s r) rs, grow_few s r)

-- and never more than there are nodes
pub unjoined_nodes : (records : List StreamRecord) → length (unjoined records) ≤ length records
unjoined_nodes records = omega (arith, few_through ([], 0) records)

-- ---- the tests of one record
module _ (input : List ℕ) (at : ℕ) (here : is_tree_at input at ≡ true) where
  abbrev before : List StreamRecord
  before = records_between input 0 at

  -- the record stands in the input, is a leaf or a branch, and has one number
  pub inside : at < length input
  inside = ltb-true at (length input) (both_true (ltb at (length input)) (is_tree_kind (get_or input at 0)) here).0

  pub kind : is_tree_kind (get_or input at 0) ≡ true
  kind = (both_true (ltb at (length input)) (is_tree_kind (get_or input at 0)) here).1

  leaf_or_branch : TreeKind (get_or input at 0)
  leaf_or_branch = tree_kind (get_or input at 0) kind

  pub one_number : body_length (get_or input at 0) ≡ 1
  one_number = ⊎_elim (λ e. rw e refl) (λ e. rw e refl) leaf_or_branch

  label : number (record_at input at) 0 ≡ get_or input (at + 1) 0
  label = number_byte input at (get_or input at 0) 0 (at + 1) refl (omega (arith, one_number)) (omega arith)

  abbrev pub step_tests : List Test
  step_tests = tests_at at (tree_tests before (record_at input at))

  -- 2: the 4,096th tree kind
  pub many_nodes : 4095 ≤ length before → unless step_tests (tree_facts input) ≡ refused (no_at 2 at)
  many_nodes h = rw (le-ltb (length before) 4095 h) refl

  module _ (few : length before < 4095) where
    -- 1: the input is cut in the record
    pub cut_record : length input < after input at → unless step_tests (tree_facts input) ≡ refused (no_at 1 at)
    cut_record h = rw (lt-ltb (length before) 4095 few, cut_here input at inside h) refl

    module _ (fits : after input at ≤ length input) where
      -- 1: a label over 63
      pub label_over : 63 < get_or input (at + 1) 0 → unless step_tests (tree_facts input) ≡ refused (no_at 1 at)
      label_over h =
          rw (lt-ltb (length before) 4095 few, whole_here input at fits, lt-leb (number (record_at input at) 0) 63 (omega (arith, label))) refl

      module _ (low : get_or input (at + 1) 0 ≤ 63) where
        low_label : leb (number (record_at input at) 0) 63 ≡ true
        low_label = le-leb (number (record_at input at) 0) 63 (omega (arith, label))

        -- a leaf, or a branch that finds two, passes
        abbrev joins : Bool
        joins = eqb (get_or input at 0) 1 || leb 2 (length (unjoined before))

        passes : joins ≡ true → Passes step_tests
        passes e = (lt-ltb (length before) 4095 few, (whole_here input at fits, (low_label, (e, tt))))

        pub leaf_passes : get_or input at 0 ≡ 1 → Passes step_tests
        leaf_passes e = passes (or_left (eqb (get_or input at 0) 1) (leb 2 (length (unjoined before))) (eq-eqb (get_or input at 0) 1 e))

        pub branch_passes : 2 ≤ length (unjoined before) → Passes step_tests
        branch_passes two =
            passes (or_right (eqb (get_or input at 0) 1) (leb 2 (length (unjoined before))) (le-leb 2 (length (unjoined before)) two))

        -- 1: a branch with fewer than two unjoined
        pub few_unjoined : (get_or input at 0 ≡ 1 → ⊥) → length (unjoined before) < 2 → unless step_tests (tree_facts input) ≡ refused (no_at 1 at)
        few_unjoined no_leaf h = rw (lt-ltb (length before) 4095 few, whole_here input at fits, low_label, none) refl
          where
            none : joins ≡ false
            none = rw (ne_eqb (get_or input at 0) 1 no_leaf) (lt-leb 2 (length (unjoined before)) h)

  -- ---- how many are unjoined behind it, and the most ever
  abbrev with_it : List StreamRecord
  with_it = before ++ (record_at input at ∷ [])

  pub leaf_more : get_or input at 0 ≡ 1 → length (unjoined with_it) ≡ length (unjoined before) + 1
  leaf_more e = omega (arith, unjoined_leaf before (record_at input at) e)

  pub branch_fewer : (get_or input at 0 ≡ 1 → ⊥) → 2 ≤ length (unjoined before) → length (unjoined with_it) ≡ length (unjoined before) - 1
  branch_fewer no_leaf two =
      omega (arith, unjoined_branch before (record_at input at) (⊎_elim (λ e. absurd (no_leaf e)) (λ e. e) leaf_or_branch) two)

  pub most_more : most_unjoined with_it ≡ max (most_unjoined before) (length (unjoined with_it))
  most_more = most_snoc before (record_at input at)
