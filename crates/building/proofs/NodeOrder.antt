-- The building by the tree records in order is the building by the tree. The idea: one record does to the stack of slots what it does to
-- the stack of trees, so that the slots on the stack are those of the unjoined subtrees.
-- First records in two parts, for a loop that has passed the first; then the stack after any records, and after all of them; last
-- what the tests at a branch give.
use mathlib.Core.Bool.{Bool, cond, false, true}
use mathlib.Core.List.{List, [], ◌++◌, ◌∷◌}
use mathlib.Core.Path.{◌∙◌, ◌≡◌, ap, refl, subst, sym}
use Prim.Native.Nat.{◌+◌, ◌≤◌, suc, ℕ}
use native.Mathlib.Omega.{arith}
use borrow.Author.Tests.{eqb-true, leb-true, ne_eqb}
use lib.Dec.{eqb}
use lib.ListN.{length}
use Rattle.paper.specs.Building.{Slots, record_sets, slots_of}
use Rattle.paper.specs.Lists.{through}
use Rattle.paper.specs.Query.{Query}
use Rattle.paper.specs.Refusals.{StreamTest, at_each, tests_at, tree_end_tests, tree_part, tree_tests}
use Rattle.paper.specs.Stream.{StreamRecord, behind, number}
use Rattle.paper.specs.Tree.{Tree, grow, join, last_of, leaf, tree_of, unjoined}
use Rattle.laws.proofs.AtEach.{at_passes, each_append, part_each, part_end}
use Rattle.laws.proofs.Replies.{Passes, passes_left, passes_right}
use Rattle.laws.specs.Plain.{Record, Set}
use Rattle.building.specs.Kinds.{leaf_kind}
use Rattle.building.specs.NodeOrder.{Stack, from_node, join_slots, node_slots, push_slots, stack_slots}

module _ (Q : Query) where
  -- ---- records in two parts
  -- the records after the first ones go on with the stack that those leave
  pub from_append : (xs ys : List StreamRecord) (n : ℕ) (stack : List (Slots Set)) (s : List Record)
      → from_node Q (xs ++ ys) n stack s
      ≡ from_node Q ys (n + length xs) (from_node Q xs n stack s).1 (from_node Q xs n stack s).0
  from_append [] ys n stack s = ap (λ (m : ℕ). from_node Q ys m stack s) (let z : n ≡ n + 0 = omega arith in z)
  from_append (r ∷ xs) ys n stack s =
      let now : Stack = node_slots Q r n stack s in
      let later : Stack = from_node Q xs (suc n) now.1 now.0 in
      from_append xs ys (suc n) now.1 now.0
      ∙ ap (λ (m : ℕ). from_node Q ys m later.1 later.0) (let z : suc n + length xs ≡ n + suc (length xs) = omega arith in z)

  -- a loop that has passed the records before
  module _ (before : List StreamRecord) (s : List Record) (stack : List (Slots Set)) (passed : from_node Q before 0 [] [] ≡ (s, stack)) where
    -- goes on with the rest
    pub passed_rest : (rest : List StreamRecord) → from_node Q (before ++ rest) 0 [] [] ≡ from_node Q rest (length before) stack s
    passed_rest rest =
        from_append before rest 0 [] []
        ∙ ap (λ (z : Stack). from_node Q rest (0 + length before) z.1 z.0) passed
        ∙ ap (λ (m : ℕ). from_node Q rest m stack s) (let z : 0 + length before ≡ length before = omega arith in z)

    -- and passes one more record
    pub passed_next : (r : StreamRecord) → from_node Q (before ++ (r ∷ [])) 0 [] [] ≡ node_slots Q r (length before) stack s
    passed_next r = passed_rest (r ∷ [])

  -- ---- the stack after any records
  join_slots_lem : (label n : ℕ) (ts : List Tree) (s : List Record)
      → join_slots Q label n (stack_slots Q ts s).1 (stack_slots Q ts s).0 ≡ stack_slots Q (join label n ts) s
  join_slots_lem label n [] s = refl
  join_slots_lem label n (last ∷ []) s = refl
  join_slots_lem label n (last ∷ older ∷ others) s = refl

  -- one record does to the slots what it does to the trees
  node_slots_lem : (r : StreamRecord) (n : ℕ) (ts : List Tree) (s : List Record)
      → node_slots Q r n (stack_slots Q ts s).1 (stack_slots Q ts s).0 ≡ stack_slots Q (grow (ts, n) r).0 s
  node_slots_lem r n ts s = go (eqb r.kind leaf_kind)
    where
      stack : List (Slots Set)
      stack = (stack_slots Q ts s).1

      table : List Record
      table = (stack_slots Q ts s).0

      go : (c : Bool) → cond c (push_slots Q (number r 0) n stack table) (join_slots Q (number r 0) n stack table)
          ≡ stack_slots Q (cond c (leaf (number r 0) n ∷ ts) (join (number r 0) n ts)) s
      go true = refl
      go false = join_slots_lem (number r 0) n ts s

  from_slots : (records : List StreamRecord) (n : ℕ) (ts : List Tree) (s : List Record)
      → from_node Q records n (stack_slots Q ts s).1 (stack_slots Q ts s).0 ≡ stack_slots Q (through grow (ts, n) records).0 s
  from_slots [] n ts s = refl
  from_slots (r ∷ rs) n ts s =
      ap (λ (z : Stack). from_node Q rs (suc n) z.1 z.0) (node_slots_lem r n ts s) ∙ from_slots rs (suc n) (grow (ts, n) r).0 s

  -- after any records the stack has the slots of the unjoined subtrees, built one after the other
  pub unjoined_slots : (before : List StreamRecord) → from_node Q before 0 [] [] ≡ stack_slots Q (unjoined before) []
  unjoined_slots before = from_slots before 0 [] []

  stack_length : (ts : List Tree) (s : List Record) → length (stack_slots Q ts s).1 ≡ length ts
  stack_length [] s = refl
  stack_length (t ∷ ts) s = ap suc (stack_length ts s)

  -- it is as high as there are unjoined subtrees
  pub stack_high : (before : List StreamRecord) (s : List Record) (stack : List (Slots Set)) → from_node Q before 0 [] [] ≡ (s, stack)
      → length stack ≡ length (unjoined before)
  stack_high before s stack passed =
      ap (λ (z : Stack). length z.1) (sym passed ∙ unjoined_slots before) ∙ stack_length (unjoined before) []

  -- ---- the stack after all records
  one_tree : (ts : List Tree) (s : List Record) → length ts ≡ 1
      → stack_slots Q ts s
      ≡ ((slots_of record_sets Q.arity Q.rules (last_of ts) s).0, (slots_of record_sets Q.arity Q.rules (last_of ts) s).1 ∷ [])
  one_tree [] s one = absurd (omega arith)
  one_tree (t ∷ []) s one = refl
  one_tree (t ∷ older ∷ others) s one = absurd (omega arith)

  -- where the tree tests pass, the one stack entry left has the slots of the tree, and the records made are the tree's
  pub node_order : (records : List StreamRecord) → Passes (tree_part records)
      → from_node Q records 0 [] []
      ≡ (
        (slots_of record_sets Q.arity Q.rules (tree_of records) []).0,
        (slots_of record_sets Q.arity Q.rules (tree_of records) []).1 ∷ [],
      )
  node_order records p =
      unjoined_slots records
      ∙ one_tree (unjoined records) []
      (eqb-true (length (unjoined records)) 1 (part_end tree_tests tree_end_tests 0 records p).1.0)

-- ---- the tests
-- at a record that stands behind others
pub tests_at_lem : (tests : List StreamRecord → StreamRecord → List StreamTest) (from : ℕ) (passed before : List StreamRecord)
    (r : StreamRecord) (rest : List StreamRecord)
    → Passes (at_each tests from passed (before ++ (r ∷ rest))) → Passes (tests (passed ++ before) r)
tests_at_lem tests from passed before r rest p =
    at_passes (behind from (passed ++ before)) (tests (passed ++ before) r)
    (passes_left (tests_at (behind from (passed ++ before)) (tests (passed ++ before) r)) _
    (passes_right (at_each tests from passed before) (at_each tests from (passed ++ before) (r ∷ rest))
    (subst Passes (each_append tests from passed before (r ∷ rest)) p)))

-- a branch of a tree whose tests pass has two subtrees to join
pub two_unjoined : (before : List StreamRecord) (r : StreamRecord) (rest : List StreamRecord) → Passes (tree_part (before ++ (r ∷ rest)))
    → (r.kind ≡ leaf_kind → ⊥) → 2 ≤ length (unjoined before)
two_unjoined before r rest p e =
    let records : List StreamRecord = before ++ (r ∷ rest) in
    let q = tests_at_lem tree_tests 0 [] before r rest (part_each tree_tests tree_end_tests 0 records p) in
    leb-true 2 (length (unjoined before)) (rw (ne_eqb r.kind leaf_kind e) at q.1.1.1.0)
