-- The numbers of a record of the query behind the head, where the query's tests pass: the flag below 2 to the arity, the states below
-- the states. They are where the slots that the record speaks of stand in a frame.
use mathlib.Core.Bool.{Bool, ◌&&◌, true}
use mathlib.Core.List.{List, [], ◌++◌, ◌∷◌}
use mathlib.Core.Path.{◌≡◌, ap}
use Prim.Native.Nat.{◌+◌, ◌<◌, ◌^◌, suc, zero, ℕ}
use native.Mathlib.Omega.{arith}
use borrow.Author.Tests.{eqb-true, ltb-true}
use lib.Dec.{leb, ltb}
use lib.ListN.{drop, get_or, length, length-drop}
use lib.Seq.{get_or-drop}
use Rattle.paper.specs.Lists.{all_below}
use Rattle.paper.specs.Query.{is_rule_kind, query_of}
use Rattle.paper.specs.Refusals.{at_each, head_tests, later_tests, query_end_tests, query_part, query_tests, tests_at}
use Rattle.paper.specs.Stream.{StreamRecord, body_length, number}
use Rattle.laws.proofs.Lists.{both_true}
use Rattle.laws.proofs.AtEach.{part_each}
use Rattle.laws.proofs.Replies.{Passes, passes_right}
use Rattle.building.specs.Kinds.{branch_rule_kind, leaf_rule_kind}
use Rattle.building.proofs.NodeOrder.{tests_at_lem}

-- numbers that are all below a bound
all_below_lem : (bound : ℕ) (xs : List ℕ) → all_below bound xs ≡ true → (i : ℕ) → i < length xs → get_or xs i 0 < bound
all_below_lem bound [] e i h = absurd (omega arith)
all_below_lem bound (x ∷ xs) e zero h = ltb-true x bound (both_true (ltb x bound) (all_below bound xs) e).0
all_below_lem bound (x ∷ xs) e (suc i) h = all_below_lem bound xs (both_true (ltb x bound) (all_below bound xs) e).1 i (omega arith)

module _ (from : ℕ) (head : StreamRecord) (before : List StreamRecord) (r : StreamRecord) (rest : List StreamRecord)
    (p : Passes (query_part from (head ∷ (before ++ (r ∷ rest))))) where
  tests : Passes (later_tests (query_of (head ∷ before)) r)
  tests =
      let records : List StreamRecord = before ++ (r ∷ rest) in
      tests_at_lem query_tests from (head ∷ []) before r rest
      (passes_right (tests_at from (head_tests head)) (at_each query_tests from (head ∷ []) records)
      (part_each query_tests query_end_tests from (head ∷ records) p))

  is_whole : length r.body ≡ body_length r.kind
  is_whole = eqb-true (length r.body) (body_length r.kind) tests.1.0

  ranges : is_rule_kind r.kind ≡ true
      → (ltb (number r 1) (2 ^ number head 0) ≡ true) × (all_below (number head 1) (drop 2 r.body) ≡ true)
  ranges e =
      let flag : Bool = ltb (number r 1) (2 ^ number head 0) in
      let states : Bool = all_below (number head 1) (drop 2 r.body) in
      both_true flag states (both_true (leb (number r 0) 63) (flag && states) (rw e at tests.1.1.0)).1

  state_below : is_rule_kind r.kind ≡ true → (i : ℕ) → 2 + i < body_length r.kind → number r (2 + i) < number head 1
  state_below e i h =
      rw get_or-drop at (all_below_lem (number head 1) (drop 2 r.body) (ranges e).1 i (omega (arith, length-drop 2 r.body, is_whole)))

  -- a leaf rule
  pub leaf_numbers : r.kind ≡ leaf_rule_kind → (number r 1 < 2 ^ number head 0) × (number r 2 < number head 1)
  leaf_numbers e =
      let rule : is_rule_kind r.kind ≡ true = ap is_rule_kind e in
      (ltb-true (number r 1) (2 ^ number head 0) (ranges rule).0, state_below rule 0 (rw e (omega arith)))

  -- a branch rule
  pub branch_numbers : r.kind ≡ branch_rule_kind
      → (number r 1 < 2 ^ number head 0) × (number r 2 < number head 1) × (number r 3 < number head 1) × (number r 4 < number head 1)
  branch_numbers e =
      let rule : is_rule_kind r.kind ≡ true = ap is_rule_kind e in (
        ltb-true (number r 1) (2 ^ number head 0) (ranges rule).0,
        state_below rule 0 (rw e (omega arith)),
        state_below rule 1 (rw e (omega arith)),
        state_below rule 2 (rw e (omega arith)),
      )
