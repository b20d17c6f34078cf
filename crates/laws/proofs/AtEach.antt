-- The tests of a part of the stream: those at each record, in order, and those where it ended.
-- First that tests of what stands at a position are passed as they are, then the part, then some records and others behind them, then what is
-- kept up from record to record, and at last the numbers that the tests of the tree and of the query say.
use mathlib.Core.List.{List, [], ◌∷◌, ◌++◌, append-nil, append_assoc}
use mathlib.Core.Path.{◌∙◌, ◌≡◌, ap, sym}
use Prim.Native.Nat.{◌≤◌, ℕ}
use native.Mathlib.Omega.{arith}
use Rattle.paper.specs.Stream.{StreamRecord, behind}
use Rattle.paper.specs.Refusals.{No, StreamTest, at_each, number_in, part, query_end_tests, query_part, query_tests, tests_at, tree_end_tests, tree_part, tree_tests}
use Rattle.laws.proofs.Replies.{EachSays, Passes, passes_left, passes_right, says_append}

pub passes_at : (position : ℕ) (ts : List StreamTest) → Passes ts → Passes (tests_at position ts)
passes_at position [] p = tt
passes_at position (t ∷ ts) p = (p.0, passes_at position ts p.1)

pub at_passes : (position : ℕ) (ts : List StreamTest) → Passes (tests_at position ts) → Passes ts
at_passes position [] p = tt
at_passes position (t ∷ ts) p = (p.0, at_passes position ts p.1)

module _ (tests : List StreamRecord → StreamRecord → List StreamTest) (end_tests : List StreamRecord → List StreamTest) (from : ℕ)
    (records : List StreamRecord) (p : Passes (part tests end_tests from records)) where
  pub part_each : Passes (at_each tests from [] records)
  part_each = passes_left (at_each tests from [] records) (tests_at (behind from records) (end_tests records)) p

  pub part_end : Passes (end_tests records)
  part_end =
      at_passes (behind from records) (end_tests records)
      (passes_right (at_each tests from [] records) (tests_at (behind from records) (end_tests records)) p)

-- ---- some records, and others behind them
module _ (tests : List StreamRecord → StreamRecord → List StreamTest) (from : ℕ) where
  pub each_append : (before xs ys : List StreamRecord)
      → at_each tests from before (xs ++ ys) ≡ at_each tests from before xs ++ at_each tests from (before ++ xs) ys
  each_append before [] ys = ap (λ b. at_each tests from b ys) (sym (append-nil before))
  each_append before (x ∷ xs) ys =
      let new : List StreamRecord = before ++ (x ∷ []) in
      let here = tests_at (behind from before) (tests before x) in
      ap (λ z. here ++ z)
      (each_append new xs ys ∙ ap (λ b. at_each tests from new xs ++ at_each tests from b ys) (append_assoc before (x ∷ []) xs))
      ∙ sym (append_assoc here (at_each tests from new xs) (at_each tests from (before ++ (x ∷ xs)) ys))

-- ---- from record to record
module _ (tests : List StreamRecord → StreamRecord → List StreamTest) (from : ℕ) (P : List StreamRecord → Type 0)
    (step : (before : List StreamRecord) (r : StreamRecord) → P before → Passes (tests before r) → P (before ++ (r ∷ []))) where
  -- what holds of the records before, and after one more whose tests pass, holds of all of them
  pub at_each_lem : (before records : List StreamRecord) → P before → Passes (at_each tests from before records) → P (before ++ records)
  at_each_lem before [] p e = rw append-nil p
  at_each_lem before (r ∷ rs) p e =
      let new : List StreamRecord = before ++ (r ∷ []) in
      let position = behind from before in
      let here = tests_at position (tests before r) in
      rw append_assoc at (at_each_lem new rs (step before r p (at_passes position (tests before r) (passes_left here (at_each tests from new rs) e)))
      (passes_right here (at_each tests from new rs) e))

-- ---- the numbers
module _ (P : No → Type 0) (tests : List StreamRecord → StreamRecord → List StreamTest) (end_tests : List StreamRecord → List StreamTest)
    (each : (position : ℕ) (before : List StreamRecord) (r : StreamRecord) → EachSays P (tests_at position (tests before r)))
    (end : (position : ℕ) (records : List StreamRecord) → EachSays P (tests_at position (end_tests records))) where
  each_says : (from : ℕ) (before records : List StreamRecord) → EachSays P (at_each tests from before records)
  each_says from before [] = tt
  each_says from before (r ∷ rs) =
      says_append P (tests_at (behind from before) (tests before r)) (at_each tests from (before ++ (r ∷ [])) rs) (each (behind from before) before r)
      (each_says from (before ++ (r ∷ [])) rs)

  part_says : (from : ℕ) (records : List StreamRecord) → EachSays P (part tests end_tests from records)
  part_says from records = says_append P (at_each tests from [] records) _ (each_says from [] records) (end (behind from records) records)

-- of the tree 1 and 2
pub tree_says : (records : List StreamRecord) → EachSays (λ w. number_in w ≤ 2) (tree_part records)
tree_says records = part_says (λ w. number_in w ≤ 2) tree_tests tree_end_tests (λ position before r. omega arith) (λ position rs. omega arith) 0 records

-- of the query 3 and 4
abbrev pub ThreeOrFour : No → Type 0
ThreeOrFour w = (3 ≤ number_in w) × (number_in w ≤ 4)

query_each_says : (position : ℕ) (before : List StreamRecord) (r : StreamRecord) → EachSays ThreeOrFour (tests_at position (query_tests before r))
query_each_says position [] r = omega arith
query_each_says position (h ∷ before) r = omega arith

pub query_says : (from : ℕ) (records : List StreamRecord) → EachSays ThreeOrFour (query_part from records)
query_says from records = part_says ThreeOrFour query_tests query_end_tests query_each_says (λ position rs. omega arith) from records
