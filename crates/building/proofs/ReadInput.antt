-- What is known of an input whose tree and query are read: that their tests pass, the query's head, and the records behind it.
use mathlib.Core.Bool.{true}
use mathlib.Core.List.{List, [], ◌∷◌}
use mathlib.Core.Path.{◌∙◌, ◌≡◌, ap, subst, sym}
use Prim.Native.Nat.{◌*◌, ◌≤◌, ℕ}
use native.Mathlib.Omega.{arith}
use borrow.Author.Tests.{leb-true}
use lib.Dec.{leb}
use lib.ListN.{drop}
use Rattle.paper.specs.Lists.{◌∈◌}
use Rattle.paper.specs.Query.{accepting_of, query_of, rules_of}
use Rattle.paper.specs.Refusals.{answer, at_each, head_tests, nodes_in, query_end_tests, query_in, query_part, query_tests, tests_at, tree_part, tree_end}
use Rattle.paper.specs.Stream.{StreamRecord, number, query_records, records_of, tree_records, whole}
use Rattle.laws.proofs.AtEach.{at_passes, part_each}
use Rattle.laws.proofs.Lists.{both_true}
use Rattle.laws.proofs.Replies.{Passes, answered, passes_left}
use Rattle.stream.specs.Positions.{record_at}
use Rattle.stream.specs.Reading.{query_facts, query_reply, tree_facts, tree_reply}
use Rattle.stream.proofs.AfterTree.{query_after_tree, records_read, reply_after_tree, whole_read}
use Rattle.building.specs.Bounds.{most_places, most_states}
use Rattle.building.specs.Standing.{later_records}

-- the head of the query
abbrev pub head_record : List ℕ → StreamRecord
head_record input = record_at input (2 * nodes_in input)

module _ (input : List ℕ) (tree : tree_reply input ≡ answer (tree_facts input)) where
  pub tree_passes : Passes (tree_part (tree_records (records_of input)))
  tree_passes = (answered (tree_part (tree_records (records_of input))) tree).0

module _ (input : List ℕ) (query : query_reply input (2 * nodes_in input) ≡ answer (query_facts input (2 * nodes_in input))) where
  query_records_lem : query_records (records_of input) ≡ head_record input ∷ later_records input
  query_records_lem = query_after_tree input ∙ records_read input (2 * nodes_in input) (query_facts input (2 * nodes_in input)) (sym query)

  -- where the query begins
  abbrev from : ℕ
  from = 2 * nodes_in input

  pub query_passes : Passes (query_part from (head_record input ∷ later_records input))
  query_passes =
      subst (λ (rs : List StreamRecord). Passes (query_part from rs)) (sym (query_after_tree input) ∙ query_records_lem)
      (answered (query_part from (records_of (drop from input))) query).0

  pub query_part_passes : Passes (tree_part (tree_records (records_of input)))
      → Passes (query_part (tree_end input) (query_records (records_of input)))
  query_part_passes tree = (answered (query_part _ (query_records (records_of input))) (sym (reply_after_tree input tree) ∙ query)).0

  head_passes : Passes (head_tests (head_record input))
  head_passes =
      let records : List StreamRecord = head_record input ∷ later_records input in
      at_passes from (head_tests (head_record input))
      (passes_left (tests_at from (head_tests (head_record input))) (at_each query_tests from (head_record input ∷ []) (later_records input))
      (part_each query_tests query_end_tests from records query_passes))

  pub whole_later : (r : StreamRecord) → r ∈ later_records input → whole r ≡ true
  whole_later = whole_read input (2 * nodes_in input) (query_facts input (2 * nodes_in input)) (sym query)

  -- ---- the query
  pub arity_is : (query_in input).arity ≡ number (head_record input) 0
  arity_is = ap (λ (rs : List StreamRecord). (query_of rs).arity) query_records_lem

  pub states_are : (query_in input).states ≡ number (head_record input) 1
  states_are = ap (λ (rs : List StreamRecord). (query_of rs).states) query_records_lem

  pub rules_are : (query_in input).rules ≡ rules_of (later_records input)
  rules_are = ap (λ (rs : List StreamRecord). (query_of rs).rules) query_records_lem

  pub accepting_are : (query_in input).accepting ≡ accepting_of (later_records input)
  accepting_are = ap (λ (rs : List StreamRecord). (query_of rs).accepting) query_records_lem

  pub small_arity : (1 ≤ (query_in input).arity) × ((query_in input).arity ≤ most_places)
  small_arity =
      let (a, b) = both_true (leb 1 (number (head_record input) 0)) (leb (number (head_record input) 0) 4) head_passes.1.1.0 in
      (omega (arith, arity_is, leb-true 1 (number (head_record input) 0) a), omega (arith, arity_is, leb-true (number (head_record input) 0) 4 b))

  pub few_states : (1 ≤ (query_in input).states) × ((query_in input).states ≤ most_states)
  few_states =
      let (a, b) = both_true (leb 1 (number (head_record input) 1)) (leb (number (head_record input) 1) 16) head_passes.1.1.1.0 in
      (omega (arith, states_are, leb-true 1 (number (head_record input) 1) a), omega (arith, states_are, leb-true (number (head_record input) 1) 16 b))
