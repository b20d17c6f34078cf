-- The room that lists need. A query that is read has at most 1,024 rules, of at most six bytes, and 16 accepting states, of two bytes: so it
-- ends at most 6,176 bytes behind its head, and lists of 1,673 numbers have a cell for each of its rules.
use mathlib.Core.Bool.{true}
use mathlib.Core.List.Memᴰ
use mathlib.Core.List.{List, [], ◌∷◌}
use mathlib.Core.Logic.{⊎_elim}
use mathlib.Core.Path.{◌∙◌, ◌≡◌, ap, subst, sym}
use Prim.Native.Nat.{◌*◌, ◌+◌, ◌≤◌, ℕ}
use native.Mathlib.Omega.{arith}
use borrow.Author.Tests.{eqb-false, eqb-true}
use lib.Dec.{eqb}
use lib.ListN.{drop, length, length-append, length-drop}
use Rattle.paper.specs.Lists.{◌∈◌}
use Rattle.paper.specs.Query.{accepting_of, rules_of}
use Rattle.paper.specs.Refusals.{answer, query_part}
use Rattle.paper.specs.Stream.{StreamRecord, body_length, records_of, whole}
use Rattle.laws.specs.StreamCauses.{written}
use Rattle.laws.proofs.Counting.{few_numbers}
use Rattle.laws.proofs.Lists.{here, which}
use Rattle.laws.proofs.ReadQuery.{ReadQuery}
use Rattle.laws.proofs.ReadQuery as read
use Rattle.laws.proofs.Replies.{answered}
use Rattle.stream.specs.OneRecord.{query_with}
use Rattle.stream.specs.Reading.{QueryFacts, query_reply}
use Rattle.stream.specs.RuleLists.{Listable, most_bytes}
use Rattle.stream.proofs.AfterTree.{kinds_read, query_read, whole_read}
use Rattle.stream.proofs.Positions.{written_records}
use Rattle.stream.proofs.RuleSearch.{rule_between}

-- whole records of the kinds that stand behind the head: a rule is at most six bytes long, an accepting state two
bytes_behind : (records : List StreamRecord)
    → ((r : StreamRecord) → r ∈ records → (17 ≤ r.kind) × (r.kind ≤ 19)) → ((r : StreamRecord) → r ∈ records → whole r ≡ true)
    → length (written records) ≤ 6 * length (rules_of records) + 2 * length (accepting_of records)
bytes_behind [] kinds whole = omega arith
bytes_behind (r ∷ rs) kinds whole =
    let later = bytes_behind rs (λ x m. kinds x (Memᴰ.tail m)) (λ x m. whole x (Memᴰ.tail m)) in
    ⊎_elim (λ e. state later (eqb-true r.kind 19 e)) (λ e. rule later (eqb-false r.kind 19 e)) (which (eqb r.kind 19))
  where
    long : (k : ℕ) → r.kind ≡ k → length r.body ≡ body_length k
    long k e = eqb-true (length r.body) (body_length r.kind) (whole r here) ∙ ap body_length e

    state : length (written rs) ≤ 6 * length (rules_of rs) + 2 * length (accepting_of rs) → r.kind ≡ 19
        → length (written (r ∷ rs)) ≤ 6 * length (rules_of (r ∷ rs)) + 2 * length (accepting_of (r ∷ rs))
    state later e = rw e (omega (arith, later, long 19 e, length-append r.body (written rs)))

    rule : length (written rs) ≤ 6 * length (rules_of rs) + 2 * length (accepting_of rs) → (r.kind ≡ 19 → ⊥)
        → length (written (r ∷ rs)) ≤ 6 * length (rules_of (r ∷ rs)) + 2 * length (accepting_of (r ∷ rs))
    rule later n =
        ⊎_elim (λ e. rw e (omega (arith, later, long 17 e, length-append r.body (written rs))))
        (λ e. rw e (omega (arith, later, long 18 e, length-append r.body (written rs))))
        (rule_between r.kind (kinds r here).0 (omega (arith, kinds r here)))

module _ (input : List ℕ) (at : ℕ) (f : QueryFacts) (e : answer f ≡ query_reply input at) where
  query : ReadQuery (query_with f (records_of (drop f.rules input)))
  query =
      subst ReadQuery (query_read input at f e)
      (read.query_read at (records_of (drop at input)) (answered (query_part at (records_of (drop at input))) (sym e)).0)

  -- a query that is read ends so soon behind its head
  query_short : length input ≤ f.rules + most_bytes
  query_short =
      omega (
        arith,
        ap length (written_records (drop f.rules input)),
        length-drop f.rules input,
        bytes_behind (records_of (drop f.rules input)) (kinds_read input at f e) (whole_read input at f e),
        query.few_rules,
        few_numbers f.states (accepting_of (records_of (drop f.rules input))) query.accepts_once query.numbers_fit.accepts,
        query.few_states,
      )

  -- and behind a tree that is read it stands so early that its positions, and the end of the input, fit 16 bits
  pub query_listable : at ≤ 2 * 4095 → Listable input f.rules
  query_listable h =
      let behind : at + 3 ≡ f.rules = ap (λ (g : QueryFacts). g.rules) (answered (query_part at (records_of (drop at input))) (sym e)).1 in
      (omega (arith, query_short), query_short)
