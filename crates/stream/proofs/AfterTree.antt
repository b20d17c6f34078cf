-- For callers: the query's records stand at the tree's end, so what is read there is the query of the input.
-- And what a query that is read tells: where the records behind its head stand, that they are whole, and that they make its rules.
use mathlib.Core.Bool.{Bool, cond, false, false≢true, true}
use mathlib.Core.List.Memᴰ
use mathlib.Core.List.{List, [], ◌∷◌}
use mathlib.Core.Logic.{⊎_elim}
use mathlib.Core.Path.{◌∙◌, ◌≡◌, ap, ap₂, refl, subst, sym}
use Prim.Native.Nat.{◌*◌, ◌+◌, ◌<◌, ◌≤◌, suc, zero, ℕ}
use native.Mathlib.Omega.{arith}
use borrow.Author.Tests.{eqb-true, leb-true, ltb-false, ltb-true}
use lib.Dec.{leb, ltb}
use lib.ListN.{drop, get_or, length, length-drop}
use lib.Seq.{drop-drop}
use Rattle.paper.specs.Lists.{◌∈◌}
use Rattle.paper.specs.Query.{Query, accepting_of, query_of, rules_of}
use Rattle.paper.specs.Refusals.{answer, at_each, head_tests, later_tests, nodes_in, query_end_tests, query_in, query_part, query_tests, tests_at, tree_end_tests, tree_part, tree_tests, unless, tree_end}
use Rattle.paper.specs.Stream.{StreamRecord, body_length, is_tree_kind, number, query_records, records_of, tree_records, whole}
use Rattle.laws.specs.StreamCauses.{AllTree, TreeKind}
use Rattle.laws.proofs.AtEach.{part_each}
use Rattle.laws.proofs.Lists.{both_true, which}
use Rattle.laws.proofs.Replies.{Passes, answered, passes_right}
use Rattle.laws.proofs.StreamPlaces.{behind_written, first_record, records_cons, tree_kind}
use Rattle.stream.specs.OneRecord.{query_with}
use Rattle.stream.specs.Positions.{after, record_at}
use Rattle.stream.specs.Reading.{QueryFacts, query_facts, query_reply}
use Rattle.stream.proofs.EachRecord.{each_passed}
use Rattle.stream.proofs.Positions.{records_here, records_none}
use Rattle.stream.proofs.QueryReading.{tests_behind_lem}
use Rattle.stream.proofs.TreeReading.{tree_bytes}

-- the records are the query's from two bytes behind each of the tree's on
BehindTree : List ℕ → List StreamRecord → Type 0
BehindTree bytes records = query_records records ≡ records_of (drop (2 * length (tree_records records)) bytes)

-- one more record in front, whether it is the tree's or not
behind_first : (k : ℕ) (more : List ℕ) → BehindTree (drop (body_length k) more) (records_of (drop (body_length k) more))
    → BehindTree (k ∷ more) (first_record k more ∷ records_of (drop (body_length k) more))
unfolding BehindTree
behind_first k more ih = go (is_tree_kind k) refl
  where
    rest : List StreamRecord
    rest = records_of (drop (body_length k) more)

    nodes : ℕ
    nodes = length (tree_records rest)

    go : (c : Bool) → is_tree_kind k ≡ c → cond c (query_records rest) (first_record k more ∷ rest)
        ≡ records_of (drop (2 * length (cond c (first_record k more ∷ tree_records rest) [])) (k ∷ more))
    go true e = ih ∙ ap records_of (drop-drop (2 * nodes) (body_length k) more ∙ ap (λ n. drop n (k ∷ more)) two)
      where
        two : suc (body_length k + 2 * nodes) ≡ 2 * suc nodes
        two = let one : body_length k ≡ 1 = ⊎_elim (λ z. rw z refl) (λ z. rw z refl) (tree_kind k e) in omega arith
    go false e = sym (records_cons k more)

behind_tree : (n : ℕ) (bytes : List ℕ) → length bytes ≤ n → BehindTree bytes (records_of bytes)
unfolding BehindTree
behind_tree zero [] h = refl
behind_tree zero (k ∷ more) h = absurd (omega arith)
behind_tree (suc n) [] h = refl
behind_tree (suc n) (k ∷ more) h =
    subst (BehindTree (k ∷ more)) (sym (records_cons k more))
    (behind_first k more (behind_tree n (drop (body_length k) more) (omega (arith, length-drop (body_length k) more))))

-- the query's records are those from the tree's end on, whether the tree is refused or not
pub query_after_tree : (input : List ℕ) → query_records (records_of input) ≡ records_of (drop (2 * nodes_in input) input)
unfolding BehindTree
query_after_tree input = behind_tree (length input) input (omega arith)

-- what is read at the tree's end: the tests of the input's query, and its numbers
pub facts_after_tree : (input : List ℕ)
    → query_facts input (2 * nodes_in input) ≡ record { arity = (query_in input).arity; states = (query_in input).states; rules = 2 * nodes_in input + 3 }
facts_after_tree input = λ i. record {
  arity = ap (λ records. (query_of records).arity) (sym (query_after_tree input)) i;
  states = ap (λ records. (query_of records).states) (sym (query_after_tree input)) i;
  rules = 2 * nodes_in input + 3;
}

-- the tree's records are of its kinds
tree_kinds : (records : List StreamRecord) → AllTree (tree_records records)
tree_kinds [] r m = absurd (Memᴰ.not-nil m)
tree_kinds (x ∷ xs) r m = go (is_tree_kind x.kind) refl m (tree_kinds xs r)
  where
    go : (c : Bool) → is_tree_kind x.kind ≡ c → r ∈ cond c (x ∷ tree_records xs) [] → (r ∈ tree_records xs → TreeKind r.kind) → TreeKind r.kind
    go true e n later = ⊎_elim (λ is. subst (λ z. TreeKind z.kind) (sym is) (tree_kind x.kind e)) later (Memᴰ.cases_cons n)
    go false e n later = absurd (Memᴰ.not-nil n)

-- where its tests pass the tree ends two bytes behind each of its nodes
pub tree_ends_at : (input : List ℕ) → Passes (tree_part (tree_records (records_of input))) → tree_end input ≡ 2 * nodes_in input
tree_ends_at input p =
    omega (arith, behind_written 0 (tree_records (records_of input)), tree_bytes (tree_records (records_of input)) (tree_kinds (records_of input)) are_whole)
  where
    are_whole : (r : StreamRecord) → r ∈ tree_records (records_of input) → length r.body ≡ body_length r.kind
    are_whole r m =
        eqb-true (length r.body) (body_length r.kind)
        (each_passed tree_tests 0 (λ x. whole x ≡ true) (λ before x q. q.1.0) [] (tree_records (records_of input))
        (part_each tree_tests tree_end_tests 0 (tree_records (records_of input)) p) r m)

pub reply_after_tree : (input : List ℕ) → Passes (tree_part (tree_records (records_of input)))
    → query_reply input (2 * nodes_in input)
    ≡ unless (query_part (tree_end input) (query_records (records_of input))) (query_facts input (2 * nodes_in input))
reply_after_tree input p =
    ap₂ (λ from records. unless (query_part from records) (query_facts input (2 * nodes_in input))) (sym (tree_ends_at input p))
    (sym (query_after_tree input))

-- ---- a query that is read
tells_whole : (before : List StreamRecord) (r : StreamRecord) → Passes (query_tests before r) → whole r ≡ true
tells_whole [] r p = p.1.0
tells_whole (x ∷ xs) r p = p.1.0

-- a kind that stands behind the head
abbrev Behind : StreamRecord → Type 0
Behind r = (17 ≤ r.kind) × (r.kind ≤ 19)

tells_behind : (Q : Query) (r : StreamRecord) → Passes (later_tests Q r) → Behind r
tells_behind Q r p =
    let both = both_true (leb 17 r.kind) (leb r.kind 19) p.0 in
    (leb-true 17 r.kind both.0, leb-true r.kind 19 both.1)

module _ (input : List ℕ) (at : ℕ) (f : QueryFacts) (e : answer f ≡ query_reply input at) where
  read : Passes (query_part at (records_of (drop at input))) × (query_facts input at ≡ f)
  read = answered (query_part at (records_of (drop at input))) (sym e)

  inside : at < length input
  inside = ⊎_elim (ltb-true at (length input)) none (which (ltb at (length input)))
    where
      none : ltb at (length input) ≡ false → at < length input
      none h =
          let left : records_of (drop at input) ≡ [] = records_none input at (ltb-false at (length input) h) in
          absurd (false≢true (subst (λ records. Passes (query_part at records)) left read.0).0)

  tests : Passes (at_each query_tests at [] (record_at input at ∷ records_of (drop (after input at) input)))
  tests =
      subst (λ records. Passes (at_each query_tests at [] records)) (records_here input at inside)
      (part_each query_tests query_end_tests at (records_of (drop at input)) read.0)

  behind_head : after input at ≡ f.rules
  behind_head = omega (arith, ap body_length (eqb-true (get_or input at 0) 16 tests.0), ap (λ (g : QueryFacts). g.rules) read.1)

  -- the head, then the records behind it
  pub records_read : records_of (drop at input) ≡ record_at input at ∷ records_of (drop f.rules input)
  records_read = records_here input at inside ∙ ap {B = List StreamRecord} (λ n. record_at input at ∷ records_of (drop n input)) behind_head

  -- these are whole
  pub whole_read : (r : StreamRecord) → r ∈ records_of (drop f.rules input) → whole r ≡ true
  whole_read r m =
      each_passed query_tests at (λ x. whole x ≡ true) tells_whole [] _ tests r
      (Memᴰ.tail (subst (λ n. r ∈ records_of (drop n input)) (sym behind_head) m))

  -- of kinds that stand there
  pub kinds_read : (r : StreamRecord) → r ∈ records_of (drop f.rules input) → Behind r
  kinds_read r m =
      each_passed (λ before x. later_tests (query_with numbers before) x) _ Behind (λ before x. tells_behind (query_with numbers before) x) [] _ later r
      (subst (λ n. r ∈ records_of (drop n input)) (sym behind_head) m)
    where
      numbers : QueryFacts
      numbers = record { arity = number (record_at input at) 0; states = number (record_at input at) 1; rules = f.rules }

      later : Passes (at_each (λ before x. later_tests (query_with numbers before) x) (at + suc (length (record_at input at).body)) []
          (records_of (drop (after input at) input)))
      later =
          subst Passes (tests_behind_lem numbers (record_at input at) refl refl at [] (records_of (drop (after input at) input)))
          (passes_right (tests_at at (head_tests (record_at input at)))
          (at_each query_tests at (record_at input at ∷ []) (records_of (drop (after input at) input))) tests)

  -- and make the query
  pub query_read : query_of (records_of (drop at input)) ≡ query_with f (records_of (drop f.rules input))
  query_read = ap query_of records_read ∙ λ i. record {
    arity = (ap (λ records. (query_of records).arity) (sym records_read) ∙ ap (λ (g : QueryFacts). g.arity) read.1) i;
    states = (ap (λ records. (query_of records).states) (sym records_read) ∙ ap (λ (g : QueryFacts). g.states) read.1) i;
    rules = rules_of (records_of (drop f.rules input));
    accepting = accepting_of (records_of (drop f.rules input));
  }
