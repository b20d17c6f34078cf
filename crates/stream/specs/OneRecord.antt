-- One record by itself: whether it is the tree's, what is answered of a query's head, and whether a record behind the head fits. Then what
-- is answered of all records behind a head.
use Rattle.std.specs.Prelude.{Bool, ◌&&◌, List, [], ◌∷◌, ◌≡◌, ℕ, ◌<◌, leb, ltb, length, get_or, drop}
use Rattle.paper.specs.Stream.{StreamRecord, whole, records_of, is_tree_kind}
use Rattle.paper.specs.Query.{Query, rules_of, accepting_of}
use Rattle.paper.specs.Refusals.{Reply, unless, tests_at, at_each, head_tests, later_tests, in_range}
use Rattle.stream.specs.Positions.{record_at}
use Rattle.stream.specs.Reading.{QueryFacts, query_facts}

-- ---- the tree
-- a tree record stands at the position
abbrev pub is_tree_at : List ℕ → ℕ → Bool
is_tree_at input at = ltb at (length input) && is_tree_kind (get_or input at 0)

-- ---- the head of the query
abbrev pub head_reply : List ℕ → ℕ → Reply QueryFacts
head_reply input at = unless (tests_at at ((3, ltb at (length input)) ∷ head_tests (record_at input at))) (query_facts input at)

-- ---- the records behind the head
-- the query that the head and these records make
abbrev pub query_with : QueryFacts → List StreamRecord → Query
query_with f records = record { arity = f.arity; states = f.states; rules = rules_of records; accepting = accepting_of records }

-- the record is whole, and its numbers are in range
abbrev pub whole_in_range : QueryFacts → StreamRecord → Bool
whole_in_range f r = whole r && in_range (query_with f []) r

-- and it is of a kind that stands behind the head
abbrev pub fits : QueryFacts → StreamRecord → Bool
fits f r = (leb 17 r.kind && leb r.kind 19) && whole_in_range f r

-- a record of this kind stands at the position
pub record AtKind (input : List ℕ) (at k : ℕ) : Type 0 where
  pub here : at < length input
  pub kind : get_or input at 0 ≡ k

-- all records behind a head with these facts
abbrev pub later_reply : List ℕ → QueryFacts → Reply QueryFacts
later_reply input f = unless (at_each (λ before r. later_tests (query_with f before) r) f.rules [] (records_of (drop f.rules input))) f
