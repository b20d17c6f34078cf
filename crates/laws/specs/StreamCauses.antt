-- The causes 1 to 6 of the table 'Numbers that say no', said of the bytes and not by reading them again.
-- First where a record stands in the input, then the causes 2, 1, 3 and 4 at such a place, then the first record at fault, then 5 and 6.
use Rattle.std.specs.Prelude.{◌≡◌, ◌⊎◌, cond, List, [], ◌∷◌, ◌++◌, ℕ, ◌+◌, ◌^◌, ◌≤◌, ◌<◌, eqb, length}
use Rattle.paper.specs.Lists.{◌∈◌}
use Rattle.paper.specs.Stream.{body_length, StreamRecord, number}
use Rattle.paper.specs.Refusals.{No, no, no_at, work_for, made_from}
use Rattle.laws.specs.First.{FirstOf, NoneOf}

-- ---- places in the input
-- records as they are written, one after the other
abbrev pub written : List StreamRecord → List ℕ
written [] = []
written (r ∷ rs) = r.kind ∷ (r.body ++ written rs)

-- the input begins with these whole records and goes on with these bytes
pub record Begins (input : List ℕ) (before : List StreamRecord) (bytes : List ℕ) : Type 0 where
  pub split : input ≡ written before ++ bytes
  pub whole : (r : StreamRecord) → r ∈ before → length r.body ≡ body_length r.kind

-- how many of the records have the kind
abbrev pub of_kind : ℕ → List StreamRecord → ℕ
of_kind k [] = 0
of_kind k (r ∷ rs) = cond (eqb r.kind k) 1 0 + of_kind k rs

abbrev pub TreeKind : ℕ → Type 0
TreeKind k = (k ≡ 1) ⊎ (k ≡ 2)

abbrev pub RuleKind : ℕ → Type 0
RuleKind k = (k ≡ 17) ⊎ (k ≡ 18)

-- only tree records
abbrev pub AllTree : List StreamRecord → Type 0
AllTree before = (r : StreamRecord) → r ∈ before → TreeKind r.kind

-- a kind stands next that is none of the tree's, or the input ends
abbrev pub TreeEnds : List ℕ → Type 0
TreeEnds bytes = (k : ℕ) (more : List ℕ) → bytes ≡ k ∷ more → TreeKind k → ⊥

-- ---- cause 2: a 4,096th tree kind is met
pub data ManyNodes (before : List StreamRecord) (bytes : List ℕ) : Type 0 where
  kind_met : (k : ℕ) (more : List ℕ) → bytes ≡ k ∷ more → TreeKind k → 4095 ≤ length before → ManyNodes before bytes

-- ---- cause 1
pub data TreeFault (before : List StreamRecord) (bytes : List ℕ) : Type 0 where
  cut_in_record : (k : ℕ) (more : List ℕ) → bytes ≡ k ∷ more → TreeKind k → length more < body_length k → TreeFault before bytes
  label_over : (k label : ℕ) (more : List ℕ) → bytes ≡ k ∷ label ∷ more → TreeKind k → 63 < label → TreeFault before bytes
  few_unjoined : (more : List ℕ) → bytes ≡ 2 ∷ more → of_kind 1 before < of_kind 2 before + 2 → TreeFault before bytes
  no_node : before ≡ [] → TreeEnds bytes → TreeFault before bytes
  not_one_subtree : (of_kind 1 before ≡ of_kind 2 before + 1 → ⊥) → TreeEnds bytes → TreeFault before bytes

-- ---- cause 3, after the query's records so far, the head first
pub data QueryFault (query : List StreamRecord) (bytes : List ℕ) : Type 0 where
  no_head_first : query ≡ [] → ((more : List ℕ) → bytes ≡ 16 ∷ more → ⊥) → QueryFault query bytes
  second_head : (query ≡ [] → ⊥) → (more : List ℕ) → bytes ≡ 16 ∷ more → QueryFault query bytes
  unknown_kind : (k : ℕ) (more : List ℕ) → bytes ≡ k ∷ more → (k < 16) ⊎ (19 < k) → QueryFault query bytes
  cut_record : (k : ℕ) (more : List ℕ) → bytes ≡ k ∷ more → length more < body_length k → QueryFault query bytes
  head_out_of_range : (arity states : ℕ) (more : List ℕ) → query ≡ [] → bytes ≡ 16 ∷ arity ∷ states ∷ more
      → (arity < 1) ⊎ ((4 < arity) ⊎ ((states < 1) ⊎ (16 < states))) → QueryFault query bytes
  leaf_rule_out_of_range : (head : StreamRecord) (later : List StreamRecord) (a b q : ℕ) (more : List ℕ) → query ≡ head ∷ later
      → bytes ≡ 17 ∷ a ∷ b ∷ q ∷ more → (63 < a) ⊎ ((2 ^ number head 0 ≤ b) ⊎ (number head 1 ≤ q)) → QueryFault query bytes
  branch_rule_out_of_range : (head : StreamRecord) (later : List StreamRecord) (a b p q t : ℕ) (more : List ℕ)
      → query ≡ head ∷ later → bytes ≡ 18 ∷ a ∷ b ∷ p ∷ q ∷ t ∷ more
      → (63 < a) ⊎ ((2 ^ number head 0 ≤ b) ⊎ ((number head 1 ≤ p) ⊎ ((number head 1 ≤ q) ⊎ (number head 1 ≤ t)))) → QueryFault query bytes
  state_out_of_range : (head : StreamRecord) (later : List StreamRecord) (q : ℕ) (more : List ℕ) → query ≡ head ∷ later
      → bytes ≡ 19 ∷ q ∷ more → number head 1 ≤ q → QueryFault query bytes
  many_rules : (k : ℕ) (more : List ℕ) → bytes ≡ k ∷ more → RuleKind k → 1024 ≤ of_kind 17 query + of_kind 18 query → QueryFault query bytes

-- ---- cause 4
pub data SaidTwice (query : List StreamRecord) (bytes : List ℕ) : Type 0 where
  leaf_rule_twice : (r : StreamRecord) (a b q q' : ℕ) (more : List ℕ) → bytes ≡ 17 ∷ a ∷ b ∷ q ∷ more
      → r ∈ query → r.kind ≡ 17 → r.body ≡ a ∷ b ∷ q' ∷ [] → SaidTwice query bytes
  branch_rule_twice : (r : StreamRecord) (a b p q t t' : ℕ) (more : List ℕ) → bytes ≡ 18 ∷ a ∷ b ∷ p ∷ q ∷ t ∷ more
      → r ∈ query → r.kind ≡ 18 → r.body ≡ a ∷ b ∷ p ∷ q ∷ t' ∷ [] → SaidTwice query bytes
  state_twice : (r : StreamRecord) (q : ℕ) (more : List ℕ) → bytes ≡ 19 ∷ q ∷ more
      → r ∈ query → r.kind ≡ 19 → r.body ≡ q ∷ [] → SaidTwice query bytes

-- ---- the first record at fault
-- the records before are the tree's and then the query's so far
pub record InQuery (before : List StreamRecord) (bytes : List ℕ) (Fault : List StreamRecord → List ℕ → Type 0) : Type 0 where
  pub tree : List StreamRecord
  pub query : List StreamRecord
  pub parts : before ≡ tree ++ query
  pub all_tree : AllTree tree
  pub tree_ends : TreeEnds (written query ++ bytes)
  pub fault : Fault query bytes

-- cause n applies to the record that stands after these
abbrev pub FaultAt : List StreamRecord → List ℕ → ℕ → Type 0
FaultAt before bytes n =
    ((n ≡ 2) × AllTree before × ManyNodes before bytes)
    ⊎ (((n ≡ 1) × AllTree before × TreeFault before bytes)
    ⊎ (((n ≡ 3) × InQuery before bytes QueryFault) ⊎ ((n ≡ 4) × InQuery before bytes SaidTwice)))

-- the tree comes before the query; in one record 2 comes before 1 and 3 before 4
abbrev pub record_order : List ℕ
record_order = 2 ∷ 1 ∷ 3 ∷ 4 ∷ []

-- no cause applies to an earlier record
abbrev pub NoneEarlier : List StreamRecord → List ℕ → Type 0
NoneEarlier before bytes =
    (earlier later : List StreamRecord) → before ≡ earlier ++ later → (later ≡ [] → ⊥) → NoneOf record_order (FaultAt earlier (written later ++ bytes))

-- the stream is refused with n at a position: there stands the first record at fault, or the tree or the input has ended there, and n is the
-- first number whose cause applies to it
pub record StreamRefused (input : List ℕ) (n position : ℕ) : Type 0 where
  pub before : List StreamRecord
  pub bytes : List ℕ
  pub place : Begins input before bytes
  pub position_is : position ≡ length (written before)
  pub first : FirstOf record_order (FaultAt before bytes) n
  pub none_earlier : NoneEarlier before bytes

-- a tree that is read alone is refused so: at a position, where the first record at fault is the tree's, or the tree has ended there
abbrev pub TreeRefused : List ℕ → No → Type 0
TreeRefused input (no_at n position) = StreamRefused input n position × (n ≤ 2)
TreeRefused input (no n) = ⊥

-- no record of the stream is at fault
abbrev pub StreamFine : List ℕ → Type 0
StreamFine input = (before : List StreamRecord) (bytes : List ℕ) → Begins input before bytes → NoneOf record_order (FaultAt before bytes)

-- ---- causes 5 and 6, in this order
abbrev pub build_order : List ℕ
build_order = 5 ∷ 6 ∷ []

abbrev pub BuildCause : List ℕ → ℕ → ℕ → ℕ → Type 0
BuildCause input work_length table_length n =
    ((n ≡ 5) × (work_length < work_for input))
    ⊎ ((n ≡ 6) × ((table_length < length (made_from input)) ⊎ (60000 < length (made_from input))))

-- a build is refused so: the stream at a position; or, where no record of it is at fault, with a number alone
abbrev pub BuildRefused : List ℕ → ℕ → ℕ → No → Type 0
BuildRefused input work_length table_length (no_at n position) = StreamRefused input n position
BuildRefused input work_length table_length (no n) = StreamFine input × FirstOf build_order (BuildCause input work_length table_length) n
