-- 'Numbers that say no': for each call its tests in the paper's order, each with the number given where it is the first to fail, and of the
-- stream with the position (request 2026-04).
-- Then what every call leaves behind.
use Rattle.std.specs.Prelude.{Bool, true, false, cond, not, ◌&&◌, ◌||◌, List, [], ◌∷◌, ◌++◌, ℕ, suc, ◌^◌, ◌-◌, eqb, ltb, leb, length, drop, replicate, Option, Some, None}
use Rattle.paper.specs.Lists.{is_nil, has, same, all_below}
use Rattle.paper.specs.Stream.{StreamRecord, number, whole, records_of, behind, tree_records, query_records}
use Rattle.paper.specs.Tree.{Tree, unjoined, most_unjoined, tree_of}
use Rattle.paper.specs.Query.{Rule, side, Query, is_rule_kind, rule_of, query_of}
use Rattle.paper.specs.Row.{Row, blank}
use Rattle.paper.specs.Records.{Record, Head, blank_entry, used_of, listing}
use Rattle.paper.specs.Sound.{sound}
use Rattle.paper.specs.Building.{all_places, made, build_work}
use Rattle.paper.specs.Questions.{has_place, question_work, count_of, row_numbered, is_listed, marks_of, images_of, fixed_set, unit_twice}

-- what says no: a number and nothing else, or a number with the byte position of what is at fault, which 1 to 4 have (request 2026-04)
pub data No : Type 0 where
  no : (number : ℕ) → No
  no_at : (number position : ℕ) → No

abbrev pub number_in : No → ℕ
number_in (no n) = n
number_in (no_at n p) = n

abbrev pub position_in : No → Option ℕ
position_in (no n) = None
position_in (no_at n p) = Some p

-- an answer, or what says no
pub data Reply (A : Type 0) : Type 0 where
  refused : No → Reply A
  answer : A → Reply A

-- a test, and what is said where it fails
abbrev pub Test : Type 0
Test = No × Bool

-- the answer, unless a test fails: then what is said of the first that does
abbrev pub unless : {A : Type 0} → List Test → A → Reply A
unless [] a = answer a
unless (t ∷ ts) a = cond t.1 (unless ts a) (refused t.0)

-- ---- the stream
-- a test of the stream, and the number that is given where it fails
abbrev pub StreamTest : Type 0
StreamTest = ℕ × Bool

-- tests of what stands at a position: where one fails, its number is said with the position
abbrev pub tests_at : ℕ → List StreamTest → List Test
tests_at position [] = []
tests_at position ((n, c) ∷ ts) = (no_at n position, c) ∷ tests_at position ts

-- the tests at each record in order, given the records before it, the first of which stands at `from`: the first record at fault decides,
-- and the position is that of its first byte
abbrev pub at_each : (List StreamRecord → StreamRecord → List StreamTest) → ℕ → List StreamRecord → List StreamRecord → List Test
at_each tests from before [] = []
at_each tests from before (r ∷ rs) = tests_at (behind from before) (tests before r) ++ at_each tests from (before ++ (r ∷ [])) rs

-- a part of the stream: its records, and then, at the place where it ended, its end
abbrev pub part : (List StreamRecord → StreamRecord → List StreamTest) → (List StreamRecord → List StreamTest) → ℕ → List StreamRecord → List Test
part tests end_tests from records = at_each tests from [] records ++ tests_at (behind from records) (end_tests records)

-- a tree record: 2 before 1, the 4,096th tree kind is seen before its body
abbrev pub tree_tests : List StreamRecord → StreamRecord → List StreamTest
tree_tests before r =
    (2, ltb (length before) 4095)
    ∷ (1, whole r)
    ∷ (1, leb (number r 0) 63)
    ∷ (1, eqb r.kind 1 || leb 2 (length (unjoined before)))
    ∷ []

-- where the tree ends: it has a node, and is one subtree
abbrev pub tree_end_tests : List StreamRecord → List StreamTest
tree_end_tests records = (1, not (is_nil records)) ∷ (1, eqb (length (unjoined records)) 1) ∷ []

-- the head of the query comes first
abbrev pub head_tests : StreamRecord → List StreamTest
head_tests r =
    (3, eqb r.kind 16)
    ∷ (3, whole r)
    ∷ (3, leb 1 (number r 0) && leb (number r 0) 4)
    ∷ (3, leb 1 (number r 1) && leb (number r 1) 16)
    ∷ []

-- the numbers of a rule, or of an accepting state, are in range
abbrev pub in_range : Query → StreamRecord → Bool
in_range Q r =
    cond (is_rule_kind r.kind)
    (leb (number r 0) 63 && (ltb (number r 1) (2 ^ Q.arity) && all_below Q.states (drop 2 r.body)))
    (ltb (number r 0) Q.states)

-- a rule of the list has this kind and left side
abbrev pub has_side : List Rule → List ℕ → Bool
has_side [] s = false
has_side (r ∷ rs) s = same (side r) s || has_side rs s

-- the rule's kind and left side, or the accepting state, stand in no earlier record
abbrev pub is_new : Query → StreamRecord → Bool
is_new Q r = cond (is_rule_kind r.kind) (not (has_side Q.rules (side (rule_of r)))) (not (has Q.accepting (number r 0)))

-- a later record, after those that make Q: no second head, no unknown kind, no 1,025th rule; 3 before 4
abbrev pub later_tests : Query → StreamRecord → List StreamTest
later_tests Q r =
    (3, leb 17 r.kind && leb r.kind 19)
    ∷ (3, whole r)
    ∷ (3, in_range Q r)
    ∷ (3, not (is_rule_kind r.kind) || ltb (length Q.rules) 1024)
    ∷ (4, is_new Q r)
    ∷ []

abbrev pub query_tests : List StreamRecord → StreamRecord → List StreamTest
query_tests [] r = head_tests r
query_tests (h ∷ before) r = later_tests (query_of (h ∷ before)) r

-- where the query ends: it has a head
abbrev pub query_end_tests : List StreamRecord → List StreamTest
query_end_tests records = (3, not (is_nil records)) ∷ []

-- the tree begins with the input
abbrev pub tree_part : List StreamRecord → List Test
tree_part records = part tree_tests tree_end_tests 0 records

-- the query begins where the tree has ended
abbrev pub query_part : ℕ → List StreamRecord → List Test
query_part from records = part query_tests query_end_tests from records

-- ---- build
-- the position where the tree ends
abbrev pub tree_end : List ℕ → ℕ
tree_end input = behind 0 (tree_records (records_of input))

abbrev pub tree_in : List ℕ → Tree
tree_in input = tree_of (tree_records (records_of input))

abbrev pub nodes_in : List ℕ → ℕ
nodes_in input = length (tree_records (records_of input))

abbrev pub query_in : List ℕ → Query
query_in input = query_of (query_records (records_of input))

-- the work and the records that a build of this input asks for
abbrev pub work_for : List ℕ → ℕ
work_for input = build_work (most_unjoined (tree_records (records_of input))) (query_in input)

abbrev pub made_from : List ℕ → List Record
made_from input = (made (query_in input) (tree_in input)).0

abbrev pub head_from : List ℕ → Head
head_from input = record {
  nodes = nodes_in input;
  arity = (query_in input).arity;
  open_places = all_places (query_in input).arity;
  used = length (made_from input);
  set = (made (query_in input) (tree_in input)).1;
}

-- all of the tree, the query, 5, 6
abbrev pub build_tests : List ℕ → ℕ → ℕ → List Test
build_tests input work_length table_length =
    tree_part (tree_records (records_of input))
    ++ (query_part (tree_end input) (query_records (records_of input))
    ++ ((no 5, leb (work_for input) work_length)
    ∷ (no 6, leb (length (made_from input)) table_length && leb (length (made_from input)) 60000)
    ∷ []))

abbrev pub build : List ℕ → ℕ → ℕ → Reply (Head × List Record)
build input work_length table_length = unless (build_tests input work_length table_length) (head_from input, made_from input)

-- the program, with its table of 2,000 entries and its work of 16,384, gives 14 before all. It tells the records made and the rows
abbrev pub program : List ℕ → Reply (ℕ × List Row)
program input =
    unless ((no 14, leb (length input) 16384) ∷ build_tests input 16384 2000)
    (length (made_from input), listing (head_from input) (made_from input))

-- ---- the questions: 5, 11, 13, 7, 8, 9, 10, 6, 12, as far as they apply
-- the place is one from 1 to the arity, and open
abbrev pub is_open : Head → ℕ → Bool
is_open h place = leb 1 place && (leb place h.arity && has_place h.open_places (place - 1))

-- from index i on, a member row has a node of the tree at each open place, and is blank at each fixed one
abbrev pub entries_fit : Head → ℕ → Row → Bool
entries_fit h i [] = true
entries_fit h i (x ∷ xs) = cond (has_place h.open_places i) (ltb x h.nodes) (eqb x blank) && entries_fit h (suc i) xs

module _ (h : Head) (table : List Record) (work_length : ℕ) where
  abbrev pub ask_tests : List Test
  ask_tests = (no 5, leb (question_work h) work_length) ∷ (no 11, sound h table) ∷ []

  abbrev pub count : Reply ℕ
  count = unless ask_tests (count_of h table)

  abbrev pub row_tests : ℕ → ℕ → List Test
  row_tests k out_length = ask_tests ++ (no 9, ltb k (count_of h table)) ∷ (no 10, leb h.arity out_length) ∷ []

  abbrev pub row_by_number : ℕ → ℕ → Reply Row
  row_by_number k out_length = unless (row_tests k out_length) (row_numbered h table k)

  abbrev pub member_tests : Row → List Test
  member_tests row = ask_tests ++ (no 13, eqb (length row) h.arity) ∷ (no 8, entries_fit h 0 row) ∷ []

  abbrev pub member : Row → Reply Bool
  member row = unless (member_tests row) (is_listed (listing h table) row)

  abbrev pub project_tests : ℕ → ℕ → List Test
  project_tests place out_length = ask_tests ++ (no 7, is_open h place) ∷ (no 10, leb h.nodes out_length) ∷ []

  abbrev pub project : ℕ → ℕ → Reply (List ℕ)
  project place out_length = unless (project_tests place out_length) (marks_of h table place)

  abbrev pub fix_tests : ℕ → ℕ → ℕ → List Test
  fix_tests place n target_length =
      ask_tests
      ++ (no 7, is_open h place)
      ∷ (no 8, ltb n h.nodes)
      ∷ (no 6, leb h.used target_length)
      ∷ (no 12, not (unit_twice (images_of (place - 1) n (used_of h table)).1 (used_of h table)))
      ∷ []

  abbrev pub fix : ℕ → ℕ → ℕ → Reply (Head × List Record)
  fix place n target_length = unless (fix_tests place n target_length) (fixed_set h table place n)

-- ---- left behind. Inputs and the source table are lent to read only
-- the first entries written, the rest unchanged
abbrev pub over : {A : Type 0} → List A → List A → List A
over new old = new ++ drop (length new) old

-- the work of a call that asks for n numbers: 1 to 5 leave all of it unchanged, else the first n are zero
abbrev pub work_after : {A : Type 0} → Reply A → ℕ → List ℕ → List ℕ
work_after (refused r) n work = cond (leb (number_in r) 5) work (over (replicate n 0) work)
work_after (answer a) n work = over (replicate n 0) work

-- build's table: refusal 6 makes every entry blank, 1 to 5 change nothing
abbrev pub table_after : Reply (Head × List Record) → List Record → List Record
table_after (refused r) table = cond (eqb (number_in r) 6) (replicate (length table) blank_entry) table
table_after (answer a) table = over a.1 table

-- fix's target
abbrev pub target_after : Reply (Head × List Record) → List Record → List Record
target_after (refused r) target = target
target_after (answer a) target = over a.1 target

-- the output of row by number, of project, and of the two calls between text and tree
abbrev pub output_after : Reply (List ℕ) → List ℕ → List ℕ
output_after (refused r) out = out
output_after (answer xs) out = over xs out
