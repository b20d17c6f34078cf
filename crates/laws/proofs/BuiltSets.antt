-- Demand 2, and that a built set is sound: from the bytes handed to a build to the table that it leaves.
-- First what the tests of a build give, then the set that it makes, then the questions on it.
use mathlib.Core.Bool.{◌&&◌, true}
use mathlib.Core.List.{List, [], ◌++◌, ◌∷◌}
use mathlib.Core.Logic.Iff
use mathlib.Core.Logic.{◌↔◌}
use mathlib.Core.Path.{◌∙◌, ◌≡◌, ap, refl, subst, subst₂, sym}
use Prim.Native.Nat.{◌*◌, ◌+◌, ◌-◌, ◌<◌, ◌^◌, ◌≤◌, ℕ}
use native.Mathlib.Omega.{arith}
use borrow.Author.Tests.{le-leb, leb-true}
use lib.Dec.{leb}
use lib.ListN.{get_or, length}
use lib.Pow.{pow_pos}
use Rattle.paper.specs.Building.{all_places}
use Rattle.paper.specs.Lists.{Once, ◌∈◌}
use Rattle.paper.specs.Questions.{marks_of}
use Rattle.paper.specs.Records.{listing}
use Rattle.paper.specs.Refusals.{Reply, Test, no, tree_end, build_tests, head_from, is_open, made_from, nodes_in, over, query_in, query_part, table_after, tree_in, tree_part, work_for}
use Rattle.paper.specs.Row.{Row}
use Rattle.paper.specs.Stream.{StreamRecord, query_records, records_of, tree_records}
use Rattle.laws.specs.Built.{BuiltSet, InAnswer, SaysTheAnswer, Stood}
use Rattle.laws.specs.Fixings.{GoodSet}
use Rattle.laws.specs.Numbered.{Numbered}
use Rattle.laws.specs.Plain.{Head, Record}
use Rattle.laws.specs.RowSets.{answer_rows}
use Rattle.laws.specs.Said.{SaysTheRows}
use Rattle.laws.proofs.Answer.{answer_once, answer_right}
use Rattle.laws.proofs.Bound.{records_bound}
use Rattle.laws.proofs.GoodSets.{HeadOver, over_good, over_length, over_lists, used_over}
use Rattle.laws.proofs.Listed.{all_places_lem}
use Rattle.laws.proofs.Lists.{both_true}
use Rattle.laws.proofs.ReadQuery.{ReadQuery, query_read}
use Rattle.laws.proofs.ReadTree.{tree_read}
use Rattle.laws.proofs.Records.{records_once, records_right, records_sound}
use Rattle.laws.proofs.Replies.{Passes, answered, passes_left, passes_right}
use Rattle.laws.proofs.SoundAnswers.{sound_says}

-- ---- the set that a build makes, where its tests pass
module _ (input : List ℕ) (work_length table_length : ℕ) (passes : Passes (build_tests input work_length table_length)) where
  abbrev tree_part_in : List StreamRecord
  tree_part_in = tree_records (records_of input)

  abbrev query_part_in : List StreamRecord
  query_part_in = query_records (records_of input)

  abbrev last_tests : List Test
  last_tests =
      (no 5, leb (work_for input) work_length)
      ∷ (no 6, leb (length (made_from input)) table_length && leb (length (made_from input)) 60000)
      ∷ []

  abbrev arity : ℕ
  arity = (query_in input).arity

  tree_passes : Passes (tree_part tree_part_in)
  tree_passes = passes_left (tree_part tree_part_in) (query_part (tree_end input) query_part_in ++ last_tests) passes

  later_passes : Passes (query_part (tree_end input) query_part_in ++ last_tests)
  later_passes = passes_right (tree_part tree_part_in) (query_part (tree_end input) query_part_in ++ last_tests) passes

  pub read_tree : Numbered 0 (tree_in input) (nodes_in input) × (1 ≤ nodes_in input) × (nodes_in input ≤ 4095)
  read_tree = tree_read tree_part_in tree_passes

  pub read_query : ReadQuery (query_in input)
  read_query = query_read (tree_end input) query_part_in (passes_left (query_part (tree_end input) query_part_in) last_tests later_passes)

  room : (leb (length (made_from input)) table_length ≡ true) × (leb (length (made_from input)) 60000 ≡ true)
  room =
      both_true (leb (length (made_from input)) table_length) (leb (length (made_from input)) 60000)
      (passes_right (query_part (tree_end input) query_part_in) last_tests later_passes).1.0

  pub built_head : (table : List Record) → HeadOver (head_from input) (over (made_from input) table) (made_from input) (answer_rows (query_in input) (tree_in input))
  built_head table =
      let Q = query_in input in
      let t = tree_in input in
      let det = read_query.deterministic in
      let ok = read_query.numbers_fit in
      record {
        uses = used_over (head_from input) (made_from input) table refl;
        number = refl;
        there = over_length (made_from input) table;
        few_used = leb-true (length (made_from input)) 60000 room.1;
        some_nodes = read_tree.1;
        few_nodes = read_tree.2;
        some_places = read_query.some_places;
        few_places = read_query.few_places;
        open_below = omega (arith, pow_pos arity);
        sound = records_sound Q det ok t (nodes_in input) read_tree.0 read_tree.2;
        once = records_once Q det ok t (nodes_in input) read_tree.0 read_tree.2;
        stands = records_right Q det ok t (nodes_in input) read_tree.0 read_tree.2;
      }

-- ---- a built set
module _ (input : List ℕ) (h : Head) (table : List Record) (B : BuiltSet input h table) where
  told_apart : Passes (build_tests input B.work_length (length B.lent)) × (◌≡◌ {A = Head × List Record} (head_from input, made_from input) (h, B.records))
  told_apart = answered (build_tests input B.work_length (length B.lent)) B.answered

  passes : Passes (build_tests input B.work_length (length B.lent))
  passes = told_apart.0

  -- the head and the table, from the bytes
  pub built_is : (head_from input ≡ h) × (over (made_from input) B.lent ≡ table)
  built_is = (
    ap (λ (z : Head × List Record). z.0) told_apart.1,
    ap (λ (z : Head × List Record). over z.1 B.lent) told_apart.1
        ∙ ap (λ (z : Reply (Head × List Record)). table_after z B.lent) (sym B.answered) ∙ sym B.left,
  )

  built_over : HeadOver h table (made_from input) (answer_rows (query_in input) (tree_in input))
  built_over =
      subst₂ (λ (x : Head) (y : List Record). HeadOver x y (made_from input) (answer_rows (query_in input) (tree_in input))) built_is.0 built_is.1
      (built_head input B.work_length (length B.lent) passes B.lent)

  -- a built set is sound, with no record above the paper's limit, and no used record lists a row twice
  pub built_good : GoodSet h table
  built_good = over_good h table (made_from input) (answer_rows (query_in input) (tree_in input)) built_over

  built_lists : listing h table ≡ answer_rows (query_in input) (tree_in input)
  built_lists = over_lists h table (made_from input) (answer_rows (query_in input) (tree_in input)) built_over

  tree : Numbered 0 (tree_in input) (nodes_in input) × (1 ≤ nodes_in input) × (nodes_in input ≤ 4095)
  tree = read_tree input B.work_length (length B.lent) passes

  query : ReadQuery (query_in input)
  query = read_query input B.work_length (length B.lent) passes

  -- every place from 1 to the arity is open
  pub built_open : (place : ℕ) → 1 ≤ place → place ≤ h.arity → is_open h place ≡ true
  built_open place from to =
      let all : h.open_places ≡ all_places h.arity = subst (λ (x : Head). x.open_places ≡ all_places x.arity) built_is.0 refl in
      rw (le-leb 1 place from, le-leb place h.arity to, all) (all_places_lem h.arity (place - 1) (omega arith))

  -- the records made are no more than the paper's bound
  pub built_bound : h.used ≤ 4 * 3 ^ h.arity * length (query_in input).rules * h.nodes + (length (query_in input).accepting - 1)
  built_bound =
      subst (λ (x : Head). x.used ≤ 4 * 3 ^ x.arity * length (query_in input).rules * x.nodes + (length (query_in input).accepting - 1)) built_is.0
      (records_bound (query_in input) query.numbers_fit query.few_places (tree_in input) (nodes_in input) tree.0)

  -- ---- the questions on it
  rows_right : (row : Row) → (row ∈ listing h table) ↔ InAnswer input row
  rows_right row =
      subst (λ (rows : List Row). (row ∈ rows) ↔ InAnswer input row) (sym built_lists)
      (answer_right (query_in input) (tree_in input) query.deterministic query.numbers_fit (nodes_in input) tree.0 tree.2 row)

  rows_once : Once (listing h table)
  rows_once =
      subst Once (sym built_lists)
      (answer_once (query_in input) (tree_in input) query.deterministic query.numbers_fit (nodes_in input) tree.0 tree.2)

  -- what they say of the listing, they say of the accepted rows
  says : SaysTheRows h table (listing h table)
  says = sound_says h table built_good.sound

  marks_right : (place n : ℕ) → n < h.nodes → (get_or (marks_of h table place) n 0 ≡ 1) ↔ Stood input place n
  marks_right place n below =
      Iff.trans (says.marks place n below) (
        λ (row, m, there). record { row = row; accepted = (rows_right row).0 m; there = there },
        λ s. (s.row, (rows_right s.row).1 s.accepted, s.there),
      )

  -- exactly the accepted rows are listed, each once, and count, row by number, member and project say so
  pub built_right : SaysTheAnswer input h table
  built_right = record {
    lists = rows_right;
    once = rows_once;
    records_once = built_good.once;
    counts = says.counts;
    numbers = says.numbers;
    members = λ w work row. Iff.trans (says.members w work row) (rows_right row);
    projects = says.projects;
    marks = marks_right;
  }
