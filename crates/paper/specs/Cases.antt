-- 'Examples by hand': P1 to P10 and the four examples under them, from the bytes on, as one list with one proof (proofs/Cases).
use Rattle.std.specs.Prelude.{Bool, true, false, List, [], ◌∷◌, ◌++◌, ℕ, length}
use Rattle.paper.specs.Row.{Row, blank}
use Rattle.paper.specs.Records.{Record, Set, empty, unit, Head, listing}
use Rattle.paper.specs.Refusals.{no, no_at, Reply, refused, answer, build, count, row_by_number, member, project, fix}
use Rattle.paper.specs.Answers.{told}

abbrev pub tree_a : List ℕ
tree_a = 1 ∷ 5 ∷ 1 ∷ 5 ∷ 2 ∷ 9 ∷ []

abbrev pub tree_b : List ℕ
tree_b = 1 ∷ 5 ∷ 1 ∷ 5 ∷ 2 ∷ 9 ∷ 1 ∷ 5 ∷ 2 ∷ 9 ∷ []

abbrev pub tree_c : List ℕ
tree_c = 1 ∷ 5 ∷ []

-- two leaves, the first left of the second
abbrev pub query_q : List ℕ
query_q =
    16 ∷ 2 ∷ 4
    ∷ 17 ∷ 5 ∷ 0 ∷ 0
    ∷ 17 ∷ 5 ∷ 1 ∷ 1
    ∷ 17 ∷ 5 ∷ 2 ∷ 3
    ∷ 18 ∷ 9 ∷ 0 ∷ 0 ∷ 0 ∷ 0
    ∷ 18 ∷ 9 ∷ 0 ∷ 1 ∷ 3 ∷ 2
    ∷ 18 ∷ 9 ∷ 0 ∷ 0 ∷ 2 ∷ 2
    ∷ 18 ∷ 9 ∷ 0 ∷ 2 ∷ 0 ∷ 2
    ∷ 18 ∷ 9 ∷ 0 ∷ 1 ∷ 0 ∷ 1
    ∷ 18 ∷ 9 ∷ 0 ∷ 0 ∷ 1 ∷ 1
    ∷ 18 ∷ 9 ∷ 0 ∷ 3 ∷ 0 ∷ 3
    ∷ 18 ∷ 9 ∷ 0 ∷ 0 ∷ 3 ∷ 3
    ∷ 19 ∷ 2 ∷ []

abbrev pub Built : Type 0
Built = Reply (Head × List Record)

-- a question on a set that was built
abbrev pub on : {A : Type 0} → Built → (Head → List Record → Reply A) → Reply A
on (refused n) ask = refused n
on (answer (h, table)) ask = ask h table

-- what a case speaks of: the records made and the rows; the rows; the set and its rows; or an answer as it is
pub data Shown : Type 0 where
  makes : Reply (ℕ × List Row) → Shown
  lists : Reply (List Row) → Shown
  holds : Reply (Set × List Row) → Shown
  counts : Reply ℕ → Shown
  gives : Reply Row → Shown
  says : Reply Bool → Shown
  marks : Reply (List ℕ) → Shown

abbrev pub records_and_rows : Built → Shown
records_and_rows b = makes (told (λ (h, table). (length table, listing h table)) b)

abbrev pub rows_in : Built → Shown
rows_in b = lists (told (λ (h, table). listing h table) b)

abbrev pub set_in : Built → Shown
set_in b = holds (told (λ (h, table). (h.set, listing h table)) b)

-- B followed by Q, with work of 48 (P10) and a table of 13
abbrev pub set_b : Built
set_b = build (tree_b ++ query_q) 48 13

-- a place fixed at a node, with work and a target as long as B's set has records
abbrev pub fixing : ℕ → ℕ → Built → Built
fixing place n b = on b (λ h table. fix h table 13 place n 13)

abbrev pub cases : List (Shown × Shown)
cases =
    -- P1
    (records_and_rows (build (tree_a ++ query_q) 48 7), makes (answer (7, (0 ∷ 1 ∷ []) ∷ [])))
    ∷ (records_and_rows (build (tree_a ++ query_q) 48 6), makes (refused (no 6)))
    -- P2
    ∷ (records_and_rows set_b, makes (answer (13, (0 ∷ 3 ∷ []) ∷ (1 ∷ 3 ∷ []) ∷ (0 ∷ 1 ∷ []) ∷ [])))
    ∷ (counts (on set_b (λ h table. count h table 13)), counts (answer 3))
    -- P3
    ∷ (records_and_rows (build (tree_c ++ query_q) 32 2), makes (answer (2, [])))
    -- P4
    ∷ (says (on set_b (λ h table. member h table 13 (0 ∷ 3 ∷ []))), says (answer true))
    ∷ (says (on set_b (λ h table. member h table 13 (3 ∷ 0 ∷ []))), says (answer false))
    ∷ (says (on set_b (λ h table. member h table 13 (0 ∷ 0 ∷ []))), says (answer false))
    -- P5
    ∷ (marks (on set_b (λ h table. project h table 13 1 5)), marks (answer (1 ∷ 1 ∷ 0 ∷ 0 ∷ 0 ∷ [])))
    ∷ (marks (on set_b (λ h table. project h table 13 2 5)), marks (answer (0 ∷ 1 ∷ 0 ∷ 1 ∷ 0 ∷ [])))
    -- P6
    ∷ (rows_in (fixing 1 0 set_b), lists (answer ((blank ∷ 3 ∷ []) ∷ (blank ∷ 1 ∷ []) ∷ [])))
    -- P7
    ∷ (set_in (fixing 2 3 (fixing 1 0 set_b)), holds (answer (unit, (blank ∷ blank ∷ []) ∷ [])))
    ∷ (set_in (fixing 1 0 (fixing 2 3 set_b)), holds (answer (unit, (blank ∷ blank ∷ []) ∷ [])))
    -- P8
    ∷ (set_in (fixing 1 3 set_b), holds (answer (empty, [])))
    ∷ (counts (on (fixing 1 3 set_b) (λ h table. count h table 13)), counts (answer 0))
    -- P9
    ∷ (gives (on set_b (λ h table. row_by_number h table 13 2 2)), gives (answer (0 ∷ 1 ∷ [])))
    ∷ (gives (on set_b (λ h table. row_by_number h table 13 3 2)), gives (refused (no 9)))
    -- P10, whose 48 is set_b's
    ∷ (records_and_rows (build (tree_b ++ query_q) 47 13), makes (refused (no 5)))
    -- empty input; a tree with no query; a branch alone; a place fixed twice
    ∷ (records_and_rows (build [] 48 13), makes (refused (no_at 1 0)))
    ∷ (records_and_rows (build tree_b 48 13), makes (refused (no_at 3 10)))
    ∷ (records_and_rows (build (2 ∷ 9 ∷ []) 48 13), makes (refused (no_at 1 0)))
    ∷ (set_in (fixing 1 0 (fixing 1 0 set_b)), holds (refused (no 7)))
    ∷ []
