-- Request 2026-02, worked cases by hand, beside P1 to P10 and in their words: pads that a rule would mark, label 0 on a branch, a tree
-- that is one pad. First the trees and the queries, then the cases as one list with one proof (proofs/PadCases).
use Rattle.std.specs.Prelude.{true, false, List, [], ◌∷◌, ◌++◌, ℕ}
use Rattle.paper.specs.Records.{empty}
use Rattle.paper.specs.Refusals.{no_at, refused, answer, build, count, member, project, fix}
use Rattle.paper.specs.Cases.{Built, Shown, makes, holds, counts, says, marks, on, records_and_rows, set_in}

-- ---- the image of `9(5 6)`: pads 0, 1, 2, branch 6 as node 3, branch 5 as node 4, pad 5, branch 9 as node 6
abbrev pub typed : List ℕ
typed = 1 ∷ 0 ∷ 1 ∷ 0 ∷ 1 ∷ 0 ∷ 2 ∷ 6 ∷ 2 ∷ 5 ∷ 1 ∷ 0 ∷ 2 ∷ 9 ∷ []

-- for a written label: the node itself, nothing, a node among the children or what is in them, a node behind
abbrev pub branch_rules_for : ℕ → List ℕ
branch_rules_for label =
    18 ∷ label ∷ 1 ∷ 0 ∷ 0 ∷ 1
    ∷ 18 ∷ label ∷ 0 ∷ 0 ∷ 0 ∷ 0
    ∷ 18 ∷ label ∷ 0 ∷ 1 ∷ 0 ∷ 1
    ∷ 18 ∷ label ∷ 0 ∷ 0 ∷ 1 ∷ 1 ∷ []

-- one node, whichever, with these branch rules. The second leaf rule would mark the pads
abbrev pub any_node : List ℕ → List ℕ
any_node branches = (16 ∷ 1 ∷ 2 ∷ 17 ∷ 0 ∷ 0 ∷ 0 ∷ 17 ∷ 0 ∷ 1 ∷ 1 ∷ []) ++ (branches ++ (19 ∷ 1 ∷ []))

-- document 01 alone had listed all seven nodes. Three subtrees are unjoined at the most. Records: singles of 3 and 4 and their union, the
-- single of 6 and the union of both
abbrev pub set_typed : Built
set_typed = build (typed ++ any_node (branch_rules_for 5 ++ (branch_rules_for 6 ++ branch_rules_for 9))) 16 5

-- ---- the image of `0`: pads 0 and 1, branch 0 as node 2
abbrev pub typed_zero : List ℕ
typed_zero = 1 ∷ 0 ∷ 1 ∷ 0 ∷ 2 ∷ 0 ∷ []

-- ---- the image of `9`: pads 0 and 1, branch 9 as node 2. The root at place 1, and at place 2 its left pad or the root itself
abbrev pub pad_beside : List ℕ
pad_beside =
    1 ∷ 0 ∷ 1 ∷ 0 ∷ 2 ∷ 9
    ∷ 16 ∷ 2 ∷ 3
    ∷ 17 ∷ 0 ∷ 0 ∷ 0
    ∷ 17 ∷ 0 ∷ 2 ∷ 1
    ∷ 18 ∷ 9 ∷ 1 ∷ 1 ∷ 0 ∷ 2
    ∷ 18 ∷ 9 ∷ 3 ∷ 0 ∷ 0 ∷ 2
    ∷ 19 ∷ 2 ∷ []

-- ---- label 0 on a branch: leaves 0 and 1 of label 5 under it. The branch itself, or its left leaf
abbrev pub zero_branch : List ℕ
zero_branch =
    1 ∷ 5 ∷ 1 ∷ 5 ∷ 2 ∷ 0
    ∷ 16 ∷ 1 ∷ 2
    ∷ 17 ∷ 5 ∷ 0 ∷ 0
    ∷ 17 ∷ 5 ∷ 1 ∷ 1
    ∷ 18 ∷ 0 ∷ 1 ∷ 0 ∷ 0 ∷ 1
    ∷ 18 ∷ 0 ∷ 0 ∷ 1 ∷ 0 ∷ 1
    ∷ 19 ∷ 1 ∷ []

-- ---- a tree that is one pad, with these records behind the head of a query of arity 1 with 2 states
abbrev pub one_pad : List ℕ → List ℕ
one_pad behind = 1 ∷ 0 ∷ 16 ∷ 1 ∷ 2 ∷ behind

abbrev pub cases : List (Shown × Shown)
cases =
    -- the written nodes, and no pad; the pads still have their state, without which no branch had one
    (records_and_rows set_typed, makes (answer (5, (6 ∷ []) ∷ (4 ∷ []) ∷ (3 ∷ []) ∷ [])))
    ∷ (counts (on set_typed (λ h table. count h table 5)), counts (answer 3))
    ∷ (says (on set_typed (λ h table. member h table 5 (6 ∷ []))), says (answer true))
    -- a pad is a node of the tree, so that a question on it is answered
    ∷ (says (on set_typed (λ h table. member h table 5 (0 ∷ []))), says (answer false))
    ∷ (marks (on set_typed (λ h table. project h table 5 1 7)), marks (answer (0 ∷ 0 ∷ 0 ∷ 1 ∷ 1 ∷ 0 ∷ 1 ∷ [])))
    ∷ (set_in (on set_typed (λ h table. fix h table 5 1 5 5)), holds (answer (empty, [])))
    -- a row that names a pad at one of two places: (2, 0) is not in the answer, (2, 2) is
    ∷ (records_and_rows (build pad_beside 36 1), makes (answer (1, (2 ∷ 2 ∷ []) ∷ [])))
    -- a branch of label 0 is no pad, also where it is typed and has pads below it
    ∷ (records_and_rows (build zero_branch 12 4), makes (answer (4, (2 ∷ []) ∷ (0 ∷ []) ∷ [])))
    ∷ (records_and_rows (build (typed_zero ++ any_node (branch_rules_for 0)) 12 1), makes (answer (1, (2 ∷ []) ∷ [])))
    -- one pad: nothing can stand in a row, whichever rule it has and whichever state is accepting
    ∷ (records_and_rows (build (one_pad (17 ∷ 0 ∷ 1 ∷ 1 ∷ 19 ∷ 1 ∷ [])) 8 0), makes (answer (0, [])))
    ∷ (records_and_rows (build (one_pad (17 ∷ 0 ∷ 0 ∷ 0 ∷ 17 ∷ 0 ∷ 1 ∷ 1 ∷ 19 ∷ 0 ∷ 19 ∷ 1 ∷ [])) 8 0), makes (answer (0, [])))
    -- such a rule is tested as any other: a flag of 2 at arity 1, a state of 2, its left side twice
    ∷ (records_and_rows (build (one_pad (17 ∷ 0 ∷ 2 ∷ 1 ∷ [])) 8 0), makes (refused (no_at 3 5)))
    ∷ (records_and_rows (build (one_pad (17 ∷ 0 ∷ 1 ∷ 2 ∷ [])) 8 0), makes (refused (no_at 3 5)))
    ∷ (records_and_rows (build (one_pad (17 ∷ 0 ∷ 1 ∷ 1 ∷ 17 ∷ 0 ∷ 1 ∷ 0 ∷ [])) 8 0), makes (refused (no_at 4 9)))
    ∷ []
