-- Worked cases by hand: the request's example, `9(5 6)`, and more, refusals among them, as one list with one proof.
-- First the bytes, then the cases, each with the call and what it must reply.
use Rattle.std.specs.Prelude.{◌≡◌, refl, List, [], ◌∷◌, ◌++◌, map, ℕ}
use Rattle.paper.specs.Stream.{records_of}
use Rattle.paper.specs.Tree.{leaf, branch, unjoined}
use Rattle.paper.specs.Refusals.{Reply, refused, answer, no}
use Rattle.writings.specs.Calls.{tree_of_text, text_of_tree}

-- `9(5 6)`, and its records: pads 0, 1, 2, branch 6 as node 3, branch 5 as node 4, pad 5, branch 9 as node 6
abbrev pub nine : List ℕ
nine = 57 ∷ 40 ∷ 53 ∷ 32 ∷ 54 ∷ 41 ∷ []

abbrev pub nine_tree : List ℕ
nine_tree = 1 ∷ 0 ∷ 1 ∷ 0 ∷ 1 ∷ 0 ∷ 2 ∷ 6 ∷ 2 ∷ 5 ∷ 1 ∷ 0 ∷ 2 ∷ 9 ∷ []

-- the same tree: `!a//b`, line end, ` 9 (5!(`, line end, `6 ( ) )!)`
abbrev pub nine_typed : List ℕ
nine_typed =
    33 ∷ 97 ∷ 47 ∷ 47 ∷ 98 ∷ 10
    ∷ 32 ∷ 57 ∷ 32 ∷ 40 ∷ 53 ∷ 33 ∷ 40 ∷ 10
    ∷ 54 ∷ 32 ∷ 40 ∷ 32 ∷ 41 ∷ 32 ∷ 41 ∷ 33 ∷ 41 ∷ []

-- `63(1(2)3 10)`: nothing between a closing bracket and a number
abbrev pub deeper : List ℕ
deeper = 54 ∷ 51 ∷ 40 ∷ 49 ∷ 40 ∷ 50 ∷ 41 ∷ 51 ∷ 32 ∷ 49 ∷ 48 ∷ 41 ∷ []

-- 2 is the child of 1, behind which 3 and 10 stand
abbrev pub deeper_tree : List ℕ
deeper_tree = 1 ∷ 0 ∷ 1 ∷ 0 ∷ 2 ∷ 2 ∷ 1 ∷ 0 ∷ 1 ∷ 0 ∷ 1 ∷ 0 ∷ 2 ∷ 10 ∷ 2 ∷ 3 ∷ 2 ∷ 1 ∷ 1 ∷ 0 ∷ 2 ∷ 63 ∷ []

-- a call with an output of so many bytes
pub data Call : Type 0 where
  to_tree : (text : List ℕ) → (room : ℕ) → Call
  to_text : (bytes : List ℕ) → (room : ℕ) → Call

abbrev pub reply : Call → Reply (List ℕ)
reply (to_tree text room) = tree_of_text text room
reply (to_text bytes room) = text_of_tree bytes room

abbrev pub cases : List (Call × Reply (List ℕ))
cases =
    (to_tree nine 14, answer nine_tree)
    ∷ (to_tree nine 13, refused (no 10))
    ∷ (to_tree nine_typed 8190, answer nine_tree)
    -- a line end between two numbers and behind the root: `9(5`, line end, `6)`, line end
    ∷ (to_tree (57 ∷ 40 ∷ 53 ∷ 10 ∷ 54 ∷ 41 ∷ 10 ∷ []) 14, answer nine_tree)
    ∷ (to_text nine_tree 6, answer nine)
    ∷ (to_text nine_tree 5, refused (no 10))
    -- `0()` is `0`
    ∷ (to_tree (48 ∷ 40 ∷ 41 ∷ []) 6, answer (1 ∷ 0 ∷ 1 ∷ 0 ∷ 2 ∷ 0 ∷ []))
    ∷ (to_text (1 ∷ 0 ∷ 1 ∷ 0 ∷ 2 ∷ 0 ∷ []) 1, answer (48 ∷ []))
    ∷ (to_tree deeper 22, answer deeper_tree)
    ∷ (to_text deeper_tree 12, answer deeper)
    -- nothing, `05`, `64`, `5 5`, `5(`, `5)`, `()`, `5()()`, `5/6`, a tab, a comment alone; 15 before 10
    ∷ (to_tree [] 0, refused (no 15))
    ∷ (to_tree (48 ∷ 53 ∷ []) 8190, refused (no 15))
    ∷ (to_tree (54 ∷ 52 ∷ []) 8190, refused (no 15))
    ∷ (to_tree (53 ∷ 32 ∷ 53 ∷ []) 8190, refused (no 15))
    ∷ (to_tree (53 ∷ 40 ∷ []) 8190, refused (no 15))
    ∷ (to_tree (53 ∷ 41 ∷ []) 8190, refused (no 15))
    ∷ (to_tree (40 ∷ 41 ∷ []) 8190, refused (no 15))
    ∷ (to_tree (53 ∷ 40 ∷ 41 ∷ 40 ∷ 41 ∷ []) 8190, refused (no 15))
    ∷ (to_tree (53 ∷ 47 ∷ 54 ∷ []) 8190, refused (no 15))
    ∷ (to_tree (53 ∷ 9 ∷ []) 8190, refused (no 15))
    ∷ (to_tree (33 ∷ 53 ∷ []) 8190, refused (no 15))
    -- nothing, a pad alone, two trees, a leaf of label 1, a label of 64, a root with a sibling, a cut record, a byte behind the image
    ∷ (to_text [] 0, refused (no 15))
    ∷ (to_text (1 ∷ 0 ∷ []) 8188, refused (no 15))
    ∷ (to_text (1 ∷ 0 ∷ 1 ∷ 0 ∷ 2 ∷ 5 ∷ 1 ∷ 0 ∷ 1 ∷ 0 ∷ 2 ∷ 6 ∷ []) 8188, refused (no 15))
    ∷ (to_text (1 ∷ 0 ∷ 1 ∷ 1 ∷ 2 ∷ 5 ∷ []) 8188, refused (no 15))
    ∷ (to_text (1 ∷ 0 ∷ 1 ∷ 0 ∷ 2 ∷ 64 ∷ []) 8188, refused (no 15))
    ∷ (to_text (1 ∷ 0 ∷ 1 ∷ 0 ∷ 1 ∷ 0 ∷ 2 ∷ 6 ∷ 2 ∷ 5 ∷ []) 8188, refused (no 15))
    ∷ (to_text (1 ∷ 0 ∷ 1 ∷ 0 ∷ 2 ∷ []) 8188, refused (no 15))
    ∷ (to_text (nine_tree ++ (1 ∷ [])) 8188, refused (no 15))
    ∷ []

pub worked : map (λ c. reply c.0) cases ≡ map (λ c. c.1) cases
worked = refl

-- the seven nodes, as document 01 reads the records
pub seven_nodes : unjoined (records_of nine_tree) ≡ branch 9 6 (branch 5 4 (leaf 0 0) (branch 6 3 (leaf 0 1) (leaf 0 2))) (leaf 0 5) ∷ []
seven_nodes = refl
