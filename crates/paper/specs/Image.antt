-- The binary image of a written tree: first child left, next sibling right, a missing one is a pad, a leaf of label 0,
-- and every written node is a branch.
use Rattle.std.specs.Prelude.{List, [], ◌∷◌, ◌++◌, ℕ, suc, ◌+◌, ◌*◌}
use Rattle.paper.specs.Stream.{StreamRecord}
use Rattle.paper.specs.Tree.{Tree, leaf, branch}
use Rattle.paper.specs.WrittenTree.{Forest, nil, tree, WrittenTree, forest_of, forest_nodes}

-- a forest of n written nodes has n branches and n + 1 pads
abbrev pub image_nodes : Forest → ℕ
image_nodes f = suc (2 * forest_nodes f)

-- the tree, its nodes numbered from k in the order of the records
abbrev pub image_from : ℕ → Forest → Tree
image_from k nil = leaf 0 k
image_from k (tree l c s) =
    branch l (k + image_nodes c + image_nodes s) (image_from k c) (image_from (k + image_nodes c) s)

abbrev pub image_tree : WrittenTree → Tree
image_tree w = image_from 0 (forest_of w)

-- its tree records, children before their parent and left before right
abbrev pub image_records : Forest → List StreamRecord
image_records nil = record { kind = 1; body = 0 ∷ [] } ∷ []
image_records (tree l c s) = image_records c ++ (image_records s ++ (record { kind = 2; body = l ∷ [] } ∷ []))

-- and their bytes
abbrev pub forest_bytes : Forest → List ℕ
forest_bytes nil = 1 ∷ 0 ∷ []
forest_bytes (tree l c s) = forest_bytes c ++ (forest_bytes s ++ (2 ∷ l ∷ []))

abbrev pub image_bytes : WrittenTree → List ℕ
image_bytes w = forest_bytes (forest_of w)
