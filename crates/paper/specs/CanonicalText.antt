-- The text that the way back gives: one byte 32 between two neighbouring numbers, no other blank or line end,
-- no empty brackets and no comments.
use Rattle.std.specs.Prelude.{List, [], ◌∷◌, ◌++◌, ℕ}
use Rattle.paper.specs.WrittenTree.{Forest, nil, tree, WrittenTree, forest_of}
use Rattle.paper.specs.BracketedText.{decimal}

-- a label is followed by its children's text in brackets, if it has children
abbrev pub bracketed : Forest → List ℕ → List ℕ
bracketed nil text = []
bracketed (tree l c s) text = 40 ∷ (text ++ (41 ∷ []))

-- and without brackets by one blank, if another number follows
abbrev pub between : Forest → Forest → List ℕ
between nil nil = []
between nil (tree l c s) = 32 ∷ []
between (tree l c s) others = []

abbrev pub forest_text : Forest → List ℕ
forest_text nil = []
forest_text (tree l c s) = decimal l ++ (bracketed c (forest_text c) ++ (between c s ++ forest_text s))

abbrev pub text_of : WrittenTree → List ℕ
text_of w = forest_text (forest_of w)
