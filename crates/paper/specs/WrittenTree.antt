-- A test tree as it is written: a label, and any number of children.
-- Trees that stand side by side are a forest; a tree is the forest with one root.
use Rattle.std.specs.Prelude.{ℕ, suc, ◌+◌, ◌≤◌}

-- no tree, or a first one with its label and its children, and then the others
pub data Forest : Type 0 where
  nil : Forest
  tree : (label : ℕ) → (children others : Forest) → Forest

pub record WrittenTree : Type 0 where
  pub label : ℕ
  pub children : Forest

abbrev pub forest_of : WrittenTree → Forest
forest_of w = tree w.label w.children nil

abbrev pub forest_nodes : Forest → ℕ
forest_nodes nil = 0
forest_nodes (tree l c s) = suc (forest_nodes c + forest_nodes s)

abbrev pub written_nodes : WrittenTree → ℕ
written_nodes w = forest_nodes (forest_of w)

-- every label is at most 63
abbrev pub LabelsFit : Forest → Type 0
LabelsFit nil = Unit {0}
LabelsFit (tree l c s) = (l ≤ 63) × LabelsFit c × LabelsFit s

-- the trees that can be written: labels at most 63, at most 2,047 written nodes
pub record Allowed (w : WrittenTree) : Type 0 where
  pub labels : LabelsFit (forest_of w)
  pub few : written_nodes w ≤ 2047
