-- The bytes that the cells give.
use Rattle.std.specs.Prelude.{cond, List, map, ℕ, suc, ◌≤◌, ◌<◌, length, get_or}
use Rattle.paper.specs.Lists.{has, up_to}

-- each cell is 0, or has a node below `nodes` and 1 more
abbrev pub Kept : List ℕ → ℕ → Type 0
Kept cells nodes = (k : ℕ) → k < length cells → get_or cells k 0 ≤ nodes

-- for each node 1 if a cell keeps it, else 0
abbrev pub marks_in : List ℕ → ℕ → List ℕ
marks_in cells nodes = map (λ node. cond (has cells (suc node)) 1 0) (up_to nodes)
