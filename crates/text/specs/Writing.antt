-- What the functions that write a text from its end to its start ask for and leave.
use Rattle.std.specs.Prelude.{List, ◌++◌, ◌≡◌, ℕ, ◌+◌, ◌≤◌, length}
use Rattle.paper.specs.CanonicalText.{text_of}
use Rattle.paper.specs.Conversions.{Images}
use Rattle.paper.specs.WrittenTree.{WrittenTree}
use Rattle.text.specs.Bounds.{longest_text}
pub use Rattle.text.specs.declared.canonical.Writing.{Writing}
use Rattle.text.specs.WriteText.{Waiting}

-- what a step writes has room before the text
abbrev pub Fits : List Waiting × List ℕ → List ℕ → Type 0
Fits step text = length step.1 + length text ≤ longest_text

-- what waits behind a step, and the text with what it writes
abbrev pub after : List Waiting × List ℕ → Writing → Writing
after step w = record { waiting = step.0; text = step.1 ++ w.text }

-- the text of the tree whose image these bytes are
pub record WritesText (bytes text : List ℕ) : Type 0 where
  pub tree : WrittenTree
  pub images : Images bytes tree
  pub stands : text ≡ text_of tree
