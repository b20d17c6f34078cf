-- What the program tells of an input: the tree records of a bracketed text, or one line with a number.
use Rattle.std.specs.Prelude.{List, ℕ, ◌≤◌, ◌<◌, length, take}
use Rattle.paper.specs.BracketedText.{Writes}
use Rattle.paper.specs.Image.{image_bytes}
use Rattle.paper.specs.WrittenTree.{WrittenTree}
use Rattle.paper.specs.Refusals.{no}
use Rattle.lines.specs.Text.{refusal_text}

-- the program's own limit
abbrev pub longest_input : ℕ
longest_input = 65536

-- the output that the program lends: two bytes for each of 4,095 nodes
abbrev pub longest_image : ℕ
longest_image = 8190

-- 14 before all, of an input that is too long; 15, of a text that is no writing of a tree; else the bytes of the tree's image
pub data Tells (input : List ℕ) : List ℕ → Type 0 where
  too_long : longest_input < length input → Tells input (refusal_text (no 14))
  no_writing : length input ≤ longest_input → ((w : WrittenTree) → Writes input w → ⊥) → Tells input (refusal_text (no 15))
  the_records : {w : WrittenTree} → length input ≤ longest_input → Writes input w → Tells input (image_bytes w)

-- what is told stands in the first bytes of the output
pub record Stands (input : List ℕ) (bytes : ℕ) (out : List ℕ) : Type 0 where
  pub within : bytes ≤ length out
  pub tells : Tells input (take bytes out)
