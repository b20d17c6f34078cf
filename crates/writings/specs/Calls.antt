-- The replies of the two calls, computed: with `read_text` and `read_image` in the place of 'some tree that is written so'.
use Rattle.std.specs.Prelude.{cond, List, ℕ, leb, length}
use Rattle.std.proofs.Math.Option.{Option, none, some, map}
use Rattle.paper.specs.CanonicalText.{text_of}
use Rattle.paper.specs.Image.{image_bytes}
use Rattle.paper.specs.Refusals.{Reply, refused, answer, no}
use Rattle.writings.specs.ReadImage.{read_image}
use Rattle.writings.specs.ReadText.{read_text}

-- 15 for no result, 10 for one that is longer than the output
abbrev pub replied : ℕ → Option (List ℕ) → Reply (List ℕ)
replied room none = refused (no 15)
replied room (some bytes) = cond (leb (length bytes) room) (answer bytes) (refused (no 10))

abbrev pub tree_of_text : List ℕ → ℕ → Reply (List ℕ)
tree_of_text text room = replied room (map image_bytes (read_text text))

abbrev pub text_of_tree : List ℕ → ℕ → Reply (List ℕ)
text_of_tree bytes room = replied room (map text_of (read_image bytes))
