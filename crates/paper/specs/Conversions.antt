-- Request 2026-01, the two calls: what is answered of a text, and of bytes that may be an image, with an output of so many bytes.
-- 15 for what is outside the rules, then 10 for an output that is shorter than the result. What an output holds then is `output_after`.
use Rattle.std.specs.Prelude.{List, ◌≡◌, ℕ, ◌≤◌, ◌<◌, length}
use Rattle.paper.specs.Refusals.{no, Reply, refused, answer}
use Rattle.paper.specs.WrittenTree.{WrittenTree, Allowed}
use Rattle.paper.specs.BracketedText.{Writes}
use Rattle.paper.specs.CanonicalText.{text_of}
use Rattle.paper.specs.Image.{image_bytes}

-- the bytes are wholly the image of a tree that can be written
pub record Images (bytes : List ℕ) (w : WrittenTree) : Type 0 where
  pub allowed : Allowed w
  pub image : image_bytes w ≡ bytes

-- what is replied of a source that is of some tree, or of none, where a tree's result is these bytes and the output has so much room
pub data Conversion (Of : WrittenTree → Type 0) (result : WrittenTree → List ℕ) (room : ℕ) : Reply (List ℕ) → Type 0 where
  of_none : ((w : WrittenTree) → Of w → ⊥) → Conversion Of result room (refused (no 15))
  no_room : {w : WrittenTree} → Of w → room < length (result w) → Conversion Of result room (refused (no 10))
  the_result : {w : WrittenTree} → Of w → length (result w) ≤ room → Conversion Of result room (answer (result w))

-- text to tree
abbrev pub TreeReply : List ℕ → ℕ → Reply (List ℕ) → Type 0
TreeReply text room = Conversion (Writes text) image_bytes room

-- tree to text
abbrev pub TextReply : List ℕ → ℕ → Reply (List ℕ) → Type 0
TextReply bytes room = Conversion (Images bytes) text_of room
