-- The causes of the two calls' refusals, 15 and then 10, said of the text and of the bytes.
use Rattle.std.specs.Prelude.{List, [], ◌∷◌, ◌⊎◌, ◌≡◌, ℕ, ◌<◌, length}
use Rattle.paper.specs.BracketedText.{Writes}
use Rattle.paper.specs.CanonicalText.{text_of}
use Rattle.paper.specs.Conversions.{Images}
use Rattle.paper.specs.Image.{image_bytes}
use Rattle.paper.specs.WrittenTree.{WrittenTree}

abbrev pub conversion_order : List ℕ
conversion_order = 15 ∷ 10 ∷ []

-- the source is of no tree; it is of one whose result is longer than the output
abbrev pub Cause : (WrittenTree → Type 0) → (WrittenTree → List ℕ) → ℕ → ℕ → Type 0
Cause Of result room n =
    ((n ≡ 15) × ((w : WrittenTree) → Of w → ⊥)) ⊎ ((n ≡ 10) × ((w : WrittenTree) × Of w × (room < length (result w))))

-- text to tree: the text writes no tree, or its image is too long
abbrev pub TreeCause : List ℕ → ℕ → ℕ → Type 0
TreeCause text room = Cause (Writes text) image_bytes room

-- tree to text: the bytes are no image, or the canonical text is too long
abbrev pub TextCause : List ℕ → ℕ → ℕ → Type 0
TextCause bytes room = Cause (Images bytes) text_of room
