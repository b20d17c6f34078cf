-- There and back: text, image, text is the canonical text; image, text, image is the same bytes. First that an image is of one tree.
use mathlib.Core.List.{List}
use mathlib.Core.Option.{some-injective}
use mathlib.Core.Path.{◌≡◌, sym, ◌∙◌, ap}
use Prim.Native.Nat.{ℕ}
use Rattle.paper.specs.BracketedText.{Writes}
use Rattle.paper.specs.CanonicalText.{text_of}
use Rattle.paper.specs.Conversions.{Images}
use Rattle.paper.specs.Image.{image_bytes}
use Rattle.paper.specs.WrittenTree.{WrittenTree}
use Rattle.writings.specs.ReadImage.{read_image}
use Rattle.writings.proofs.CanonicalTexts.{canonical_writes}
use Rattle.writings.proofs.Images.{image_read}
use Rattle.writings.proofs.Texts.{one_tree}

-- bytes are the image of one tree at most
pub one_image : (bytes : List ℕ) (v w : WrittenTree) → Images bytes v → Images bytes w → v ≡ w
one_image bytes v w g h =
    some-injective v w (sym (image_read v g.allowed) ∙ ap read_image (g.image ∙ sym h.image) ∙ image_read w h.allowed)

pub text_binary_text : (text bytes : List ℕ) (v w : WrittenTree) → Writes text v → Images bytes v → Images bytes w → text_of w ≡ text_of v
text_binary_text text bytes v w t g h = ap text_of (one_image bytes w v h g)

pub binary_text_binary : (bytes : List ℕ) (v w : WrittenTree) → Images bytes v → Writes (text_of v) w → image_bytes w ≡ bytes
binary_text_binary bytes v w g t = ap image_bytes (one_tree (text_of v) w v t (canonical_writes v g.allowed)) ∙ g.image
