-- What is told of a text's image, or of none, is what the request says of the text.
use mathlib.Core.List.{List}
use mathlib.Core.Option.{Option, none, some, map, none-ne-some}
use mathlib.Core.Path.{◌≡◌, refl, sym, ◌∙◌, ap}
use Prim.Native.Nat.{ℕ}
use Rattle.std.specs.Prelude.{Result}
use Rattle.paper.specs.declared.Refusal.{Refusal}
use Rattle.paper.specs.BracketedText.{Writes}
use Rattle.paper.specs.Image.{image_bytes}
use Rattle.paper.specs.WrittenTree.{WrittenTree}
use Rattle.writings.specs.ReadText.{read_text}
use Rattle.writings.proofs.Texts.{read_writes, writes_read}
use Rattle.text.specs.Face.{MakesTree}
use Rattle.text.specs.Pass.{image_of_text}
use Rattle.text.specs.Told.{told}
use Rattle.text.proofs.BytePass.{text_image}
use Rattle.text.proofs.Copying.{converted, unconverted}

pub makes_tree : (text out : List ℕ) (r : Result ℕ Refusal) (out' : List ℕ) → (r, out') ≡ told (image_of_text text) out → MakesTree text out r out'
makes_tree text out r out' h = go (read_text text) refl (h ∙ ap (λ i. told i out) (text_image text))
  where
    go : (o : Option WrittenTree) → read_text text ≡ o → (r, out') ≡ told (map image_bytes o) out → MakesTree text out r out'
    go none z e = unconverted (Writes text) image_bytes (λ w g. none-ne-some w (sym z ∙ writes_read text w g)) out r out' e
    go (some w) z e = converted (Writes text) image_bytes w (read_writes text w z) (image_bytes w) out refl r out' e
