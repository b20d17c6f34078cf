-- The bytes are no image, or their text is made, and copied if there is room.
use Rattle.std.proofs.Common.{refl, sym}
use Rattle.paper.specs.CanonicalText.{text_of}
use Rattle.paper.specs.Conversions.{Images}
use Rattle.text.proofs.Copying.{converted, unconverted}
use Rattle.text.proofs.JudgedImages.{no_image}
use Rattle.text.proofs.tree_to_text.Goals as goal

pub returns-then-not-is_image : goal.returns-then-not-is_image
returns-then-not-is_image c =
    unconverted (Images c.args.tree.now) text_of (no_image c.args.tree.now (sym c.if-not-is_image.ensures)) c.args.out.now _ _ refl

pub returns : goal.returns
returns c = let made = c.write_text-text.ensures in
    converted (Images c.args.tree.now) text_of made.tree made.images _ c.args.out.now made.stands _ _ c.put_text.ensures
