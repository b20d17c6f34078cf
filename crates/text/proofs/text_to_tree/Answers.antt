-- What is told of the text's image is what the request says of the text.
use Rattle.text.proofs.TreeReplies.{makes_tree}
use Rattle.text.proofs.text_to_tree.Goals as goal

pub returns : goal.returns
returns c = makes_tree c.args.text.now c.args.out.now _ _ c.read_text.ensures
