-- `answer`, from what the tests, the images and the records come to (`Facing`).
use Rattle.std.proofs.Common.{arith}
use Rattle.fix.specs.Answer.{fixing_of}
use Rattle.fix.proofs.Facing.{image_there}
use Rattle.fix.proofs.answer.Goals as goal

pub new_set-requires : goal.new_set-requires
new_set-requires c =
    image_there c.requires.sound (fixing_of c.args.place c.args.node) c.images.new.work (omega (arith, c.images.auto.work, c.requires.room)) (c.images.ensures.found c.in_ok-images.was)
