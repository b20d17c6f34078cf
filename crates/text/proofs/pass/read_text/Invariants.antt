-- The bytes to come make of what is held what the whole text makes.
use Rattle.std.proofs.Common.{◌≡◌, length}
use Rattle.text.specs.Pass.{image_behind, image_of_text}
use Rattle.text.specs.Reading.{state_in}
use Rattle.text.proofs.pass.read_text.Given as goal

abbrev pub invariant-loop-rest : goal.invariant-loop-rest
invariant-loop-rest l = image_behind (state_in l.mode l.kept) l.rest ≡ image_of_text l.text

abbrev pub decreases-loop-rest : goal.decreases-loop-rest
decreases-loop-rest l = length l.rest
