-- What is still to be written and what is written are the text of the image.
use Rattle.std.proofs.Common.{length}
use Rattle.text.proofs.WritingTexts.{SoFar}
use Rattle.text.proofs.canonical.write_text.Given as goal

abbrev pub invariant-loop-rest : goal.invariant-loop-rest
invariant-loop-rest l = SoFar l.tree l.rest l.writing

abbrev pub decreases-loop-rest : goal.decreases-loop-rest
decreases-loop-rest l = length l.rest
