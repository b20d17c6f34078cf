-- What `fix` answers and leaves is told in numbers (Telling).
use Rattle.tarnsatchel.proofs.Telling.{tells_fix}
use Rattle.tarnsatchel.proofs.tarn_fix.Goals as goal

pub returns : goal.returns
returns c = tells_fix (rw c.head_of.ensures at c.fix-answer.ensures) c.tell_head.ensures
