-- What `project` answers and leaves is told in numbers (Telling).
use Rattle.tarnsatchel.proofs.Telling.{tells_project}
use Rattle.tarnsatchel.proofs.tarn_project.Goals as goal

pub returns : goal.returns
returns c = tells_project (rw c.head_of-h.ensures at c.project-projected.ensures) c.tell_written.ensures
