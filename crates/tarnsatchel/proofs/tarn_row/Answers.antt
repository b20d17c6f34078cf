-- What `row` answers and leaves is told in numbers (Telling).
use Rattle.tarnsatchel.proofs.Telling.{tells_row}
use Rattle.tarnsatchel.proofs.tarn_row.Goals as goal

pub returns : goal.returns
returns c = tells_row (rw c.head_of-h.ensures at c.row-written.ensures) c.tell_written.ensures
