-- `splits::free_beside` leaves the same flags: all marked ones where none shares a bit, else by the mask.
use Rattle.building.proofs.FreeMarks.{none_shared}
use Rattle.building.proofs.splits.free_beside.Goals as goal

pub returns-then-marked-notes-eq0 : goal.returns-then-marked-notes-eq0
returns-then-marked-notes-eq0 c size noted below few = none_shared noted below c.args.marked few c.if-marked-notes-eq0.true
