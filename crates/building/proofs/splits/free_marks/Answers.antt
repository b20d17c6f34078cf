-- `splits::free_marks` leaves the marked flags that share no bit.
use Rattle.building.proofs.FreeMarks.{free_masked}
use Rattle.building.proofs.splits.free_marks.Goals as goal

pub returns : goal.returns
returns c size noted below = free_masked noted below c.args.marked
