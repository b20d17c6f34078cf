-- `splits::masks_of` makes the two masks of a flag: they are right for the right flags passed, and i is the place at hand.
use Rattle.building.proofs.TripleTable.{Masking}
use Rattle.building.proofs.splits.masks_of.Given as goal

abbrev pub invariant-loop-b : goal.invariant-loop-b
invariant-loop-b l = Masking l.flag l.b l.free l.shared l.i
