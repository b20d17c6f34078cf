-- `images`: what holds before each record (`Imaging`).
use Rattle.fix.proofs.Imaging.{Before}
use Rattle.fix.proofs.passes.images.Given as goal

abbrev pub invariant-loop-at : goal.invariant-loop-at
invariant-loop-at l = Before l.fixing l.used l.fn.work l.at l.made l.work
