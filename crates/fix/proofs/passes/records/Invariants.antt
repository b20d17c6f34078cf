-- `records`: what holds before each record (`Recording`).
use Rattle.fix.proofs.Recording.{Before}
use Rattle.fix.proofs.passes.records.Given as goal

abbrev pub invariant-loop-at : goal.invariant-loop-at
invariant-loop-at l = Before l.fixing l.used l.fn.target l.at l.made l.target
