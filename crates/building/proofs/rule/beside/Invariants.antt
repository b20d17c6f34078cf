-- `rule::beside` runs the splits with one left flag: the right flags before the marks that are left are done.
use Rattle.building.proofs.Turns.{RightLoop}
use Rattle.building.proofs.rule.beside.Given as goal

abbrev pub invariant-loop-marks : goal.invariant-loop-marks
invariant-loop-marks l = RightLoop l.rule l.k l.fn.batch l.fn.work l.left_flag l.initial.marks l.marks l.count l.batch l.work

abbrev pub decreases-loop-marks : goal.decreases-loop-marks
decreases-loop-marks l = l.marks
