-- `rule::branch_rule` runs all splits of a branch rule: the left flags before the marks that are left are done.
use Rattle.building.proofs.Turns.{LeftLoop}
use Rattle.building.proofs.rule.branch_rule.Given as goal

abbrev pub invariant-loop-marks : goal.invariant-loop-marks
invariant-loop-marks l = LeftLoop l.rule l.k l.fn.batch l.fn.work l.initial.marks l.marks l.count l.batch l.work

abbrev pub decreases-loop-marks : goal.decreases-loop-marks
decreases-loop-marks l = l.marks
