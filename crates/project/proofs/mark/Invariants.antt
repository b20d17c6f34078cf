-- `mark`: the nodes that the cells before the next one keep are marked (`Marking`).
use Rattle.std.proofs.Common.{length}
use Rattle.project.proofs.Marking.{Marked}
use Rattle.project.proofs.mark.Given as goal

abbrev pub invariant-loop-cell : goal.invariant-loop-cell
invariant-loop-cell l = Marked l.cells (length l.fn.marks) l.cell-index l.marks
