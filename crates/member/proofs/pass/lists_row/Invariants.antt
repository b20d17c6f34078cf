-- `lists_row`: the cells of the records passed are right, and what stands behind the cells is as it was (`Passing`).
use Rattle.member.proofs.Passing.{Passing}
use Rattle.member.proofs.pass.lists_row.Given as goal

abbrev pub invariant-loop-at : goal.invariant-loop-at
invariant-loop-at l = Passing l.fn.head l.table l.row l.fn.work l.at l.work
