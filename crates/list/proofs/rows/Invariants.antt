-- `rows` tells a row a turn.
use Rattle.list.proofs.Turning.{Going}
use Rattle.list.proofs.rows.Given as goal

abbrev pub invariant-loop-number : goal.invariant-loop-number
invariant-loop-number l = Going l.fn.page.handed.input.now l.head l.table l.number l.page
