-- `row_numbered` fills in the entries of the row place by place (`Filling`).
use Rattle.row.specs.Listed.{row_at}
use Rattle.row.proofs.Filling.{Filled}
use Rattle.row.proofs.set.SoundSet.row_numbered.Given as goal

abbrev pub invariant-loop-place : goal.invariant-loop-place
invariant-loop-place l = Filled l.self.head.arity (row_at l.self l.start) l.place l.row
