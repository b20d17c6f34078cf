-- `weigh_records`: the records before the one that is tested next are sound, and their weights stand in the work.
use Rattle.paper.specs.Records.{used_of}
use Rattle.sound.specs.Passing.{Weighing}
use Rattle.sound.proofs.pass.weigh_records.Given as goal

abbrev pub invariant-loop-at : goal.invariant-loop-at
invariant-loop-at l = Weighing l.fn.head.arity l.fn.head.nodes (used_of l.fn.head l.fn.table) l.at l.fn.work l.work
