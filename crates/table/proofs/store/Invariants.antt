-- The loop of `store` has laid so many records of the batch over the table as it was, from the entry on.
use Rattle.std.proofs.Common.{◌≡◌}
use Rattle.std.proofs.Math.Seq.{paste}
use Rattle.table.specs.Batch.{records_in}
use Rattle.table.proofs.store.Given as goal

abbrev pub invariant-loop-i : goal.invariant-loop-i
invariant-loop-i l = l.table ≡ paste l.initial.table l.from (records_in l.count l.batch) l.i
