-- `below_unions` goes to lower records, and the row stays the same.
use Rattle.row.specs.Listed.{IsSameRow}
use Rattle.row.proofs.set.SoundSet.below_unions.Given as goal

abbrev pub invariant-loop-row : goal.invariant-loop-row
invariant-loop-row l = IsSameRow l.self l.fn.row l.row

abbrev pub decreases-loop-row : goal.decreases-loop-row
decreases-loop-row l = l.row.at
