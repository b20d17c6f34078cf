-- `single_at` goes to lower records, and the entry at the place stays the same.
use Rattle.row.specs.Listed.{HasSameEntry}
use Rattle.row.proofs.set.SoundSet.single_at.Given as goal

abbrev pub invariant-loop-row : goal.invariant-loop-row
invariant-loop-row l = HasSameEntry l.self l.place l.fn.row l.row

abbrev pub decreases-loop-row : goal.decreases-loop-row
decreases-loop-row l = l.row.at
