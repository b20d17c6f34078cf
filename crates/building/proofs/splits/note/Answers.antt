-- A turn notes the masks of one more flag; those of the flags before stay.
use Rattle.std.proofs.Common.{arith}
use Rattle.building.proofs.TripleTable.{noted_onward}
use Rattle.building.proofs.splits.note.Goals as goal

pub loop-flag-preserved : goal.loop-flag-preserved
loop-flag-preserved c =
    let l = c.loop-flag in
    let r = c.masks_of-masks.result in
    noted_onward _ l.flag r.free r.shared l.notes (omega arith) (omega arith) l.invariant c.masks_of-masks.ensures
