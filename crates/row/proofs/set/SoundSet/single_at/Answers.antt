-- `single_at` ends at the node (`Leading`).
use Rattle.std.proofs.Common.{◌∙◌}
use Rattle.row.proofs.Leading.{at_node}
use Rattle.row.proofs.set.SoundSet.single_at.Goals as goal

pub returns-in-Single-clause-node : goal.returns-in-Single-clause-node
returns-in-Single-clause-node c =
    let i = c.loop-row.invariant in
    at_node i.listed c.args.place i.has c.in-Single.ensures ∙ i.same
