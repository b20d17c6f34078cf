-- What `put_number` puts behind the first bytes of the buffer, it puts behind the text.
use Rattle.std.proofs.Common.{arith, refl}
use Rattle.lines.proofs.PuttingAt.{shows_put}
use Rattle.lines.proofs.Text.put_number.Goals as goal

pub invariant_of-self : goal.invariant_of-self
invariant_of-self g c =
    (shows_put g.row.SIZE _ _ _ (record { long = c.self.told; within = omega arith; shown = refl })
    c.put_number-self-inside.ensures).within

pub returns : goal.returns
returns g c =
    (shows_put g.row.SIZE _ _ _ (record { long = c.self.told; within = c.self.invariant; shown = c.self.view_is })
    c.put_number-self-inside.ensures).shown
