-- What `refusal_behind` puts behind the first bytes of the buffer, it puts behind the text.
use Rattle.std.proofs.Common.{arith, refl}
use Rattle.lines.proofs.PuttingAt.{shows_refusal}
use Rattle.lines.proofs.Text.put_refusal.Goals as goal

pub invariant_of-self : goal.invariant_of-self
invariant_of-self g c =
    (shows_refusal g.row.SIZE _ _ _ (record { long = c.self.told; within = omega arith; shown = refl })
    c.refusal_behind-self-inside.ensures).within

pub returns : goal.returns
returns g c =
    (shows_refusal g.row.SIZE _ _ _ (record { long = c.self.told; within = c.self.invariant; shown = c.self.view_is })
    c.refusal_behind-self-inside.ensures).shown
