-- `flag_at` reads the weight of a used record (`SoundSets`).
use Rattle.std.proofs.Common.{◌∙◌, arith}
use Rattle.row.proofs.SoundSets.{flag_is, work_long}
use Rattle.row.proofs.set.SoundSet.flag_at.Goals as goal

pub bounds-self-at : goal.bounds-self-at
bounds-self-at c = omega (arith, work_long c.args.self.now)

pub returns : goal.returns
returns c = c.flag_in.ensures ∙ flag_is c.args.self.now c.args.at c.requires
