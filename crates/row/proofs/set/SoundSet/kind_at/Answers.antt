-- `kind_at`: a used record's kind has a number that is one of the three (`SoundSets`).
use Rattle.row.proofs.SoundSets.{decodes}
use Rattle.row.proofs.set.SoundSet.kind_at.Goals as goal

pub unwrap-requires : goal.unwrap-requires
unwrap-requires c = decodes c.args.self.now c.args.at c.requires c.try_from.result (rw c.record_at.ensures at c.try_from.ensures)
