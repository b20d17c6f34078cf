-- `weight_by`: a number that is no kind's has no rows.
use Rattle.std.proofs.Common.{refl}
use borrow.Author.Tests.{ne_eqb}
use Rattle.paper.specs.declared.kinds.RecordKind.TheVariants.{Product, Single, Union}
use Rattle.sound.specs.OneRecord.{rows_by}
use Rattle.sound.proofs.record.weight_by.Goals as goal

pub returns-in-Err : goal.returns-in-Err
unfolding rows_by
returns-in-Err c =
    let none = c.in-Err.ensures in
    rw (ne_eqb c.args.r.kind 1 (none Single), ne_eqb c.args.r.kind 2 (none Union), ne_eqb c.args.r.kind 3 (none Product)) refl
