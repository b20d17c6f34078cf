-- `weigh_records`: a turn asks for no more than holds before it, and keeps that (`Passing`).
use Rattle.std.proofs.Common.{◌∙◌, arith, sym}
use Rattle.sound.proofs.Cells.{used_length}
use Rattle.sound.proofs.Passing.{onward, stopped, weighable}
use Rattle.sound.proofs.pass.weigh_records.Goals as goal

pub record_weight-requires-clause-weighable : goal.record_weight-requires-clause-weighable
record_weight-requires-clause-weighable c =
    let r = c.requires in
    weighable c.args.head c.args.table.now r.few_places r.used_there c.loop-at.invariant c.loop-at-test.true (omega (arith, r.room, c.loop-at.auto.work))

pub returns-in_default : goal.returns-in_default
returns-in_default c =
    let r = c.requires in
    record {
      passes = λ is. cc;
      fails =
          λ _.
          stopped c.args.head c.args.table.now r.few_places r.used_there c.loop-at.invariant c.loop-at-test.true (sym c.record_weight.ensures ∙ c.in_default.is);
      kept = λ k l. c.loop-at.invariant.kept k (omega (arith, used_length c.args.head c.args.table.now r.used_there, c.loop-at-test.true, l));
    }

pub loop-at-preserved : goal.loop-at-preserved
loop-at-preserved c =
    let r = c.requires in
    onward c.args.head c.args.table.now r.few_places r.used_there c.loop-at.invariant c.loop-at-test.true c.in-Some.weight
    (omega (arith, r.room, c.loop-at.auto.work)) (sym c.record_weight.ensures ∙ c.in-Some.is)
