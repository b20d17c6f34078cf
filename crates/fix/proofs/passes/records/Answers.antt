-- `records`: a record asks for no more than holds before it (`OneRecord`), and keeps that (`Recording`).
use Rattle.std.proofs.Common.{arith}
use Rattle.fix.proofs.OneRecord.{operands_there}
use Rattle.fix.proofs.Recording.{few, has, recorded, skipped, stood}
use Rattle.fix.proofs.passes.records.Goals.{then-work-at+in-New, then-work-at+in_default, else-work-at}
use Rattle.fix.proofs.passes.records.Goals as goal

pub operands-left-requires : goal.operands-left-requires
operands-left-requires c =
    let q = c.requires in
    operands_there c.args.fixing _ _ _ q.fitting (has q.fitting q.numbered c.loop-at.invariant c.loop-at-test.true) c.loop-at-test.true

pub bounds-target-made : goal.bounds-target-made
bounds-target-made c =
    let q = c.requires in omega (arith, few q.fitting q.numbered c.loop-at.invariant c.loop-at-test.true, q.entries, c.loop-at-test.true)

pub overflow_add-made-in-New : goal.overflow_add-made-in-New
overflow_add-made-in-New c =
    let q = c.requires in omega (arith, few q.fitting q.numbered c.loop-at.invariant c.loop-at-test.true, q.fitting.few, c.loop-at-test.true)

pub loop-at-preserved : goal.loop-at-preserved
loop-at-preserved c =
    let q = c.requires in
    let now = c.loop-at.invariant in
    let below = c.loop-at-test.true in
    elim c.if-work-at.branch [
      | then-work-at+in-New w ↦
          rw (w.made-is, w.target-is)
          (recorded q.fitting q.numbered now below w.image.result (rw w.operands-left.ensures at w.image.ensures) _ w.in-New.is q.entries)
      | then-work-at+in_default w ↦
          rw (w.made-is, w.target-is)
          (stood q.fitting q.numbered now below w.image.result (rw w.operands-left.ensures at w.image.ensures) _ w.in_default.is)
      | else-work-at w ↦ rw (w.made-is, w.target-is) (skipped q.fitting q.numbered now below w.if-work-at.false)
    ]
