-- `images`: a record asks for no more than holds before it (`OneRecord`), and keeps that (`Imaging`).
use Rattle.std.proofs.Common.{[], ◌∷◌, ◌∙◌, arith, length-append, sym, take}
use Rattle.fix.specs.Passes.{new_records}
use Rattle.fix.proofs.Imaging.{few, halted, onward}
use Rattle.fix.proofs.OneRecord.{operands_there}
use Rattle.fix.proofs.passes.images.Goals.{in-Standing, in-New}
use Rattle.fix.proofs.passes.images.Goals as goal

pub operands-left-requires : goal.operands-left-requires
operands-left-requires c = operands_there c.args.fixing _ _ _ c.loop-at.invariant.fits c.loop-at.invariant.has (omega arith)

pub overflow_add-work : goal.overflow_add-work
overflow_add-work c = omega (arith, few c.loop-at.invariant c.loop-at-test.true, c.requires.few)

pub overflow_add-made : goal.overflow_add-made
overflow_add-made c = omega (arith, few c.loop-at.invariant c.loop-at-test.true, c.requires.few)

pub returns-then-is_twice : goal.returns-then-is_twice
returns-then-is_twice c =
    halted c.loop-at.invariant c.loop-at-test.true (rw c.operands-left.ensures at (sym c.is_twice.ensures ∙ c.if-is_twice.true))

pub loop-at-preserved : goal.loop-at-preserved
loop-at-preserved c =
    let now = c.loop-at.invariant in
    let once = rw c.operands-left.ensures at (sym c.is_twice.ensures ∙ c.if-is_twice.false) in
    let makes = rw c.operands-left.ensures at c.image.ensures in
    let made = new_records c.args.fixing (take c.loop-at.at c.args.used.now) in
    let next = onward now c.loop-at-test.true once c.image.result makes in
    elim c.match-image.branch [
      | in-Standing w ↦ rw (w.made-is, w.work-is) (next _ (rw w.in-Standing.is w.number_of.ensures) _ (rw w.in-Standing.is now.made))
      | in-New w ↦
          rw (w.made-is, w.work-is)
          (next _ (rw w.in-New.is (omega (arith, now.made))) _ (rw w.in-New.is (omega (arith, now.made, length-append made (w.in-New.field-0 ∷ [])))))
    ]
