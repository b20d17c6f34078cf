-- `mark`: all bytes are 0 before some are 1; then a turn has one cell more, which keeps a node or none (`Marking`).
use Rattle.std.proofs.Common.{length}
use Rattle.project.proofs.Marking.{marked_all, marked_more, marked_no_more, marked_none}
use Rattle.project.proofs.mark.Goals as goal
use Rattle.project.proofs.mark.Goals.{then-cell-ne0, else-cell-ne0}

pub loop-cell-init : goal.loop-cell-init
loop-cell-init c = rw (c.fill.ensures.after (λ y e. e)) (marked_none c.args.cells.now (length c.args.marks.now))

pub loop-cell-preserved : goal.loop-cell-preserved
loop-cell-preserved c =
    let l = c.loop-cell in
    let inside = c.loop-cell-test.true in
    elim c.if-cell-ne0.branch [
      | then-cell-ne0 w ↦ rw w.marks-is (marked_more l.invariant inside w.if-cell-ne0.true (c.requires l.cell-index inside))
      | else-cell-ne0 w ↦ rw w.marks-is (marked_no_more l.invariant inside w.if-cell-ne0.false)
    ]

pub returns : goal.returns
returns c = marked_all c.loop-cell-test.false c.loop-cell.invariant
