-- A rule with no mark on the right makes nothing. A turn takes the first left flag that is marked and left, and does the splits beside it.
use Rattle.std.proofs.Common.{◌∙◌, arith}
use Rattle.building.proofs.Turns.{beside_few, beside_room, left_apart_first, left_ends, left_onward, left_starts}
use Rattle.building.proofs.Turns.{left_turn, right_none, size_small, with_left}
use Rattle.building.proofs.rule.branch_rule.Goals as goal

pub returns-then-work-rule-eq0 : goal.returns-then-work-rule-eq0
returns-then-work-rule-eq0 c = right_none c.requires.room.0 c.if-work-rule-eq0.true

pub free_marks-marks-requires : goal.free_marks-marks-requires
free_marks-marks-requires c =
    let r = c.requires.room.0 in
    (omega (arith, r.own_flag, size_small _ r.flags), c.requires.room.1.room)

pub loop-marks-init : goal.loop-marks-init
loop-marks-init c =
    let r = c.requires.room.0 in
    left_starts r (c.free_marks-marks.ensures c.args.rule.size c.requires.room.1 r.own_flag)

pub beside-count-requires : goal.beside-count-requires
beside-count-requires c =
    let r = c.requires.room.0 in
    let free = c.free_marks-marks.ensures c.args.rule.size c.requires.room.1 r.own_flag in
    let s = left_turn r free c.loop-marks.invariant c.loop-marks-test.true in
    record {
      room = (beside_room s, c.requires.room.1);
      left_flag_lt_size = (s.left_flag, left_apart_first r free c.loop-marks.invariant c.loop-marks-test.true);
      left_flag_bound = beside_few s c.requires.k_le_waiting_records;
    }

pub loop-marks-preserved : goal.loop-marks-preserved
loop-marks-preserved c =
    let r = c.requires.room.0 in
    let some = c.loop-marks-test.true in
    let free = c.free_marks-marks.ensures c.args.rule.size c.requires.room.1 r.own_flag in
    let s = left_turn r free c.loop-marks.invariant some in
    left_onward r free c.loop-marks.invariant some (c.beside-count.auto.batch ∙ s.batch_kept) (c.beside-count.auto.work ∙ s.work_kept)
    (with_left s _ _ _ c.beside-count.ensures)

pub returns : goal.returns
returns c =
    let r = c.requires.room.0 in
    left_ends r (c.free_marks-marks.ensures c.args.rule.size c.requires.room.1 r.own_flag) c.loop-marks.invariant c.loop-marks-test.false
