-- `building::build`: each call makes of what it is lent what its contract says, and `Facing` puts that together.
use Rattle.std.proofs.Common.{arith}
use Rattle.building.proofs.Facing.{enough, over_face, whole_face}
use Rattle.building.proofs.Pasting.{filled_first}
use Rattle.building.proofs.build.Goals as goal

pub head-requires : goal.head-requires
head-requires c = (whole_face _ _ _ _ _ _ c.in_ok-state.ensures c.in-Ok.ensures c.begin.auto.work).0

pub returns-in-Ok : goal.returns-in-Ok
returns-in-Ok c =
    let a = c.args in
    let b = c.in_ok-state.ensures in
    let cleared = filled_first c.drive-made.new.work c.fill.new.self c.drive-made.new.state.asked
    (omega (arith, enough _ _ _ _ _ _ b c.in-Ok.ensures c.begin.auto.work, c.begin.auto.work, c.drive-made.auto.work))
    (c.fill.ensures.after (λ y e. e)) in
    rw (c.head.ensures, cleared) (whole_face _ _ _ _ _ _ b c.in-Ok.ensures c.begin.auto.work).1

pub returns-in-Err : goal.returns-in-Err
returns-in-Err c =
    let a = c.args in
    let b = c.in_ok-state.ensures in
    let cleared = filled_first c.drive-made.new.work c.fill.new.self c.drive-made.new.state.asked
    (omega (arith, enough _ _ _ _ _ _ b c.in-Err.ensures c.begin.auto.work, c.begin.auto.work, c.drive-made.auto.work))
    (c.fill.ensures.after (λ y e. e)) in
    rw (c.into.ensures, cleared)
    (over_face _ _ _ _ _ _ b c.in-Err.ensures c.begin.auto.work c.drive-made.auto.table c.blank.ensures)
