-- `State::join_frames` leaves a leaf's frame and copies a branch's down.
use Rattle.std.proofs.Common.{◌≡◌, ◌∙◌, ◌+◌, ◌-◌, ap, arith, drop}
use Rattle.std.proofs.Math.Seq.{paste}
use Rattle.building.proofs.Joining.{branch_joined, join_room, leaf_joined, two_below}
use Rattle.building.proofs.Present.{standing_ready}
use Rattle.building.proofs.state.State.join_frames.Goals as goal

pub overflow_add-result : goal.overflow_add-result
overflow_add-result c = omega (arith, standing_ready c.requires.1)

pub returns-then-input-self-eq-LEAF : goal.returns-then-input-self-eq-LEAF
returns-then-input-self-eq-LEAF c made s = leaf_joined _ _ _ made s c.if-input-self-eq-LEAF.true

pub frame_at-from-requires : goal.frame_at-from-requires
frame_at-from-requires c = omega (arith, standing_ready c.requires.1)

pub overflow_sub-self : goal.overflow_sub-self
overflow_sub-self c = two_below _ _ _ _ c.requires.1 c.if-input-self-eq-LEAF.false

pub frame_at-to-requires : goal.frame_at-to-requires
frame_at-to-requires c = omega (arith, standing_ready c.requires.1)

pub overflow_sub-result : goal.overflow_sub-result
overflow_sub-result c = omega (arith, two_below _ _ _ _ c.requires.1 c.if-input-self-eq-LEAF.false)

pub overflow_add-from : goal.overflow_add-from
overflow_add-from c =
    omega (
      arith,
      join_room _ _ _ _ c.requires.1 c.if-input-self-eq-LEAF.false c.frame_at-from.ensures c.frame_at-to.ensures c.frame_width.ensures,
    )

pub copy_within-requires-clause-in_bounds : goal.copy_within-requires-clause-in_bounds
copy_within-requires-clause-in_bounds c =
    let room = join_room _ _ _ _ c.requires.1 c.if-input-self-eq-LEAF.false c.frame_at-from.ensures c.frame_at-to.ensures c.frame_width.ensures in
    omega (arith, room.1)

pub copy_within-requires-clause-dest_in_bounds : goal.copy_within-requires-clause-dest_in_bounds
copy_within-requires-clause-dest_in_bounds c =
    let room = join_room _ _ _ _ c.requires.1 c.if-input-self-eq-LEAF.false c.frame_at-from.ensures c.frame_at-to.ensures c.frame_width.ensures in
    omega (arith, room.0, room.1)

pub returns : goal.returns
returns c made s =
    branch_joined _ _ _ made s c.if-input-self-eq-LEAF.false c.frame_at-from.ensures c.frame_at-to.ensures c.frame_width.ensures
    (c.copy_within.ensures.after
    ∙ ap (paste c.args.work.now c.frame_at-to.result (drop c.frame_at-from.result c.args.work.now))
    (let same : c.frame_at-from.result + c.frame_width.result - c.frame_at-from.result ≡ c.frame_width.result = omega arith in same))
