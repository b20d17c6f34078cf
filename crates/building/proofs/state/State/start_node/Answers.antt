-- `State::start_node` clears the node's frame and looks its first rule up in the lists.
use Rattle.std.proofs.Common.{arith, refl}
use Rattle.building.proofs.NextNode.{coming_ready, has_come}
use Rattle.building.proofs.Pasting.{filled}
use Rattle.building.proofs.state.State.start_node.Goals as goal

pub frame_at-from-requires : goal.frame_at-from-requires
frame_at-from-requires c = omega (arith, (coming_ready _ _ _ _ c.requires.0.1).frames)

pub overflow_add-from : goal.overflow_add-from
overflow_add-from c = omega (arith, (coming_ready _ _ _ _ c.requires.0.1).frame, c.frame_at-from.ensures, c.frame_width.ensures)

pub offset_bounds-work-from : goal.offset_bounds-work-from
offset_bounds-work-from c = omega (arith, (coming_ready _ _ _ _ c.requires.0.1).frame, c.frame_at-from.ensures, c.frame_width.ensures)

pub slice_bounds-fill-end : goal.slice_bounds-fill-end
slice_bounds-fill-end c = omega (arith, (coming_ready _ _ _ _ c.requires.0.1).frame, c.frame_at-from.ensures, c.frame_width.ensures)

pub overflow_add-input : goal.overflow_add-input
overflow_add-input c = omega (arith, (coming_ready _ _ _ _ c.requires.0.1).kind)

pub returns : goal.returns
returns c made s =
    has_come _ _ _ made s c.requires.1 c.frame_at-from.ensures c.frame_width.ensures
    (filled c.args.work.now c.fill.new.self c.frame_at-from.result c.frame_width.result
    (omega (arith, (coming_ready _ _ _ _ c.requires.0.1).frame, c.frame_at-from.ensures, c.frame_width.ensures))
    (c.fill.ensures.after (λ y e. e)))
    refl refl c.first_rule-self.ensures refl
