-- A turn puts one more record's rule behind the last one of its symbol, and its accepting state in; behind the last record all is told.
use Rattle.std.proofs.Common.{rules, ◌≡◌, ◌+◌, ◌<◌, ◌≤◌, ◌∙◌, length, subst, arith}
use Rattle.stream.specs.Positions.{after}
use Rattle.stream.proofs.AcceptingBits.{accepted_all, accepted_more, accepted_none}
use Rattle.stream.proofs.Linking.{Going, cell_room, goes_on, goes_past, going_behind, going_ends, going_starts, last_before}
use Rattle.stream.proofs.lists.link_rules.Goals as goal
use Rattle.stream.proofs.lists.link_rules.Goals.{in-Some, in_default}

pub loop-at-init : goal.loop-at-init
loop-at-init c =
    let s = c.start_lists-last in (
      subst (λ size. Going c.args.input.now c.args.from size c.args.from s.new.lists s.result) s.auto.lists
          (going_starts _ _ _ _ (search rules) s.ensures),
      accepted_none _ _,
    )

pub overflow_sub-at : goal.overflow_sub-at
overflow_sub-at c = going_behind _ _ _ _ _ _ c.loop-at.invariant.0

-- a symbol's last cell lies before that of the record, and there is one
pub add_rule-requires-clause-symbol_in_bounds : goal.add_rule-requires-clause-symbol_in_bounds
add_rule-requires-clause-symbol_in_bounds c =
    let k = c.loop-at.invariant.0 in
    let here : c.loop-at.at < length c.args.input.now = omega arith in
    let low = c.in-Some.ensures.0 in
    let before = last_before _ _ _ _ _ _ k here c.in-Some.symbol low in
    (omega (arith, low, k.long), omega (arith, before, cell_room _ _ _ _ _ _ k here c.requires.room))

pub add_rule-requires-clause-cell_in_bounds : goal.add_rule-requires-clause-cell_in_bounds
add_rule-requires-clause-cell_in_bounds c =
    let here : c.loop-at.at < length c.args.input.now = omega arith in
    (omega (arith, cell_room _ _ _ _ _ _ c.loop-at.invariant.0 here c.requires.room), omega arith)

pub loop-at-preserved : goal.loop-at-preserved
loop-at-preserved c =
    let k = c.loop-at.invariant in
    let here : c.loop-at.at < length c.args.input.now = omega arith in
    let past : c.loop-at.at + (1 + c.body_length.result) ≡ after c.args.input.now c.loop-at.at = omega (arith, c.body_length.ensures) in (
      elim c.match-symbol_at.branch [
        | in-Some w ↦
            goes_on _ _ _ _ _ _ k.0 here _ past c.requires.room _ w.in-Some.ensures _ _ _
            w.cell_of.ensures (w.lists-is ∙ w.add_rule.ensures.lists_after) (w.last-is ∙ w.add_rule.ensures.last_after)
        | in_default w ↦ rw (w.lists-is, w.last-is) (goes_past _ _ _ _ _ _ k.0 here _ past w.in_default.ensures)
      ],
      accepted_more _ _ _ _ k.1 _ _ here past c.with_state-accepting.ensures,
    )

pub returns : goal.returns
returns c =
    let k = c.loop-at.invariant in
    let ended : length c.args.input.now ≤ c.loop-at.at = omega arith in
    going_ends _ _ _ _ _ _ k.0 ended c.requires.room _ (accepted_all _ _ _ _ k.1 ended)
