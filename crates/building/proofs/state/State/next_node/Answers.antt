-- `State::next_node` ends the present node and starts the next.
use Rattle.std.proofs.Common.{◌+◌, ap}
use Rattle.building.proofs.NextNode.{comes_next, gone_on}
use Rattle.building.proofs.state.State.next_node.Goals as goal

pub start_node-requires : goal.start_node-requires
start_node-requires c =
    let a = c.args in
    let (made, s, few) = c.requires.standing.0 in (
      (
        made,
        comes_next a.input.now a.self.now a.work.now made s c.requires.input_len_bound.0 c.requires.input_len_bound.1
            (ap (λ n. a.self.now.at + 1 + n) c.body_length.ensures) (c.join_frames-self.ensures made s),
      ),
      c.requires.standing.1,
    )

pub returns : goal.returns
returns c made s =
    let a = c.args in
    let done = c.requires.input_len_bound.0 in
    let more = c.requires.input_len_bound.1 in
    let j = c.join_frames-self.ensures made s in
    gone_on a.input.now a.self.now a.work.now made s done more j
    (c.start_node.ensures made
    (comes_next a.input.now a.self.now a.work.now made s done more (ap (λ n. a.self.now.at + 1 + n) c.body_length.ensures) j))
