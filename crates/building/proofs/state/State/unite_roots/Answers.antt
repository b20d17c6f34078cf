-- A turn unites the slot of one more state; at the end all states are passed.
use Rattle.std.proofs.Common.{◌≡◌, arith, subst}
use Rattle.building.specs.Roots.{UnitesTo}
use Rattle.building.proofs.state.State.unite_roots.Goals as goal

pub loop-state-preserved : goal.loop-state-preserved
loop-state-preserved c =
    let next = c.unite_root-made.ensures in
    record {
      more = next.more;
      few = next.few;
      at_hand = next.at_hand;
      unites = next.unites c.args.batch.now c.loop-state.invariant.unites;
    }

pub returns : goal.returns
returns c =
    let a = c.args in
    let l = c.loop-state in
    let all : l.state ≡ a.self.now.shape.states = omega arith in
    subst (λ n. UnitesTo a.self.now a.lists.now a.work.now n a.batch.now l.made l.batch) all l.invariant.unites
