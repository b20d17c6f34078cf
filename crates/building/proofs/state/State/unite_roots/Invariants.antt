-- `State::unite_roots` unites the slots of all accepting states, a state a turn: those of the states passed are united.
use Rattle.std.proofs.Common.{◌+◌, ◌≤◌}
use Rattle.building.specs.Roots.{UnitesTo}
use Rattle.building.proofs.state.State.unite_roots.Given as goal

abbrev pub invariant-loop-state : goal.invariant-loop-state
invariant-loop-state l = record {
  more : l.self.count ≤ l.made.count;
  few : l.made.count ≤ l.self.count + l.state;
  at_hand : l.made.set ≤ l.self.from + l.made.count + 1;
  unites : UnitesTo l.self l.lists l.work l.state l.fn.batch l.made l.batch;
}
