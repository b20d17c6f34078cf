-- `building::drive`: the records made before the batch are the table's first ones. The rules of a node leave it the present one.
use Rattle.std.proofs.Common.{◌≡◌, ◌-◌, drop, length}
use Rattle.paper.specs.Refusals.{nodes_in}
use Rattle.paper.specs.Stream.{records_of}
use Rattle.building.proofs.DriveLoop.{DrivenTo}
use Rattle.building.proofs.drive.Given as goal

abbrev pub invariant-loop-state : goal.invariant-loop-state
invariant-loop-state l = DrivenTo l.input l.fn.table l.fn.state l.fn.work l.table l.state l.work l.batch

abbrev pub decreases-loop-state : goal.decreases-loop-state
decreases-loop-state l = nodes_in l.input - l.state.node

abbrev pub invariant-loop-state-2 : goal.invariant-loop-state-2
invariant-loop-state-2 l = record {
  driven : DrivenTo l.input l.fn.table l.fn.state l.fn.work l.table l.state l.work l.batch;
  node : l.state.node ≡ l.initial.state.node;
}

abbrev pub decreases-loop-state-2 : goal.decreases-loop-state-2
decreases-loop-state-2 l = length (records_of (drop l.state.rule l.input))
