-- `State::branch_rules` does rules of a branch: whatever is in the table, the building stands at the present rule.
use Rattle.std.proofs.Common.{List, length, drop}
use Rattle.paper.specs.Stream.{records_of}
use Rattle.building.specs.Batch.{Record}
use Rattle.building.specs.Standing.{Filling}
use Rattle.building.proofs.RuleLoop.{Ran}
use Rattle.building.proofs.state.State.branch_rules.Given as goal

abbrev pub invariant-loop-rule : goal.invariant-loop-rule
invariant-loop-rule l =
    (base : List Record) → Filling l.input l.fn.self l.fn.work l.fn.batch base → Ran l.input l.fn.self l.fn.work base l.count l.rule l.work l.batch

abbrev pub decreases-loop-rule : goal.decreases-loop-rule
decreases-loop-rule l = length (records_of (drop l.rule l.input))
