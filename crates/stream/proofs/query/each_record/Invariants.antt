-- The records so far have passed, so many of them are rules, and the table has their keys.
use Rattle.std.proofs.Common.{◌-◌, length}
use Rattle.stream.specs.Keys.{TableOf}
use Rattle.stream.specs.Positions.{records_between}
use Rattle.stream.proofs.QueryReading.{QuerySoFar}
use Rattle.stream.proofs.query.each_record.Given as goal

abbrev pub invariant-loop-at : goal.invariant-loop-at
invariant-loop-at l = QuerySoFar l.input l.head.facts l.at l.rules × TableOf l.head.facts (records_between l.input l.head.facts.rules l.at) l.said

abbrev pub decreases-loop-at : goal.decreases-loop-at
decreases-loop-at l = length l.input - l.at
