-- The records so far have passed and make the numbers.
use Rattle.std.proofs.Common.{◌-◌, length}
use Rattle.stream.proofs.TreeReading.{TreeSoFar}
use Rattle.stream.proofs.tree.read_tree.Given as goal

abbrev pub invariant-loop-at : goal.invariant-loop-at
invariant-loop-at l = TreeSoFar l.input l.at l.nodes l.unjoined l.most

abbrev pub decreases-loop-at : goal.decreases-loop-at
decreases-loop-at l = length l.input - l.at
