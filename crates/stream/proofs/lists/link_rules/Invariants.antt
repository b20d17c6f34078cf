-- Up to the position the lists are linked, and the accepting states are those of the records passed.
use Rattle.std.proofs.Common.{◌-◌, length}
use Rattle.stream.proofs.AcceptingBits.{StatesSoFar}
use Rattle.stream.proofs.Linking.{Going}
use Rattle.stream.proofs.lists.link_rules.Given as goal

abbrev pub invariant-loop-at : goal.invariant-loop-at
invariant-loop-at l = Going l.input l.from (length l.fn.lists) l.at l.lists l.last × StatesSoFar l.input l.from l.at l.accepting

abbrev pub decreases-loop-at : goal.decreases-loop-at
decreases-loop-at l = length l.input - l.at
