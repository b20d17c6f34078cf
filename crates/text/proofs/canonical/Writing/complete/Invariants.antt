-- Of the nodes that still wait the same comes as of all.
use Rattle.std.proofs.Common.{◌≡◌, length}
use Rattle.text.specs.WriteText.{completed}
use Rattle.text.specs.Writing.{Fits, after}
use Rattle.text.proofs.canonical.Writing.complete.Given as goal

abbrev pub invariant-loop-node : goal.invariant-loop-node
invariant-loop-node l = record {
  same : after (completed l.self.waiting) l.self ≡ after (completed l.initial.self.waiting) l.initial.self;
  fits : Fits (completed l.self.waiting) l.self.text;
}

abbrev pub decreases-loop-node : goal.decreases-loop-node
decreases-loop-node l = length l.self.waiting
