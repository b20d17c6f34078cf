-- What ends a comment from here on ends it from its start.
use Rattle.std.proofs.Common.{List, ℕ, length}
use Rattle.paper.specs.BracketedText.{Comment}
use Rattle.text.proofs.pass.comment_end.Given as goal

abbrev pub invariant-loop-end : goal.invariant-loop-end
invariant-loop-end l = (end : List ℕ) → Comment l.end end → Comment l.text end

abbrev pub decreases-loop-end : goal.decreases-loop-end
decreases-loop-end l = length l.end
