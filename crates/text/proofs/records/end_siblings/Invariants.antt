-- Of the labels that still wait the same comes as of all, and their branches have room.
use Rattle.std.proofs.Common.{◌++◌, ◌+◌, ◌*◌, ◌≡◌, ◌≤◌, length}
use Rattle.text.specs.Bounds.{longest_image}
use Rattle.text.specs.Pass.{branches, closed, inner, outer}
use Rattle.text.proofs.records.end_siblings.Given as goal

abbrev pub invariant-loop-label : goal.invariant-loop-label
invariant-loop-label l = record {
  left : closed (outer l.waiting) ≡ closed (outer l.initial.waiting);
  to_come : l.image ++ branches (inner l.waiting) ≡ l.initial.image ++ branches (inner l.initial.waiting);
  room : length l.image + 2 * length l.waiting ≤ longest_image;
}

abbrev pub decreases-loop-label : goal.decreases-loop-label
decreases-loop-label l = length l.waiting
