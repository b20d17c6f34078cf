-- The numbers so far and the bytes to come are judged as all the bytes are.
use Rattle.std.proofs.Common.{◌+◌, ◌≡◌, ◌≤◌, length}
use Rattle.text.specs.JudgeImage.{image_judged, nothing_read}
use Rattle.text.proofs.ImageRecords.{so_far}
use Rattle.text.proofs.image.is_image.Given as goal

abbrev pub invariant-loop-rest : goal.invariant-loop-rest
invariant-loop-rest l = record {
  few_trees : l.trees + length l.rest ≤ length l.tree;
  few_nodes : l.nodes + length l.rest ≤ length l.tree;
  judged : image_judged (so_far l.trees l.nodes l.pad l.single) l.rest ≡ image_judged nothing_read l.tree;
}

abbrev pub decreases-loop-rest : goal.decreases-loop-rest
decreases-loop-rest l = length l.rest
