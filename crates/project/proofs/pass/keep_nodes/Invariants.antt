-- `keep_nodes`: what is left of the pass makes of the cells what the whole pass makes of them.
use Rattle.std.proofs.Common.{◌≡◌, suc}
use Rattle.project.specs.Passing.{nodes_kept, passed}
use Rattle.project.proofs.pass.keep_nodes.Given as goal

abbrev pub invariant-loop-at : goal.invariant-loop-at
invariant-loop-at l = passed l.index l.table (suc l.at) l.work ≡ nodes_kept l.index l.fn.head l.table l.fn.work
