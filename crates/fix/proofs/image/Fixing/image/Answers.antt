-- `image`: there is no kind but the three.
use Rattle.std.proofs.Common.{⊎_elim}
use Rattle.paper.specs.declared.kinds.RecordKind.TheVariants.{Single, Union, Product}
use Rattle.fix.proofs.image.Fixing.image.Goals as goal

pub unreachable-requires : goal.unreachable-requires
unreachable-requires c = ⊎_elim (c.in-Err.ensures Single) (⊎_elim (c.in-Err.ensures Union) (c.in-Err.ensures Product)) c.requires
