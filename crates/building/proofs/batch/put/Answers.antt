-- `batch::put` writes one more record behind the first k.
use Rattle.std.proofs.Common.{arith}
use Rattle.building.proofs.Written.{one_more}
use Rattle.building.proofs.batch.put.Goals as goal

pub returns : goal.returns
returns c = one_more c.args.batch.now c.args.k c.args.new (omega arith)
