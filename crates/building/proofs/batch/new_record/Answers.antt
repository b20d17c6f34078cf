-- `batch::new_record` makes a record and gives its set.
use Rattle.building.proofs.Making.{record_made}
use Rattle.building.proofs.batch.new_record.Goals as goal

pub returns : goal.returns
returns c = record_made c.args.used c.args.k c.args.batch.now c.args.new c.put.new.batch c.put.ensures
