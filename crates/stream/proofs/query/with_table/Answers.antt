-- A new table has no key.
use Rattle.stream.proofs.KeyTable.{new_table}
use Rattle.stream.proofs.query.with_table.Goals as goal

pub each_record-requires-clause-table_of : goal.each_record-requires-clause-table_of
each_record-requires-clause-table_of g c = new_table c.args.head.facts _ c.requires.room
