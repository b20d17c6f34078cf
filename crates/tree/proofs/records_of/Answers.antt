-- 14 before all; else what `text_to_tree` answers and leaves.
use Rattle.std.proofs.Common.{arith}
use Rattle.tree.specs.Telling as T
use Rattle.tree.proofs.Telling.{answer_stands, refusal_tells}
use Rattle.tree.proofs.records_of.Goals as goal

pub returns-then-input-gt-LONGEST_INPUT-clause-refused : goal.returns-then-input-gt-LONGEST_INPUT-clause-refused
returns-then-input-gt-LONGEST_INPUT-clause-refused c = T.too_long (omega arith)

pub returns-clause-records : goal.returns-clause-records
returns-clause-records c =
    let call = c.text_to_tree in
    answer_stands c.args.input.now c.args.out.now (omega arith) (omega arith) call.result call.new.out call.ensures (omega arith)

pub returns-clause-refused : goal.returns-clause-refused
returns-clause-refused c =
    let call = c.text_to_tree in
    refusal_tells c.args.input.now c.args.out.now (omega arith) (omega arith) call.result call.new.out call.ensures
