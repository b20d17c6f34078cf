-- Behind a head that was read the records decide.
use Rattle.std.proofs.Common.{◌∙◌}
use Rattle.std.proofs.lemmas.Result.{err_from_is_err_and}
use Rattle.stream.proofs.QueryReading.{head_passed, head_refused}
use Rattle.stream.proofs.query.read_query.Goals as goal

pub returns-in_err-head : goal.returns-in_err-head
returns-in_err-head c =
    let p = err_from_is_err_and c.from_residual.result c.from_residual.ensures.1 in
    rw (p.1, p.2) (head_refused c.args.input.now c.args.at _ c.in_err-head.ensures.answer)

pub returns-then-keys : goal.returns-then-keys
returns-then-keys c = c.with_table.ensures ∙ head_passed _ _ _ c.in_ok-head.ensures.answer

pub returns-then-keys-2 : goal.returns-then-keys-2
returns-then-keys-2 c = c.with_table-then-keys-2.ensures ∙ head_passed _ _ _ c.in_ok-head.ensures.answer

pub returns : goal.returns
returns c = c.with_table-2.ensures ∙ head_passed _ _ _ c.in_ok-head.ensures.answer
