-- The line of a refusal is what is told, and it has room.
use Rattle.std.proofs.Common.{ap, arith, sym, ◌∙◌}
use Rattle.paper.specs.declared.StreamRefusal.{StreamRefusal}
use Rattle.paper.specs.Answers.{no_of, no_of_stream}
use Rattle.lines.specs.PutAt.{put_refusal_at}
use Rattle.tree.proofs.Telling.{line_stands}
use Rattle.tree.proofs.answer.Goals as goal

pub returns-in-Err : goal.returns-in-Err
returns-in-Err c =
    let out = c.records_of.new.out in
    line_stands c.args.input.now (no_of c.in-Err.why) c.in-Err.ensures.refused out (omega arith) (omega arith)
    (sym (ap (λ (why : StreamRefusal). put_refusal_at (no_of_stream why) (0, out)) c.into.ensures) ∙ c.put_refusal.ensures)
