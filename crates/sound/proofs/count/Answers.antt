-- `count`: it is refused by `weigh`, or it tells the rows of a sound set. It has no tests of its own.
use Rattle.std.proofs.Common.{◌∙◌, [], refl, sym, ap}
use Rattle.std.proofs.lemmas.Result.{err_from_is_err_and}
use Rattle.paper.specs.Questions.{count_of}
use Rattle.paper.specs.Refusals.{answer}
use Rattle.sound.proofs.Answered.{refused_reply, refused_work}
use Rattle.sound.proofs.Counting.{set_count}
use Rattle.sound.proofs.Questions.{own_reply, own_work}
use Rattle.sound.proofs.count.Goals as goal

pub returns-in_err-weigh : goal.returns-in_err-weigh
returns-in_err-weigh c =
    let W = c.in_err-weigh.ensures in
    let rows = count_of c.args.head c.args.table.now in
    let p = err_from_is_err_and c.from_residual.result c.from_residual.ensures.1 in
    rw (p.1, p.2) record { answer = sym (refused_reply W refl [] rows); worked = refused_work W refl [] rows }

pub returns : goal.returns
returns c =
    let W = c.in_ok-weigh.ensures in
    let rows = count_of c.args.head c.args.table.now in
    record {
      answer = ap answer (c.set_rows-rows.ensures ∙ set_count W refl) ∙ own_reply W [] rows;
      worked = c.clear.ensures ∙ own_work W [] rows tt c.weigh.new.work refl refl;
    }
