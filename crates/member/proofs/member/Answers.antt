-- `member`: it is refused by `weigh`, or it is answered of a sound set, and the work is cleared.
use Rattle.std.proofs.Common.{◌∙◌, arith, refl, sym}
use Rattle.std.proofs.lemmas.Result.{err_from_is_err_and}
use Rattle.paper.specs.Questions.{is_listed}
use Rattle.paper.specs.Records.{listing}
use Rattle.sound.specs.Questions.{tests_of}
use Rattle.sound.proofs.Answered.{refused_reply, refused_work, sound_set}
use Rattle.sound.proofs.Questions.{own_reply, own_work}
use Rattle.member.specs.Answer.{own_tests}
use Rattle.member.proofs.member.Goals as goal

pub returns-in_err-weigh : goal.returns-in_err-weigh
returns-in_err-weigh c =
    let a = c.args in
    let W = c.in_err-weigh.ensures in
    let tests = tests_of (own_tests a.head a.row.now) in
    let listed = is_listed (listing a.head a.table.now) a.row.now in
    let p = err_from_is_err_and c.from_residual.result c.from_residual.ensures.1 in
    rw (p.1, p.2) record { answer = sym (refused_reply W refl tests listed); worked = refused_work W refl tests listed }

pub answer-answered-requires-clause-sound : goal.answer-answered-requires-clause-sound
answer-answered-requires-clause-sound c = sound_set c.in_ok-weigh.ensures refl

pub returns : goal.returns
returns c =
    let a = c.args in
    let W = c.in_ok-weigh.ensures in
    let own = own_tests a.head a.row.now in
    let listed = is_listed (listing a.head a.table.now) a.row.now in
    let told = c.answer-answered in
    record {
      answer = told.ensures.answer ∙ own_reply W own listed;
      worked = c.clear.ensures ∙ own_work W own listed (omega arith, (omega arith, tt)) told.new.work told.auto.work told.ensures.rest;
    }
