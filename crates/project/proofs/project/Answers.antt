-- `project`: it is refused by `weigh`, or it is answered of a sound set, and the work is cleared.
use Rattle.std.proofs.Common.{◌∙◌, ap, arith, length, refl, sym}
use Rattle.std.proofs.lemmas.Result.{err_from_is_err_and}
use Rattle.paper.specs.Answers.{told}
use Rattle.paper.specs.Questions.{marks_of}
use Rattle.paper.specs.Refusals.{output_after}
use Rattle.sound.specs.Questions.{tests_of}
use Rattle.sound.proofs.Answered.{refused_reply, refused_work, sound_set}
use Rattle.sound.proofs.Questions.{own_reply, own_work}
use Rattle.project.specs.Answer.{own_tests}
use Rattle.project.proofs.project.Goals as goal

pub returns-in_err-weigh : goal.returns-in_err-weigh
returns-in_err-weigh c =
    let a = c.args in
    let W = c.in_err-weigh.ensures in
    let tests = tests_of (own_tests a.head a.place (length a.out.now)) in
    let marks = marks_of a.head a.table.now a.place in
    let reply = sym (refused_reply W refl tests marks) in
    let p = err_from_is_err_and c.from_residual.result c.from_residual.ensures.1 in
    rw (p.1, p.2) record {
      answer = ap (told (λ _. tt)) reply;
      worked = refused_work W refl tests marks;
      written = ap (λ q. output_after q a.out.now) reply;
    }

pub answer-answered-requires-clause-sound : goal.answer-answered-requires-clause-sound
answer-answered-requires-clause-sound c = sound_set c.in_ok-weigh.ensures refl

pub returns : goal.returns
returns c =
    let a = c.args in
    let W = c.in_ok-weigh.ensures in
    let own = own_tests a.head a.place (length a.out.now) in
    let marks = marks_of a.head a.table.now a.place in
    let said = c.answer-answered in
    record {
      answer = said.ensures.answer ∙ ap (told (λ _. tt)) (own_reply W own marks);
      worked = c.clear.ensures ∙ own_work W own marks (omega arith, (omega arith, tt)) said.new.work said.auto.work said.ensures.rest;
      written = said.ensures.written ∙ ap (λ q. output_after q a.out.now) (own_reply W own marks);
    }
