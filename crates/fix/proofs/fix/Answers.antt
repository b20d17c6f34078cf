-- `fix`: it is refused by `weigh`, or it answers of a sound set what `answer` does, and clears the work.
use Rattle.std.proofs.Common.{◌∙◌, ap, arith, length, refl, sym}
use Rattle.std.proofs.lemmas.Result.{err_from_is_err_and}
use Rattle.paper.specs.Answers.{told}
use Rattle.paper.specs.Questions.{fixed_set}
use Rattle.paper.specs.Refusals.{target_after}
use Rattle.sound.proofs.Answered.{refused_reply, refused_work, sound_set}
use Rattle.sound.proofs.Questions.{Late, own_reply, own_work}
use Rattle.sound.specs.Questions.{tests_of}
use Rattle.fix.specs.Answer.{own_tests}
use Rattle.fix.proofs.fix.Goals as goal

pub returns-in_err-weigh : goal.returns-in_err-weigh
returns-in_err-weigh c =
    let a = c.args in
    let W = c.in_err-weigh.ensures in
    let ts = own_tests a.head a.source.now a.place a.node (length a.target.now) in
    let fixed = fixed_set a.head a.source.now a.place a.node in
    let refuses = sym (refused_reply W refl (tests_of ts) fixed) in
    let p = err_from_is_err_and c.from_residual.result c.from_residual.ensures.1 in
    rw (p.1, p.2) record {
      answer = ap (told (λ x. x.0)) refuses;
      worked = refused_work W refl (tests_of ts) fixed;
      written = ap (λ q. target_after q a.target.now) refuses;
    }

pub answer-fixed-requires-clause-sound : goal.answer-fixed-requires-clause-sound
answer-fixed-requires-clause-sound c = sound_set c.in_ok-weigh.ensures refl

pub returns : goal.returns
returns c =
    let a = c.args in
    let W = c.in_ok-weigh.ensures in
    let ts = own_tests a.head a.source.now a.place a.node (length a.target.now) in
    let fixed = fixed_set a.head a.source.now a.place a.node in
    let own = c.answer-fixed.ensures in
    let late : Late ts = (omega arith, (omega arith, (omega arith, (omega arith, tt)))) in
    record {
      answer = own.answer ∙ ap (told (λ x. x.0)) (own_reply W ts fixed);
      worked = c.clear.ensures ∙ own_work W ts fixed late c.answer-fixed.new.work c.answer-fixed.auto.work own.rest;
      written = own.written ∙ ap (λ q. target_after q a.target.now) (own_reply W ts fixed);
    }
