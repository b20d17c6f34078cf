-- `row`: it is refused by `weigh`, or by its own tests, or the row that is found is copied; and the work is cleared.
use Rattle.std.proofs.Common.{List, ap, length, refl, sym, ℕ}
use Rattle.std.proofs.lemmas.Result.{err_from_is_err_and}
use Rattle.paper.specs.Answers.{told}
use Rattle.paper.specs.Refusals.{Reply, output_after}
use Rattle.paper.specs.Questions.{row_numbered}
use Rattle.sound.specs.Questions.{tests_of}
use Rattle.sound.proofs.Answered.{refused_reply, refused_work, sound_passes}
use Rattle.row.specs.Found.{own_tests}
use Rattle.row.proofs.SoundSets.{weights_left}
use Rattle.row.proofs.row.Goals as goal

pub returns-in_err-weigh : goal.returns-in_err-weigh
returns-in_err-weigh c =
    let a = c.args in
    let W = c.in_err-weigh.ensures in
    let own = tests_of (own_tests a.head a.table.now a.number (length a.out.now)) in
    let row = row_numbered a.head a.table.now a.number in
    let p = err_from_is_err_and c.from_residual.result c.from_residual.ensures.1 in
    rw (p.1, p.2) record {
      answer = sym (ap (told {A = List ℕ} (λ _. tt)) (refused_reply W refl own row));
      worked = refused_work W refl own row;
      written = sym (ap (λ (reply : Reply (List ℕ)). output_after reply a.out.now) (refused_reply W refl own row));
    }

pub invariant_of-set : goal.invariant_of-set
invariant_of-set c =
    let W = c.in_ok-weigh.ensures in
    record { sound = (sound_passes W refl).1.0; weighed = weights_left W }
