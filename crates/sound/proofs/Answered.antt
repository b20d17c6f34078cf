-- What a question knows once `weigh` has answered. The question's tests are those of `weigh`, and then more. Where `weigh` says sound, only
-- the others are left, and the work has the weights; where it says no, the question's reply is that refusal, and the work is left as it says.
use mathlib.Core.List.{List, ◌++◌}
use mathlib.Core.Path.{◌∙◌, ◌≡◌, ap, sym}
use Prim.Native.Nat.{◌≤◌, ℕ}
use borrow.Author.Tests.{leb-true}
use lib.ListN.{drop, length}
use Rattle.std.specs.Prelude.{Result, Ok, Err}
use Rattle.paper.specs.declared.Head.{Head}
use Rattle.paper.specs.declared.Record.{Record}
use Rattle.paper.specs.declared.Refusal.{Refusal}
use Rattle.paper.specs.Answers.{no_of}
use Rattle.paper.specs.Questions.{question_work}
use Rattle.paper.specs.Refusals.{Reply, Test, answer, ask_tests, over, refused, unless, work_after}
use Rattle.laws.specs.QuestionCauses.{Sound as SoundSet}
use Rattle.laws.proofs.Replies.{Passes, answered, refused_append, unless_append}
use Rattle.laws.proofs.SoundTest.{sound_is}
use Rattle.sound.specs.Face.{Weighs}
use Rattle.sound.specs.Weights.{says_weighed, weighed_work, weighing, weights}
use Rattle.sound.proofs.Cells.{behind_cells, weighed_length}

module _ {h : Head} {table : List Record} {work work' : List ℕ} {r : Result (Unit {0}) Refusal} (W : Weighs h table work r work') where
  abbrev tests : List Test
  tests = ask_tests h table (length work)

  -- ---- the set is sound
  module _ (said : r ≡ Ok tt) where
    passed : weighing h table (length work) ≡ answer tt
    passed = sym W.answer ∙ ap says_weighed said

    pub sound_passes : Passes tests
    sound_passes = (answered tests passed).0

    pub sound_room : h.used ≤ length work
    sound_room = leb-true h.used (length work) sound_passes.0

    pub sound_set : SoundSet h table
    sound_set = sound_is h table sound_passes.1.0

    pub sound_work : work' ≡ over (weights h table) work
    sound_work = W.worked ∙ ap (λ (reply : Reply (Unit {0})). weighed_work reply h table work) passed

    -- behind the weights it is as it was
    pub sound_behind : drop h.used work' ≡ drop h.used work
    sound_behind = ap (drop h.used) sound_work ∙ behind_cells h table sound_set work

    pub sound_length : length work' ≡ length work
    sound_length = ap length sound_work ∙ weighed_length h table sound_set work sound_room

    pub sound_reply : {A : Type 0} (more : List Test) (a : A) → unless (tests ++ more) a ≡ unless more a
    sound_reply more a = unless_append tests more a sound_passes

  -- ---- it is refused
  module _ {why : Refusal} (said : r ≡ Err why) {A : Type 0} (more : List Test) (a : A) where
    refusal : weighing h table (length work) ≡ refused (no_of why)
    refusal = sym W.answer ∙ ap says_weighed said

    pub refused_reply : unless (tests ++ more) a ≡ refused (no_of why)
    refused_reply = refused_append tests more tt a refusal

    pub refused_work : work' ≡ work_after (unless (tests ++ more) a) (question_work h) work
    refused_work =
        W.worked
        ∙ ap (λ (reply : Reply (Unit {0})). weighed_work reply h table work) refusal
        ∙ ap (λ (reply : Reply A). work_after reply (question_work h) work) (sym refused_reply)
