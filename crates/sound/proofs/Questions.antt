-- The law of a question. It is refused by `weigh`, or by the first of its own tests that fails, or it answers. First its own tests alone; then behind those
-- of `weigh`: the reply is what they say, and the cleared work is the work that this reply leaves. Of a set that `weigh` refuses, `refused_reply` and
-- `refused_work` (`Answered`) say the same.
use mathlib.Core.Bool.{Bool, cond, false, true}
use mathlib.Core.List.{List, [], ◌++◌, ◌∷◌}
use mathlib.Core.Path.{◌∙◌, ◌≡◌, ap, refl, sym}
use Prim.Native.Nat.{◌<◌, ℕ}
use native.Mathlib.Omega.{arith}
use borrow.Author.Tests.{lt-leb}
use lib.ListN.{drop, length, replicate}
use Rattle.std.specs.Prelude.{Ok}
use Rattle.paper.specs.declared.Head.{Head}
use Rattle.paper.specs.declared.Record.{Record}
use Rattle.paper.specs.Answers.{no_of, number_of}
use Rattle.paper.specs.Questions.{question_work}
use Rattle.paper.specs.Refusals.{Reply, answer, ask_tests, over, refused, unless, work_after}
use Rattle.sound.specs.Face.{Weighs}
use Rattle.sound.specs.Questions.{OwnTest, cleared, tests_of}
use Rattle.sound.proofs.Answered.{sound_behind, sound_length, sound_reply, sound_room}
use Rattle.sound.proofs.Overwriting.{cleared_all, cleared_same}

-- each is a refusal that leaves the work cleared
abbrev pub Late : List OwnTest → Type 0
Late [] = Unit {0}
Late (t ∷ ts) = (5 < number_of t.0) × Late ts

abbrev pub Holds : List OwnTest → Type 0
Holds [] = Unit {0}
Holds (t ∷ ts) = (t.1 ≡ true) × Holds ts

-- ---- the question's own tests
pub all_hold : {A : Type 0} (a : A) (ts : List OwnTest) → Holds ts → unless (tests_of ts) a ≡ answer a
all_hold a [] held = refl
all_hold a (t ∷ ts) held = rw held.0 (all_hold a ts held.1)

-- ---- behind those of `weigh`
module _ {h : Head} {table : List Record} {work work₁ : List ℕ} (W : Weighs h table work (Ok tt) work₁) (ts : List OwnTest) {A : Type 0} (a : A) where
  -- the reply is what its own tests say
  pub own_reply : unless (tests_of ts) a ≡ unless (ask_tests h table (length work) ++ tests_of ts) a
  own_reply = sym (sound_reply W refl (tests_of ts) a)

  -- the work that it clears is the work that the reply leaves, where its own part has left what is behind the weights as it was
  pub own_work : Late ts → (work₂ : List ℕ) → length work₂ ≡ length work₁ → drop h.used work₂ ≡ drop h.used work₁
      → cleared h.used work₂ ≡ work_after (unless (ask_tests h table (length work) ++ tests_of ts) a) (question_work h) work
  own_work late work₂ long behind =
      cleared_all h.used work₂ (omega (arith, long, sound_length W refl, sound_room W refl))
      ∙ cleared_same h.used work work₂ (behind ∙ sound_behind W refl)
      ∙ late_work ts late
      ∙ ap (λ (q : Reply A). work_after q h.used work) own_reply
    where
      late_work : (ts : List OwnTest) → Late ts → over (replicate h.used 0) work ≡ work_after (unless (tests_of ts) a) h.used work
      late_work [] late' = refl
      late_work (t ∷ ts) late' = go t.1 (late_work ts late'.1)
        where
          go : (c : Bool) → over (replicate h.used 0) work ≡ work_after (unless (tests_of ts) a) h.used work
              → over (replicate h.used 0) work ≡ work_after (cond c (unless (tests_of ts) a) (refused (no_of t.0))) h.used work
          go true more = more
          go false more = rw (lt-leb (number_of t.0) 5 late'.0) refl
