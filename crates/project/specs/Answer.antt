-- The question's own tests, and its answer, of a sound set.
use Rattle.std.specs.Prelude.{List, [], ◌∷◌, ◌≡◌, ℕ, Result, leb, length, drop}
use Rattle.paper.specs.declared.Head.{Head}
use Rattle.paper.specs.declared.Record.{Record}
use Rattle.paper.specs.declared.Refusal.{Refusal}
use Rattle.paper.specs.declared.Refusal.TheVariants.{Place, ShortOutput}
use Rattle.paper.specs.Answers.{says_projected, told}
use Rattle.paper.specs.Questions.{marks_of}
use Rattle.paper.specs.Refusals.{Reply, is_open, output_after, unless}
use Rattle.sound.specs.Questions.{OwnTest, tests_of}

-- 7, then 10
abbrev pub own_tests : Head → ℕ → ℕ → List OwnTest
own_tests h place room = (Place, is_open h place) ∷ (ShortOutput, leb h.nodes room) ∷ []

-- what the tests come to, or the marks
abbrev pub own_reply_of : Head → List Record → ℕ → ℕ → Reply (List ℕ)
own_reply_of h table place room = unless (tests_of (own_tests h place room)) (marks_of h table place)

pub record Answers (h : Head) (table : List Record) (work : List ℕ) (place : ℕ) (out : List ℕ) (r : Result (Unit {0}) Refusal) (work' out' : List ℕ) : Type 0 where
  pub answer : says_projected r ≡ told (λ _. tt) (own_reply_of h table place (length out))
  pub rest : drop h.used work' ≡ drop h.used work
  pub written : out' ≡ output_after (own_reply_of h table place (length out)) out
