-- The question's own tests, which are of the row, and its answer, of a sound set.
use Rattle.std.specs.Prelude.{Bool, List, [], ◌∷◌, ◌≡◌, ℕ, Result, eqb, length, drop}
use Rattle.paper.specs.declared.Head.{Head}
use Rattle.paper.specs.declared.Record.{Record}
use Rattle.paper.specs.declared.Refusal.{Refusal}
use Rattle.paper.specs.declared.Refusal.TheVariants.{Node, RowLength}
use Rattle.paper.specs.Answers.{says_member}
use Rattle.paper.specs.Questions.{is_listed}
use Rattle.paper.specs.Records.{listing}
use Rattle.paper.specs.Refusals.{entries_fit, unless}
use Rattle.paper.specs.Row.{Row}
use Rattle.sound.specs.Questions.{OwnTest, tests_of}

-- 13, then 8
abbrev pub own_tests : Head → Row → List OwnTest
own_tests h row = (RowLength, eqb (length row) h.arity) ∷ (Node, entries_fit h 0 row) ∷ []

pub record Answers (h : Head) (table : List Record) (work : List ℕ) (row : Row) (r : Result Bool Refusal) (work' : List ℕ) : Type 0 where
  pub answer : says_member r ≡ unless (tests_of (own_tests h row)) (is_listed (listing h table) row)
  pub rest : drop h.used work' ≡ drop h.used work
