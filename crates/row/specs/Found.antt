-- What is found in a sound set: the row with a number, or the refusal of the first test that fails.
use Rattle.std.specs.Prelude.{List, [], ◌∷◌, ℕ, Result, leb, ltb, take}
use Rattle.paper.specs.declared.Head.{Head}
use Rattle.paper.specs.declared.Record.{Record}
use Rattle.paper.specs.declared.Refusal.{Refusal}
use Rattle.paper.specs.declared.Refusal.TheVariants.{RowNumber, ShortOutput}
use Rattle.paper.specs.Answers.{no_of, says, told}
use Rattle.paper.specs.Questions.{count_of, row_numbered}
use Rattle.paper.specs.Refusals.{Reply, unless}
use Rattle.paper.specs.Row.{Row}
use Rattle.sound.specs.Questions.{OwnTest, tests_of}

-- the question's own tests: 9, then 10
abbrev pub own_tests : Head → List Record → ℕ → ℕ → List OwnTest
own_tests h table number room = (RowNumber, ltb number (count_of h table)) ∷ (ShortOutput, leb h.arity room) ∷ []

abbrev pub found : Head → List Record → ℕ → ℕ → Reply Row
found h table number room = unless (tests_of (own_tests h table number room)) (row_numbered h table number)

-- what a result says, of whose entries the first are the row's
abbrev pub says_found : Head → Result Row Refusal → Reply Row
says_found h r = told (take h.arity) (says no_of r)
