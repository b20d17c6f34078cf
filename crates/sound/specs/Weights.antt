-- What `weigh` tells, and what it leaves in work for a sound set: one number a record used, 16 times the rows that the record lists and
-- its flag, which is below 16.
use Rattle.std.specs.Prelude.{List, [], ◌∷◌, ℕ, ◌+◌, ◌*◌, ◌/◌, ◌%◌, Result, length}
use Rattle.paper.specs.declared.Record.{Record}
use Rattle.paper.specs.declared.Head.{Head}
use Rattle.paper.specs.Row.{Row}
use Rattle.paper.specs.Records.{listings, used_of}
use Rattle.paper.specs.Questions.{question_work}
use Rattle.paper.specs.Refusals.{Reply, refused, answer, unless, ask_tests, over, work_after}
use Rattle.paper.specs.declared.Refusal.{Refusal}
use Rattle.paper.specs.Answers.{no_of, says}

-- sound, or what the refusal says
abbrev pub says_weighed : Result (Unit {0}) Refusal → Reply (Unit {0})
says_weighed = says no_of

abbrev pub weight : List Row → Record → ℕ
weight rows r = 16 * length rows + r.flag

-- the rows and the flag in a weight
abbrev pub rows_in : ℕ → ℕ
rows_in weight = weight / 16

abbrev pub flag_in : ℕ → ℕ
flag_in weight = weight % 16

-- of each record with its rows
unfoldable pub weights_for : List (List Row) → List Record → List ℕ
weights_for [] rs = []
weights_for (rows ∷ more) [] = []
weights_for (rows ∷ more) (r ∷ rs) = weight rows r ∷ weights_for more rs

abbrev pub weights : Head → List Record → List ℕ
weights h table = weights_for (listings h.arity (used_of h table)) (used_of h table)

-- 5, then 11
abbrev pub weighing : Head → List Record → ℕ → Reply (Unit {0})
weighing h table work_length = unless (ask_tests h table work_length) tt

-- the work: weights where the set is sound, else as a refused question leaves it
abbrev pub weighed_work : Reply (Unit {0}) → Head → List Record → List ℕ → List ℕ
weighed_work (refused n) h table work = work_after {A = Unit {0}} (refused n) (question_work h) work
weighed_work (answer a) h table work = over (weights h table) work
