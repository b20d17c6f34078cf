-- What `weigh` and `count` answer and leave, in the paper's words.
use Rattle.std.specs.Prelude.{List, ◌≡◌, ℕ, Result, length}
use Rattle.paper.specs.declared.Head.{Head}
use Rattle.paper.specs.declared.Record.{Record}
use Rattle.paper.specs.declared.Refusal.{Refusal}
use Rattle.paper.specs.Answers.{says_counted}
use Rattle.paper.specs.Questions.{question_work}
use Rattle.paper.specs.Refusals.{count, work_after}
use Rattle.sound.specs.Weights.{says_weighed, weighing, weighed_work}

pub record Weighs (h : Head) (table : List Record) (work : List ℕ) (r : Result (Unit {0}) Refusal) (work' : List ℕ) : Type 0 where
  pub answer : says_weighed r ≡ weighing h table (length work)
  pub worked : work' ≡ weighed_work (weighing h table (length work)) h table work

pub record Counts (h : Head) (table : List Record) (work : List ℕ) (r : Result ℕ Refusal) (work' : List ℕ) : Type 0 where
  pub answer : says_counted r ≡ count h table (length work)
  pub worked : work' ≡ work_after (count h table (length work)) (question_work h) work
