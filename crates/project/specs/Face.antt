-- What `project` answers and leaves, in the paper's words.
use Rattle.std.specs.Prelude.{List, ◌≡◌, ℕ, Result, length}
use Rattle.paper.specs.declared.Head.{Head}
use Rattle.paper.specs.declared.Record.{Record}
use Rattle.paper.specs.declared.Refusal.{Refusal}
use Rattle.paper.specs.Answers.{says_projected, told}
use Rattle.paper.specs.Questions.{question_work}
use Rattle.paper.specs.Refusals.{project, work_after, output_after}

-- of the lent work and output as they are before, and as they are after
pub record Projects (h : Head) (table : List Record) (work : List ℕ) (place : ℕ) (out : List ℕ) (r : Result (Unit {0}) Refusal) (work' out' : List ℕ) : Type 0 where
  pub answer : says_projected r ≡ told (λ _. tt) (project h table (length work) place (length out))
  pub worked : work' ≡ work_after (project h table (length work) place (length out)) (question_work h) work
  pub written : out' ≡ output_after (project h table (length work) place (length out)) out
