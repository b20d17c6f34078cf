-- What `row` answers and leaves, in the paper's words.
use Rattle.std.specs.Prelude.{List, ◌≡◌, ℕ, Result, length}
use Rattle.paper.specs.declared.Head.{Head}
use Rattle.paper.specs.declared.Record.{Record}
use Rattle.paper.specs.declared.Refusal.{Refusal}
use Rattle.paper.specs.Answers.{says_written, told}
use Rattle.paper.specs.Questions.{question_work}
use Rattle.paper.specs.Refusals.{row_by_number, work_after, output_after}

pub record Numbers (h : Head) (table : List Record) (work : List ℕ) (number : ℕ) (out : List ℕ) (r : Result (Unit {0}) Refusal) (work' out' : List ℕ)
    : Type 0 where
  pub answer : says_written r ≡ told (λ _. tt) (row_by_number h table (length work) number (length out))
  pub worked : work' ≡ work_after (row_by_number h table (length work) number (length out)) (question_work h) work
  pub written : out' ≡ output_after (row_by_number h table (length work) number (length out)) out
