-- What `member` answers and leaves, in the paper's words.
use Rattle.std.specs.Prelude.{Bool, List, ◌≡◌, ℕ, Result, length}
use Rattle.paper.specs.declared.Head.{Head}
use Rattle.paper.specs.declared.Record.{Record}
use Rattle.paper.specs.declared.Refusal.{Refusal}
use Rattle.paper.specs.Answers.{says_member}
use Rattle.paper.specs.Questions.{question_work}
use Rattle.paper.specs.Refusals.{member, work_after}
use Rattle.paper.specs.Row.{Row}

pub record Members (h : Head) (table : List Record) (work : List ℕ) (row : Row) (r : Result Bool Refusal) (work' : List ℕ) : Type 0 where
  pub answer : says_member r ≡ member h table (length work) row
  pub worked : work' ≡ work_after (member h table (length work) row) (question_work h) work
