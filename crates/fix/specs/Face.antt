-- What `fix` answers and leaves, in the paper's words.
use Rattle.std.specs.Prelude.{List, ◌≡◌, ℕ, Result, length}
use Rattle.paper.specs.declared.Head.{Head}
use Rattle.paper.specs.declared.Record.{Record}
use Rattle.paper.specs.declared.Refusal.{Refusal}
use Rattle.paper.specs.Answers.{says_fixed, told}
use Rattle.paper.specs.Questions.{question_work}
use Rattle.paper.specs.Refusals.{fix, work_after, target_after}

-- of the lent work and target as they are before, and as they are after
pub record Fixes (h : Head) (source : List Record) (work : List ℕ) (place n : ℕ) (target : List Record) (r : Result Head Refusal)
    (work' : List ℕ) (target' : List Record) : Type 0 where
  pub answer : says_fixed r ≡ told (λ a. a.0) (fix h source (length work) place n (length target))
  pub worked : work' ≡ work_after (fix h source (length work) place n (length target)) (question_work h) work
  pub written : target' ≡ target_after (fix h source (length work) place n (length target)) target
