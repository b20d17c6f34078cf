-- What `build` answers and leaves, in the paper's words.
use Rattle.std.specs.Prelude.{List, ◌≡◌, ℕ, length, Result}
use Rattle.paper.specs.Answers.{says_built, told}
use Rattle.paper.specs.declared.StreamRefusal.{StreamRefusal}
use Rattle.paper.specs.declared.Head.{Head}
use Rattle.paper.specs.Refusals.{build, work_for, work_after, table_after}
use Rattle.building.specs.Batch.{Record}

-- of the lent work and table as they are before, and as they are after
pub record Builds (input work : List ℕ) (table : List Record) (r : Result Head StreamRefusal) (work' : List ℕ) (table' : List Record) : Type 0 where
  pub answer : says_built r ≡ told (λ a. a.0) (build input (length work) (length table))
  pub worked : work' ≡ work_after (build input (length work) (length table)) (work_for input) work
  pub written : table' ≡ table_after (build input (length work) (length table)) table
