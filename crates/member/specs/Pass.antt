-- The pass over the records of a sound set, for a row that fits it.
use Rattle.std.specs.Prelude.{Bool, true, List, ◌≡◌, ℕ, ◌≤◌, length, drop}
use Rattle.paper.specs.declared.Head.{Head}
use Rattle.paper.specs.declared.Record.{Record}
use Rattle.paper.specs.Questions.{is_listed}
use Rattle.paper.specs.Records.{listing}
use Rattle.paper.specs.Refusals.{entries_fit}
use Rattle.paper.specs.Row.{Row}
use Rattle.laws.specs.QuestionCauses.{Sound}

-- the row fits, and the work has a cell for each used record
pub record Fitting (h : Head) (table : List Record) (work : List ℕ) (row : Row) : Type 0 where
  pub sound : Sound h table
  pub room : h.used ≤ length work
  pub long : length row ≡ h.arity
  pub fits : entries_fit h 0 row ≡ true

pub record Finds (h : Head) (table : List Record) (work : List ℕ) (row : Row) (found : Bool) (work' : List ℕ) : Type 0 where
  pub listed : found ≡ is_listed (listing h table) row
  pub rest : drop h.used work' ≡ drop h.used work
