-- All nodes of the building, one after the other: what they ask for, and what they leave.
use Rattle.std.specs.Prelude.{List, [], ◌≡◌, ℕ, ◌≤◌, length, drop, Result, Ok, Err}
use Rattle.paper.specs.declared.Refusal.{Refusal}
use Rattle.paper.specs.Refusals.{over}
use Rattle.building.specs.Batch.{Record}
use Rattle.building.specs.Listed.{Listed}
use Rattle.building.specs.Standing.{Done, Past, State, Standing}

-- no record is made yet, and the rules are listed; the table has room for as many as are to fit
pub record Ready (input lists : List ℕ) (table : List Record) (s : State) (work : List ℕ) : Type 0 where
  pub standing : Standing input s work []
  pub listed : Listed input lists
  pub entries : s.limit ≤ length table

-- the building has stopped: with a set, whose records are the table's first ones, or since more are made than fit
abbrev pub HasStopped : List ℕ → List Record → Result ℕ Refusal → List Record → State → Type 0
HasStopped input table (Ok set) table' r = (all : List Record) × Done input r set all × (table' ≡ over all table)
HasStopped input table (Err why) table' r = Past input r why

-- the work behind the part asked for is as it was
pub record Driven (input : List ℕ) (table : List Record) (s : State) (work : List ℕ) (answer : Result ℕ Refusal) (table' : List Record) (r : State)
    (work' : List ℕ) : Type 0 where
  pub stopped : HasStopped input table answer table' r
  pub limit : r.limit ≡ s.limit
  pub asked : r.asked ≡ s.asked
  pub kept : drop s.asked work' ≡ drop s.asked work
