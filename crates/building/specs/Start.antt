-- The start of a build: what `begin` answers, and what it leaves in the work.
use Rattle.std.specs.Prelude.{List, [], ◌≡◌, ℕ, ◌≤◌, min, length, drop, Err, Ok, Result}
use Rattle.paper.specs.Refusals.{build, number_in, refused}
use Rattle.paper.specs.Answers.{no_of_stream}
use Rattle.paper.specs.declared.StreamRefusal.{StreamRefusal}
use Rattle.building.specs.Bounds.{most_records}
use Rattle.building.specs.Listed.{Listed}
use Rattle.building.specs.Standing.{Standing, State}

-- the building stands at its first node, with no record made, and the rules are listed; the work behind the part that is asked for is as
-- it was
pub record Started (input work : List ℕ) (table_length : ℕ) (t : State) (work' lists : List ℕ) : Type 0 where
  pub standing : Standing input t work' []
  pub listed : Listed input lists
  pub limit : t.limit ≡ min table_length most_records
  pub rest : drop t.asked work' ≡ drop t.asked work

-- or it is refused with 1 to 5, and the work is as it was
abbrev pub Begins : List ℕ → List ℕ → ℕ → Result State StreamRefusal → List ℕ → List ℕ → Type 0
Begins input work table_length (Ok t) work' lists = Started input work table_length t work' lists
Begins input work table_length (Err why) work' lists =
    (build input (length work) table_length ≡ refused (no_of_stream why)) × (number_in (no_of_stream why) ≤ 5) × (work' ≡ work)
