-- What calls of count, row by number, member and project say of a set, each known only by its contract: what a list of rows says.
use Rattle.std.specs.Prelude.{Bool, true, false, Ok, Result, List, [], ◌↔◌, ◌≡◌, ℕ, ◌-◌, ◌<◌, ◌≤◌, get_or, length}
use Rattle.paper.specs.declared.Head.{Head}
use Rattle.paper.specs.declared.Record.{Record}
use Rattle.paper.specs.declared.Refusal.{Refusal}
use Rattle.paper.specs.Lists.{◌∈◌}
use Rattle.paper.specs.Questions.{marks_of, question_work}
use Rattle.paper.specs.Refusals.{is_open, over}
use Rattle.paper.specs.Row.{Row}
use Rattle.laws.specs.QuestionCauses.{WrongEntry}
use Rattle.laws.specs.Said.{StandsIn}
use Rattle.member.specs.Face.{Members}
use Rattle.project.specs.Face.{Projects}
use Rattle.row.specs.Face.{Numbers}
use Rattle.sound.specs.Face.{Counts}

-- each with the work that the paper asks for, and with an output that is long enough
pub record CallsSay (h : Head) (table : List Record) (rows : List Row) : Type 0 where
  -- count answers their number
  pub counts : (w w' : List ℕ) (r : Result ℕ Refusal) → question_work h ≤ length w → Counts h table w r w' → r ≡ Ok (length rows)
  -- row by number writes the list's entry
  pub numbers : (w w' out out' : List ℕ) (k : ℕ) (r : Result (Unit {0}) Refusal) → question_work h ≤ length w → k < length rows → h.arity ≤ length out
      → Numbers h table w k out r w' out' → (r ≡ Ok tt) × (out' ≡ over (get_or rows k []) out)
  -- member says yes exactly to the rows of the list, whatever row it is given
  pub members : (w w' : List ℕ) (row : Row) (r : Result Bool Refusal) → question_work h ≤ length w → Members h table w row r w'
      → (r ≡ Ok true) ↔ (row ∈ rows)
  -- and no to every other row that has an entry a place, none of them wrong
  pub others : (w w' : List ℕ) (row : Row) (r : Result Bool Refusal) → question_work h ≤ length w → length row ≡ h.arity → (WrongEntry h row → ⊥)
      → (row ∈ rows → ⊥) → Members h table w row r w' → r ≡ Ok false
  -- project marks exactly the nodes that stand there in some row of the list
  pub projects : (w w' out out' : List ℕ) (place : ℕ) (r : Result (Unit {0}) Refusal) → question_work h ≤ length w → is_open h place ≡ true
      → h.nodes ≤ length out → Projects h table w place out r w' out'
      → (r ≡ Ok tt) × (out' ≡ over (marks_of h table place) out)
      × ((n : ℕ) → n < h.nodes → (get_or (marks_of h table place) n 0 ≡ 1) ↔ StandsIn (place - 1) n rows)
