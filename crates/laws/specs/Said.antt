-- What it is for the questions on a set to say what a list of rows says.
use Rattle.std.specs.Prelude.{◌≡◌, ◌↔◌, true, false, List, [], ℕ, ◌-◌, ◌≤◌, ◌<◌, length, get_or}
use Rattle.paper.specs.Lists.{◌∈◌}
use Rattle.paper.specs.Row.{Row, blank}
use Rattle.paper.specs.Questions.{question_work, marks_of}
use Rattle.paper.specs.Refusals.{answer, is_open, count, row_by_number, member, project}
use Rattle.laws.specs.Plain.{Record, Head}
use Rattle.laws.specs.QuestionCauses.{WrongEntry}

-- some row of the list has the node at the index
abbrev pub StandsIn : ℕ → ℕ → List Row → Type 0
StandsIn i n rows = (row : Row) × (row ∈ rows) × (get_or row i blank ≡ n)

-- with the work that the paper asks for, and outputs that are long enough
pub record SaysTheRows (h : Head) (table : List Record) (rows : List Row) : Type 0 where
  -- count is their number
  pub counts : (work_length : ℕ) → question_work h ≤ work_length → count h table work_length ≡ answer (length rows)
  -- row by number is the list's entry
  pub numbers : (work_length k out_length : ℕ) → question_work h ≤ work_length → k < length rows → h.arity ≤ out_length
      → row_by_number h table work_length k out_length ≡ answer (get_or rows k [])
  -- member says yes exactly to the rows of the list, whatever row it is given
  pub members : (work_length : ℕ) → question_work h ≤ work_length → (row : Row) → (member h table work_length row ≡ answer true) ↔ (row ∈ rows)
  -- and no to every other row that has an entry a place, none of them wrong
  pub others : (work_length : ℕ) → question_work h ≤ work_length → (row : Row) → length row ≡ h.arity → (WrongEntry h row → ⊥) → (row ∈ rows → ⊥)
      → member h table work_length row ≡ answer false
  -- project marks exactly the nodes that stand there in some row of the list
  pub projects : (work_length place out_length : ℕ) → question_work h ≤ work_length → is_open h place ≡ true → h.nodes ≤ out_length
      → project h table work_length place out_length ≡ answer (marks_of h table place)
  pub marks : (place n : ℕ) → n < h.nodes → (get_or (marks_of h table place) n 0 ≡ 1) ↔ StandsIn (place - 1) n rows
