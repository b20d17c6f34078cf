-- Demand 2's words: a set that a build left, and what it is for the questions to say what the definition of an accepted row says.
use Rattle.std.specs.Prelude.{◌≡◌, ◌↔◌, true, List, [], ℕ, ◌-◌, ◌≤◌, ◌<◌, length, get_or}
use Rattle.paper.specs.Lists.{◌∈◌, Once}
use Rattle.paper.specs.Row.{Row, blank, Accepted}
use Rattle.paper.specs.Records.{listings, used_of, listing}
use Rattle.paper.specs.Questions.{question_work, marks_of}
use Rattle.paper.specs.Refusals.{answer, is_open, tree_in, query_in, build, table_after, count, row_by_number, member, project}
use Rattle.laws.specs.Plain.{Record, Head}

-- a build of the input answered this head, and left the table that was lent to it so
pub record BuiltSet (input : List ℕ) (h : Head) (table : List Record) : Type 0 where
  pub work_length : ℕ
  pub lent : List Record
  pub records : List Record
  pub answered : build input work_length (length lent) ≡ answer (h, records)
  pub left : table ≡ table_after (build input work_length (length lent)) lent

-- the row is accepted by the input's query on the input's tree
abbrev pub InAnswer : List ℕ → Row → Type 0
InAnswer input row = Accepted (tree_in input) (query_in input) row

-- some row of the answer has node n at the place
pub record Stood (input : List ℕ) (place n : ℕ) : Type 0 where
  pub row : Row
  pub accepted : InAnswer input row
  pub there : get_or row (place - 1) blank ≡ n

pub record SaysTheAnswer (input : List ℕ) (h : Head) (table : List Record) : Type 0 where
  -- exactly the accepted rows are listed, each once; nor does any used record list a row twice
  pub lists : (row : Row) → (row ∈ listing h table) ↔ InAnswer input row
  pub once : Once (listing h table)
  pub records_once : (i : ℕ) → i < h.used → Once (get_or (listings h.arity (used_of h table)) i [])
  -- count is their number
  pub counts : (work_length : ℕ) → question_work h ≤ work_length → count h table work_length ≡ answer (length (listing h table))
  -- row by number is the list's entry
  pub numbers : (work_length k out_length : ℕ) → question_work h ≤ work_length → k < length (listing h table) → h.arity ≤ out_length
      → row_by_number h table work_length k out_length ≡ answer (get_or (listing h table) k [])
  -- member says yes exactly to the accepted rows
  pub members : (work_length : ℕ) → question_work h ≤ work_length → (row : Row)
      → (member h table work_length row ≡ answer true) ↔ InAnswer input row
  -- project marks exactly the nodes that stand there in some accepted row
  pub projects : (work_length place out_length : ℕ) → question_work h ≤ work_length → is_open h place ≡ true → h.nodes ≤ out_length
      → project h table work_length place out_length ≡ answer (marks_of h table place)
  pub marks : (place n : ℕ) → n < h.nodes → (get_or (marks_of h table place) n 0 ≡ 1) ↔ Stood input place n
