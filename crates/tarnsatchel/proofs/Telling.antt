-- What a function of the library answers and leaves, with its answer told, is what a call from C is told, where the search does not see it.
-- First what is told of any reply, then a row, the marks of a place and a new head.
use mathlib.Core.List.{List}
use mathlib.Core.Path.{◌∙◌, ◌≡◌, ap}
use Prim.Native.Nat.{ℕ}
use lib.ListN.{length}
use Rattle.std.specs.Prelude.{Result}
use Rattle.paper.specs.declared.Head.{Head}
use Rattle.paper.specs.declared.Record.{Record}
use Rattle.paper.specs.declared.Refusal.{Refusal}
use Rattle.paper.specs.Answers.{says_fixed, says_projected, says_written, told}
use Rattle.paper.specs.Refusals.{Reply, answer, fix, project, refused, row_by_number}
use Rattle.fix.specs.Face.{Fixes}
use Rattle.project.specs.Face.{Projects}
use Rattle.row.specs.Face.{Numbers}
use Rattle.tarnsatchel.specs.Told.{Tells, TellsFix, TellsProject, TellsRow, answer_after, code, head_numbers, head_of}

-- a reply of which something is said: its number, and the head of an answer that has more
number_said : {A B : Type 0} (f : A → B) (x : Reply A) {y : Reply B} {r : ℕ} → r ≡ code y → y ≡ told f x → r ≡ code x
number_said f (refused n) e says = e ∙ ap code says
number_said f (answer a) e says = e ∙ ap code says

head_said : {A : Type 0} (x : Reply (Head × A)) {y : Reply Head} → y ≡ told (λ a. a.0) x → told head_numbers y ≡ told (λ a. head_numbers a.0) x
head_said (refused n) says = ap (told head_numbers) says
head_said (answer a) says = ap (told head_numbers) says

-- what is asked is asked of the head that the numbers say
module _ {head : List ℕ} {table : List Record} {work work' : List ℕ} {r : ℕ} where
  pub tells_row : {n : ℕ} {row row' : List ℕ} {w : Result (Unit {0}) Refusal} → Numbers (head_of head) table work n row w work' row'
      → r ≡ code (says_written w) → TellsRow head table work n row r work' row'
  tells_row {n} {row} numbers says = record {
    number = number_said (λ _. tt) (row_by_number (head_of head) table (length work) n (length row)) says numbers.answer;
    worked = numbers.worked;
    written = numbers.written;
  }

  pub tells_project : {place : ℕ} {marks marks' : List ℕ} {p : Result (Unit {0}) Refusal}
      → Projects (head_of head) table work place marks p work' marks' → r ≡ code (says_projected p)
      → TellsProject head table work place marks r work' marks'
  tells_project {place} {marks} projects says = record {
    number = number_said (λ _. tt) (project (head_of head) table (length work) place (length marks)) says projects.answer;
    worked = projects.worked;
    written = projects.written;
  }

  pub tells_fix : {place n : ℕ} {target target' : List Record} {fixed fixed' : List ℕ} {f : Result Head Refusal}
      → Fixes (head_of head) table work place n target f work' target' → Tells (told head_numbers (says_fixed f)) fixed r fixed'
      → TellsFix head table work place n target fixed r work' target' fixed'
  tells_fix {place} {n} {target} {fixed = fixed} fixes tells =
      let reply = fix (head_of head) table (length work) place n (length target) in
      let says = head_said reply fixes.answer in
      record {
        number = number_said (λ a. head_numbers a.0) reply tells.number says;
        worked = fixes.worked;
        written = fixes.written;
        shown = tells.shown ∙ ap (λ x. answer_after x fixed) says;
      }
