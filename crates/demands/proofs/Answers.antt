-- Demand 2 of the functions: what count, row by number, member and project answer of a set that `build` left, from the bytes handed to
-- it. That a row stands in the set exactly if it is accepted, and once, is `build_right` (crate `building`); here the questions say the same.
-- First any set whose definitions say what a list of rows says, then one that `build` left.
use mathlib.Core.Bool.{Bool, false, true}
use mathlib.Core.List.{List, []}
use mathlib.Core.Logic.Iff
use mathlib.Core.Logic.{◌↔◌}
use mathlib.Core.Path.{◌∙◌, ◌≡◌, ap, sym}
use Prim.Native.Nat.{◌<◌, ◌≤◌, ℕ}
use lib.ListN.{get_or, length}
use Rattle.std.specs.Prelude.{Ok, Result}
use Rattle.paper.specs.declared.Refusal.{Refusal}
use Rattle.paper.specs.declared.Head.{Head}
use Rattle.paper.specs.declared.Record.{Record}
use Rattle.paper.specs.Answers.{says_member, told}
use Rattle.paper.specs.Questions.{marks_of, question_work}
use Rattle.paper.specs.Records.{listing}
use Rattle.paper.specs.Refusals.{Reply, is_open, output_after, over}
use Rattle.paper.specs.Row.{Row}
use Rattle.laws.specs.Built.{BuiltSet, InAnswer, SaysTheAnswer, Stood}
use Rattle.laws.specs.QuestionCauses.{WrongEntry}
use Rattle.laws.specs.Said.{SaysTheRows}
use Rattle.laws.proofs.Answers.{one_answer}
use Rattle.laws.proofs.BuiltSets.{built_good, built_right}
use Rattle.laws.proofs.SoundAnswers.{sound_says}
use Rattle.building.specs.Face.{Builds}
use Rattle.building.proofs.BuildRight.{is_built}
use Rattle.member.specs.Face.{Members}
use Rattle.project.specs.Face.{Projects}
use Rattle.row.specs.Face.{Numbers}
use Rattle.sound.specs.Face.{Counts}
use Rattle.demands.specs.Asked.{CallsSay}

-- ---- any set
-- what the definitions say, the functions say
pub calls_say : (h : Head) (table : List Record) (rows : List Row) → SaysTheRows h table rows → CallsSay h table rows
calls_say h table rows S = record {
  counts = λ w w' r enough c. one_answer r _ (c.answer ∙ S.counts (length w) enough);
  numbers = λ w w' out out' k r enough below room c.
      let answered = S.numbers (length w) k (length out) enough below room in (
        one_answer r _ (c.answer ∙ ap (told (λ _. tt)) answered),
        c.written ∙ ap (λ (reply : Reply Row). output_after reply out) answered,
      );
  members = λ w w' row r enough c. (
    λ e. (S.members (length w) enough row).0 (sym c.answer ∙ ap says_member e),
    λ m. one_answer r _ (c.answer ∙ (S.members (length w) enough row).1 m),
  );
  others = λ w w' row r enough long right none c. one_answer r _ (c.answer ∙ S.others (length w) enough row long right none);
  projects = λ w w' out out' place r enough stands_open room c.
      let answered = S.projects (length w) place (length out) enough stands_open room in (
        one_answer r _ (c.answer ∙ ap (told (λ _. tt)) answered),
        c.written ∙ ap (λ (reply : Reply (List ℕ)). output_after reply out) answered,
        S.marks place,
      );
}

-- ---- a set that `build` left
module _ (input work : List ℕ) (table : List Record) (h : Head) (work' : List ℕ) (table' : List Record)
    (done : Builds input work table (Ok h) work' table') where
  B : BuiltSet input h table'
  B = is_built input work table h work' table' done

  right : SaysTheAnswer input h table'
  right = built_right input h table' B

  say : CallsSay h table' (listing h table')
  say = calls_say h table' (listing h table') (sound_says h table' (built_good input h table' B).sound)

  -- count answers the number of the accepted rows
  pub count_right : (w w' : List ℕ) (r : Result ℕ Refusal) → question_work h ≤ length w → Counts h table' w r w'
      → r ≡ Ok (length (listing h table'))
  count_right = say.counts

  -- row by number writes the row of the list
  pub row_right : (w w' out out' : List ℕ) (k : ℕ) (r : Result (Unit {0}) Refusal) → question_work h ≤ length w → k < length (listing h table') → h.arity ≤ length out
      → Numbers h table' w k out r w' out' → (r ≡ Ok tt) × (out' ≡ over (get_or (listing h table') k []) out)
  row_right = say.numbers

  -- member says yes exactly to the accepted rows
  pub member_right : (w w' : List ℕ) (row : Row) (r : Result Bool Refusal) → question_work h ≤ length w → Members h table' w row r w'
      → (r ≡ Ok true) ↔ InAnswer input row
  member_right w w' row r enough c = Iff.trans (say.members w w' row r enough c) (right.lists row)

  -- and no to every other row that has an entry a place, none of them wrong
  pub other_right : (w w' : List ℕ) (row : Row) (r : Result Bool Refusal) → question_work h ≤ length w → length row ≡ h.arity → (WrongEntry h row → ⊥)
      → (InAnswer input row → ⊥) → Members h table' w row r w' → r ≡ Ok false
  other_right w w' row r enough long wrong none = say.others w w' row r enough long wrong (λ m. none ((right.lists row).0 m))

  -- project marks exactly the nodes that stand there in some accepted row
  pub project_right : (w w' out out' : List ℕ) (place : ℕ) (r : Result (Unit {0}) Refusal) → question_work h ≤ length w → is_open h place ≡ true
      → h.nodes ≤ length out → Projects h table' w place out r w' out'
      → (r ≡ Ok tt) × (out' ≡ over (marks_of h table' place) out)
      × ((n : ℕ) → n < h.nodes → (get_or (marks_of h table' place) n 0 ≡ 1) ↔ Stood input place n)
  project_right w w' out out' place r enough stands_open room c =
      let (marked, written, marks) = say.projects w w' out out' place r enough stands_open room c in
      (marked, written, right.marks place)
