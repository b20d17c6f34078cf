-- Demand 3 of the functions goes on to the questions: what count, row by number, member and project answer of the set that calls of
-- `fix` left. First of any narrowed set, then from the bytes handed to `build`.
use mathlib.Core.Bool.{Bool, false, true}
use mathlib.Core.List.{List, [], map}
use mathlib.Core.Logic.Iff
use mathlib.Core.Logic.{◌↔◌}
use mathlib.Core.Path.{◌∙◌, ◌≡◌, subst, sym}
use Prim.Native.Nat.{◌-◌, ◌<◌, ◌≤◌, ℕ}
use lib.ListN.{get_or, length}
use Rattle.std.specs.Prelude.{Ok, Result}
use Rattle.paper.specs.declared.Refusal.{Refusal}
use Rattle.paper.specs.declared.Head.{Head}
use Rattle.paper.specs.declared.Record.{Record}
use Rattle.paper.specs.Lists.{◌∈◌}
use Rattle.paper.specs.Questions.{marks_of, question_work}
use Rattle.paper.specs.Records.{listing}
use Rattle.paper.specs.Refusals.{answer, is_open, over}
use Rattle.paper.specs.Row.{Row, blank}
use Rattle.laws.specs.Built.{InAnswer}
use Rattle.laws.specs.Fixings.{DifferentPlaces, FixedFrom, LeftOf, as_used, narrowed}
use Rattle.laws.specs.QuestionCauses.{WrongEntry}
use Rattle.laws.specs.Said.{SaysTheRows}
use Rattle.laws.proofs.BuiltSets.{built_open}
use Rattle.laws.proofs.Narrowing.{mem_narrowed}
use Rattle.laws.proofs.Replies.{answer_inj}
use Rattle.laws.proofs.SoundAnswers.{sound_says}
use Rattle.building.specs.Face.{Builds}
use Rattle.building.proofs.BuildRight.{build_right, is_built}
use Rattle.member.specs.Face.{Members}
use Rattle.project.specs.Face.{Projects}
use Rattle.row.specs.Face.{Numbers}
use Rattle.sound.specs.Face.{Counts}
use Rattle.demands.specs.Asked.{CallsSay}
use Rattle.demands.specs.Calls.{Call, Made, Narrows, fixings_in, last_set}
use Rattle.demands.proofs.Answers.{calls_say}
use Rattle.demands.proofs.Fixings.{fixes_right}

-- ---- a narrowed set
module _ (cs : List Call) (h : Head) (table : List Record) (N : Narrows cs h table) (head : Head) (left : List Record)
    (last : last_set cs h table ≡ answer (head, left)) where
  abbrev rows : List Row
  rows = narrowed (fixings_in cs) (listing h table)

  same : ◌≡◌ {A = Head × List Record} (N.head, N.left) (head, left)
  same = answer_inj (sym N.accepted ∙ last)

  -- the questions on it say what the narrowed rows say
  pub narrows_say : CallsSay head left (narrowed (fixings_in cs) (listing h table))
  narrows_say =
      subst (λ (z : Head × List Record). CallsSay z.0 z.1 rows) same
      (calls_say N.head N.left rows (subst (SaysTheRows N.head N.left) N.lists (sound_says N.head N.left N.good.sound)))

  -- and its tree, arity and open places are those of the first set without the fixed ones
  pub narrows_fixed : FixedFrom h (fixings_in cs) head
  narrows_fixed = subst (λ (z : Head × List Record). FixedFrom h (fixings_in cs) z.0) same N.fixed

-- ---- from the bytes: a build, calls of `fix` at different places, and a question on the set that the last of them left
module _ (input work : List ℕ) (table : List Record) (h : Head) (work' : List ℕ) (table' : List Record)
    (done : Builds input work table (Ok h) work' table') (cs : List Call) (different : DifferentPlaces h (fixings_in cs))
    (made : Made as_used cs h table') (head : Head) (left : List Record) (last : last_set cs h table' ≡ answer (head, left)) where
  abbrev N : Narrows cs h table'
  N = fixes_right input work table h work' table' done cs different made

  say : CallsSay head left (narrowed (fixings_in cs) (listing h table'))
  say = narrows_say cs h table' N head left last

  fixed : FixedFrom h (fixings_in cs) head
  fixed = narrows_fixed cs h table' N head left last

  -- the narrowed rows are what is left of the accepted rows that have those nodes there
  pub narrowed_accepted : (row : Row) → (row ∈ narrowed (fixings_in cs) (listing h table')) ↔ LeftOf (InAnswer input) (fixings_in cs) row
  narrowed_accepted row =
      let lists = (build_right input work table h work' table' done).lists in
      Iff.trans (mem_narrowed (fixings_in cs) (listing h table') row) (
        λ (full, m, has, is). (full, (lists full).0 m, has, is),
        λ (full, a, has, is). (full, (lists full).1 a, has, is),
      )

  -- count answers their number
  pub count_narrowed : (w w' : List ℕ) (r : Result ℕ Refusal) → question_work head ≤ length w → Counts head left w r w'
      → r ≡ Ok (length (narrowed (fixings_in cs) (listing h table')))
  count_narrowed = say.counts

  -- row by number writes the entry of the list
  pub row_narrowed : (w w' out out' : List ℕ) (k : ℕ) (r : Result (Unit {0}) Refusal) → question_work head ≤ length w
      → k < length (narrowed (fixings_in cs) (listing h table')) → h.arity ≤ length out → Numbers head left w k out r w' out'
      → (r ≡ Ok tt) × (out' ≡ over (get_or (narrowed (fixings_in cs) (listing h table')) k []) out)
  row_narrowed w w' out out' k r enough below room =
      say.numbers w w' out out' k r enough below (subst (λ (n : ℕ). n ≤ length out) (sym fixed.arity) room)

  -- member says yes exactly to what is left of the accepted rows, whatever row it is given
  pub member_narrowed : (w w' : List ℕ) (row : Row) (r : Result Bool Refusal) → question_work head ≤ length w → Members head left w row r w'
      → (r ≡ Ok true) ↔ LeftOf (InAnswer input) (fixings_in cs) row
  member_narrowed w w' row r enough c = Iff.trans (say.members w w' row r enough c) (narrowed_accepted row)

  -- and no to every other row that has an entry a place, none of them wrong
  pub other_narrowed : (w w' : List ℕ) (row : Row) (r : Result Bool Refusal) → question_work head ≤ length w → length row ≡ h.arity → (WrongEntry head row → ⊥)
      → (LeftOf (InAnswer input) (fixings_in cs) row → ⊥) → Members head left w row r w' → r ≡ Ok false
  other_narrowed w w' row r enough long wrong none =
      say.others w w' row r enough (long ∙ sym fixed.arity) wrong (λ m. none ((narrowed_accepted row).0 m))

  -- project of a place that was not fixed marks exactly the nodes that stand there in what is left of some accepted row
  pub project_narrowed : (w w' out out' : List ℕ) (place : ℕ) (r : Result (Unit {0}) Refusal) → question_work head ≤ length w → 1 ≤ place → place ≤ h.arity
      → (place ∈ map (λ f. f.place) (fixings_in cs) → ⊥) → h.nodes ≤ length out → Projects head left w place out r w' out'
      → (r ≡ Ok tt) × (out' ≡ over (marks_of head left place) out)
      × ((n : ℕ) → n < h.nodes
      → (get_or (marks_of head left place) n 0 ≡ 1) ↔ ((row : Row) × LeftOf (InAnswer input) (fixings_in cs) row × (get_or row (place - 1) blank ≡ n)))
  project_narrowed w w' out out' place r enough from to other room c =
      let before = built_open input h table' (is_built input work table h work' table' done) place from to in
      let stands_open : is_open head place ≡ true = (fixed.opens place).1 (before, other) in
      let nodes = sym fixed.nodes in
      let (marked, written, marks) = say.projects w w' out out' place r enough stands_open (subst (λ (n : ℕ). n ≤ length out) nodes room) c in (
        marked,
        written,
        λ n below. Iff.trans (marks n (subst (λ (m : ℕ). n < m) nodes below)) (
          λ (row, m, there). (row, (narrowed_accepted row).0 m, there),
          λ (row, of, there). (row, (narrowed_accepted row).1 of, there),
        ),
      )
