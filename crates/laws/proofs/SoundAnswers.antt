-- The questions on a sound set say what its listing says: so those on a built set, and on one that fixings left.
-- First what the rows of the listing have at each place, then the tests of a question, then what it says.
use mathlib.Core.Bool.{Bool, cond, false, not, true}
use mathlib.Core.List.Memᴰ
use mathlib.Core.List.{List, [], ◌++◌, ◌∷◌}
use mathlib.Core.Logic.{◌↔◌, ⊎_elim}
use mathlib.Core.Path.{◌∙◌, ◌≡◌, ap, refl, subst, subst₂, sym}
use Prim.Native.Nat.{◌-◌, ◌<◌, ◌≤◌, ℕ}
use native.Mathlib.Omega.{arith}
use borrow.Author.Tests.{eq-eqb, le-leb, lt-ltb}
use lib.Dec.{eqb, leb, ltb}
use lib.ListN.{get_or, length}
use lib.Pow.{pow_pos}
use lib.Seq.{length-take-le}
use Rattle.paper.specs.Lists.{◌∈◌}
use Rattle.paper.specs.Questions.{count_of, has_place, is_listed, marks_of, question_work, row_numbered, stands_at}
use Rattle.paper.specs.Records.{listing, listings, set_rows, used_of}
use Rattle.paper.specs.Refusals.{Test, answer, ask_tests, entries_fit, is_open, member, member_tests, no, project_tests, row_tests}
use Rattle.paper.specs.Row.{Row, blank}
use Rattle.laws.specs.Plain.{Head, Record, Set, at, empty, unit}
use Rattle.laws.specs.QuestionCauses.{SetFits, Sound, WrongEntry}
use Rattle.laws.specs.Said.{SaysTheRows, StandsIn}
use Rattle.laws.proofs.Listed.{in_listed, listed_in, map_up_to, row_stands, stands_row}
use Rattle.laws.proofs.Lists.{in_at}
use Rattle.laws.proofs.QuestionRefusals.{entries_cause}
use Rattle.laws.proofs.Replies.{Passes, answered, answers, passes_append}
use Rattle.laws.proofs.Shaped.{shaped_all}
use Rattle.laws.proofs.Shapes.{ShapeBelow, entry_blank, entry_node, places_of, shape_single}
use Rattle.laws.proofs.SoundRecords.{sound_from_all}
use Rattle.laws.proofs.SoundTest.{is_sound}
use Rattle.laws.proofs.Stands.{single_zero}
use Rattle.laws.proofs.Tests.{passes_if_not}

module _ (h : Head) (table : List Record) (S : Sound h table) where
  -- ---- the rows of the listing
  abbrev used : List Record
  used = used_of h table

  abbrev Shaped : List Row → Type 0
  Shaped = ShapeBelow h.nodes h.arity h.open_places

  -- each has a node of the tree at each open place, and is blank at each fixed one
  pub listing_shaped : Shaped (listing h table)
  listing_shaped = go h.set S.set
    where
      number : length used ≡ h.used
      number = length-take-le h.used table S.used_there

      go : (e : Set) → SetFits h used e → Shaped (set_rows h.arity (listings h.arity used) e)
      go empty fits = λ row m. absurd (Memᴰ.not-nil m)
      go unit fits =
          subst₂ (λ (b : ℕ) (row : Row). ShapeBelow h.nodes h.arity b (row ∷ [])) (sym fits) (single_zero h.arity 0)
          (shape_single h.arity h.nodes S.few_nodes 0 0 S.some_nodes (pow_pos h.arity))
      go (at i) fits =
          subst (λ (b : ℕ). ShapeBelow h.nodes h.arity b (get_or (listings h.arity used) i [])) fits.1
          (shaped_all h.arity h.nodes S.few_nodes used
          ((sound_from_all h.arity h.nodes used).1 (λ j w. S.records j (omega (arith, number)))) i (omega (arith, fits.0, number)))

  -- so no entry of such a row is wrong
  none_wrong : (row : Row) → row ∈ listing h table → WrongEntry h row → ⊥
  none_wrong row m w = ⊎_elim no_node (λ (is-fixed, filled). filled (entry_blank h.arity h.open_places i row long fills inside is-fixed)) w.wrong
    where
      i : ℕ
      i = w.index

      long : length row ≡ h.arity
      long = (listing_shaped row m).0

      fills : places_of row ≡ h.open_places
      fills = (listing_shaped row m).1

      inside : i < h.arity
      inside = omega (arith, long, w.in_row)

      no_node : (has_place h.open_places i ≡ true) × (h.nodes ≤ get_or row i blank) → ⊥
      no_node (stands_open, above) =
          let filled = ap not (entry_node h.arity h.open_places i row long fills inside stands_open) in
          omega (arith, above, (listing_shaped row m).2 (get_or row i blank) (in_at blank row i w.in_row) filled)

  -- ---- the tests of a question
  -- those that every question makes first, and then its own
  asks : (work_length : ℕ) (own : List Test) → question_work h ≤ work_length → Passes own → Passes (ask_tests h table work_length ++ own)
  asks work_length own work p =
      passes_append (ask_tests h table work_length) own (le-leb (question_work h) work_length work, (is_sound h table S, tt)) p

  -- a row that has an entry a place, none of them wrong, is looked for
  looks : (work_length : ℕ) (row : Row) → question_work h ≤ work_length → length row ≡ h.arity → (WrongEntry h row → ⊥)
      → member h table work_length row ≡ answer (is_listed (listing h table) row)
  looks work_length row work long right =
      answers (member_tests h table work_length row) (is_listed (listing h table) row)
      (asks work_length ((no 13, eqb (length row) h.arity) ∷ (no 8, entries_fit h 0 row) ∷ []) work
      (eq-eqb (length row) h.arity long, (passes_if_not (entries_cause h row) right, tt)))

  -- ---- what it says
  member_says : (work_length : ℕ) → question_work h ≤ work_length → (row : Row) → (member h table work_length row ≡ answer true) ↔ (row ∈ listing h table)
  member_says work_length work row = (
    λ e. listed_in (listing h table) row (answered (member_tests h table work_length row) e).1,
    λ m. looks work_length row work (listing_shaped row m).0 (none_wrong row m) ∙ ap answer (in_listed (listing h table) row m),
  )

  not_listed : (row : Row) → (row ∈ listing h table → ⊥) → is_listed (listing h table) row ≡ false
  not_listed row none = go (is_listed (listing h table) row) refl
    where
      go : (c : Bool) → is_listed (listing h table) row ≡ c → is_listed (listing h table) row ≡ false
      go true e = absurd (none (listed_in (listing h table) row e))
      go false e = e

  marks_say : (place n : ℕ) → n < h.nodes → (get_or (marks_of h table place) n 0 ≡ 1) ↔ StandsIn (place - 1) n (listing h table)
  marks_say place n below = (
    λ e. stands_row (listing h table) (place - 1) n (mark_true _ (sym mark_at ∙ e)),
    λ (row, m, there). mark_at ∙ ap (λ (c : Bool). cond c 1 0) (row_stands (listing h table) (place - 1) n row m there),
  )
    where
      mark_at : get_or (marks_of h table place) n 0 ≡ cond (stands_at (place - 1) n (listing h table)) 1 0
      mark_at = map_up_to (λ m. cond (stands_at (place - 1) m (listing h table)) 1 0) h.nodes n below

      mark_true : (c : Bool) → ◌≡◌ {A = ℕ} (cond c 1 0) 1 → c ≡ true
      mark_true true e = refl
      mark_true false e = absurd (omega (arith, e))

  pub sound_says : SaysTheRows h table (listing h table)
  sound_says = record {
    counts = λ w work. answers (ask_tests h table w) (count_of h table) (asks w [] work tt);
    numbers = λ w k out work below fits.
        answers (row_tests h table w k out) (row_numbered h table k)
        (asks w ((no 9, ltb k (count_of h table)) ∷ (no 10, leb h.arity out) ∷ []) work
        (lt-ltb k (count_of h table) below, (le-leb h.arity out fits, tt)));
    members = member_says;
    others = λ w work row long right none. looks w row work long right ∙ ap answer (not_listed row none);
    projects = λ w place out work stands_open fits.
        answers (project_tests h table w place out) (marks_of h table place)
        (asks w ((no 7, is_open h place) ∷ (no 10, leb h.nodes out) ∷ []) work (stands_open, (le-leb h.nodes out fits, tt)));
    marks = marks_say;
  }
