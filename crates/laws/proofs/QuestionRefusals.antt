-- Each question is refused with the first number in the paper's order whose cause applies, and answered where none does.
-- First the causes of the questions, then the five questions.
use mathlib.Core.Bool.{Bool, cond, false, false≢true, not, true, true≢false}
use mathlib.Core.List.{List, [], ◌∷◌}
use mathlib.Core.Logic.Iff
use mathlib.Core.Logic.{◌↔◌, ◌⊎◌, inl, inr, ⊎_elim}
use mathlib.Core.Path.{◌≡◌, ap, refl}
use Prim.Native.Nat.{◌+◌, ◌-◌, ◌<◌, ◌≤◌, suc, zero, ℕ}
use native.Mathlib.Nat.{zero-add}
use native.Mathlib.Omega.{arith}
use lib.Dec.{eqb, leb, ltb}
use lib.ListN.{get_or, length}
use Rattle.paper.specs.Questions.{count_of, fixed_set, has_place, images_of, is_listed, is_unit, marks_of, question_work, row_numbered, unit_twice}
use Rattle.paper.specs.Records.{blank_entry, listing, used_of}
use Rattle.paper.specs.Refusals.{answer, ask_tests, count, entries_fit, fix, fix_tests, is_open, member, member_tests, No, project, project_tests, refused, row_by_number, row_tests}
use Rattle.paper.specs.Row.{Row, blank}
use Rattle.paper.specs.Sound.{sound}
use Rattle.laws.specs.First.{Alone, FirstOf, NoneOf}
use Rattle.laws.specs.Plain.{Head, Record, Set, at, empty, unit}
use Rattle.laws.specs.QuestionCauses.{CountCause, FixCause, MemberCause, NotOpen, NumberCause, ProjectCause, Sound, UnitTwice, WrongEntry, question_order}
use Rattle.laws.proofs.Replies.{Fits, refused_first}
use Rattle.laws.proofs.SoundTest.{is_sound, sound_is}
use Rattle.laws.proofs.TestedCauses.{Tested, answers_none, fits, more_causes, one_cause}
use Rattle.laws.proofs.Tests.{Fails, Says, fails_and, fails_at_most, fails_below, fails_equal, fails_not, fails_says, says_and, says_equal, says_or}

-- ---- somewhere in a list: an entry of which, with its number counted from i, the statement holds
module _ {A : Type 0} (d : A) (P : ℕ → A → Type 0) where
  abbrev Somewhere : ℕ → List A → Type 0
  Somewhere i xs = (j : ℕ) × (j < length xs) × P (i + j) (get_or xs j d)

  nowhere : (i : ℕ) → Somewhere i [] → ⊥
  nowhere i (j, l, p) = omega arith

  -- at the first entry or after it
  somewhere_first : (i : ℕ) (x : A) (xs : List A) → (P i x ⊎ Somewhere (suc i) xs) ↔ Somewhere i (x ∷ xs)
  somewhere_first i x xs = (
    ⊎_elim (λ p. (0, omega arith, rw zeroth p)) (λ (j, l, p). (suc j, omega arith, rw (further j) p)),
    λ (j, l, p). cases j l p,
  )
    where
      zeroth : i + 0 ≡ i
      zeroth = omega arith

      further : (j : ℕ) → i + suc j ≡ suc i + j
      further j = omega arith

      cases : (j : ℕ) → j < length (x ∷ xs) → P (i + j) (get_or (x ∷ xs) j d) → P i x ⊎ Somewhere (suc i) xs
      cases zero l p = inl (rw zeroth at p)
      cases (suc j) l p = inr (j, omega arith, rw (further j) at p)

-- ---- the causes
work_cause : (h : Head) (work_length : ℕ) → Fails (leb (question_work h) work_length) (work_length < question_work h)
work_cause h work_length = fails_at_most (question_work h) work_length

sound_cause : (h : Head) (table : List Record) → Fails (sound h table) (Sound h table → ⊥)
sound_cause h table = fails_says (sound_is h table, is_sound h table)

place_cause : (h : Head) (place : ℕ) → Fails (is_open h place) (NotOpen h place)
place_cause h place = fails_and (fails_at_most 1 place) (fails_and (fails_at_most place h.arity) Iff.rfl)

-- the entries of a member row: one of them, then those from index i on
abbrev Wrong : Head → ℕ → ℕ → Type 0
Wrong h i x = ((has_place h.open_places i ≡ true) × (h.nodes ≤ x)) ⊎ ((has_place h.open_places i ≡ false) × (x ≡ blank → ⊥))

entry_cause : (h : Head) (i x : ℕ) → Fails (cond (has_place h.open_places i) (ltb x h.nodes) (eqb x blank)) (Wrong h i x)
entry_cause h i x = go (has_place h.open_places i)
  where
    go : (c : Bool) → Fails (cond c (ltb x h.nodes) (eqb x blank)) (((c ≡ true) × (h.nodes ≤ x)) ⊎ ((c ≡ false) × (x ≡ blank → ⊥)))
    go true = Iff.trans (fails_below x h.nodes) (λ l. inl (refl, l), ⊎_elim (λ w. w.1) (λ w. absurd (true≢false w.0)))
    go false = Iff.trans (fails_equal x blank) (λ l. inr (refl, l), ⊎_elim (λ w. absurd (false≢true w.0)) (λ w. w.1))

entries_from : (h : Head) (i : ℕ) (row : Row) → Fails (entries_fit h i row) (Somewhere blank (Wrong h) i row)
entries_from h i [] = (λ e. absurd (true≢false e), λ w. absurd (nowhere blank (Wrong h) i w))
entries_from h i (x ∷ xs) = Iff.trans (fails_and (entry_cause h i x) (entries_from h (suc i) xs)) (somewhere_first blank (Wrong h) i x xs)

pub entries_cause : (h : Head) (row : Row) → Fails (entries_fit h 0 row) (WrongEntry h row)
entries_cause h row =
    Iff.trans (entries_from h 0 row) (
      λ (j, l, w). record { index = j; in_row = l; wrong = rw (zero-add j) at w },
      λ w. (w.index, w.in_row, rw (zero-add w.index) w.wrong),
    )

-- a union whose operands both become unit
abbrev BothUnit : List Set → Record → Type 0
BothUnit images r = (r.kind ≡ 2) × ((get_or images r.left empty ≡ unit) × (get_or images r.right empty ≡ unit))

says_unit : (s : Set) → Says (is_unit s) (s ≡ unit)
says_unit empty = (λ e. absurd (false≢true e), ap is_unit)
says_unit unit = (λ e. refl, ap is_unit)
says_unit (at i) = (λ e. absurd (false≢true e), ap is_unit)

says_both_unit : (images : List Set) (i : ℕ) (records : List Record)
    → Says (unit_twice images records) (Somewhere blank_entry (λ j r. BothUnit images r) i records)
says_both_unit images i [] = (λ e. absurd (false≢true e), λ w. absurd (nowhere blank_entry (λ j r. BothUnit images r) i w))
says_both_unit images i (r ∷ rest) =
    Iff.trans
    (says_or
    (says_and (says_equal r.kind 2) (says_and (says_unit (get_or images r.left empty)) (says_unit (get_or images r.right empty))))
    (says_both_unit images (suc i) rest))
    (somewhere_first blank_entry (λ j r. BothUnit images r) i r rest)

pub unit_twice_cause : (h : Head) (table : List Record) (place n : ℕ)
    → Fails (not (unit_twice (images_of (place - 1) n (used_of h table)).1 (used_of h table))) (UnitTwice h table place n)
unit_twice_cause h table place n =
    fails_not
    (Iff.trans (says_both_unit (images_of (place - 1) n (used_of h table)).1 0 (used_of h table)) (
      λ (j, l, (kind, (left, right))). record { number = j; used = l; union = kind; left = left; right = right },
      λ w. (w.number, w.used, (w.union, (w.left, w.right))),
    ))

-- ---- the questions
module _ (h : Head) (table : List Record) (work_length : ℕ) where
  -- what every question asks first
  ask_causes : Tested (CountCause h table work_length) (ask_tests h table work_length)
  ask_causes = more_causes (one_cause 5 (work_cause h work_length)) (one_cause 11 (sound_cause h table))

  -- count
  pub count_fits : Fits (CountCause h table work_length) (ask_tests h table work_length) question_order
  count_fits = fits question_order ask_causes refl refl

  pub count_refused : (w : No) → (count h table work_length ≡ refused w) ↔ Alone (FirstOf question_order (CountCause h table work_length)) w
  count_refused = refused_first (count_of h table) count_fits

  pub count_answers : (count h table work_length ≡ answer (count_of h table)) ↔ NoneOf question_order (CountCause h table work_length)
  count_answers = answers_none (count_of h table) count_fits

  -- row by number
  module _ (k out_length : ℕ) where
    pub row_by_number_fits : Fits (NumberCause h table work_length k out_length) (row_tests h table work_length k out_length) question_order
    row_by_number_fits =
        fits question_order
        (more_causes ask_causes (more_causes (one_cause 9 (fails_below k (count_of h table))) (one_cause 10 (fails_at_most h.arity out_length))))
        refl refl

    pub row_by_number_refused : (w : No)
        → (row_by_number h table work_length k out_length ≡ refused w) ↔ Alone (FirstOf question_order (NumberCause h table work_length k out_length)) w
    row_by_number_refused = refused_first (row_numbered h table k) row_by_number_fits

    pub row_by_number_answers :
        (row_by_number h table work_length k out_length ≡ answer (row_numbered h table k))
        ↔ NoneOf question_order (NumberCause h table work_length k out_length)
    row_by_number_answers = answers_none (row_numbered h table k) row_by_number_fits

  -- member
  module _ (row : Row) where
    pub member_fits : Fits (MemberCause h table work_length row) (member_tests h table work_length row) question_order
    member_fits =
        fits question_order
        (more_causes ask_causes (more_causes (one_cause 13 (fails_equal (length row) h.arity)) (one_cause 8 (entries_cause h row))))
        refl refl

    pub member_refused : (w : No) → (member h table work_length row ≡ refused w) ↔ Alone (FirstOf question_order (MemberCause h table work_length row)) w
    member_refused = refused_first (is_listed (listing h table) row) member_fits

    pub member_answers :
        (member h table work_length row ≡ answer (is_listed (listing h table) row)) ↔ NoneOf question_order (MemberCause h table work_length row)
    member_answers = answers_none (is_listed (listing h table) row) member_fits

  -- project
  module _ (place out_length : ℕ) where
    pub project_fits : Fits (ProjectCause h table work_length place out_length) (project_tests h table work_length place out_length) question_order
    project_fits =
        fits question_order
        (more_causes ask_causes (more_causes (one_cause 7 (place_cause h place)) (one_cause 10 (fails_at_most h.nodes out_length))))
        refl refl

    pub project_refused : (w : No)
        → (project h table work_length place out_length ≡ refused w) ↔ Alone (FirstOf question_order (ProjectCause h table work_length place out_length)) w
    project_refused = refused_first (marks_of h table place) project_fits

    pub project_answers :
        (project h table work_length place out_length ≡ answer (marks_of h table place))
        ↔ NoneOf question_order (ProjectCause h table work_length place out_length)
    project_answers = answers_none (marks_of h table place) project_fits

  -- fix
  module _ (place node target_length : ℕ) where
    pub fix_fits : Fits (FixCause h table work_length place node target_length) (fix_tests h table work_length place node target_length) question_order
    fix_fits =
        fits question_order
        (more_causes ask_causes
        (more_causes (one_cause 7 (place_cause h place))
        (more_causes (one_cause 8 (fails_below node h.nodes))
        (more_causes (one_cause 6 (fails_at_most h.used target_length)) (one_cause 12 (unit_twice_cause h table place node))))))
        refl refl

    pub fix_refused : (w : No)
        → (fix h table work_length place node target_length ≡ refused w) ↔ Alone (FirstOf question_order (FixCause h table work_length place node target_length)) w
    fix_refused = refused_first (fixed_set h table place node) fix_fits

    pub fix_answers :
        (fix h table work_length place node target_length ≡ answer (fixed_set h table place node))
        ↔ NoneOf question_order (FixCause h table work_length place node target_length)
    fix_answers = answers_none (fixed_set h table place node) fix_fits
