-- Demand 1 of the functions: a call, known by its contract alone, returns a number exactly if that is the first in the paper's order
-- whose cause applies, with 1 to 4 at the position of the record at fault, and answers exactly if no cause does.
-- First one law for every type of results, then the six functions of document 01, which return a `Result`.
use mathlib.Core.Bool.{Bool}
use mathlib.Core.List.{List}
use mathlib.Core.Logic.Iff
use mathlib.Core.Logic.{◌↔◌, ◌⊎◌, inl, inr, ⊎_elim}
use mathlib.Core.Path.{◌∙◌, ◌≡◌, ap, refl, sym}
use Prim.Native.Nat.{ℕ}
use lib.ListN.{length}
use Rattle.std.specs.Prelude.{Err, Ok, Result}
use Rattle.paper.specs.declared.Refusal.{Refusal}
use Rattle.paper.specs.declared.StreamRefusal.{StreamRefusal}
use Rattle.paper.specs.declared.Head.{Head}
use Rattle.paper.specs.declared.Record.{Record}
use Rattle.paper.specs.Answers.{no_of, no_of_stream, says, told}
use Rattle.paper.specs.Refusals.{No, Reply, Test, answer, ask_tests, build_tests, fix_tests, member_tests, project_tests, refused, row_tests, unless}
use Rattle.paper.specs.Row.{Row}
use Rattle.laws.specs.First.{NoneOf}
use Rattle.laws.specs.QuestionCauses.{CountCause, FixCause, MemberCause, NumberCause, ProjectCause}
use Rattle.laws.specs.StreamCauses.{BuildCause, BuildRefused, StreamFine, build_order}
use Rattle.laws.proofs.QuestionRefusals.{count_answers, count_refused, fix_answers, fix_refused, member_answers, member_refused, project_answers, project_refused, row_by_number_answers, row_by_number_refused}
use Rattle.laws.proofs.Replies.{answered, refused_inj, refused_not_answer}
use Rattle.laws.proofs.StreamRefusals.{build_answers, build_refused}
use Rattle.building.specs.Face.{Builds}
use Rattle.fix.specs.Face.{Fixes}
use Rattle.member.specs.Face.{Members}
use Rattle.project.specs.Face.{Projects}
use Rattle.row.specs.Face.{Numbers}
use Rattle.sound.specs.Face.{Counts}
use Rattle.demands.specs.Refused.{Answered, Exact, ExactQuestion, Returns}

-- ---- the law
-- of a result by what it says: it is a refusal, or it says an answer
abbrev pub Told : {Why Result A : Type 0} → (Why → Result) → (Result → Reply A) → Result → Type 0
Told {Why} {A = A} Refused says r = ((why : Why) × (r ≡ Refused why)) ⊎ ((a : A) × (says r ≡ answer a))

-- what is told of an answer is an answer, and of a refusal the refusal
pub told_refused : {A B : Type 0} (f : A → B) (reply : Reply A) (n : No) → (told f reply ≡ refused n) ↔ (reply ≡ refused n)
told_refused f (refused m) n = (λ e. ap refused (refused_inj e), λ e. ap (told f) e)
told_refused f (answer a) n = (λ e. absurd (refused_not_answer (sym e)), λ e. absurd (refused_not_answer (sym e)))

told_answer : {A B : Type 0} (f : A → B) (reply : Reply A) (b : B) → told f reply ≡ answer b → (a : A) × (reply ≡ answer a)
told_answer f (refused m) b e = absurd (refused_not_answer e)
told_answer f (answer a) b e = (a, refl)

told_same : {A : Type 0} (reply : Reply A) → reply ≡ told (λ a. a) reply
told_same (refused n) = refl
told_same (answer a) = refl

-- a result that says what a reply is, where that is exact
module _ {Why Result A B : Type 0} (no_told : Why → No) (Refused : Why → Result) (says : Result → Reply B)
    (refuses : (why : Why) → says (Refused why) ≡ refused (no_told why)) (cases : (r : Result) → Told Refused says r) where
  pub exact_reply : (f : A → B) (reply : Reply A) (r : Result) → says r ≡ told f reply → {First : No → Type 0} {None : Type 0}
      → ((n : No) → (reply ≡ refused n) ↔ First n) → ((a : A) × (reply ≡ answer a)) ↔ None → Exact no_told Refused r First None
  exact_reply f reply r is {First} {None} firsts none = record {
    returns = λ n. Iff.trans (returned n) (Iff.trans (told_refused f reply n) (firsts n));
    answers = Iff.trans (λ w. given (cases r) w, λ (a, e) why q. refused_not_answer (sym (refuses why) ∙ ap says (sym q) ∙ is ∙ ap (told f) e)) none;
  }
    where
      -- what is returned is what is said
      returned : (n : No) → Returns no_told Refused r n ↔ (told f reply ≡ refused n)
      returned n = (
        λ (why, e, said). sym is ∙ ap says e ∙ refuses why ∙ ap refused said,
        λ e. ⊎_elim
            (λ (why, q). (why, q, refused_inj (sym (refuses why) ∙ ap says (sym q) ∙ is ∙ e)))
            (λ (b, q). absurd (refused_not_answer (sym (is ∙ e) ∙ q)))
            (cases r),
      )

      -- an answer said is the answer
      given : Told Refused says r → Answered no_told Refused r → (a : A) × (reply ≡ answer a)
      given (inl (why, q)) w = absurd (w why q)
      given (inr (b, q)) w = told_answer f reply b (sym is ∙ q)

  -- and what tests in an order come to
  exact : (f : A → B) (ts : List Test) (a : A) (r : Result) → says r ≡ told f (unless ts a) → {First : No → Type 0} {None : Type 0}
      → ((n : No) → (unless ts a ≡ refused n) ↔ First n) → (unless ts a ≡ answer a) ↔ None → Exact no_told Refused r First None
  exact f ts a r is firsts none =
      exact_reply f (unless ts a) r is firsts (Iff.trans (λ (b, e). e ∙ ap answer (sym (answered ts e).1), λ e. (a, e)) none)

-- ---- of a `Result`, whose case for a refusal is `Err`
pub result_cases : {Why A : Type 0} (said : Why → No) (r : Result A Why) → Told Err (says said) r
result_cases said (Ok a) = inr (a, refl)
result_cases said (Err why) = inl (why, refl)

-- ---- build
pub build_exact : (input work work' : List ℕ) (table table' : List Record) (r : Result Head StreamRefusal) → Builds input work table r work' table'
    → Exact no_of_stream Err r (BuildRefused input (length work) (length table))
    (StreamFine input × NoneOf build_order (BuildCause input (length work) (length table)))
build_exact input work work' table table' r c =
    exact no_of_stream Err (says no_of_stream) (λ why. refl) (result_cases no_of_stream) (λ a. a.0) (build_tests input (length work) (length table)) _ r c.answer
    (build_refused input (length work) (length table)) (build_answers input (length work) (length table))

-- ---- the questions
module _ (h : Head) (table : List Record) (work work' : List ℕ) where
  pub count_exact : (r : Result ℕ Refusal) → Counts h table work r work'
      → ExactQuestion no_of Err r (CountCause h table (length work))
  count_exact r c =
      exact no_of Err (says no_of) (λ why. refl) (result_cases no_of) (λ a. a) (ask_tests h table (length work)) _ r (c.answer ∙ told_same _)
      (count_refused h table (length work)) (count_answers h table (length work))

  pub row_exact : (k : ℕ) (out out' : List ℕ) (r : Result (Unit {0}) Refusal) → Numbers h table work k out r work' out'
      → ExactQuestion no_of Err r (NumberCause h table (length work) k (length out))
  row_exact k out out' r c =
      exact no_of Err (says no_of) (λ why. refl) (result_cases no_of) (λ a. tt) (row_tests h table (length work) k (length out)) _ r c.answer
      (row_by_number_refused h table (length work) k (length out)) (row_by_number_answers h table (length work) k (length out))

  pub member_exact : (row : Row) (r : Result Bool Refusal) → Members h table work row r work'
      → ExactQuestion no_of Err r (MemberCause h table (length work) row)
  member_exact row r c =
      exact no_of Err (says no_of) (λ why. refl) (result_cases no_of) (λ a. a) (member_tests h table (length work) row) _ r (c.answer ∙ told_same _)
      (member_refused h table (length work) row) (member_answers h table (length work) row)

  pub project_exact : (place : ℕ) (out out' : List ℕ) (r : Result (Unit {0}) Refusal) → Projects h table work place out r work' out'
      → ExactQuestion no_of Err r (ProjectCause h table (length work) place (length out))
  project_exact place out out' r c =
      exact no_of Err (says no_of) (λ why. refl) (result_cases no_of) (λ a. tt) (project_tests h table (length work) place (length out)) _ r c.answer
      (project_refused h table (length work) place (length out)) (project_answers h table (length work) place (length out))

  pub fix_exact : (place node : ℕ) (target target' : List Record) (r : Result Head Refusal) → Fixes h table work place node target r work' target'
      → ExactQuestion no_of Err r (FixCause h table (length work) place node (length target))
  fix_exact place node target target' r c =
      exact no_of Err (says no_of) (λ why. refl) (result_cases no_of) (λ a. a.0) (fix_tests h table (length work) place node (length target)) _ r c.answer
      (fix_refused h table (length work) place node (length target)) (fix_answers h table (length work) place node (length target))
