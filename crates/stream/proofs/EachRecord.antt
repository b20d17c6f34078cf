-- The tests at each record of a part, where those of the records so far have passed: the records behind them decide.
use mathlib.Core.List.Memᴰ
use mathlib.Core.List.{List, [], ◌++◌, ◌∷◌, append_assoc, append-nil}
use mathlib.Core.Logic.{⊎_elim}
use mathlib.Core.Path.{◌∙◌, ◌≡◌, ap, subst, sym}
use Prim.Native.Nat.{ℕ}
use Rattle.paper.specs.Lists.{◌∈◌}
use Rattle.paper.specs.Refusals.{No, StreamTest, Test, at_each, refused, tests_at, unless}
use Rattle.paper.specs.Stream.{StreamRecord, behind}
use Rattle.laws.proofs.AtEach.{at_passes, each_append}
use Rattle.laws.proofs.Replies.{Passes, passes_append, passes_left, passes_right, refused_append, unless_append}

-- `from` is where the first record of the part stands
module _ (tests : List StreamRecord → StreamRecord → List StreamTest) (from : ℕ) where
  -- the tests at a record, and where it stands
  abbrev tests_of : List StreamRecord → StreamRecord → List Test
  tests_of before r = tests_at (behind from before) (tests before r)

  -- one more record whose tests pass
  pub passes_more : (before : List StreamRecord) (r : StreamRecord) → Passes (at_each tests from [] before) → Passes (tests_of before r)
      → Passes (at_each tests from [] (before ++ (r ∷ [])))
  passes_more before r p q =
      rw (each_append tests from [] before (r ∷ [])) (passes_append (at_each tests from [] before) _ p (rw (append-nil (tests_of before r)) q))

  -- what the tests of one record tell of it holds of each
  pub each_passed : (P : StreamRecord → Type 0) → ((before : List StreamRecord) (r : StreamRecord) → Passes (tests before r) → P r)
      → (before records : List StreamRecord) → Passes (at_each tests from before records) → (r : StreamRecord) → r ∈ records → P r
  each_passed P tells before [] p r m = absurd (Memᴰ.not-nil m)
  each_passed P tells before (x ∷ xs) p r m =
      ⊎_elim
      (λ e. subst P (sym e)
      (tells before x (at_passes (behind from before) (tests before x) (passes_left (tests_of before x) (at_each tests from (before ++ (x ∷ [])) xs) p))))
      (each_passed P tells (before ++ (x ∷ [])) xs (passes_right (tests_of before x) (at_each tests from (before ++ (x ∷ [])) xs) p) r)
      (Memᴰ.cases_cons m)

  module _ {A : Type 0} (before : List StreamRecord) (p : Passes (at_each tests from [] before)) (ends : List Test) (a : A) where
    -- where the records so far have passed, those behind them decide
    behind_passed : (records : List StreamRecord)
        → unless (at_each tests from [] (before ++ records) ++ ends) a ≡ unless (at_each tests from before records ++ ends) a
    behind_passed records =
        ap (λ ts. unless (ts ++ ends) a) (each_append tests from [] before records)
        ∙ ap (λ ts. unless ts a) (append_assoc (at_each tests from [] before) (at_each tests from before records) ends)
        ∙ unless_append (at_each tests from [] before) (at_each tests from before records ++ ends) a p

    -- if one is refused, all are
    pub first_refused : {B : Type 0} (b : B) (r : StreamRecord) (rs : List StreamRecord) {n : No} → unless (tests_of before r) b ≡ refused n
        → unless (at_each tests from [] (before ++ (r ∷ rs)) ++ ends) a ≡ refused n
    first_refused b r rs e =
        behind_passed (r ∷ rs)
        ∙ refused_append (at_each tests from before (r ∷ rs)) ends b a
        (refused_append (tests_of before r) (at_each tests from (before ++ (r ∷ [])) rs) b b e)

    -- if none is left, the end decides
    pub all_passed : unless (at_each tests from [] before ++ ends) a ≡ unless ends a
    all_passed = unless_append (at_each tests from [] before) ends a p
