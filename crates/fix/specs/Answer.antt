-- The tests of a fix that come behind those of `weigh`, and what it answers and leaves of a set that is sound.
use Rattle.std.specs.Prelude.{List, [], ◌∷◌, ◌++◌, ◌≡◌, ℕ, ◌-◌, Result, length, drop, leb, ltb}
use Rattle.paper.specs.declared.Head.{Head}
use Rattle.paper.specs.declared.Refusal.{Refusal}
use Rattle.paper.specs.declared.Refusal.TheVariants.{Place, Node, ShortTable}
use Rattle.paper.specs.Answers.{says_fixed, told}
use Rattle.paper.specs.Questions.{fixed_set}
use Rattle.paper.specs.Records.{used_of}
use Rattle.paper.specs.Refusals.{Reply, is_open, target_after, unless}
use Rattle.sound.specs.Questions.{OwnTest, tests_of}
use Rattle.fix.specs.Images.{Fixing, InWork, Record, Set, empty, unit, at, set_at}
use Rattle.fix.specs.Passes.{image_tests}

-- 7, 8 and 6, and 12 behind them
abbrev pub head_tests : Head → ℕ → ℕ → ℕ → List OwnTest
head_tests h place node entries = (Place, is_open h place) ∷ (Node, ltb node h.nodes) ∷ (ShortTable, leb h.used entries) ∷ []

abbrev pub fixing_of : ℕ → ℕ → Fixing
fixing_of place node = record { index = place - 1; node = node }

abbrev pub own_tests : Head → List Record → ℕ → ℕ → ℕ → List OwnTest
own_tests h source place node entries = head_tests h place node entries ++ image_tests (fixing_of place node) (used_of h source)

abbrev pub own_reply : Head → List Record → ℕ → ℕ → ℕ → Reply (Head × List Record)
own_reply h source place node entries = unless (tests_of (own_tests h source place node entries)) (fixed_set h source place node)

-- ---- the new set
-- if it is a record, the work has its image
abbrev pub ImageOf : Set → List ℕ → Type 0
ImageOf set work = (i : ℕ) → set ≡ at i → InWork i work

abbrev pub set_after : List ℕ → Set → Set
set_after work empty = empty
set_after work unit = unit
set_after work (at i) = set_at work i

-- ---- of a sound set: the answer, the numbers of the work behind those of the used records, and the target
pub record Answers (h : Head) (source : List Record) (work : List ℕ) (place node : ℕ) (target : List Record) (r : Result Head Refusal)
    (work' : List ℕ) (target' : List Record) : Type 0 where
  pub answer : says_fixed r ≡ told (λ a. a.0) (own_reply h source place node (length target))
  pub rest : drop h.used work' ≡ drop h.used work
  pub written : target' ≡ target_after (own_reply h source place node (length target)) target
