-- Both passes over the used records of the source: what they ask for, and what they leave.
use Rattle.std.specs.Prelude.{not, List, [], ◌∷◌, ◌≡◌, ℕ, ◌≤◌, ◌<◌, Result, Ok, length, get_or, drop}
use Rattle.paper.specs.declared.Refusal.{Refusal}
use Rattle.paper.specs.declared.Refusal.TheVariants.{UnitTwice}
use Rattle.paper.specs.Answers.{no_of, says}
use Rattle.paper.specs.Questions.{images_of, unit_twice}
use Rattle.paper.specs.Refusals.{unless}
use Rattle.paper.specs.Sound.{entry}
use Rattle.sound.specs.Questions.{OwnTest, tests_of}
use Rattle.fix.specs.Images.{Fixing, IsKind, Record, Set, empty, set_number}

-- the new records, and the image of each record
abbrev pub new_records : Fixing → List Record → List Record
new_records f used = (images_of f.index f.node used).0

abbrev pub images : Fixing → List Record → List Set
images f used = (images_of f.index f.node used).1

-- each record is of a kind, and has a number of the work; the operands of one that is not a single have lower numbers
pub record Fitting (used : List Record) (work : List ℕ) : Type 0 where
  pub room : length used ≤ length work
  pub few : length used ≤ 60000
  pub kinds : (k : ℕ) → k < length used → IsKind (entry used k).kind
  pub lower : (k : ℕ) → k < length used → ((entry used k).kind ≡ 1 → ⊥) → ((entry used k).left < k) × ((entry used k).right < k)

-- the work has the image of each record
abbrev pub Numbered : Fixing → List Record → List ℕ → Type 0
Numbered f used work = (i : ℕ) → i < length used → get_or work i 0 ≡ set_number (get_or (images f used) i empty)

-- 12: no union of unit and unit
abbrev pub image_tests : Fixing → List Record → List OwnTest
image_tests f used = (UnitTwice, not (unit_twice (images f used) used)) ∷ []

-- ---- the first pass: all images are found, or it has stopped at a union of unit and unit
pub record Imaged (f : Fixing) (used : List Record) (work : List ℕ) (r : Result (Unit {0}) Refusal) (work' : List ℕ) : Type 0 where
  pub rest : drop (length used) work' ≡ drop (length used) work
  pub twice : says no_of r ≡ unless (tests_of (image_tests f used)) tt
  pub found : r ≡ Ok tt → Numbered f used work'
