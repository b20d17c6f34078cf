-- Of a sound set, where the work has the images of its records it has that of the set.
use mathlib.Core.List.{List}
use mathlib.Core.Path.{◌≡◌, ap, subst}
use Prim.Native.Nat.{◌<◌, ◌≤◌, ℕ}
use native.Mathlib.Omega.{arith}
use lib.ListN.{length}
use lib.Seq.{length-take-le}
use Rattle.laws.specs.QuestionCauses.{SetFits, Sound}
use Rattle.paper.specs.declared.Head.{Head}
use Rattle.paper.specs.Records.{used_of}
use Rattle.fix.specs.Answer.{ImageOf}
use Rattle.fix.specs.Images.{Fixing, Record, at, set_number}
use Rattle.fix.specs.Passes.{Numbered}
use Rattle.fix.proofs.ImageSteps.{at_hand, few_records}
use Rattle.fix.proofs.OneRecord.{in_the_end}

-- ---- a sound set
module _ {h : Head} {source : List Record} (good : Sound h source) where
  abbrev used : List Record
  used = used_of h source

  pub long : length used ≡ h.used
  long = length-take-le h.used source good.used_there

  -- the root is one of its records, so where the work has the images it has that of the set
  module _ (f : Fixing) (work : List ℕ) (room : h.used ≤ length work) (numbered : Numbered f used work) where
    root_used : (i : ℕ) → h.set ≡ at i → i < length used
    root_used i e = omega (arith, (subst (SetFits h used) e good.set).0, long)

    pub image_there : ImageOf h.set work
    image_there i e =
        let below = root_used i e in (
          omega (arith, below, long, room),
          omega (
            arith,
            numbered i below,
            ap set_number (in_the_end f used (length used) i (omega arith) below),
            at_hand f.index f.node used (length used) (omega arith) i,
            few_records f.index f.node used (length used) (omega arith),
            long,
            good.few_used,
          ),
        )
