-- The first pass: what holds before each record. It holds at the start, a record keeps it, and at the end it is what the pass promises.
use mathlib.Core.Bool.{Bool, ◌||◌, false, true, true≢false}
use mathlib.Core.List.{List}
use mathlib.Core.Logic.{⊎_elim}
use mathlib.Core.Path.{◌∙◌, ◌≡◌, ap, refl, subst, sym}
use Prim.Native.Nat.{◌+◌, ◌<◌, ◌≤◌, ℕ}
use native.Mathlib.Numerals.{add-one}
use native.Mathlib.Omega.{arith}
use lib.ListN.{drop, get_or, length, length-set, set, take}
use lib.Seq.{drop-set-lt, get_or-set_other, get_or-set_same}
use Rattle.std.specs.Prelude.{Result, Ok, Err}
use Rattle.laws.proofs.Shaped.{last_or}
use Rattle.paper.specs.declared.Refusal.{Refusal}
use Rattle.paper.specs.declared.Refusal.TheVariants.{UnitTwice}
use Rattle.paper.specs.Questions.{unit_twice}
use Rattle.paper.specs.Sound.{entry}
use Rattle.table.specs.declared.made.Made.{Made}
use Rattle.table.specs.Made.{Makes, after}
use Rattle.fix.specs.Images.{Fixing, Record, Set, empty, image_with, operands_in, set_number, twice_in}
use Rattle.fix.specs.Passes.{Fitting, Imaged, images, new_records}
use Rattle.fix.proofs.ImageSteps.{image_stays, twice_next, twice_stays, twice_at}
use Rattle.fix.proofs.OneRecord.{HasImages, all_of, few_made, next_image, next_records, twice_is}

-- the images of the records before it stand in the work, and none of them is a union of unit and unit
pub record Before (f : Fixing) (used : List Record) (first : List ℕ) (k count : ℕ) (work : List ℕ) : Type 0 where
  pub fits : Fitting used work
  pub made : count ≡ length (new_records f (take k used))
  pub has : HasImages f used k work
  pub rest : drop (length used) work ≡ drop (length used) first
  pub none : unit_twice (images f used) (take k used) ≡ false

-- ---- at a record
module _ {f : Fixing} {used : List Record} {first : List ℕ} {k count : ℕ} {work : List ℕ} (now : Before f used first k count work)
    (below : k < length used) where
  abbrev r : Record
  r = entry used k

  abbrev made : List Record
  made = new_records f (take k used)

  abbrev left : Set
  left = (operands_in r work).0

  abbrev right : Set
  right = (operands_in r work).1

  pub few : count ≤ k
  few = omega (arith, now.made, few_made f used work k now.fits now.has below)

  -- with this record
  one_more : unit_twice (images f used) (take (k + 1) used) ≡ twice_in r left right
  one_more =
      ap (λ (m : ℕ). unit_twice (images f used) (take m used)) (add-one k)
      ∙ twice_next (images f used) used k below
      ∙ ap (λ (c : Bool). c || twice_at (images f used) r) now.none
      ∙ sym (twice_is f used work k now.fits now.has below)

  -- the pass stops at a union that has unit twice
  pub halted : twice_in r left right ≡ true → Imaged f used first (Err UnitTwice) work
  halted e = record {
    rest = now.rest;
    twice = rw (ap (unit_twice (images f used)) (sym (all_of used))
        ∙ twice_stays (images f used) used (length used) (k + 1) (omega (arith, below)) (one_more ∙ e)) refl;
    found = λ f. absurd (no_image f);
  }
    where
      is_err : Result (Unit {0}) Refusal → Bool
      is_err (Err why) = true
      is_err (Ok _) = false

      no_image : Err UnitTwice ≡ Ok (tt {0}) → ⊥
      no_image f = true≢false (ap is_err f)

  -- or has one image more
  module _ (once : twice_in r left right ≡ false) (x : Made) (makes : Makes (image_with f r left right) x) where
    pub onward : (n : ℕ) → n ≡ set_number (after x made).1 → (more : ℕ) → more ≡ length (after x made).0
        → Before f used first (k + 1) more (set work k n)
    onward n n_is more more_is = record {
      fits = record {
        room = omega (arith, now.fits.room, length-set work k n);
        few = now.fits.few;
        kinds = now.fits.kinds;
        lower = now.fits.lower;
      };
      made = more_is ∙ ap length (sym (next_records f used work k now.fits now.has below x makes));
      has = λ i l. ⊎_elim (old i) (λ e. subst Has (sym e) new) (last_or i k l);
      rest = drop-set-lt (length used) work k n below ∙ now.rest;
      none = one_more ∙ once;
    }
      where
        Has : ℕ → Type 0
        Has j = get_or (set work k n) j 0 ≡ set_number (get_or (images f (take (k + 1) used)) j empty)

        old : (i : ℕ) → i < k → Has i
        old i before =
            get_or-set_other work k i n 0 (λ e. omega (arith, e, before))
            ∙ now.has i before
            ∙ ap set_number (sym (image_stays f.index f.node used (k + 1) k i (omega arith) (omega (arith, below)) before))

        new : Has k
        new =
            get_or-set_same work k n 0 (omega (arith, below, now.fits.room))
            ∙ n_is
            ∙ ap set_number (sym (next_image f used work k now.fits now.has below x makes))
