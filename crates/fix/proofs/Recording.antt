-- The second pass: what holds before each record. It holds at the start, a record keeps it, and at the end it is what the pass promises.
use mathlib.Core.List.{List, [], ◌∷◌, ◌++◌}
use mathlib.Core.Path.{◌∙◌, ◌≡◌, ap, refl, sym}
use Prim.Native.Nat.{◌+◌, ◌<◌, ◌≤◌, suc, ℕ}
use native.Mathlib.Numerals.{add-one}
use native.Mathlib.Omega.{arith}
use lib.ListN.{get_or, length, length-append, set, take}
use Rattle.paper.specs.Refusals.{over}
use Rattle.paper.specs.Sound.{entry}
use Rattle.table.specs.declared.made.Made.{Made}
use Rattle.table.specs.declared.made.Made.TheVariants.{New, Standing}
use Rattle.table.specs.Made.{Makes, after}
use Rattle.fix.specs.Images.{Fixing, Record, Set, image_with, operands_in, set_number}
use Rattle.fix.specs.Passes.{Fitting, Numbered, new_records}
use Rattle.fix.proofs.ImageSteps.{none_new}
use Rattle.fix.proofs.OneRecord.{HasImages, few_made, in_the_end, next_records}

-- the new records of those before it are the target's first ones
pub record Before (f : Fixing) (used target₀ : List Record) (k count : ℕ) (target : List Record) : Type 0 where
  pub made : count ≡ length (new_records f (take k used))
  pub written : target ≡ over (new_records f (take k used)) target₀

-- one record behind the first ones
over_next : (new target : List Record) (r : Record) → length new < length target
    → set (over new target) (length new) r ≡ over (new ++ (r ∷ [])) target
over_next [] [] r l = absurd (omega arith)
over_next [] (x ∷ xs) r l = refl
over_next (y ∷ ys) [] r l = absurd (omega arith)
over_next (y ∷ ys) (x ∷ xs) r l = ap (λ (t : List Record). y ∷ t) (over_next ys xs r (omega arith))

-- ---- at a record
module _ {f : Fixing} {used : List Record} {work : List ℕ} (fit : Fitting used work) (numbered : Numbered f used work) {target₀ target : List Record}
    {k count : ℕ} (now : Before f used target₀ k count target) (below : k < length used) where
  -- the images of the first records are those of the whole pass
  has_to : (n : ℕ) → n ≤ length used → HasImages f used n work
  has_to n most i l = numbered i (omega (arith, l, most)) ∙ ap set_number (in_the_end f used n i most l)

  pub has : HasImages f used k work
  has = has_to k (omega (arith, below))

  pub few : count ≤ k
  few = omega (arith, now.made, few_made f used work k fit has below)

  same : new_records f (take (k + 1) used) ≡ new_records f (take k used) → Before f used target₀ (k + 1) count target
  same e = record {
    made = now.made ∙ ap length (sym e);
    written = now.written ∙ ap (λ (new : List Record). over new target₀) (sym e);
  }

  -- a record whose image is not the next of the new table makes none
  pub skipped : (get_or work k 0 ≡ count + 2 → ⊥) → Before f used target₀ (k + 1) count target
  skipped other =
      same (ap (λ (m : ℕ). new_records f (take m used)) (add-one k)
      ∙ none_new f.index f.node used k below (λ e. other (omega (arith, has_to (suc k) (omega (arith, below)) k (omega arith), e, now.made))))

  module _ (x : Made) (makes : Makes (image_with f (entry used k) (operands_in (entry used k) work).0 (operands_in (entry used k) work).1) x) where
    next : new_records f (take (k + 1) used) ≡ (after x (new_records f (take k used))).0
    next = next_records f used work k fit has below x makes

    pub stood : (set : Set) → x ≡ Standing set → Before f used target₀ (k + 1) count target
    stood set e = same (rw e at next)

    pub recorded : (r : Record) → x ≡ New r → length used ≤ length target₀ → Before f used target₀ (k + 1) (count + 1) (set target count r)
    recorded r e entries =
        let new = new_records f (take k used) in
        let grown : new_records f (take (k + 1) used) ≡ new ++ (r ∷ []) = rw e at next in
        record {
          made = omega (arith, now.made, ap length grown, length-append new (r ∷ []));
          written =
              (λ i. set (now.written i) (now.made i) r)
              ∙ over_next new target₀ r (omega (arith, few_made f used work k fit has below, below, entries))
              ∙ ap (λ (all : List Record). over all target₀) (sym grown);
        }
