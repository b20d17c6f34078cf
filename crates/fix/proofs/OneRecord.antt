-- One record of the source, in either pass, where the images of the records before it stand in the work: what its operands have become, whether
-- it is a union of unit and unit, and what its image is.
use mathlib.Core.Bool.{Bool, false, true}
use mathlib.Core.List.{List}
use mathlib.Core.Path.{◌∙◌, ◌≡◌, ap, refl, sym}
use Prim.Native.Nat.{◌+◌, ◌<◌, ◌≤◌, ℕ}
use native.Mathlib.Numerals.{add-one}
use native.Mathlib.Omega.{arith}
use borrow.Author.Tests.{eqb-false, eqb-true, ne_eqb}
use lib.Dec.{eqb}
use lib.ListN.{get_or, length, take}
use lib.Seq.{take_all}
use Rattle.paper.specs.Sound.{entry}
use Rattle.table.specs.declared.made.Made.{Made}
use Rattle.table.specs.Made.{Makes, after}
use Rattle.table.proofs.Sets.{set_number_lem}
use Rattle.fix.specs.Images.{Fixing, InWork, OperandsInWork, Record, Set, empty, image_with, operands_in, set_at, set_in, set_number, twice_in}
use Rattle.fix.specs.Passes.{Fitting, images, new_records}
use Rattle.fix.proofs.ImageSteps.{at_hand, few_records, image_stays, image_after, last_image, records_next, twice_at}

-- the work has the images of the first k records
abbrev pub HasImages : Fixing → List Record → ℕ → List ℕ → Type 0
HasImages f used k work = (i : ℕ) → i < k → get_or work i 0 ≡ set_number (get_or (images f (take k used)) i empty)

pub all_of : (used : List Record) → take (length used) used ≡ used
all_of used = take_all (length used) used (omega arith)

-- an image is what it is in the end
pub in_the_end : (f : Fixing) (used : List Record) (k i : ℕ) → k ≤ length used → i < k
    → get_or (images f used) i empty ≡ get_or (images f (take k used)) i empty
in_the_end f used k i most l =
    ap (λ (all : List Record). get_or (images f all) i empty) (sym (all_of used))
    ∙ image_stays f.index f.node used (length used) k i most (omega arith) l

module _ (f : Fixing) (used : List Record) (work : List ℕ) (k : ℕ) (fit : Fitting used work) (has : HasImages f used k work)
    (below : k < length used) where
  abbrev r : Record
  r = entry used k

  abbrev made : List Record
  made = new_records f (take k used)

  abbrev left : Set
  left = (operands_in r work).0

  abbrev right : Set
  right = (operands_in r work).1

  -- ---- the operands
  pub few_made : length made ≤ k
  few_made = few_records f.index f.node used k (omega (arith, below))

  there : (j : ℕ) → j < k → InWork j work
  there j l = (
    omega (arith, l, below, fit.room),
    omega (arith, has j l, at_hand f.index f.node used k (omega (arith, below)) j, few_made, below, fit.few),
  )

  pub operands_there : OperandsInWork r work
  operands_there other = let lower = fit.lower k below other in (there r.left lower.0, there r.right lower.1)

  set_is : (j : ℕ) → j < k → set_at work j ≡ get_or (images f (take k used)) j empty
  set_is j l = ap set_in (has j l) ∙ set_number_lem (get_or (images f (take k used)) j empty)

  operands_are : (r.kind ≡ 1 → ⊥) → operands_in r work ≡ (get_or (images f (take k used)) r.left empty, get_or (images f (take k used)) r.right empty)
  operands_are other =
      let lower = fit.lower k below other in
      rw (ne_eqb r.kind 1 other) (λ j. (set_is r.left lower.0 j, set_is r.right lower.1 j))

  -- ---- whether it is a union whose operands have both become unit
  pub twice_is : twice_in r left right ≡ twice_at (images f used) r
  twice_is = go (eqb r.kind 2) refl
    where
      go : (c : Bool) → eqb r.kind 2 ≡ c → twice_in r left right ≡ twice_at (images f used) r
      go false e = rw e
      go true e =
          let other : r.kind ≡ 1 → ⊥ = λ single. omega (arith, single, eqb-true r.kind 2 e) in
          let lower = fit.lower k below other in
          let most : k ≤ length used = omega (arith, below) in
          ap (λ (p : Set × Set). twice_in r p.0 p.1)
          (operands_are other ∙ λ j. (sym (in_the_end f used k r.left most lower.0) j, sym (in_the_end f used k r.right most lower.1) j))

  -- ---- its image
  -- it is made from the sets in the work; that of a single needs none
  image_in : image_after f.index f.node used k ≡ image_with f r left right made
  image_in = go (eqb r.kind 1) refl
    where
      go : (c : Bool) → eqb r.kind 1 ≡ c → image_after f.index f.node used k ≡ image_with f r left right made
      go true e = rw e
      go false e = ap (λ (p : Set × Set). image_with f r p.0 p.1 made) (sym (operands_are (eqb-false r.kind 1 e)))

  module _ (x : Made) (makes : Makes (image_with f r left right) x) where
    made_is : image_after f.index f.node used k ≡ after x made
    made_is = image_in ∙ makes made

    pub next_records : new_records f (take (k + 1) used) ≡ (after x made).0
    next_records =
        ap (λ (m : ℕ). new_records f (take m used)) (add-one k)
        ∙ records_next f.index f.node used k below
        ∙ ap (λ (z : List Record × Set). z.0) made_is

    pub next_image : get_or (images f (take (k + 1) used)) k empty ≡ (after x made).1
    next_image =
        ap (λ (m : ℕ). get_or (images f (take m used)) k empty) (add-one k)
        ∙ last_image f.index f.node used k below
        ∙ ap (λ (z : List Record × Set). z.1) made_is
