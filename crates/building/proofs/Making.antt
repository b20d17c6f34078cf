-- What the numbers of a batch make, call by call: one more record, and one thing after the other. B is the
-- batch, B' what it is afterwards.
use mathlib.Core.List.{List, [], ◌∷◌, ◌++◌, append_assoc}
use mathlib.Core.Path.{◌∙◌, ◌≡◌, ap, sym}
use Prim.Native.Nat.{◌+◌, ℕ}
use native.Mathlib.Omega.{arith}
use lib.ListN.{length, length-append}
use Rattle.paper.specs.Building.{new_record}
use Rattle.table.proofs.Batches.{length_records}
use Rattle.table.proofs.Sets.{set_of}
use Rattle.building.specs.Batch.{Made, Makes, Record, Set, at, records_in, set_in}

-- ---- making
module _ (used k : ℕ) (B : List ℕ) where
  -- one more record
  pub record_made : (r : Record) (B' : List ℕ) → records_in (k + 1) B' ≡ records_in k B ++ (r ∷ [])
      → Makes (new_record r) 1 used k B (record { count = k + 1; set = used + k + 2 }) B'
  record_made r B' e = record { makes = makes; more = omega arith; few = omega arith; at_hand = omega arith }
    where
      makes : (base : List Record) → length base ≡ used → new_record r (base ++ records_in k B) ≡ (base ++ records_in (k + 1) B', set_in (used + k + 2))
      makes base h =
          let table : base ++ records_in k B ++ (r ∷ []) ≡ base ++ records_in (k + 1) B' =
          append_assoc base (records_in k B) (r ∷ []) ∙ ap {B = List Record} (λ z. base ++ z) (sym e) in
          let n : length (base ++ records_in k B) ≡ used + k = omega (arith, length-append base (records_in k B), length_records k B) in
          let s : at (length (base ++ records_in k B)) ≡ set_in (used + k + 2) = ap at n ∙ sym (set_of (used + k)) in
          λ i. (table i, s i)

  -- one after the other: the second is given the set of the first
  pub then_made : (most most' : ℕ) (make : List Record → List Record × Set) (next : Set → List Record → List Record × Set)
      (m m' : Made) (B' B'' : List ℕ)
      → Makes make most used k B m B' → Makes (next (set_in m.set)) most' used m.count B' m' B''
      → Makes (λ table. next (make table).1 (make table).0) (most + most') used k B m' B''
  then_made most most' make next m m' B' B'' h h' =
      record {
        makes = λ base e. ap (λ w. next w.1 w.0) (h.makes base e) ∙ h'.makes base e;
        more = omega (arith, h.more, h'.more);
        few = omega (arith, h.few, h'.few);
        at_hand = h'.at_hand;
      }
