-- The images of the first k records of a source, record by record. First what making an image adds to the new table; then one record more,
-- that earlier images stay, and that each is at hand: empty, unit or a record of the new table. Then how many records are new; last a union of
-- unit and unit.
use mathlib.Core.Bool.{Bool, ◌&&◌, ◌||◌, cond, false, false≢true, not, or_assoc, or_comm, true}
use mathlib.Core.List.{List, [], ◌∷◌, ◌++◌}
use mathlib.Core.Logic.{⊎_elim}
use mathlib.Core.Path.{◌∙◌, ◌≡◌, ap, refl, subst, sym}
use Prim.Native.Nat.{◌+◌, ◌<◌, ◌≤◌, suc, zero, ℕ}
use native.Mathlib.Omega.{arith}
use lib.Dec.{eqb}
use lib.ListN.{get_or-append, get_or, length, length-append, take}
use lib.Seq.{get_or_at}
use Rattle.paper.specs.Building.{new_record, product_record, single_record, union_record}
use Rattle.paper.specs.Questions.{has_place, image, image_step, images_of, is_unit, unit_twice, without}
use Rattle.paper.specs.Records.{blank_entry, product_of, single_of, union_of}
use Rattle.paper.specs.Sound.{entry}
use Rattle.laws.proofs.Lists.{or_cases, or_left, or_right, through_take}
use Rattle.laws.proofs.Shaped.{last_or}
use Rattle.fix.specs.Images.{Record, Set, at, empty, set_number, unit}

-- ---- what is made from a table
-- at most one record more, and a set at hand; none where that set is not the record behind the table
record Adds (table : List Record) (z : List Record × Set) : Type 0 where
  grows : length table ≤ length z.0
  few : length z.0 ≤ length table + 1
  at_hand : set_number z.1 ≤ length z.0 + 1
  same : (set_number z.1 ≡ length table + 2 → ⊥) → z.0 ≡ table

module _ (table : List Record) where
  adds_none : (e : Set) → set_number e ≤ length table + 1 → Adds table (table, e)
  adds_none e h = record { grows = omega arith; few = omega arith; at_hand = h; same = λ _. refl }

  adds_record : (r : Record) → Adds table (new_record r table)
  adds_record r =
      let long = length-append table (r ∷ []) in
      record { grows = omega arith; few = omega arith; at_hand = omega arith; same = λ other. absurd (other (omega arith)) }

  adds_single : (n b : ℕ) → Adds table (single_record n b table)
  adds_single n b = go (eqb b 0)
    where
      go : (c : Bool) → Adds table (cond c (table, unit) (new_record (single_of n b) table))
      go true = adds_none unit (omega arith)
      go false = adds_record (single_of n b)

  adds_union : (n b : ℕ) (x y : Set) → set_number x ≤ length table + 1 → set_number y ≤ length table + 1 → Adds table (union_record n b x y table)
  adds_union n b empty y f g = adds_none y g
  adds_union n b unit y f g = adds_none unit f
  adds_union n b (at i) empty f g = adds_none (at i) f
  adds_union n b (at i) unit f g = adds_none (at i) f
  adds_union n b (at i) (at j) f g = adds_record (union_of n b i j)

  adds_product : (n b : ℕ) (x y : Set) → set_number x ≤ length table + 1 → set_number y ≤ length table + 1 → Adds table (product_record n b x y table)
  adds_product n b empty y f g = adds_none empty f
  adds_product n b unit y f g = adds_none y g
  adds_product n b (at i) empty f g = adds_none empty g
  adds_product n b (at i) unit f g = adds_none (at i) f
  adds_product n b (at i) (at j) f g = adds_record (product_of n b i j)

  -- the image of a record, where those before it are at hand
  adds_image : (i n : ℕ) (images : List Set) (r : Record) → ((j : ℕ) → set_number (get_or images j empty) ≤ length table + 1)
      → Adds table (image i n table images r)
  adds_image i n images r hand = go (eqb r.kind 1) (eqb r.kind 2) (has_place r.flag i && not (eqb r.node n))
    where
      b : ℕ
      b = without r.flag i

      x : Set
      x = get_or images r.left empty

      y : Set
      y = get_or images r.right empty

      go : (c d e : Bool) → Adds table (cond {A = List Record × Set} c (cond e (table, empty) (single_record r.node b table))
          (cond d (union_record r.node b x y table) (product_record r.node b x y table)))
      go true d true = adds_none empty (omega arith)
      go true d false = adds_single r.node b
      go false true e = adds_union r.node b x y (hand r.left) (hand r.right)
      go false false e = adds_product r.node b x y (hand r.left) (hand r.right)

-- what holds of each entry, and of one more
each_entry : (P : Set → Type 0) (xs : List Set) (e : Set) → P empty → ((j : ℕ) → P (get_or xs j empty)) → P e
    → (j : ℕ) → P (get_or (xs ++ (e ∷ [])) j empty)
each_entry P [] e none all last zero = last
each_entry P [] e none all last (suc j) = none
each_entry P (x ∷ xs) e none all last zero = all 0
each_entry P (x ∷ xs) e none all last (suc j) = each_entry P xs e none (λ i. all (suc i)) last j

-- ---- the first k records
module _ (i n : ℕ) (source : List Record) where
  abbrev made : ℕ → List Record
  made k = (images_of i n (take k source)).0

  abbrev images : ℕ → List Set
  images k = (images_of i n (take k source)).1

  -- the image of record k
  abbrev pub image_after : ℕ → List Record × Set
  image_after k = image i n (made k) (images k) (entry source k)

  module _ (k : ℕ) (below : k < length source) where
    one_step : images_of i n (take (suc k) source) ≡ image_step i n (images_of i n (take k source)) (entry source k)
    one_step = through_take (image_step i n) ([], []) source k blank_entry below

    pub records_next : made (suc k) ≡ (image_after k).0
    records_next = ap (λ (z : List Record × List Set). z.0) one_step

    images_next : images (suc k) ≡ images k ++ ((image_after k).1 ∷ [])
    images_next = ap (λ (z : List Record × List Set). z.1) one_step

  length_images : (k : ℕ) → k ≤ length source → length (images k) ≡ k
  length_images zero l = refl
  length_images (suc k) l =
      omega (
        arith,
        ap length (images_next k (omega arith)),
        length-append (images k) ((image_after k).1 ∷ []),
        length_images k (omega arith),
      )

  -- the last of them
  pub last_image : (k : ℕ) → k < length source → get_or (images (suc k)) k empty ≡ (image_after k).1
  last_image k l =
      ap (λ (xs : List Set). get_or xs k empty) (images_next k l)
      ∙ get_or_at (images k) (image_after k).1 [] empty k (length_images k (omega arith))

  -- the earlier ones stay
  stays : (k j : ℕ) → k < length source → j < k → get_or (images (suc k)) j empty ≡ get_or (images k) j empty
  stays k j l w =
      ap (λ (xs : List Set). get_or xs j empty) (images_next k l)
      ∙ get_or-append (images k) ((image_after k).1 ∷ []) empty j (omega (arith, length_images k (omega arith)))

  pub image_stays : (m k j : ℕ) → k ≤ m → m ≤ length source → j < k → get_or (images m) j empty ≡ get_or (images k) j empty
  image_stays zero k j l h w = absurd (omega arith)
  image_stays (suc m) k j l h w =
      ⊎_elim (λ less. stays m j (omega arith) (omega arith) ∙ image_stays m k j (omega arith) (omega arith) w)
      (λ same. ap (λ (o : ℕ). get_or (images o) j empty) (sym same)) (last_or k (suc m) (omega arith))

  -- each is at hand
  abbrev AtHand : ℕ → Type 0
  AtHand k = (j : ℕ) → set_number (get_or (images k) j empty) ≤ length (made k) + 1

  hand_next : (k : ℕ) → k < length source → AtHand k → AtHand (suc k)
  hand_next k l hand j =
      let step = adds_image (made k) i n (images k) (entry source k) hand in
      let bound = length (made (suc k)) + 1 in
      let long : length (made (suc k)) ≡ length (image_after k).0 = ap length (records_next k l) in
      subst (λ (xs : List Set). set_number (get_or xs j empty) ≤ bound) (sym (images_next k l))
      (each_entry (λ e. set_number e ≤ bound) (images k) (image_after k).1 (omega arith)
      (λ o. omega (arith, hand o, step.grows)) (omega (arith, step.at_hand)) j)

  pub at_hand : (k : ℕ) → k ≤ length source → AtHand k
  at_hand zero l = λ j. omega arith
  at_hand (suc k) l = hand_next k (omega arith) (at_hand k (omega arith))

  -- at most one record for each
  pub few_records : (k : ℕ) → k ≤ length source → length (made k) ≤ k
  few_records zero l = omega arith
  few_records (suc k) l =
      let step = adds_image (made k) i n (images k) (entry source k) (at_hand k (omega arith)) in
      omega (arith, ap length (records_next k (omega arith)), step.few, few_records k (omega arith))

  -- a record whose image is not the next new record makes none
  pub none_new : (k : ℕ) → k < length source → (set_number (get_or (images (suc k)) k empty) ≡ length (made k) + 2 → ⊥) → made (suc k) ≡ made k
  none_new k l other = records_next k l ∙ step.same (λ e. other (ap set_number (last_image k l) ∙ e))
    where
      step : Adds (made k) (image_after k)
      step = adds_image (made k) i n (images k) (entry source k) (at_hand k (omega arith))

-- ---- a union of unit and unit among the first k records
module _ (images : List Set) where
  abbrev pub twice_at : Record → Bool
  twice_at r = eqb r.kind 2 && (is_unit (get_or images r.left empty) && is_unit (get_or images r.right empty))

  pub twice_next : (source : List Record) (k : ℕ) → k < length source
      → unit_twice images (take (suc k) source) ≡ unit_twice images (take k source) || twice_at (entry source k)
  twice_next [] k l = absurd (omega arith)
  twice_next (r ∷ rs) zero l = or_comm (twice_at r) false
  twice_next (r ∷ rs) (suc k) l =
      ap (λ (c : Bool). twice_at r || c) (twice_next rs k (omega arith))
      ∙ sym (or_assoc (twice_at r) (unit_twice images (take k rs)) (twice_at (entry rs k)))

  pub twice_stays : (source : List Record) (m k : ℕ) → k ≤ m → unit_twice images (take k source) ≡ true → unit_twice images (take m source) ≡ true
  twice_stays source m zero l e = absurd (false≢true e)
  twice_stays source zero (suc k) l e = absurd (omega arith)
  twice_stays [] (suc m) (suc k) l e = e
  twice_stays (r ∷ rs) (suc m) (suc k) l e =
      let later : Bool = unit_twice images (take m rs) in
      ⊎_elim (or_left (twice_at r) later) (λ f. or_right (twice_at r) later (twice_stays rs m k (omega arith) f))
      (or_cases (twice_at r) (unit_twice images (take k rs)) e)
