-- Fixing a place of a good set, each into a table of its own: the call is accepted, lists the rows with the node at the place in
-- the old order, that place blank, and leaves a good set with no more records. First the records made, then the call.
use mathlib.Core.Bool.{Bool, ◌&&◌, cond, false, false≢true, not, true}
use mathlib.Core.List.Memᴰ
use mathlib.Core.List.{List, [], ◌++◌, ◌∷◌}
use mathlib.Core.Logic.{⊎_elim}
use mathlib.Core.Path.{◌∙◌, ◌≡◌, ap, ap₂, refl, subst, sym}
use Prim.Native.Nat.{◌+◌, ◌-◌, ◌<◌, ◌≤◌, ℕ}
use native.Mathlib.Omega.{arith}
use borrow.Author.Tests.{le-leb, leb-true, lt-ltb}
use lib.Dec.{eqb, leb}
use lib.ListN.{get_or, length, take}
use Rattle.paper.specs.Building.{product_record, single_record, union_record}
use Rattle.paper.specs.Lists.{Once, through}
use Rattle.paper.specs.Questions.{fixed_set, has_place, image, image_of, image_step, images_of, question_work, without}
use Rattle.paper.specs.Records.{listing, listings, set_rows, used_of}
use Rattle.paper.specs.Refusals.{answer, fix, fix_tests, is_open, over}
use Rattle.paper.specs.Row.{Row}
use Rattle.paper.specs.Sound.{entry}
use Rattle.laws.specs.Fixings.{GoodSet, picked}
use Rattle.laws.specs.Plain.{Head, Record, Set, at, empty, unit}
use Rattle.laws.specs.QuestionCauses.{IsUnion, SetFits, SoundAt, UnitTwice}
use Rattle.laws.proofs.Bits.{no_places, without_lt}
use Rattle.laws.proofs.Bound.{one_product, one_single, one_union}
use Rattle.laws.proofs.GoodSets.{HeadOver, good_number, good_once, good_sound, over_good, over_length, over_lists, used_over}
use Rattle.laws.proofs.Images.{Images, images_stand, wanted, wanted_append, wanted_once}
use Rattle.laws.proofs.Listings.{listings_at, listings_first}
use Rattle.laws.proofs.Lists.{both_true}
use Rattle.laws.proofs.QuestionRefusals.{unit_twice_cause}
use Rattle.laws.proofs.Replies.{answers}
use Rattle.laws.proofs.Shaped.{shaped_all, union_rows}
use Rattle.laws.proofs.SoundRecords.{SoundFrom}
use Rattle.laws.proofs.SoundTest.{is_sound}
use Rattle.laws.proofs.Stands.{OnceFrom, Stands, not_unit_twice}
use Rattle.laws.proofs.Tests.{passes_if_not}

-- ---- a fixing makes at most one record for each
one_image : (p n : ℕ) (table : List Record) (images : List Set) (r : Record) → length (image p n table images r).0 ≤ length table + 1
one_image p n table images r = go (eqb r.kind 1) (eqb r.kind 2) (has_place r.flag p && not (eqb r.node n))
  where
    b : ℕ
    b = without r.flag p

    x : Set
    x = get_or images r.left empty

    y : Set
    y = get_or images r.right empty

    go : (c d e : Bool)
        → length (cond {A = List Record × Set} c (cond e (table, empty) (single_record r.node b table))
        (cond d (union_record r.node b x y table) (product_record r.node b x y table))).0 ≤ length table + 1
    go true d true = omega arith
    go true d false = one_single r.node b table
    go false true e = one_union r.node b x y table
    go false false e = one_product r.node b x y table

images_length : (p n : ℕ) (rest : List Record) (z : List Record × List Set)
    → length (through (image_step p n) z rest).0 ≤ length z.0 + length rest
images_length p n [] z = omega arith
images_length p n (r ∷ rest) z = omega (arith, one_image p n z.0 z.1 r, images_length p n rest (image_step p n z r))

-- ---- the call
module _ (h : Head) (table : List Record) (G : GoodSet h table) (place n : ℕ) (stands_open : is_open h place ≡ true) (node : n < h.nodes) where
  abbrev used : List Record
  used = used_of h table

  abbrev p : ℕ
  p = place - 1

  abbrev new : Head
  new = (fixed_set h table place n).0

  abbrev written : List Record
  written = (fixed_set h table place n).1

  abbrev images : List Set
  images = (images_of p n used).1

  from_one : (leb 1 place ≡ true) × (leb place h.arity && has_place h.open_places p ≡ true)
  from_one = both_true (leb 1 place) (leb place h.arity && has_place h.open_places p) stands_open

  there : (leb place h.arity ≡ true) × (has_place h.open_places p ≡ true)
  there = both_true (leb place h.arity) (has_place h.open_places p) from_one.1

  in_arity : p < h.arity
  in_arity = omega (arith, leb-true 1 place from_one.0, leb-true place h.arity there.0)

  few : h.nodes ≤ 4095
  few = G.sound.few_nodes

  I : Images h.arity h.nodes few p n in_arity used written images
  I = images_stand h.arity h.nodes few p n in_arity used (good_sound h table G) (good_once h table G)

  written_sound : SoundFrom h.arity h.nodes [] written
  written_sound = subst (SoundFrom h.arity h.nodes []) (sym I.grown.longer) I.grown.sound

  written_once : OnceFrom h.arity [] written
  written_once = subst (OnceFrom h.arity []) (sym I.grown.longer) I.grown.once

  -- the new set stands for the picked rows
  set_stands : (e : Set) → SetFits h used e
      → Stands h.arity (without h.open_places p) written (image_of images e) (picked p n (set_rows h.arity (listings h.arity used) e))
  set_stands empty w = record { lists = refl; valid = refl; shape = λ row m. absurd (Memᴰ.not-nil m); once = tt }
  set_stands unit w = absurd (false≢true (sym (no_places p) ∙ ap (λ (b : ℕ). has_place b p) (sym w) ∙ there.1))
  set_stands (at i) w =
      let rows = get_or (listings h.arity used) i [] in
      let s = I.stand i (omega (arith, w.0, good_number h table G)) in
      let s' = subst (λ (b : ℕ). Stands h.arity (without b p) written (get_or images i empty) (cond (has_place b p) (picked p n rows) rows)) w.1 s in
      subst (λ (c : Bool). Stands h.arity (without h.open_places p) written (get_or images i empty) (cond c (picked p n rows) rows)) there.1 s'

  -- no more records than before
  pub fix_shrinks : new.used ≤ h.used
  fix_shrinks = omega (arith, images_length p n used ([], []), good_number h table G)

  new_head : (target : List Record) → HeadOver new (over written target) written (picked p n (listing h table))
  new_head target = record {
    uses = used_over new written target refl;
    number = refl;
    there = over_length written target;
    few_used = omega (arith, fix_shrinks, G.sound.few_used);
    some_nodes = G.sound.some_nodes;
    few_nodes = few;
    some_places = G.sound.some_places;
    few_places = G.sound.few_places;
    open_below = without_lt h.arity p h.open_places G.sound.open_below;
    sound = written_sound;
    once = written_once;
    stands = set_stands h.set G.sound.set;
  }

  -- the new set is good again
  pub fix_good : (target : List Record) → GoodSet new (over written target)
  fix_good target = over_good new (over written target) written (picked p n (listing h table)) (new_head target)

  -- it lists the rows with the node at the place, in the old order, that place blank
  pub fix_lists : (target : List Record) → listing new (over written target) ≡ picked p n (listing h table)
  fix_lists target = over_lists new (over written target) written (picked p n (listing h table)) (new_head target)

  -- no union's operands both become unit: their rows would have one twice
  never_unit_twice : UnitTwice h table place n → ⊥
  never_unit_twice u = ⊎_elim (λ c. omega (arith, c.0, u.union)) (⊎_elim bad (λ c. omega (arith, c.0, u.union))) S.kind
    where
      i : ℕ
      i = u.number

      r : Record
      r = entry used i

      below : i < h.used
      below = omega (arith, u.used, good_number h table G)

      S : SoundAt h.arity h.nodes used i r
      S = G.sound.records i below

      L : List Row
      L = get_or (listings h.arity used) r.left []

      T : List Row
      T = get_or (listings h.arity used) r.right []

      wanted_of : ℕ → List Row → List Row
      wanted_of = wanted h.arity h.nodes few p n in_arity

      bad : IsUnion used i r → ⊥
      bad e =
          let fits : i < length used = u.used in
          let rows : get_or (listings h.arity used) i [] ≡ L ++ T =
          listings_at h.arity used i fits ∙ union_rows h.arity (listings h.arity (take i used)) r e.0
          ∙ ap₂ {C = List Row} (λ x y. x ++ y) (listings_first h.arity used i r.left (omega arith) e.1)
          (listings_first h.arity used i r.right (omega arith) e.2) in
          let once : Once (wanted_of r.flag L ++ wanted_of r.flag T) =
          subst Once (ap (wanted_of r.flag) rows ∙ wanted_append h.arity h.nodes few p n in_arity r.flag L T)
          (wanted_once h.arity h.nodes few p n in_arity r.flag (get_or (listings h.arity used) i [])
          (shaped_all h.arity h.nodes few used (good_sound h table G) i fits) (G.once i below)) in
          let stand : (j : ℕ) → j < i → (entry used j).flag ≡ r.flag
          → Stands h.arity (without r.flag p) written (get_or images j empty) (wanted_of r.flag (get_or (listings h.arity used) j [])) =
          λ j w f. subst (λ (b : ℕ). Stands h.arity (without b p) written (get_or images j empty) (wanted_of b (get_or (listings h.arity used) j []))) f
          (I.stand j (omega arith)) in
          not_unit_twice h.arity (without r.flag p) written (get_or images r.left empty) (get_or images r.right empty)
          (wanted_of r.flag L) (wanted_of r.flag T) once (stand r.left e.1 e.3) (stand r.right e.2 e.4) u.left u.right

  -- with work and a target as the paper asks the call is accepted
  pub fix_accepted : (work_length target_length : ℕ) → question_work h ≤ work_length → h.used ≤ target_length
      → fix h table work_length place n target_length ≡ answer (fixed_set h table place n)
  fix_accepted work_length target_length work target =
      answers (fix_tests h table work_length place n target_length) (fixed_set h table place n) (
        le-leb (question_work h) work_length work,
        (
          is_sound h table G.sound,
          (
            stands_open,
            (
              lt-ltb n h.nodes node,
              (
                le-leb h.used target_length target,
                (
                  passes_if_not (unit_twice_cause h table place n) never_unit_twice,
                  tt,
                ),
              ),
            ),
          ),
        ),
      )
