-- A rule of the present node writes the shelf of its state, in the node's frame: where the building then stands, at the next rule. First
-- where shelves stand in the work, then the rule.
use mathlib.Core.Bool.{Bool, false, true}
use mathlib.Core.List.{List, ◌++◌, ◌∷◌}
use mathlib.Core.Path.{◌≡◌, ap, refl, subst, sym}
use Prim.Native.Nat.{◌*◌, ◌+◌, ◌-◌, ◌<◌, ◌%◌, ◌^◌, ◌≤◌, suc, ℕ}
use native.Mathlib.Omega.{arith}
use borrow.Author.Tests.{ltb-false, ltb-true}
use lib.Dec.{ltb}
use lib.ListN.{drop, length}
use Rattle.paper.specs.Building.{Slots}
use Rattle.paper.specs.Stream.{records_of}
use Rattle.building.specs.Batch.{Record, Set, records_in}
use Rattle.building.specs.Bounds.{rule_records, slot_sets}
use Rattle.building.specs.Branches.{shelf_from}
use Rattle.building.specs.Frames.{FramesAre, width}
use Rattle.building.specs.Rules.{Low, OneShelf, Shelf}
use Rattle.building.specs.Slots.{Marked, slot_at}
use Rattle.building.specs.Standing.{AtRule, Standing, State}
use Rattle.building.specs.States.{more}
use Rattle.building.proofs.Frames.{frame_shelf, frames_same, parts_apart}
use Rattle.building.proofs.Limits.{constants_stay}
use Rattle.building.proofs.Pasting.{same_behind}
use Rattle.building.proofs.Present.{frame_room}

-- ---- shelves
-- a shelf ends in its frame, and a frame below the top ends where the next begins
pub in_frame : (t : State) (frame q : ℕ) → q < t.shape.states
    → shelf_from t frame q + 2 ^ t.shape.arity ≤ frame * width t.shape.arity t.shape.states + width t.shape.arity t.shape.states
in_frame t frame q hq = omega (arith, parts_apart (2 ^ t.shape.arity) q t.shape.states hq)

pub below_top : (t : State) (frame q : ℕ) → frame < t.top → q < t.shape.states → shelf_from t frame q + 2 ^ t.shape.arity ≤ t.top * width t.shape.arity t.shape.states
below_top t frame q hf hq = omega (arith, in_frame t frame q hq, parts_apart (width t.shape.arity t.shape.states) frame t.top hf)

module _ (input : List ℕ) (t : State) (work : List ℕ) (made : List Record) (s : Standing input t work made) where
  pub low_shelf : (frame q : ℕ) → frame ≤ t.top → q < t.shape.states → Low (t.from + t.count + 1) (2 ^ t.shape.arity) work (shelf_from t frame q)
  low_shelf frame q hf hq b l =
      let few : frame < suc (length s.node.stack) = omega (arith, s.node.high) in
      s.frames.low (shelf_from t frame q + b)
      (omega (arith, in_frame t frame q hq, parts_apart (width t.shape.arity t.shape.states) frame (suc (length s.node.stack)) few))

  top_base : t.top * width t.shape.arity t.shape.states ≡ length s.node.stack * width t.shape.arity t.shape.states
  top_base = ap (λ x. x * width t.shape.arity t.shape.states) s.node.high

  -- the shelf of a state in the node's frame
  pub own_shelf : (q : ℕ) → q < t.shape.states → Shelf s.slots q (2 ^ t.shape.arity) work (shelf_from t t.top q)
  own_shelf q hq =
      subst (λ x. Shelf s.slots q (2 ^ t.shape.arity) work (x + q * 2 ^ t.shape.arity)) (sym top_base) (λ b hb. s.frames.frames.0.sets q b hq hb)

  pub own_marked : (q : ℕ) → q < t.shape.states → Marked (2 ^ t.shape.arity) work (shelf_from t t.top q)
  own_marked q hq = subst (λ x. Marked (2 ^ t.shape.arity) work (x + q * 2 ^ t.shape.arity)) (sym top_base) (s.frames.frames.0.marked q hq)

-- ---- the rule
-- one rule is done: so many records are in the batch now, and the next rule stands further on
pub record Onward (input : List ℕ) (t : State) (work : List ℕ) (base : List Record) (count next : ℕ) (work' batch' : List ℕ) : Type 0 where
  pub standing : Standing input (more t count next) work' (base ++ records_in count batch')
  pub rest : drop t.asked work' ≡ drop t.asked work
  pub few : count ≤ t.count + rule_records
  pub fewer : length (records_of (drop next input)) < length (records_of (drop t.rule input))

module _ (input : List ℕ) (t : State) (work : List ℕ) (made : List Record) (s : Standing input t work made) (q : ℕ) (hq : q < t.shape.states)
    {most count next : ℕ} {work' : List ℕ} (made' : List Record) (slots : Slots Set) (used : length made' ≡ t.from + count)
    (long : length work' ≡ length work) (o : OneShelf (shelf_from t t.top q) (2 ^ t.shape.arity) t.from most t.count work count work')
    (shelf : Shelf slots q (2 ^ t.shape.arity) work' (shelf_from t t.top q)) (others : (q' b : ℕ) → (q' ≡ q → ⊥) → slots q' b ≡ s.slots q' b)
    (a : AtRule input t.node next s.node.here s.node.earlier s.node.stack (made', slots)) where
  base_same : t.top * width t.shape.arity t.shape.states ≡ length s.node.stack * width t.shape.arity t.shape.states
  base_same = top_base input t work made s

  frames : FramesAre t.shape.arity t.shape.states work' (slots ∷ s.node.stack)
  frames = (
    frame_shelf t.shape.arity t.shape.states work work' (length s.node.stack * width t.shape.arity t.shape.states) s.slots slots q
        (λ i l. o.below i (omega (arith, base_same))) (λ i l. o.above i (omega (arith, base_same)))
        (subst (λ x. Shelf slots q (2 ^ t.shape.arity) work' (x + q * 2 ^ t.shape.arity)) base_same shelf)
        (subst (λ x. Marked (2 ^ t.shape.arity) work' (x + q * 2 ^ t.shape.arity)) base_same
        (o.marked (own_marked input t work made s q hq)))
        others s.frames.frames.0,
    frames_same t.shape.arity t.shape.states work work' s.node.stack (λ i l. o.below i (omega (arith, base_same))) s.frames.frames.1,
  )

  low : (i : ℕ) → i < length (slots ∷ s.node.stack) * width t.shape.arity t.shape.states → slot_at work' i ≤ t.from + count + 1
  low i l = go (ltb i to) (ltb i (to + 2 ^ t.shape.arity)) refl refl
    where
      to : ℕ
      to = shelf_from t t.top q

      go : (c d : Bool) → ltb i to ≡ c → ltb i (to + 2 ^ t.shape.arity) ≡ d → slot_at work' i ≤ t.from + count + 1
      go true d w v = omega (arith, ap (λ x. x % slot_sets) (o.below i (ltb-true i to w)), s.frames.low i l, o.more)
      go false true w v =
          let there : to + (i - to) ≡ i = omega (arith, ltb-false i to w) in
          omega (arith, o.low (i - to) (omega (arith, ltb-false i to w, ltb-true i (to + 2 ^ t.shape.arity) v)), ap (slot_at work') there)
      go false false w v = omega (arith, ap (λ x. x % slot_sets) (o.above i (ltb-false i (to + 2 ^ t.shape.arity) v)), s.frames.low i l, o.more)

  pub shelf_standing : Standing input (more t count next) work' made'
  shelf_standing = record {
    constants = constants_stay input t (more t count next) refl refl refl refl refl s.constants;
    node = s.node;
    slots = slots;
    rule = a;
    frames = record { frames = frames; low = low; room = omega (arith, s.frames.room) };
    used = used;
  }

  pub shelf_rest : drop t.asked work' ≡ drop t.asked work
  shelf_rest =
      same_behind work work' long t.asked
      (λ i l. o.above i (omega (arith, in_frame t t.top q hq, frame_room input t s.constants s.node)))
