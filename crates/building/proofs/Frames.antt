-- The slots of the unjoined subtrees in the lent work, frame by frame. The idea: frames are parts of one size, and so are the shelves of a
-- frame; two such parts do not overlap, so that what is written in one leaves the others.
-- First where slots stand, and a part of the work pasted over; then one frame: moved, cleared, copied; then the frames of a stack, and
-- the shelf of one state written in the frame on top; last that the work asked for has room for that frame.
use mathlib.Core.Bool.{Bool, false, true}
use mathlib.Core.List.{List, [], ◌++◌, ◌∷◌}
use mathlib.Core.Path.{◌∙◌, ◌≡◌, ap, refl, subst, sym}
use Prim.Native.Nat.{◌*◌, ◌+◌, ◌-◌, ◌/◌, ◌<◌, ◌%◌, ◌^◌, ◌≤◌, max, suc, zero, ℕ}
use native.Mathlib.Nat.{mul_assoc, mul-le-mul_right}
use native.Mathlib.Omega.{arith}
use borrow.Author.Tests.{ltb-false, ltb-true}
use lib.Dec.{ltb}
use lib.ListN.{get_or-append, drop, get_or, get_or-replicate, length, length-drop, length-replicate, replicate, take}
use lib.Pow.{pow_mono, pow_pos}
use lib.Seq.{get_or-append-add, get_or-drop, get_or-take, length_paste_head, length-take-le, paste}
use Rattle.paper.specs.Building.{Slots, build_work}
use Rattle.paper.specs.Lists.{through}
use Rattle.paper.specs.Query.{Query}
use Rattle.paper.specs.Stream.{StreamRecord}
use Rattle.paper.specs.Tree.{Tree, grow, most_from, most_unjoined, unjoined}
use Rattle.laws.specs.Plain.{Set, empty}
use Rattle.building.specs.Batch.{set_in}
use Rattle.building.specs.Bounds.{most_flags, most_frames, most_places, most_states, slot_sets}
use Rattle.building.specs.Frames.{FrameIs, FramesAre, width}
use Rattle.building.specs.Slots.{Marked, shelf_at}
use Rattle.building.proofs.Slots.{marked_same}

-- ---- where slots stand
-- parts of one size, one after the other, do not overlap: frames, and the shelves of a frame
pub parts_apart : (size i j : ℕ) → i < j → i * size + size ≤ j * size
parts_apart size i j h = omega (arith, mul-le-mul_right size h)

-- an arity has at most 16 flags, a frame at most 256 numbers, and there are at most 4,096 frames
pub flags_at_most : (arity : ℕ) → arity ≤ most_places → 2 ^ arity ≤ most_flags
flags_at_most arity h = pow_mono h

pub frame_at_most : (arity states : ℕ) → arity ≤ most_places → states ≤ most_states → width arity states ≤ most_states * most_flags
frame_at_most arity states ha hs = omega (arith, flags_at_most arity ha, mul-le-mul_right (2 ^ arity) hs)

pub frames_at_most : (arity states frame : ℕ) → arity ≤ most_places → states ≤ most_states → frame ≤ most_frames
    → frame * width arity states ≤ most_frames * (most_states * most_flags)
frames_at_most arity states frame ha hs hf = omega (arith, frame_at_most arity states ha hs, mul-le-mul_right (width arity states) hf)

-- a slot stands in its frame
pub slot_below : (arity states q b : ℕ) → q < states → b < 2 ^ arity → q * 2 ^ arity + b < width arity states
slot_below arity states q b hq hb = omega (arith, parts_apart (2 ^ arity) q states hq)

-- ---- a part of the work pasted over
module _ (work new : List ℕ) (base size : ℕ) (fits : base + size ≤ length work) (enough : size ≤ length new) where
  abbrev front : List ℕ
  front = take base work ++ take size new

  front_length : length front ≡ base + size
  front_length = length_paste_head work base new size (omega arith) enough

  base_length : length (take base work) ≡ base
  base_length = length-take-le base work (omega arith)

  pub paste_before : (i : ℕ) → i < base → get_or (paste work base new size) i 0 ≡ get_or work i 0
  paste_before i h =
      get_or-append front (drop (base + size) work) 0 i (omega (arith, front_length))
      ∙ get_or-append (take base work) (take size new) 0 i (omega (arith, base_length))
      ∙ get_or-take base work i 0 h

  pub paste_within : (i : ℕ) → i < size → get_or (paste work base new size) (base + i) 0 ≡ get_or new i 0
  paste_within i h =
      get_or-append front (drop (base + size) work) 0 (base + i) (omega (arith, front_length))
      ∙ ap (λ (m : ℕ). get_or front (m + i) 0) (sym base_length)
      ∙ get_or-append-add (take base work) (take size new) i 0
      ∙ get_or-take size new i 0 h

  pub paste_after : (i : ℕ) → base + size ≤ i → get_or (paste work base new size) i 0 ≡ get_or work i 0
  paste_after i h =
      let past : i ≡ length front + (i - (base + size)) = omega (arith, front_length) in
      let past' : base + size + (i - (base + size)) ≡ i = omega arith in
      ap (λ (m : ℕ). get_or (paste work base new size) m 0) past
      ∙ get_or-append-add front (drop (base + size) work) (i - (base + size)) 0
      ∙ get_or-drop (base + size) work (i - (base + size)) 0
      ∙ ap (λ (m : ℕ). get_or work m 0) past'

-- ---- one frame
module _ (arity states : ℕ) where
  -- the numbers of a frame, at the same base or at another
  pub frame_moved : (work work' : List ℕ) (base base' : ℕ) (slots : Slots Set)
      → ((i : ℕ) → i < width arity states → get_or work' (base' + i) 0 ≡ get_or work (base + i) 0)
      → FrameIs arity states work base slots → FrameIs arity states work' base' slots
  frame_moved work work' base base' slots same f = record {
    sets = λ q b hq hb. f.sets q b hq hb ∙ ap (λ x. set_in (x % slot_sets)) (sym (shelf q b hq hb));
    marked = λ q hq.
        marked_same (2 ^ arity) work work' (base + q * 2 ^ arity) (base' + q * 2 ^ arity) (pow_pos arity) (λ b hb. shelf q b hq hb) (f.marked q hq);
  }
    where
      shelf : (q b : ℕ) → q < states → b < 2 ^ arity → get_or work' (base' + q * 2 ^ arity + b) 0 ≡ get_or work (base + q * 2 ^ arity + b) 0
      shelf q b hq hb =
          ap (λ (m : ℕ). get_or work' m 0) (let z : base' + q * 2 ^ arity + b ≡ base' + (q * 2 ^ arity + b) = omega arith in z)
          ∙ same (q * 2 ^ arity + b) (slot_below arity states q b hq hb)
          ∙ ap (λ (m : ℕ). get_or work m 0) (let z : base + (q * 2 ^ arity + b) ≡ base + q * 2 ^ arity + b = omega arith in z)

  -- a frame of zeros has empty slots
  pub frame_zero : (work : List ℕ) (base : ℕ) → ((i : ℕ) → i < width arity states → get_or work (base + i) 0 ≡ 0)
      → FrameIs arity states work base (λ q b. empty)
  frame_zero work base zeros = record {
    sets = λ q b hq hb. ap (λ x. set_in (x % slot_sets)) (sym (shelf q b hq hb));
    marked = λ q hq. record {
      few = omega (arith, pow_pos (2 ^ arity), ap (λ x. x / slot_sets) (first q hq));
      empty = λ b hb e. ap (λ x. x % slot_sets) (shelf q b hq hb);
    };
  }
    where
      shelf : (q b : ℕ) → q < states → b < 2 ^ arity → get_or work (base + q * 2 ^ arity + b) 0 ≡ 0
      shelf q b hq hb =
          ap (λ (m : ℕ). get_or work m 0) (let z : base + q * 2 ^ arity + b ≡ base + (q * 2 ^ arity + b) = omega arith in z)
          ∙ zeros (q * 2 ^ arity + b) (slot_below arity states q b hq hb)

      first : (q : ℕ) → q < states → get_or work (base + q * 2 ^ arity) 0 ≡ 0
      first q hq =
          ap (λ (m : ℕ). get_or work m 0) (let z : base + q * 2 ^ arity ≡ base + q * 2 ^ arity + 0 = omega arith in z) ∙ shelf q 0 hq (pow_pos arity)

  -- clearing a frame
  pub frame_cleared : (work : List ℕ) (base : ℕ) → base + width arity states ≤ length work
      → FrameIs arity states (paste work base (replicate (width arity states) 0) (width arity states)) base (λ q b. empty)
  frame_cleared work base fits =
      let zeros : List ℕ = replicate (width arity states) 0 in
      frame_zero (paste work base zeros (width arity states)) base
      (λ i h. paste_within work zeros base (width arity states) fits (omega (arith, length-replicate {A = ℕ} (width arity states) 0)) i h
      ∙ get_or-replicate (width arity states) i 0 0 h)

  -- copying a frame
  pub frame_copied : (work : List ℕ) (base base' : ℕ) (slots : Slots Set)
      → base + width arity states ≤ length work → base' + width arity states ≤ length work → FrameIs arity states work base slots
      → FrameIs arity states (paste work base' (drop base work) (width arity states)) base' slots
  frame_copied work base base' slots fits fits' f =
      frame_moved work (paste work base' (drop base work) (width arity states)) base base' slots
      (λ i h. paste_within work (drop base work) base' (width arity states) fits' (omega (arith, length-drop base work)) i h
      ∙ get_or-drop base work i 0)
      f

  -- ---- the frames of a stack
  -- below the top nothing changes
  pub frames_same : (work work' : List ℕ) (stack : List (Slots Set))
      → ((i : ℕ) → i < length stack * width arity states → get_or work' i 0 ≡ get_or work i 0)
      → FramesAre arity states work stack → FramesAre arity states work' stack
  frames_same work work' [] same fs = tt
  frames_same work work' (slots ∷ others) same fs = (
    frame_moved work work' (length others * width arity states) (length others * width arity states) slots
        (λ i h. same (length others * width arity states + i) (omega arith)) fs.0,
    frames_same work work' others (λ i h. same i (omega arith)) fs.1,
  )

  -- a frame on top is cleared, for one more subtree
  pub frames_cleared : (work : List ℕ) (stack : List (Slots Set)) → length stack * width arity states + width arity states ≤ length work
      → FramesAre arity states work stack
      → FramesAre arity states
      (paste work (length stack * width arity states) (replicate (width arity states) 0) (width arity states)) ((λ q b. empty) ∷ stack)
  frames_cleared work stack fits fs = (
    frame_cleared work top fits,
    frames_same work (paste work top zeros size) stack
        (paste_before work zeros top size fits (omega (arith, length-replicate {A = ℕ} size 0))) fs,
  )
    where
      size : ℕ
      size = width arity states

      top : ℕ
      top = length stack * size

      zeros : List ℕ
      zeros = replicate size 0

  -- a branch's frame, made above the last two, is copied down to the older one's place
  pub frames_joined : (work : List ℕ) (slots last older : Slots Set) (others : List (Slots Set))
      → length (last ∷ older ∷ others) * width arity states + width arity states ≤ length work
      → FramesAre arity states work (slots ∷ last ∷ older ∷ others)
      → FramesAre arity states
      (paste work (length others * width arity states) (drop (length (last ∷ older ∷ others) * width arity states) work) (width arity states))
      (slots ∷ others)
  frames_joined work slots last older others fits fs = (
    frame_copied work top base slots fits (omega arith) fs.0,
    frames_same work (paste work base (drop top work) size) others
        (paste_before work (drop top work) base size (omega arith) (omega (arith, length-drop top work))) fs.1.1.1,
  )
    where
      size : ℕ
      size = width arity states

      top : ℕ
      top = length (last ∷ older ∷ others) * size

      base : ℕ
      base = length others * size

  -- a shelf of the frame on top is written: it is the shelf of one state, whose slots alone change
  pub frame_shelf : (work work' : List ℕ) (base : ℕ) (slots slots' : Slots Set) (q : ℕ)
      → ((i : ℕ) → i < base + q * 2 ^ arity → get_or work' i 0 ≡ get_or work i 0)
      → ((i : ℕ) → base + q * 2 ^ arity + 2 ^ arity ≤ i → get_or work' i 0 ≡ get_or work i 0)
      → ((b : ℕ) → b < 2 ^ arity → slots' q b ≡ shelf_at work' (base + q * 2 ^ arity) b) → Marked (2 ^ arity) work' (base + q * 2 ^ arity)
      → ((q' b : ℕ) → (q' ≡ q → ⊥) → slots' q' b ≡ slots q' b)
      → FrameIs arity states work base slots → FrameIs arity states work' base slots'
  frame_shelf work work' base slots slots' q below above shelf marked others f = record {
    sets = λ q' b hq hb. go_sets q' b hq hb (ltb q' q) (ltb q q') refl refl;
    marked = λ q' hq. go_marked q' hq (ltb q' q) (ltb q q') refl refl;
  }
    where
      before : (q' b : ℕ) → q' < q → b < 2 ^ arity → get_or work' (base + q' * 2 ^ arity + b) 0 ≡ get_or work (base + q' * 2 ^ arity + b) 0
      before q' b l hb = below (base + q' * 2 ^ arity + b) (omega (arith, parts_apart (2 ^ arity) q' q l))

      behind : (q' b : ℕ) → q < q' → b < 2 ^ arity → get_or work' (base + q' * 2 ^ arity + b) 0 ≡ get_or work (base + q' * 2 ^ arity + b) 0
      behind q' b l hb = above (base + q' * 2 ^ arity + b) (omega (arith, parts_apart (2 ^ arity) q q' l))

      other_sets : (q' b : ℕ) → q' < states → b < 2 ^ arity → (q' ≡ q → ⊥)
          → get_or work' (base + q' * 2 ^ arity + b) 0 ≡ get_or work (base + q' * 2 ^ arity + b) 0 → slots' q' b ≡ shelf_at work' (base + q' * 2 ^ arity) b
      other_sets q' b hq hb apart e = others q' b apart ∙ f.sets q' b hq hb ∙ ap (λ x. set_in (x % slot_sets)) (sym e)

      other_marked : (q' : ℕ) → q' < states
          → ((b : ℕ) → b < 2 ^ arity → get_or work' (base + q' * 2 ^ arity + b) 0 ≡ get_or work (base + q' * 2 ^ arity + b) 0)
          → Marked (2 ^ arity) work' (base + q' * 2 ^ arity)
      other_marked q' hq same =
          marked_same (2 ^ arity) work work' (base + q' * 2 ^ arity) (base + q' * 2 ^ arity) (pow_pos arity) same (f.marked q' hq)

      go_sets : (q' b : ℕ) → q' < states → b < 2 ^ arity → (c d : Bool) → ltb q' q ≡ c → ltb q q' ≡ d
          → slots' q' b ≡ shelf_at work' (base + q' * 2 ^ arity) b
      go_sets q' b hq hb true d h k = let l = ltb-true q' q h in other_sets q' b hq hb (λ e. omega arith) (before q' b l hb)
      go_sets q' b hq hb false true h k = let l = ltb-true q q' k in other_sets q' b hq hb (λ e. omega arith) (behind q' b l hb)
      go_sets q' b hq hb false false h k =
          let there : q ≡ q' = omega (arith, ltb-false q' q h, ltb-false q q' k) in
          subst (λ (x : ℕ). slots' x b ≡ shelf_at work' (base + x * 2 ^ arity) b) there (shelf b hb)

      go_marked : (q' : ℕ) → q' < states → (c d : Bool) → ltb q' q ≡ c → ltb q q' ≡ d → Marked (2 ^ arity) work' (base + q' * 2 ^ arity)
      go_marked q' hq true d h k = other_marked q' hq (λ b hb. before q' b (ltb-true q' q h) hb)
      go_marked q' hq false true h k = other_marked q' hq (λ b hb. behind q' b (ltb-true q q' k) hb)
      go_marked q' hq false false h k =
          let there : q ≡ q' = omega (arith, ltb-false q' q h, ltb-false q q' k) in
          subst (λ (x : ℕ). Marked (2 ^ arity) work' (base + x * 2 ^ arity)) there marked

  -- the frame of slots further down the stack
  pub frame_down : (work : List ℕ) (stack : List (Slots Set)) (i : ℕ) (none : Slots Set) → i < length stack → FramesAre arity states work stack
      → FrameIs arity states work ((length stack - suc i) * width arity states) (get_or stack i none)
  frame_down work [] i none h fs = absurd (omega arith)
  frame_down work (slots ∷ others) zero none h fs =
      subst (λ (n : ℕ). FrameIs arity states work (n * width arity states) slots)
      (let z : length others ≡ suc (length others) - 1 = omega arith in z) fs.0
  frame_down work (slots ∷ others) (suc i) none h fs =
      subst (λ (n : ℕ). FrameIs arity states work (n * width arity states) (get_or others i none))
      (let z : length others - suc i ≡ suc (length others) - suc (suc i) = omega arith in z)
      (frame_down work others i none (omega arith) fs.1)

-- ---- room
-- the work asked for is one frame more than there are ever unjoined subtrees
pub work_frames : (most : ℕ) (Q : Query) → build_work most Q ≡ (1 + most) * width Q.arity Q.states
work_frames most Q = mul_assoc (1 + most) Q.states (2 ^ Q.arity)

most_from_lem : (s : List Tree × ℕ) (before rest : List StreamRecord)
    → length (through grow s before).0 ≤ max (length s.0) (most_from s (before ++ rest))
most_from_lem s [] rest = omega arith
most_from_lem s (r ∷ before) rest = omega (arith, most_from_lem (grow s r) before rest)

-- no more subtrees are unjoined after any of the records than the most ever
pub few_unjoined : (before rest : List StreamRecord) → length (unjoined before) ≤ most_unjoined (before ++ rest)
few_unjoined before rest = omega (arith, most_from_lem ([], 0) before rest)

-- so the frame above those of the unjoined subtrees is within the work asked for
pub top_fits : (Q : Query) (before rest : List StreamRecord) (top size : ℕ) → top ≡ length (unjoined before)
    → build_work (most_unjoined (before ++ rest)) Q ≤ size → top * width Q.arity Q.states + width Q.arity Q.states ≤ size
top_fits Q before rest top size high enough =
    let most : ℕ = most_unjoined (before ++ rest) in
    let few : top < suc most = omega (arith, few_unjoined before rest) in
    omega (arith, work_frames most Q, parts_apart (width Q.arity Q.states) top (suc most) few)
