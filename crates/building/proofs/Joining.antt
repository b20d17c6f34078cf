-- The end of a node: its frame becomes that of a subtree. A leaf's stays where it is, a branch's is copied down over the older child's,
-- and the last child's is left behind.
use mathlib.Core.List.{List, [], ◌∷◌}
use mathlib.Core.Path.{◌∙◌, ◌≡◌, ap, refl, subst, sym}
use Prim.Native.Nat.{◌*◌, ◌+◌, ◌-◌, ◌<◌, ◌%◌, ◌≤◌, ℕ}
use native.Mathlib.Nat.{suc-mul}
use native.Mathlib.Omega.{arith}
use borrow.Author.Tests.{eq-eqb, ne_eqb}
use lib.ListN.{drop, get_or, length, length-drop}
use lib.Seq.{get_or-drop, length-paste, paste}
use Rattle.paper.specs.Building.{Slots}
use Rattle.building.specs.Batch.{Record, Set}
use Rattle.building.specs.Bounds.{slot_sets}
use Rattle.building.specs.Frames.{FramesAre, width}
use Rattle.building.specs.Coming.{Joined}
use Rattle.building.specs.Kinds.{leaf_kind}
use Rattle.building.specs.Slots.{slot_at}
use Rattle.building.specs.Standing.{InWork, Standing, State, stack_left}
use Rattle.building.proofs.Frames.{frames_joined, parts_apart, paste_after}
use Rattle.building.proofs.Pasting.{paste_low, same_behind}
use Rattle.building.proofs.Present.{frame_room, kind_here, two_frames}

-- a branch's frame copied down, of any stack that has two subtrees to join: the frames, and that their sets stay low
copied_down : (arity states bound : ℕ) (work : List ℕ) (slots : Slots Set) (stack : List (Slots Set)) (base : ℕ) → base + 2 ≡ length stack
    → length stack * width arity states + width arity states ≤ length work
    → ((i : ℕ) → i < length (slots ∷ stack) * width arity states → slot_at work i ≤ bound)
    → FramesAre arity states work (slots ∷ stack)
    → let work' : List ℕ = paste work (base * width arity states) (drop (length stack * width arity states) work) (width arity states) in
    FramesAre arity states work' (slots ∷ drop 2 stack)
    × ((i : ℕ) → i < length (slots ∷ drop 2 stack) * width arity states → slot_at work' i ≤ bound)
copied_down arity states bound work slots [] base two fits low fs = absurd (omega arith)
copied_down arity states bound work slots (last ∷ []) base two fits low fs = absurd (omega arith)
copied_down arity states bound work slots (last ∷ older ∷ others) base two fits low fs =
    subst Copied (let e : length others ≡ base = omega arith in e) (frames_joined arity states work slots last older others fits fs, copied_low)
  where
    size : ℕ
    size = width arity states

    top : ℕ
    top = length (last ∷ older ∷ others) * size

    Copied : ℕ → Type 0
    Copied n =
        let work' : List ℕ = paste work (n * size) (drop top work) size in
        FramesAre arity states work' (slots ∷ others) × ((i : ℕ) → i < length (slots ∷ others) * size → slot_at work' i ≤ bound)

    higher : length others * size + size ≤ top
    higher = parts_apart size (length others) (length (last ∷ older ∷ others)) (omega arith)

    copied_low : (i : ℕ) → i < length (slots ∷ others) * size → slot_at (paste work (length others * size) (drop top work) size) i ≤ bound
    copied_low i h =
        paste_low work (drop top work) (length others * size) size bound (omega (arith, higher)) (omega (arith, length-drop top work))
        (λ j l. low j (omega (arith, higher, suc-mul (length (last ∷ older ∷ others)) size)))
        (λ j l. omega (arith, ap (λ x. x % slot_sets) (get_or-drop top work j 0), low (top + j) (omega (arith, suc-mul (length (last ∷ older ∷ others)) size))))
        i (omega (arith, suc-mul (length others) size))

module _ (input : List ℕ) (t : State) (work : List ℕ) (made : List Record) (s : Standing input t work made) where
  no_leaf : (get_or input t.at 0 ≡ leaf_kind → ⊥) → s.node.here.kind ≡ leaf_kind → ⊥
  no_leaf branch w = branch (kind_here input t s.constants s.node ∙ w)

  pub two_below : (get_or input t.at 0 ≡ leaf_kind → ⊥) → 2 ≤ t.top
  two_below branch = two_frames input t s.constants s.node (no_leaf branch)

  -- a leaf
  pub leaf_joined : get_or input t.at 0 ≡ leaf_kind → Joined input t work made s (t.top + 1) work
  leaf_joined leaf =
      let kind : s.node.here.kind ≡ leaf_kind = sym (kind_here input t s.constants s.node) ∙ leaf in
      let same : s.node.stack ≡ stack_left s.node.here s.node.stack = rw (eq-eqb s.node.here.kind leaf_kind kind) in
      record {
        high = omega (arith, s.node.high, ap length same);
        frames = subst (λ stack. InWork t work (s.slots ∷ stack)) same s.frames;
        rest = refl;
      }

  -- a branch: there is room to copy its frame
  pub join_room : (get_or input t.at 0 ≡ leaf_kind → ⊥) → {from to n : ℕ} → from ≡ t.top * width t.shape.arity t.shape.states
      → to ≡ (t.top - 2) * width t.shape.arity t.shape.states → n ≡ width t.shape.arity t.shape.states → (to + n ≤ from) × (from + n ≤ length work)
  join_room branch e₁ e₂ e₃ =
      let two = two_below branch in
      let below = parts_apart (width t.shape.arity t.shape.states) (t.top - 2) t.top (omega (arith, two)) in
      (omega (arith, below), omega (arith, frame_room input t s.constants s.node, s.frames.room))

  pub branch_joined : (get_or input t.at 0 ≡ leaf_kind → ⊥) → {from to n : ℕ} {work' : List ℕ} → from ≡ t.top * width t.shape.arity t.shape.states
      → to ≡ (t.top - 2) * width t.shape.arity t.shape.states → n ≡ width t.shape.arity t.shape.states → work' ≡ paste work to (drop from work) n
      → Joined input t work made s (t.top - 1) work'
  branch_joined branch {from} {to} {n} {work'} e₁ e₂ e₃ e = record {
    high = omega (arith, two, s.node.high, ap length left, length-drop 2 s.node.stack);
    frames = subst (λ stack. InWork t work' (s.slots ∷ stack)) (sym left)
        (subst (λ w. InWork t w (s.slots ∷ drop 2 s.node.stack)) (sym pasted)
        (record { frames = down.0; low = down.1; room = omega (arith, long, s.frames.room) }));
    rest = subst (λ w. drop t.asked w ≡ drop t.asked work) (sym pasted)
        (same_behind work joined long t.asked
        (λ i h. paste_after work (drop (length s.node.stack * size) work) (base * size) size within enough i (omega (arith, below, room))));
  }
    where
      size : ℕ
      size = width t.shape.arity t.shape.states

      base : ℕ
      base = t.top - 2

      two : 2 ≤ t.top
      two = two_below branch

      left : stack_left s.node.here s.node.stack ≡ drop 2 s.node.stack
      left = rw (ne_eqb s.node.here.kind leaf_kind (no_leaf branch))

      joined : List ℕ
      joined = paste work (base * size) (drop (length s.node.stack * size) work) size

      top : t.top * size ≡ length s.node.stack * size
      top = ap (λ x. x * size) s.node.high

      pasted : work' ≡ joined
      pasted =
          e
          ∙ ap (λ x. paste work x (drop from work) n) e₂
          ∙ ap (λ x. paste work (base * size) (drop x work) n) (e₁ ∙ top)
          ∙ ap (paste work (base * size) (drop (length s.node.stack * size) work)) e₃

      room : t.top * size + size ≤ t.asked
      room = frame_room input t s.constants s.node

      below : base * size + size ≤ t.top * size
      below = parts_apart size base t.top (omega (arith, two))

      within : base * size + size ≤ length work
      within = omega (arith, below, room, s.frames.room)

      enough : size ≤ length (drop (length s.node.stack * size) work)
      enough = omega (arith, top, room, s.frames.room, length-drop (length s.node.stack * size) work)

      long : length joined ≡ length work
      long = length-paste work (base * size) (drop (length s.node.stack * size) work) size within enough

      down : FramesAre t.shape.arity t.shape.states joined (s.slots ∷ drop 2 s.node.stack)
          × ((i : ℕ) → i < length (s.slots ∷ drop 2 s.node.stack) * size → slot_at joined i ≤ t.from + t.count + 1)
      down =
          copied_down t.shape.arity t.shape.states (t.from + t.count + 1) work s.slots s.node.stack base (omega (arith, two, s.node.high))
          (omega (arith, top, room, s.frames.room)) s.frames.low s.frames.frames
