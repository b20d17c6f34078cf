-- One rule of a branch: where its shelves stand, that there is room for it, and where the building then stands.
use mathlib.Core.List.{List, ◌++◌}
use mathlib.Core.Logic.{inr, ⊎_elim}
use mathlib.Core.Path.{◌∙◌, ◌≡◌, ap, refl, subst, sym}
use Prim.Native.Nat.{◌*◌, ◌+◌, ◌-◌, ◌<◌, ◌^◌, ◌≤◌, suc, ℕ}
use native.Mathlib.Omega.{arith}
use lib.ListN.{drop, get_or, length}
use Rattle.paper.specs.Building.{Slots, branch_step, record_sets, splits_by}
use Rattle.paper.specs.Lists.{through}
use Rattle.paper.specs.Query.{branch_rule}
use Rattle.paper.specs.Refusals.{query_in}
use Rattle.paper.specs.Stream.{number, records_of}
use Rattle.stream.specs.Positions.{NextRule, after, record_at}
use Rattle.building.specs.Batch.{Record, Set, records_in}
use Rattle.building.specs.Bounds.{batch_numbers}
use Rattle.building.specs.Branches.{BranchReady, branch_of}
use Rattle.building.specs.Frames.{FrameIs, width}
use Rattle.building.specs.Kinds.{leaf_kind, rule_above}
use Rattle.building.specs.Rules.{Branch, Branches, Room, Stands}
use Rattle.building.specs.Standing.{AtRule, Standing, State, no_slots}
use Rattle.building.proofs.Frames.{flags_at_most, frame_down}
use Rattle.building.proofs.Limits.{more_records}
use Rattle.building.proofs.NodeRules.{BranchRuleAt, branch_first, branch_rule_at, fewer_left, on_to_next}
use Rattle.building.proofs.OwnShelf.{Onward, below_top, in_frame, low_shelf, own_shelf, shelf_rest, shelf_standing}
use Rattle.building.proofs.Present.{NodeReady, kind_here, node_ready, tree_kind_here, two_frames}

module _ (input : List ℕ) (t : State) (work : List ℕ) (made : List Record) (s : Standing input t work made) (h : t.rule < length input)
    (branch : get_or input t.at 0 ≡ leaf_kind → ⊥) where
  no_leaf : s.node.here.kind ≡ leaf_kind → ⊥
  no_leaf e = branch (kind_here input t s.constants s.node ∙ e)

  branch_kind : s.node.here.kind ≡ 2
  branch_kind = ⊎_elim (λ e. absurd (no_leaf e)) (λ e. e) (tree_kind_here input t s.constants s.node)

  two_below : 2 ≤ t.top
  two_below = two_frames input t s.constants s.node no_leaf

  -- the bytes of the rule
  branch_bytes : BranchRuleAt input t (number s.node.here 0)
  branch_bytes =
      branch_rule_at input t s.constants s.node.here s.node.earlier s.node.stack (made, s.slots) s.rule h branch_kind

  ready : NodeReady input t work
  ready = node_ready input t work s.constants s.node s.frames.room

  -- ---- the children's frames: the last one is the first below the top, the older one the second
  child_frame : (i frame : ℕ) → i < length s.node.stack → frame ≡ length s.node.stack - suc i
      → FrameIs t.shape.arity t.shape.states work (frame * width t.shape.arity t.shape.states) (get_or s.node.stack i no_slots)
  child_frame i frame l w =
      subst (λ x. FrameIs t.shape.arity t.shape.states work (x * width t.shape.arity t.shape.states) (get_or s.node.stack i no_slots)) (sym w)
      (frame_down t.shape.arity t.shape.states work s.node.stack i no_slots l s.frames.frames.1)

  lefts_frame : FrameIs t.shape.arity t.shape.states work ((t.top - 2) * width t.shape.arity t.shape.states) (get_or s.node.stack 1 no_slots)
  lefts_frame = child_frame 1 (t.top - 2) (omega (arith, two_below, s.node.high)) (omega (arith, s.node.high))

  rights_frame : FrameIs t.shape.arity t.shape.states work ((t.top - 1) * width t.shape.arity t.shape.states) (get_or s.node.stack 0 no_slots)
  rights_frame = child_frame 0 (t.top - 1) (omega (arith, two_below, s.node.high)) (omega (arith, s.node.high))

  room_here : (batch : List ℕ) → batch_numbers ≤ length batch → t.from ≤ t.limit → Room (branch_of input t t.rule) t.count batch work
  room_here batch enough few = record {
    flags = record { arity = t.shape.arity; small = t.shape.few_places; powers = refl };
    own_flag = branch_bytes.flag;
    few = omega (arith, s.constants.limit);
    few_nodes = omega (arith, ready.nodes);
    records = enough;
    left_before = omega (arith, below_top t (t.top - 2) (get_or input (t.rule + 3) 0) (omega (arith, two_below)) branch_bytes.left);
    right_before = omega (arith, below_top t (t.top - 1) (get_or input (t.rule + 4) 0) (omega (arith, two_below)) branch_bytes.right);
    within = omega (arith, in_frame t t.top (get_or input (t.rule + 5) 0) branch_bytes.state, ready.frame);
    left_low = low_shelf input t work made s (t.top - 2) (get_or input (t.rule + 3) 0) (omega arith) branch_bytes.left;
    right_low = low_shelf input t work made s (t.top - 1) (get_or input (t.rule + 4) 0) (omega arith) branch_bytes.right;
    low = low_shelf input t work made s t.top (get_or input (t.rule + 5) 0) (omega arith) branch_bytes.state;
    left_marked = lefts_frame.marked (get_or input (t.rule + 3) 0) branch_bytes.left;
    right_marked = rights_frame.marked (get_or input (t.rule + 4) 0) branch_bytes.right;
  }

  pub branch_room : {rule : Branch} {batch : List ℕ} → rule ≡ branch_of input t t.rule → batch_numbers ≤ length batch → t.from ≤ t.limit
      → Room rule t.count batch work
  branch_room {batch = batch} same enough few = subst (λ x. Room x t.count batch work) (sym same) (room_here batch enough few)

  -- what the code asks of the numbers, of a state that has the same
  pub branch_ready : (t' : State) → t'.shape.arity ≡ t.shape.arity → t'.shape.states ≡ t.shape.states → t'.top ≡ t.top → BranchReady input t' t.rule
  branch_ready t' arity states top = record {
    inside = branch_bytes.inside;
    frames = omega (arith, ready.frames);
    below = omega (arith, two_below);
    flag = omega (arith, branch_bytes.flag, flags_at_most t.shape.arity t.shape.few_places);
    left = omega (arith, branch_bytes.left, t.shape.few_states);
    right = omega (arith, branch_bytes.right, t.shape.few_states);
    state = omega (arith, branch_bytes.state, t.shape.few_states);
  }

-- the rule is done
module _ (input : List ℕ) (t : State) (work batch : List ℕ) (base : List Record) (s : Standing input t work (base ++ records_in t.count batch))
    (start : length base ≡ t.from) (h : t.rule < length input) (branch : get_or input t.at 0 ≡ leaf_kind → ⊥) (count next : ℕ)
    (work' batch' : List ℕ) (long : length work' ≡ length work) where
  abbrev made : List Record
  made = base ++ records_in t.count batch

  abbrev lefts : Slots Set
  lefts = get_or s.node.stack 1 no_slots

  abbrev rights : Slots Set
  rights = get_or s.node.stack 0 no_slots

  -- what the rule makes of the records and the slots
  abbrev z : List Record × Slots Set
  z =
      through (branch_step record_sets t.node (get_or s.node.stack 1 no_slots) (get_or s.node.stack 0 no_slots))
      (base ++ records_in t.count batch, s.slots)
      (splits_by (query_in input).arity (number s.node.here 0)
      (branch_rule (number s.node.here 0) (get_or input (t.rule + 2) 0) (get_or input (t.rule + 3) 0) (get_or input (t.rule + 4) 0)
      (get_or input (t.rule + 5) 0)))

  kind : s.node.here.kind ≡ 2
  kind = branch_kind input t work made s h branch

  bytes : BranchRuleAt input t (number s.node.here 0)
  bytes = branch_bytes input t work made s h branch

  module _ (e : Branches (branch_of input t t.rule) t.count batch work count batch' work')
      (found : NextRule input (after input t.rule) (s.node.here.kind + rule_above) (number s.node.here 0) next) where
    done : Stands base (get_or input (t.rule + 5) 0) (branch_of input t t.rule) z count batch' work'
        × ((q b : ℕ) → (q ≡ get_or input (t.rule + 5) 0 → ⊥) → z.1 q b ≡ s.slots q b)
    done =
        let p : ℕ = get_or input (t.rule + 3) 0 in
        let q : ℕ = get_or input (t.rule + 4) 0 in
        let r : ℕ = get_or input (t.rule + 5) 0 in
        e.branches base (query_in input).arity (number s.node.here 0) p q r lefts rights s.slots start
        (ap (λ x. 2 ^ x) s.constants.arity)
        (λ b hb. (lefts_frame input t work made s h branch).sets p b bytes.left hb)
        (λ b hb. (rights_frame input t work made s h branch).sets q b bytes.right hb)
        (own_shelf input t work made s r bytes.state)

    step : through (branch_step record_sets t.node lefts rights) (made, s.slots)
        (splits_by (query_in input).arity (number s.node.here 0)
        (branch_rule (number s.node.here 0) (number (record_at input t.rule) 1) (number (record_at input t.rule) 2)
        (number (record_at input t.rule) 3) (number (record_at input t.rule) 4)))
        ≡ (base ++ records_in count batch', z.1)
    step = rw (bytes.flag_byte, bytes.left_byte, bytes.right_byte, bytes.state_byte) (λ i. (done.0.table i, z.1))

    onward : AtRule input t.node next s.node.here s.node.earlier s.node.stack (base ++ records_in count batch', z.1)
    onward =
        on_to_next input t s.constants s.node.here s.node.earlier s.node.stack (made, s.slots) s.rule h next found
        (inr kind) (base ++ records_in count batch', z.1)
        (branch_first (query_in input) s.node.here t.node s.node.stack (no_leaf input t work made s h branch) (record_at input t.rule)
        (records_of (drop (after input t.rule) input)) bytes.rule (made, s.slots) (base ++ records_in count batch', z.1) step)

    branch_stepped : Onward input t work base count next work' batch'
    branch_stepped =
        let state : ℕ = get_or input (t.rule + 5) 0 in
        let used : length (base ++ records_in count batch') ≡ t.from + count = omega (arith, more_records base count batch') in
        record {
          standing =
              shelf_standing input t work made s state bytes.state (base ++ records_in count batch') z.1 used long e.shelf done.0.shelf done.1
              onward;
          rest =
              shelf_rest input t work made s state bytes.state (base ++ records_in count batch') z.1 used long e.shelf done.0.shelf done.1
              onward;
          few = e.shelf.few;
          fewer =
              fewer_left input t s.constants s.node.here s.node.earlier s.node.stack (made, s.slots) s.rule h next found;
        }

  -- of the numbers that the code has
  pub branch_onward : {rule : Branch} → rule ≡ branch_of input t t.rule → Branches rule t.count batch work count batch' work'
      → NextRule input (after input t.rule) (s.node.here.kind + rule_above) (number s.node.here 0) next → Onward input t work base count next work' batch'
  branch_onward same e = branch_stepped (subst (λ x. Branches x t.count batch work count batch' work') same e)
