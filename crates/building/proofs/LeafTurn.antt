-- One rule of a leaf: what the code asks of the numbers, where its single goes, and where the building then stands, also where the rule
-- is never used.
use mathlib.Core.Bool.{Bool, false, true}
use mathlib.Core.List.{List, ◌++◌}
use mathlib.Core.Logic.{inl}
use mathlib.Core.Path.{◌∙◌, ◌≡◌, ap, ap₂, refl, subst, sym}
use Prim.Native.Nat.{◌+◌, ◌<◌, ◌^◌, ◌≤◌, ℕ}
use native.Mathlib.Omega.{arith}
use borrow.Author.Tests.{eq-eqb, ne_eqb}
use lib.ListN.{drop, get_or, length}
use Rattle.paper.specs.Building.{Slots, can_stand, leaf_step, put, record_sets}
use Rattle.paper.specs.Query.{leaf_rule}
use Rattle.paper.specs.Refusals.{query_in}
use Rattle.paper.specs.Stream.{number, records_of}
use Rattle.stream.specs.Positions.{NextRule, after, record_at}
use Rattle.building.specs.Batch.{Record, Set, records_in}
use Rattle.building.specs.Bounds.{most_flags, most_states}
use Rattle.building.specs.Branches.{shelf_from}
use Rattle.building.specs.Kinds.{leaf_kind, rule_above}
use Rattle.building.specs.Rules.{Leaves}
use Rattle.building.specs.Slots.{shelf_at}
use Rattle.building.specs.Standing.{AtRule, Standing, State}
use Rattle.building.specs.States.{more}
use Rattle.building.proofs.Frames.{flags_at_most, slot_below}
use Rattle.building.proofs.Limits.{constants_stay, more_records}
use Rattle.building.proofs.NodeRules.{LeafRuleAt, fewer_left, leaf_first, leaf_rule_at, on_to_next}
use Rattle.building.proofs.OwnShelf.{Onward, low_shelf, own_shelf, shelf_rest, shelf_standing}
use Rattle.building.proofs.Present.{NodeReady, kind_here, label_here, node_ready}
use Rattle.building.proofs.Running.{shelf_put, slot_shelf}

-- where the shelf of a leaf's rule stands
abbrev pub leaf_shelf : List ℕ → State → ℕ
leaf_shelf input t = shelf_from t t.top (get_or input (t.rule + 3) 0)

-- what the code asks of the numbers
pub record LeafReady (input : List ℕ) (t : State) (work : List ℕ) : Type 0 where
  pub node : NodeReady input t work
  pub rule : t.rule + 4 ≤ length input
  pub flag : get_or input (t.rule + 2) 0 < most_flags
  pub state : get_or input (t.rule + 3) 0 < most_states
  pub slot : leaf_shelf input t + get_or input (t.rule + 2) 0 < length work

module _ (input : List ℕ) (t : State) (work : List ℕ) (made : List Record) (s : Standing input t work made) (h : t.rule < length input)
    (leaf : get_or input t.at 0 ≡ leaf_kind) where
  leaf_kind_lem : s.node.here.kind ≡ leaf_kind
  leaf_kind_lem = sym (kind_here input t s.constants s.node) ∙ leaf

  -- the bytes of the rule
  leaf_bytes : LeafRuleAt input t (number s.node.here 0)
  leaf_bytes =
      leaf_rule_at input t s.constants s.node.here s.node.earlier s.node.stack (made, s.slots) s.rule h leaf_kind_lem

  pub leaf_ready : LeafReady input t work
  leaf_ready =
      let ready = node_ready input t work s.constants s.node s.frames.room in
      record {
        node = ready;
        rule = leaf_bytes.inside;
        flag = omega (arith, leaf_bytes.flag, flags_at_most t.shape.arity t.shape.few_places);
        state = omega (arith, leaf_bytes.state, t.shape.few_states);
        slot = omega (
          arith,
          slot_below t.shape.arity t.shape.states (get_or input (t.rule + 3) 0) (get_or input (t.rule + 2) 0) leaf_bytes.state leaf_bytes.flag,
          ready.frame,
        );
      }

-- ---- the rule is done: the next one stands behind it
module _ (input : List ℕ) (t : State) (work batch : List ℕ) (base : List Record) (s : Standing input t work (base ++ records_in t.count batch))
    (h : t.rule < length input) (leaf : get_or input t.at 0 ≡ leaf_kind) (next : ℕ)
    (found : NextRule input (after input t.rule) (s.node.here.kind + rule_above) (number s.node.here 0) next) where
  abbrev made : List Record
  made = base ++ records_in t.count batch

  abbrev label : ℕ
  label = number s.node.here 0

  abbrev flag : ℕ
  flag = get_or input (t.rule + 2) 0

  abbrev state : ℕ
  state = get_or input (t.rule + 3) 0

  kind : s.node.here.kind ≡ leaf_kind
  kind = leaf_kind_lem input t work made s h leaf

  bytes : LeafRuleAt input t label
  bytes = leaf_bytes input t work made s h leaf

  -- what it makes of the records and slots so far, the others go on with
  onward : {z' : List Record × Slots Set} → leaf_step record_sets label t.node (made, s.slots) (leaf_rule label flag state) ≡ z'
      → AtRule input t.node next s.node.here s.node.earlier s.node.stack z'
  onward {z'} step =
      on_to_next input t s.constants s.node.here s.node.earlier s.node.stack (made, s.slots) s.rule h next found (inl kind) z'
      (leaf_first (query_in input) s.node.here t.node s.node.stack kind (record_at input t.rule)
      (records_of (drop (after input t.rule) input)) bytes.rule (made, s.slots) z'
      (ap₂ (λ b q. leaf_step record_sets label t.node (made, s.slots) (leaf_rule label b q)) bytes.flag_byte bytes.state_byte ∙ step))

  fewer : length (records_of (drop next input)) < length (records_of (drop t.rule input))
  fewer = fewer_left input t s.constants s.node.here s.node.earlier s.node.stack (made, s.slots) s.rule h next found

  -- whether the leaf can stand there, by the byte that the code has
  can_stand_here : {c : Bool} → c ≡ can_stand (get_or input (t.at + 1) 0) flag → (d : Bool) → c ≡ d → can_stand label flag ≡ d
  can_stand_here e d c-is = ap (λ a. can_stand a flag) (sym (label_here input t s.constants s.node)) ∙ sym e ∙ c-is

  -- it is used
  module _ (start : length base ≡ t.from) (count : ℕ) (work' batch' : List ℕ) (long : length work' ≡ length work) where
    abbrev slots : Slots Set
    slots = put s.slots state flag (shelf_at work' (leaf_shelf input t) flag)

    others : (q b : ℕ) → (q ≡ state → ⊥) → slots q b ≡ s.slots q b
    others q b apart = rw (ne_eqb state q (λ same. apart (sym same)))

    leaf_stepped : can_stand label flag ≡ true → Leaves t.node flag (leaf_shelf input t) t.from t.count batch work count batch' work'
        → Onward input t work base count next work' batch'
    leaf_stepped stands e =
        let one-shelf = slot_shelf e.slot (2 ^ t.shape.arity) bytes.flag (low_shelf input t work made s t.top state (omega arith) bytes.state) in
        let shelf = shelf_put e.slot (2 ^ t.shape.arity) state s.slots (own_shelf input t work made s state bytes.state) in
        let used : length (base ++ records_in count batch') ≡ t.from + count = omega (arith, more_records base count batch') in
        let there = onward (e.leaves base s.slots label state start stands) in
        record {
          standing = shelf_standing input t work made s state bytes.state (base ++ records_in count batch') slots used long one-shelf shelf others there;
          rest = shelf_rest input t work made s state bytes.state (base ++ records_in count batch') slots used long one-shelf shelf others there;
          few = omega (arith, e.slot.few);
          fewer = fewer;
        }

    -- of the numbers that the code has
    pub leaf_onward : {c : Bool} → c ≡ can_stand (get_or input (t.at + 1) 0) flag → c ≡ true → {to : ℕ} → to ≡ leaf_shelf input t
        → Leaves t.node flag to t.from t.count batch work count batch' work' → Onward input t work base count next work' batch'
    leaf_onward asked stands same e =
        leaf_stepped (can_stand_here asked true stands)
        (subst (λ x. Leaves t.node flag x t.from t.count batch work count batch' work') same e)

  -- it is never used: all stays
  pub leaf_passed : {c : Bool} → c ≡ can_stand (get_or input (t.at + 1) 0) flag → c ≡ false → Onward input t work base t.count next work batch
  leaf_passed asked stands_not = record {
    standing = record {
      constants = constants_stay input t (more t t.count next) refl refl refl refl refl s.constants;
      node = s.node;
      slots = s.slots;
      rule = onward (rw (eq-eqb label label refl, can_stand_here asked false stands_not));
      frames = record { frames = s.frames.frames; low = s.frames.low; room = s.frames.room };
      used = s.used;
    };
    rest = refl;
    few = omega arith;
    fewer = fewer;
  }
