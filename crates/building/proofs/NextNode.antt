-- The start of a node: its frame is cleared and its first rule is looked for. Then the way from a node to the next.
use mathlib.Core.List.{List, [], ◌++◌, ◌∷◌, append_assoc}
use mathlib.Core.Path.{◌∙◌, ◌≡◌, ap, refl, subst, subst₂, sym}
use Prim.Native.Nat.{◌*◌, ◌+◌, ◌<◌, ◌%◌, ◌≤◌, ℕ}
use native.Mathlib.Nat.{suc-mul}
use native.Mathlib.Omega.{arith}
use lib.ListN.{get_or, get_or-replicate, length, length-append, length-replicate, replicate}
use lib.Seq.{length-paste, paste}
use Rattle.paper.specs.Refusals.{nodes_in}
use Rattle.paper.specs.Stream.{StreamRecord, body_length, number}
use Rattle.laws.specs.StreamCauses.{RuleKind}
use Rattle.stream.specs.Positions.{NextRule}
use Rattle.stream.specs.RuleLists.{TellsFirst}
use Rattle.building.specs.Batch.{Record}
use Rattle.building.specs.Bounds.{slot_sets}
use Rattle.building.specs.Frames.{width}
use Rattle.building.specs.Kinds.{rule_above}
use Rattle.building.specs.Listed.{Listed}
use Rattle.building.specs.Slots.{slot_at}
use Rattle.building.specs.Coming.{Come, Coming, GoneOn, Joined}
use Rattle.building.specs.Standing.{AtRule, Standing, State, no_slots, stack_left}
use Rattle.building.specs.States.{moved, started}
use Rattle.building.proofs.Frames.{frames_cleared, paste_after}
use Rattle.building.proofs.Limits.{constants_stay}
use Rattle.building.proofs.NodeEnd.{node_passed}
use Rattle.building.proofs.NodeRules.{first_rule}
use Rattle.building.proofs.Pasting.{paste_low, same_behind}
use Rattle.building.proofs.Present.{NodeReady, body_here, frame_room, kind_here, label_here, node_of, node_ready, tree_kind_here}

-- ---- the start of a node
module _ (input : List ℕ) (t : State) (work : List ℕ) (made : List Record) (s : Coming input t work made) where
  pub coming_ready : NodeReady input t work
  coming_ready = node_ready input t work s.constants s.here s.frames.room

  module _ (rule : ℕ) (search : NextRule input t.rules (s.here.here.kind + rule_above) (number s.here.here 0) rule) where
    abbrev size : ℕ
    size = width t.shape.arity t.shape.states

    abbrev base : ℕ
    base = length s.here.stack * width t.shape.arity t.shape.states

    abbrev cleared : List ℕ
    cleared = paste work base (replicate size 0) size

    same_base : t.top * size ≡ base
    same_base = ap (λ x. x * width t.shape.arity t.shape.states) s.here.high

    asked : base + size ≤ t.asked
    asked = omega (arith, same_base, frame_room input t s.constants s.here)

    fits : base + size ≤ length work
    fits = omega (arith, asked, s.frames.room)

    enough : size ≤ length (replicate {A = ℕ} size 0)
    enough = omega (arith, length-replicate {A = ℕ} size 0)

    long : length cleared ≡ length work
    long = length-paste work base (replicate size 0) size fits enough

    low : (i : ℕ) → i < length (no_slots ∷ s.here.stack) * width t.shape.arity t.shape.states → slot_at cleared i ≤ t.from + t.count + 1
    low i h =
        paste_low work (replicate size 0) base size (t.from + t.count + 1) fits enough s.frames.low
        (λ j l. omega (arith, ap (λ x. x % slot_sets) (get_or-replicate {A = ℕ} size j 0 0 l))) i (omega (arith, suc-mul (length s.here.stack) size))

    come : Come input t work made (started t rule) cleared
    come = record {
      standing = record {
        constants = constants_stay input t (started t rule) refl refl refl refl refl s.constants;
        node = s.here;
        slots = no_slots;
        rule = subst (λ earlier. AtRule input t.node rule s.here.here s.here.earlier s.here.stack (earlier, no_slots)) s.earlier
            (first_rule input t s.constants t.node s.here.here s.here.earlier s.here.stack
            (tree_kind_here input t s.constants s.here) rule search);
        frames = record {
          frames = frames_cleared t.shape.arity t.shape.states work s.here.stack fits s.frames.frames;
          low = low;
          room = omega (arith, long, s.frames.room);
        };
        used = s.used;
      };
      limit = refl;
      asked = refl;
      number = refl;
      from = refl;
      count = refl;
      rest = same_behind work cleared long t.asked (λ i h. paste_after work (replicate size 0) base size fits enough i (omega (arith, asked)));
    }

  -- of the numbers that the code has
  pub has_come : {rule kind label from n : ℕ} {work' lists : List ℕ} {r : State} → Listed input lists → from ≡ t.top * width t.shape.arity t.shape.states
      → n ≡ width t.shape.arity t.shape.states → work' ≡ paste work from (replicate n 0) n → kind ≡ get_or input t.at 0 + rule_above
      → label ≡ get_or input (t.at + 1) 0 → TellsFirst lists kind label rule → r ≡ started t rule → Come input t work made r work'
  has_come {rule} {kind} {label} {from} {n} {work'} {r = r} listed e₁ e₂ e k l told result =
      subst₂ (λ x w. Come input t work made x w) (sym result) (sym pasted) (come rule found)
    where
      rules : RuleKind kind
      rules = subst RuleKind (sym k) coming_ready.rules

      low : label ≤ 63
      low = omega (arith, l, coming_ready.label)

      -- the lists are of the records that the rules begin with
      search : NextRule input t.rules kind label rule
      search = subst (λ x. NextRule input x kind label rule) (sym s.constants.rules) (told input (2 * nodes_in input + 3) listed.rules rules low)

      found : NextRule input t.rules (s.here.here.kind + rule_above) (number s.here.here 0) rule
      found =
          subst₂ (λ x y. NextRule input t.rules x y rule)
          (k ∙ ap (λ x. x + rule_above) (kind_here input t s.constants s.here))
          (l ∙ label_here input t s.constants s.here) search

      size : ℕ
      size = width t.shape.arity t.shape.states

      pasted : work' ≡ paste work (length s.here.stack * size) (replicate size 0) size
      pasted =
          e
          ∙ ap (λ x. paste work from (replicate x 0) x) e₂
          ∙ ap (λ x. paste work x (replicate size 0) size) (e₁ ∙ ap (λ x. x * size) s.here.high)

-- ---- from a node to the next
module _ (input : List ℕ) (t : State) (work : List ℕ) (made : List Record) (s : Standing input t work made) (done : length input ≤ t.rule)
    (more : t.node + 1 < t.nodes) where
  -- there is one more record
  coming_next : (behind : List StreamRecord) → s.node.behind ≡ behind → {top : ℕ} {work₁ : List ℕ} → Joined input t work made s top work₁
      → Coming input (moved t (t.node + 1) (t.at + 2) top) work₁ made
  coming_next [] e j =
      absurd (omega (arith, node_of input t s.constants s.node, ap length e, s.constants.nodes))
  coming_next (next ∷ behind) e {top} {work₁} j = record {
    constants = constants_stay input t (moved t (t.node + 1) (t.at + 2) top) refl refl refl refl refl s.constants;
    here = record {
      before = s.node.before ++ (s.node.here ∷ []);
      here = next;
      behind = behind;
      records = s.node.records ∙ ap (λ rs. s.node.before ++ (s.node.here ∷ rs)) e
          ∙ sym (append_assoc s.node.before (s.node.here ∷ []) (next ∷ behind));
      number = omega (arith, s.node.number, length-append s.node.before (s.node.here ∷ []));
      place = omega (arith, s.node.place, length-append s.node.before (s.node.here ∷ []));
      earlier = made;
      stack = s.slots ∷ stack_left s.node.here s.node.stack;
      passed = node_passed input t s.constants s.node t.rule (made, s.slots) s.rule done;
      high = j.high;
    };
    earlier = refl;
    frames = record { frames = j.frames.frames; low = j.frames.low; room = j.frames.room };
    used = s.used;
  }

  pub comes_next : {next top : ℕ} {work₁ : List ℕ} → next ≡ t.at + 1 + body_length (get_or input t.at 0) → Joined input t work made s top work₁
      → Coming input (moved t (t.node + 1) next top) work₁ made
  comes_next {next} {top} {work₁} e j =
      let two : t.at + 2 ≡ next = omega (arith, body_here input t s.constants s.node) in
      subst (λ at. Coming input (moved t (t.node + 1) at top) work₁ made) two (coming_next s.node.behind refl j)

  -- and so the building has gone on
  pub gone_on : {next top : ℕ} {work₁ work₂ : List ℕ} {r : State} → Joined input t work made s top work₁
      → Come input (moved t (t.node + 1) next top) work₁ made r work₂ → GoneOn input t work made r work₂
  gone_on j c = record {
    standing = c.standing;
    limit = c.limit;
    asked = c.asked;
    node = c.number;
    from = c.from;
    count = c.count;
    rest = c.rest ∙ j.rest;
  }
