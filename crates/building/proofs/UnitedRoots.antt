-- The slots of the accepting states united in a batch, state after state: another state, an accepting one. Then what the code asks of
-- the numbers, and what it has done.
use mathlib.Core.Bool.{Bool, false, not, true}
use mathlib.Core.List.{List, ◌++◌}
use mathlib.Core.Path.{◌∙◌, ◌≡◌, ap, subst₂, sym}
use Prim.Native.Nat.{◌*◌, ◌+◌, ◌-◌, ◌<◌, ◌^◌, ◌≤◌, ℕ}
use native.Mathlib.Nat.{suc-mul}
use native.Mathlib.Numerals.{add-one}
use native.Mathlib.Omega.{arith}
use borrow.Author.Tests.{not-false, not-true}
use lib.ListN.{drop, length}
use lib.Pow.{ones_lt, pow_pos}
use Rattle.paper.specs.Building.{Slots, accept_step, all_places, record_sets, union_record}
use Rattle.paper.specs.Lists.{has}
use Rattle.paper.specs.Query.{accepting_of}
use Rattle.paper.specs.Refusals.{nodes_in, query_in}
use Rattle.paper.specs.Stream.{records_of}
use Rattle.stream.specs.RuleLists.{TellsAccepting}
use Rattle.building.specs.Batch.{Made, Makes, Record, Set, empty, records_in, set_in}
use Rattle.building.specs.Bounds.{most_flags, most_states}
use Rattle.building.specs.Branches.{shelf_from}
use Rattle.building.specs.Frames.{width}
use Rattle.building.specs.Listed.{Listed}
use Rattle.building.specs.Roots.{UnitedTo, UnitesNext, united_to}
use Rattle.building.specs.Slots.{slot_at}
use Rattle.building.specs.Standing.{Constants, Standing, State}
use Rattle.building.proofs.Accepting.{accept_here, accept_next, accept_skip}
use Rattle.building.proofs.Frames.{flags_at_most, slot_below}
use Rattle.building.proofs.Making.{then_made}
use Rattle.building.proofs.Present.{NodeReady, frame_room, node_ready}
use Rattle.building.proofs.ReadInput.{accepting_are}

-- ---- one state after the other
module _ (input : List ℕ) (t : State) (work batch : List ℕ) where
  module _ (k : Constants input t) (q : ℕ) (found : Bool) (e : found ≡ has (accepting_of (records_of (drop t.rules input))) q)
      (m : Made) (batch₁ : List ℕ) (done : UnitedTo input t work q batch m batch₁) where
    accepts : has (query_in input).accepting q ≡ found
    accepts =
        ap (λ states. has states q) (accepting_are input k.query)
        ∙ ap (λ n. has (accepting_of (records_of (drop n input))) q) (sym k.rules) ∙ sym e

    next : (slots : Slots Set) (table : List Record)
        → united_to input t slots (q + 1) table ≡ accept_step record_sets (query_in input) t.node slots (united_to input t slots q table) q
    next slots table =
        ap (λ n. united_to input t slots n table) (add-one q) ∙ accept_next record_sets (query_in input) t.node slots (table, empty) q

    -- another state changes nothing
    united_skip : found ≡ false → UnitedTo input t work (q + 1) batch m batch₁
    united_skip none slots f =
        let h = done slots f in
        record {
          makes = λ base w.
              next slots (base ++ records_in t.count batch)
              ∙ accept_skip record_sets (query_in input) t.node slots (united_to input t slots q (base ++ records_in t.count batch)) q (accepts ∙ none)
              ∙ h.makes base w;
          more = h.more;
          few = omega (arith, h.few);
          at_hand = h.at_hand;
        }

    -- an accepting state's slot is united on the right
    united_more : found ≡ true → q < t.shape.states → {places slot : ℕ} {m' : Made} {batch₂ : List ℕ} → places ≡ 2 ^ t.shape.arity - 1
        → slot ≡ shelf_from t t.top q + places
        → Makes (union_record t.node places (set_in m.set) (set_in (slot_at work slot))) 1 t.from m.count batch₁ m' batch₂
        → UnitedTo input t work (q + 1) batch m' batch₂
    united_more one hq {places} {slot} {m'} {batch₂} e₁ e₂ u slots f = record {
      makes = λ base w.
          next slots (base ++ records_in t.count batch)
          ∙ accept_here record_sets (query_in input) t.node slots (united_to input t slots q (base ++ records_in t.count batch)) q (accepts ∙ one)
          ∙ united.makes base w;
      more = united.more;
      few = united.few;
      at_hand = united.at_hand;
    }
      where
        all : ℕ
        all = all_places (query_in input).arity

        all_places_lem : places ≡ all
        all_places_lem = e₁ ∙ ap (λ a. 2 ^ a - 1) k.arity

        right : set_in (slot_at work slot) ≡ slots q all
        right =
            ap (λ n. set_in (slot_at work n)) (e₂ ∙ ap (λ b. shelf_from t t.top q + b) all_places_lem)
            ∙ sym (f.sets q all hq (omega (arith, all_places_lem, e₁, ones_lt t.shape.arity)))

        united : Makes (λ table. union_record t.node all (united_to input t slots q table).1 (slots q all) (united_to input t slots q table).0)
            (q + 1) t.from t.count batch m' batch₂
        united =
            then_made t.from t.count batch q 1 (united_to input t slots q) (λ left. union_record t.node all left (slots q all)) m m' batch₁ batch₂
            (done slots f)
            (subst₂ (λ b x. Makes (union_record t.node b (set_in m.set) x) 1 t.from m.count batch₁ m' batch₂) all_places_lem right u)

-- ---- what the code asks of the numbers, and has done
pub record RootReady (input : List ℕ) (t : State) (work : List ℕ) (q : ℕ) : Type 0 where
  pub node : NodeReady input t work
  pub few_flags : 2 ^ t.shape.arity ≤ most_flags
  pub some_flag : 1 ≤ 2 ^ t.shape.arity
  pub slot : {shelf size : ℕ} → shelf ≡ shelf_from t t.top q → size ≡ 2 ^ t.shape.arity
      → (shelf + (size - 1) < length work) × (slot_at work (shelf + (size - 1)) ≤ t.from + t.count + 1)

pub root_ready : (input : List ℕ) (t : State) (work : List ℕ) (made : List Record) → Standing input t work made → (q : ℕ) → q < t.shape.states
    → RootReady input t work q
root_ready input t work made s q hq = record {
  node = node_ready input t work s.constants s.node s.frames.room;
  few_flags = flags_at_most t.shape.arity t.shape.few_places;
  some_flag = pow_pos t.shape.arity;
  slot = λ {shelf} {size} e₁ e₂.
      subst₂ (λ r b. (r + (b - 1) < length work) × (slot_at work (r + (b - 1)) ≤ t.from + t.count + 1)) (sym e₁) (sym e₂) at_places;
}
  where
    at_places : (shelf_from t t.top q + (2 ^ t.shape.arity - 1) < length work)
        × (slot_at work (shelf_from t t.top q + (2 ^ t.shape.arity - 1)) ≤ t.from + t.count + 1)
    at_places =
        let size : ℕ = width t.shape.arity t.shape.states in
        let b : ℕ = 2 ^ t.shape.arity - 1 in
        let below : q * 2 ^ t.shape.arity + b < size = slot_below t.shape.arity t.shape.states q b hq (ones_lt t.shape.arity) in
        let top : t.top * size ≡ length s.node.stack * size = ap (λ x. x * size) s.node.high in (
          omega (arith, frame_room input t s.constants s.node, s.frames.room),
          s.frames.low (shelf_from t t.top q + b) (omega (arith, suc-mul (length s.node.stack) size)),
        )

module _ (t : State) (lists work : List ℕ) (q : ℕ) (m : Made) (more : t.count ≤ m.count) (few : m.count ≤ t.count + q)
    (at_hand : m.set ≤ t.from + m.count + 1) (batch : List ℕ) (small : q < most_states) (found : Bool) (told : TellsAccepting lists q found) where
  -- whether the state is accepting, of any input whose rules are listed
  tells : (input : List ℕ) → Constants input t → Listed input lists → found ≡ has (accepting_of (records_of (drop t.rules input))) q
  tells input k listed =
      told input (2 * nodes_in input + 3) listed.rules small ∙ ap (λ n. has (accepting_of (records_of (drop n input))) q) (sym k.rules)

  pub next_skipped : not found ≡ true → UnitesNext t lists work q m batch m batch
  next_skipped none = record {
    more = more;
    few = omega arith;
    at_hand = at_hand;
    unites = λ first done input k listed.
        united_skip input t work first k q found (tells input k listed) m batch (done input k listed) (not-true found none);
  }

  pub next_united : not found ≡ false → q < t.shape.states → {shelf size : ℕ} {m' : Made} {batch' : List ℕ} → shelf ≡ shelf_from t t.top q
      → size ≡ 2 ^ t.shape.arity
      → Makes (union_record t.node (size - 1) (set_in m.set) (set_in (slot_at work (shelf + (size - 1))))) 1 t.from m.count batch m' batch'
      → UnitesNext t lists work q m batch m' batch'
  next_united one hq {shelf} {size} e₁ e₂ u = record {
    more = omega (arith, u.more);
    few = omega (arith, u.few);
    at_hand = u.at_hand;
    unites = λ first done input k listed.
        united_more input t work first k q found (tells input k listed) m batch (done input k listed) (not-false found one) hq
        (ap (λ b. b - 1) e₂) (ap (λ r. r + (size - 1)) e₁) u;
  }
