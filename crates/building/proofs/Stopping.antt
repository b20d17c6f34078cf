-- The end: the root's slots are united, and the building stops with the set that the paper's building makes, or past the limit.
-- First that no node is behind, so that the stack has the root's slots alone; then the set.
use mathlib.Core.List.{List, [], ◌++◌, ◌∷◌, tail-eq_of_cons-eq}
use mathlib.Core.Path.{◌∙◌, ◌≡◌, ap, refl, subst, sym}
use Prim.Native.Nat.{◌*◌, ◌+◌, ◌<◌, ◌≤◌, ℕ}
use native.Mathlib.Omega.{arith}
use lib.ListN.{length}
use Rattle.std.specs.Prelude.{Err, Ok}
use Rattle.paper.specs.declared.Refusal.{Refusal}
use Rattle.paper.specs.Building.{Slots, accept_step, made, record_sets}
use Rattle.paper.specs.Lists.{through, up_to}
use Rattle.paper.specs.Refusals.{tree_part, made_from, query_in, tree_in}
use Rattle.paper.specs.Stream.{StreamRecord, records_of, tree_records}
use Rattle.paper.specs.Tree.{root}
use Rattle.laws.proofs.Replies.{Passes}
use Rattle.building.specs.Batch.{Made, Makes, Record, Set, empty, records_in, set_in}
use Rattle.building.specs.Bounds.{field_numbers, waiting_records}
use Rattle.building.specs.Frames.{FrameIs, width}
use Rattle.building.specs.NodeOrder.{Stack, from_node}
use Rattle.building.specs.Roots.{Rooted, Roots, UnitedTo, united_to}
use Rattle.building.specs.Standing.{Filling, Standing, State, stack_left}
use Rattle.building.specs.States.{Counts, more}
use Rattle.building.proofs.Accepting.{made_end, root_last}
use Rattle.building.proofs.Limits.{constants_stay, more_records}
use Rattle.building.proofs.NodeEnd.{node_passed}
use Rattle.building.proofs.NodeOrder.{node_order}
use Rattle.building.proofs.Present.{node_of}
use Rattle.building.proofs.ReadInput.{tree_passes}

module _ (input : List ℕ) (t : State) (work : List ℕ) (before : List Record) (s : Standing input t work before) (done : length input ≤ t.rule)
    (last : t.nodes ≤ t.node + 1) where
  tree : Passes (tree_part (tree_records (records_of input)))
  tree = tree_passes input s.constants.tree

  -- no node is behind
  none_behind : (behind : List StreamRecord) → s.node.behind ≡ behind → behind ≡ []
  none_behind [] e = refl
  none_behind (r ∷ rs) e =
      absurd (omega (arith, node_of input t s.constants s.node, ap length e, s.constants.nodes))

  last_node : s.node.behind ≡ []
  last_node = none_behind s.node.behind refl

  all_records : tree_records (records_of input) ≡ s.node.before ++ (s.node.here ∷ [])
  all_records = s.node.records ∙ ap (λ rs. s.node.before ++ (s.node.here ∷ rs)) last_node

  -- the stack has the root's slots alone
  passed : from_node (query_in input) (tree_records (records_of input)) 0 [] [] ≡ (before, s.slots ∷ stack_left s.node.here s.node.stack)
  passed =
      ap (λ rs. from_node (query_in input) rs 0 [] []) all_records
      ∙ node_passed input t s.constants s.node t.rule (before, s.slots) s.rule done

  alone : stack_left s.node.here s.node.stack ≡ []
  alone = tail-eq_of_cons-eq (ap (λ (z : Stack). z.1) (sym passed ∙ node_order (query_in input) (tree_records (records_of input)) tree))

  root_number : root (tree_in input) ≡ t.node
  root_number =
      omega (
        arith,
        root_last (query_in input) (tree_records (records_of input)) tree,
        node_of input t s.constants s.node,
        ap length last_node,
      )

  -- so this is what is made
  made_of_roots : made (query_in input) (tree_in input) ≡ united_to input t s.slots (query_in input).states before
  made_of_roots =
      made_end (query_in input) (tree_records (records_of input)) tree before s.slots
      (passed ∙ ap (λ (stack : List (Slots Set)). (before, s.slots ∷ stack)) alone)
      ∙ ap (λ n. through (accept_step record_sets (query_in input) n s.slots) (before, empty) (up_to (query_in input).states)) root_number

-- ---- the set, and its records
module _ (input : List ℕ) (t : State) (work batch : List ℕ) (base : List Record) (f : Filling input t work batch base) (few : t.count ≤ waiting_records)
    (done : length input ≤ t.rule) (last : t.nodes ≤ t.node + 1) (m : Made) (batch' : List ℕ)
    (u : UnitedTo input t work t.shape.states batch m batch') where
  abbrev s : Standing input t work (base ++ records_in t.count batch)
  s = f.standing

  united : Makes (united_to input t s.slots t.shape.states) t.shape.states t.from t.count batch m batch'
  united =
      u s.slots
      (subst (λ n. FrameIs t.shape.arity t.shape.states work (n * width t.shape.arity t.shape.states) s.slots) (sym s.node.high) s.frames.frames.0)

  -- its number fits 16 bits
  pub set_fits : m.set < field_numbers
  set_fits = omega (arith, united.at_hand, united.few, t.shape.few_states, few, f.few, s.constants.limit)

  result : made (query_in input) (tree_in input) ≡ (base ++ records_in m.count batch', set_in m.set)
  result =
      made_of_roots input t work (base ++ records_in t.count batch) s done last
      ∙ ap (λ n. united_to input t s.slots n (base ++ records_in t.count batch)) (sym s.constants.states)
      ∙ united.makes base f.start

  made_many : length (made_from input) ≡ t.from + m.count
  made_many = omega (arith, ap (λ z. length z.0) result, more_records base m.count batch', f.start)

  -- they fit
  pub rooted : {r : State} → Counts t m.count t.rule (Ok tt) r → Rooted input t base m.set r batch'
  rooted (fits, e) =
      subst (λ r. Rooted input t base m.set r batch') (sym e)
      (record {
        done = record {
          constants = constants_stay input t (more t m.count t.rule) refl refl refl refl refl s.constants;
          made = result;
          used = omega (arith, more_records base m.count batch', f.start);
          few = omega (arith, f.few);
          at_hand = united.at_hand;
        };
        start = f.start;
        count = omega (arith, united.few, t.shape.few_states);
        limit = refl;
        asked = refl;
      })

  -- or they do not
  pub past_roots : {why : Refusal} {r : State} → Counts t m.count t.rule (Err why) r → Roots input t base (Err why) r batch'
  past_roots {why} (many, sixth, e) =
      subst (λ r. Roots input t base (Err why) r batch') (sym e)
      (record { constants = s.constants; many = omega (arith, made_many, f.few); sixth = sixth }, refl, refl)
