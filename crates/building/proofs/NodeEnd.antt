-- What the present node comes to, once all its rules are done: the stack that it leaves. Then that the records made so far stay, so
-- that too many of them are too many at the end.
use mathlib.Core.Bool.{Bool, cond, false, true}
use mathlib.Core.List.{List, [], ◌++◌, ◌∷◌}
use mathlib.Core.Path.{◌∙◌, ◌≡◌, ap, refl, subst, sym}
use Prim.Native.Nat.{◌≤◌, suc, ℕ}
use native.Mathlib.Omega.{arith}
use borrow.Author.Tests.{eqb-false}
use lib.Dec.{eqb}
use lib.ListN.{drop, get_or, length}
use Rattle.paper.specs.Building.{Slots, branch_step, leaf_step, record_sets, splits}
use Rattle.paper.specs.Lists.{through}
use Rattle.paper.specs.Query.{Query, Rule, rules_of}
use Rattle.paper.specs.Refusals.{made_from, query_in}
use Rattle.paper.specs.Stream.{StreamRecord, number, records_of, tree_records}
use Rattle.stream.proofs.Positions.{records_none}
use Rattle.building.specs.Batch.{Record, Set}
use Rattle.building.specs.Growing.{Grows}
use Rattle.building.specs.Kinds.{leaf_kind}
use Rattle.building.specs.NodeOrder.{Stack, from_node, join_slots, node_slots, push_slots}
use Rattle.building.specs.Standing.{AtNode, AtRule, Constants, State, at_node, no_slots, stack_left}
use Rattle.building.proofs.Growing.{branches_grow, grows_then, leaves_grow, node_early}
use Rattle.building.proofs.NodeOrder.{passed_next, passed_rest}
use Rattle.building.proofs.Present.{two_frames}
use Rattle.building.proofs.ReadInput.{tree_passes}

module _ (Q : Query) (r : StreamRecord) (n : ℕ) (stack : List (Slots Set)) where
  -- all rules of a node make what its record does to the stack
  node_comes_to : ((r.kind ≡ leaf_kind → ⊥) → 2 ≤ length stack) → (s : List Record)
      → node_slots Q r n stack s
      ≡ ((at_node Q r n stack Q.rules (s, no_slots)).0, (at_node Q r n stack Q.rules (s, no_slots)).1 ∷ stack_left r stack)
  node_comes_to two s = go (eqb r.kind leaf_kind) refl
    where
      joined : List (Slots Set) → List Record × Slots Set
      joined xs =
          through (branch_step record_sets n (get_or xs 1 no_slots) (get_or xs 0 no_slots)) (s, no_slots) (splits Q.arity Q.rules (number r 0))

      branch : (xs : List (Slots Set)) → 2 ≤ length xs → join_slots Q (number r 0) n xs s ≡ ((joined xs).0, (joined xs).1 ∷ drop 2 xs)
      branch [] h = absurd (omega arith)
      branch (x ∷ []) h = absurd (omega arith)
      branch (last ∷ older ∷ others) h = refl

      rules : Bool → List Record × Slots Set
      rules c = cond c (through (leaf_step record_sets (number r 0) n) (s, no_slots) Q.rules) (joined stack)

      go : (c : Bool) → eqb r.kind leaf_kind ≡ c
          → cond {A = Stack} c (push_slots Q (number r 0) n stack s) (join_slots Q (number r 0) n stack s)
          ≡ ((rules c).0, (rules c).1 ∷ cond c stack (drop 2 stack))
      go true e = refl
      go false e = branch stack (two (eqb-false r.kind leaf_kind e))

  -- with no rule left, z is what they make
  rules_done : (z : List Record × Slots Set) → at_node Q r n stack [] z ≡ z
  rules_done z = go (eqb r.kind leaf_kind)
    where
      go : (c : Bool) → cond {A = List Record × Slots Set} c z z ≡ z
      go true = refl
      go false = refl

  rules_grow : (rules : List Rule) (z : List Record × Slots Set) → Grows z.0 (at_node Q r n stack rules z).0
  rules_grow rules z = go (eqb r.kind leaf_kind)
    where
      f : Slots Set
      f = get_or stack 1 no_slots

      g : Slots Set
      g = get_or stack 0 no_slots

      go : (c : Bool)
          → Grows z.0 (cond {A = List Record × Slots Set} c (through (leaf_step record_sets (number r 0) n) z rules)
          (through (branch_step record_sets n f g) z (splits Q.arity rules (number r 0)))).0
      go true = leaves_grow (number r 0) n rules z
      go false = branches_grow n f g (splits Q.arity rules (number r 0)) z

module _ (input : List ℕ) (t : State) (k : Constants input t) (n : AtNode input t.node t.at t.top) where
  two : (n.here.kind ≡ leaf_kind → ⊥) → 2 ≤ length n.stack
  two e = omega (arith, n.high, two_frames input t k n e)

  abbrev all_rules : List Record × Slots Set
  all_rules = at_node (query_in input) n.here t.node n.stack (query_in input).rules (n.earlier, no_slots)

  abbrev on_top : List Record × Slots Set → Stack
  on_top z = (z.0, z.1 ∷ stack_left n.here n.stack)

  comes_to : node_slots (query_in input) n.here (length n.before) n.stack n.earlier ≡ on_top all_rules
  comes_to =
      ap (λ m. node_slots (query_in input) n.here m n.stack n.earlier) (sym n.number)
      ∙ node_comes_to (query_in input) n.here t.node n.stack two n.earlier

  module _ (rule : ℕ) (z : List Record × Slots Set) (a : AtRule input t.node rule n.here n.earlier n.stack z) where
    -- the stack behind the node, where no rule is left
    pub node_passed : length input ≤ rule
        → from_node (query_in input) (n.before ++ (n.here ∷ [])) 0 [] [] ≡ (z.0, z.1 ∷ stack_left n.here n.stack)
    node_passed h =
        passed_next (query_in input) n.before n.earlier n.stack n.passed n.here
        ∙ comes_to
        ∙ ap on_top
        (sym a.left
        ∙ ap (λ rs. at_node (query_in input) n.here t.node n.stack (rules_of rs) z) (records_none input rule h)
        ∙ rules_done (query_in input) n.here t.node n.stack z)

    -- the records made so far are among those made in the end
    pub made_stay : Grows z.0 (made_from input)
    made_stay =
        grows_then
        (subst (λ y. Grows z.0 y.0) a.left
        (rules_grow (query_in input) n.here t.node n.stack (rules_of (records_of (drop rule input))) z))
        (node_early (query_in input) (tree_records (records_of input)) (tree_passes input k.tree) n.behind (suc (length n.before))
        (on_top all_rules).1 all_rules.0 goes_on)
      where
        goes_on : from_node (query_in input) n.behind (suc (length n.before)) (on_top all_rules).1 all_rules.0
            ≡ from_node (query_in input) (tree_records (records_of input)) 0 [] []
        goes_on =
            ap (λ (y : Stack). from_node (query_in input) n.behind (suc (length n.before)) y.1 y.0) (sym comes_to)
            ∙ sym (passed_rest (query_in input) n.before n.earlier n.stack n.passed (n.here ∷ n.behind))
            ∙ ap (λ rs. from_node (query_in input) rs 0 [] []) (sym n.records)
