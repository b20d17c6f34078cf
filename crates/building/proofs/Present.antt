-- What is known at the present node. First how many subtrees can be unjoined; then the node's bytes, its number and its frame, and at a
-- branch that there are two frames below; last what the code asks of these numbers.
use mathlib.Core.Bool.{true}
use mathlib.Core.List.{List, [], ◌++◌, ◌∷◌}
use mathlib.Core.Logic.{inl, inr, ⊎_elim}
use mathlib.Core.Path.{◌∙◌, ◌≡◌, ap, refl, subst, subst₂, sym}
use Prim.Native.Nat.{◌*◌, ◌+◌, ◌<◌, ◌≤◌, suc, ℕ}
use native.Mathlib.Omega.{arith}
use borrow.Author.Tests.{leb-true, ltb-true}
use lib.ListN.{get_or, length, length-append}
use Rattle.paper.specs.Building.{build_work}
use Rattle.paper.specs.Refusals.{nodes_in, query_in, tree_end_tests, tree_part, tree_tests}
use Rattle.paper.specs.Stream.{StreamRecord, body_length, number, whole}
use Rattle.paper.specs.Tree.{Tree, grow, most_from, most_unjoined, unjoined}
use Rattle.laws.proofs.AtEach.{part_each}
use Rattle.laws.proofs.Replies.{Passes}
use Rattle.laws.proofs.StreamPlaces.{tree_kind}
use Rattle.laws.specs.StreamCauses.{RuleKind, TreeKind}
use Rattle.stream.specs.Positions.{record_at}
use Rattle.stream.proofs.Positions.{number_byte, whole_inside}
use Rattle.stream.proofs.TreeSteps.{grow_few, unjoined_nodes}
use Rattle.building.specs.Bounds.{most_nodes}
use Rattle.building.specs.Frames.{width}
use Rattle.building.specs.Kinds.{leaf_kind, rule_above}
use Rattle.building.specs.Batch.{Record}
use Rattle.building.specs.Standing.{AtNode, Constants, Standing, State}
use Rattle.building.proofs.Frames.{top_fits}
use Rattle.building.proofs.NodeOrder.{stack_high, tests_at_lem, two_unjoined}
use Rattle.building.proofs.Places.{TreePlace, tree_place}
use Rattle.building.proofs.ReadInput.{tree_passes}

-- ---- how many subtrees are unjoined
most_from_lem : (records : List StreamRecord) (s : List Tree × ℕ) → most_from s records ≤ length s.0 + length records
most_from_lem [] s = omega arith
most_from_lem (r ∷ records) s = omega (arith, most_from_lem records (grow s r), grow_few s r)

-- no more than there are nodes
pub most_nodes_lem : (records : List StreamRecord) → most_unjoined records ≤ length records
most_nodes_lem records = omega (arith, most_from_lem records ([], 0))

-- ---- the present node
module _ (input : List ℕ) (t : State) (k : Constants input t) (n : AtNode input t.node t.at t.top) where
  tests : Passes (tree_part (n.before ++ (n.here ∷ n.behind)))
  tests = subst (λ (rs : List StreamRecord). Passes (tree_part rs)) n.records (tree_passes input k.tree)

  tests_here : Passes (tree_tests n.before n.here)
  tests_here =
      let all : List StreamRecord = n.before ++ (n.here ∷ n.behind) in
      tests_at_lem tree_tests 0 [] n.before n.here n.behind (part_each tree_tests tree_end_tests 0 all tests)

  place : TreePlace input (2 * length n.before) n.here
  place = tree_place n.before n.here n.behind input n.records

  stands_here : record_at input t.at ≡ n.here
  stands_here = ap (record_at input) n.place ∙ place.stands

  pub tree_kind_here : TreeKind n.here.kind
  tree_kind_here = tree_kind n.here.kind place.kind

  pub kind_here : get_or input t.at 0 ≡ n.here.kind
  kind_here = ap (λ (r : StreamRecord). r.kind) stands_here

  -- its body is one byte, which the input has
  pub body_here : body_length (get_or input t.at 0) ≡ 1
  body_here = ap body_length kind_here ∙ one
    where
      one : body_length n.here.kind ≡ 1
      one = ⊎_elim (λ e. ap body_length e) (λ e. ap body_length e) tree_kind_here

  pub inside_here : t.at + 2 ≤ length input
  inside_here =
      let whole = subst (λ (r : StreamRecord). whole r ≡ true) (sym stands_here) tests_here.1.0 in
      omega (arith, place.inside, n.place, body_here, whole_inside input t.at (omega (arith, place.inside, n.place)) whole)

  pub label_here : get_or input (t.at + 1) 0 ≡ number n.here 0
  label_here =
      sym (ap (λ (r : StreamRecord). number r 0) (sym stands_here)
      ∙ number_byte input t.at (get_or input t.at 0) 0 (t.at + 1) refl (omega (arith, body_here)) (omega arith))

  pub low_label : get_or input (t.at + 1) 0 ≤ 63
  low_label = omega (arith, label_here, leb-true (number n.here 0) 63 tests_here.1.1.0)

  pub few_nodes : t.node < most_nodes
  few_nodes = omega (arith, n.number, ltb-true (length n.before) most_nodes tests_here.0)

  -- it is one of the nodes
  pub node_of : nodes_in input ≡ suc (t.node + length n.behind)
  node_of = omega (arith, n.number, ap length n.records, length-append n.before (n.here ∷ n.behind))

  -- ---- its frame
  high : t.top ≡ length (unjoined n.before)
  high = n.high ∙ stack_high (query_in input) n.before n.earlier n.stack n.passed

  pub few_frames : t.top ≤ t.node
  few_frames = omega (arith, high, n.number, unjoined_nodes n.before)

  pub frame_room : t.top * width t.shape.arity t.shape.states + width t.shape.arity t.shape.states ≤ t.asked
  frame_room =
      let work : List StreamRecord → ℕ = λ rs. build_work (most_unjoined rs) (query_in input) in
      subst₂ (λ (a s : ℕ). t.top * width a s + width a s ≤ t.asked) (sym k.arity) (sym k.states)
      (top_fits (query_in input) n.before (n.here ∷ n.behind) t.top t.asked high (omega (arith, k.asked, ap work n.records)))

  -- a branch has two subtrees to join
  pub two_frames : (n.here.kind ≡ leaf_kind → ⊥) → 2 ≤ t.top
  two_frames e = omega (arith, high, two_unjoined n.before n.here n.behind tests e)

-- ---- what the code asks
pub record NodeReady (input : List ℕ) (t : State) (work : List ℕ) : Type 0 where
  pub bytes : t.at + 2 ≤ length input
  pub kind : get_or input t.at 0 ≤ 2
  pub rules : RuleKind (get_or input t.at 0 + rule_above)
  pub label : get_or input (t.at + 1) 0 ≤ 63
  pub body : body_length (get_or input t.at 0) ≡ 1
  pub frames : t.top < most_nodes
  pub nodes : t.node < most_nodes
  pub frame : t.top * width t.shape.arity t.shape.states + width t.shape.arity t.shape.states ≤ length work

pub node_ready : (input : List ℕ) (t : State) (work : List ℕ) → Constants input t → AtNode input t.node t.at t.top
    → t.asked ≤ length work → NodeReady input t work
node_ready input t work k n room = record {
  bytes = inside_here input t k n;
  kind = ⊎_elim (λ e. omega (arith, kind_here input t k n)) (λ e. omega (arith, kind_here input t k n)) (tree_kind_here input t k n);
  rules =
      ⊎_elim (λ e. inl (omega (arith, kind_here input t k n))) (λ e. inr (omega (arith, kind_here input t k n))) (tree_kind_here input t k n);
  label = low_label input t k n;
  body = body_here input t k n;
  frames = omega (arith, few_frames input t k n, few_nodes input t k n);
  nodes = few_nodes input t k n;
  frame = omega (arith, frame_room input t k n);
}

-- where the building stands
pub standing_ready : {input : List ℕ} {t : State} {work : List ℕ} {made : List Record} → Standing input t work made → NodeReady input t work
standing_ready {input} {t} {work} s = node_ready input t work s.constants s.node s.frames.room
