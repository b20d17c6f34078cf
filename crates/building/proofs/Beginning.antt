-- The beginning of a build. First that a refusal of the tree, of the query or of the work is the build's, with a number up to 5; then
-- that the building comes to the first node.
use mathlib.Core.List.{List, [], ◌++◌, ◌∷◌, append-nil}
use mathlib.Core.Path.{◌∙◌, ◌≡◌, ap, ap₂, refl, subst, subst₂, sym}
use Prim.Native.Nat.{◌*◌, ◌+◌, ◌-◌, ◌<◌, ◌^◌, ◌≤◌, min, ℕ}
use native.Mathlib.Nat.{zero-mul}
use native.Mathlib.Omega.{arith}
use borrow.Author.Tests.{lt-leb}
use lib.ListN.{drop, length, length-drop, take}
use lib.Seq.{drop-length}
use Rattle.paper.specs.Refusals.{No, Test, answer, build, head_from, made_from, no, nodes_in, number_in, query_in, query_part, refused, tree_end}
use Rattle.paper.specs.Refusals.{tree_part, unless, work_for}
use Rattle.paper.specs.Stream.{StreamRecord, query_records, records_of, tree_records}
use Rattle.paper.specs.Tree.{most_unjoined}
use Rattle.laws.proofs.AtEach.{ThreeOrFour, query_says, tree_says}
use Rattle.laws.proofs.ReadTree.{tree_read}
use Rattle.laws.proofs.Replies.{Passes, answered, refused_append, says_refused, unless_append}
use Rattle.stream.specs.declared.head.QueryFacts.{QueryFacts}
use Rattle.stream.specs.declared.tree.TreeFacts.{TreeFacts}
use Rattle.stream.specs.RuleLists.{Listable, Lists, RuleLists, list_numbers}
use Rattle.stream.specs.Reading.{query_facts, query_reply, tree_facts, tree_reply}
use Rattle.stream.proofs.AfterTree.{facts_after_tree, reply_after_tree}
use Rattle.stream.proofs.Room.{query_listable}
use Rattle.building.specs.Bounds.{most_nodes, most_places, most_records, most_states}
use Rattle.building.specs.Frames.{width}
use Rattle.building.specs.Coming.{Come, Coming}
use Rattle.building.specs.Listed.{Listed}
use Rattle.building.specs.Splits.{Noted}
use Rattle.building.specs.Standing.{AtNode, InWork, State}
use Rattle.building.specs.Start.{Started}
use Rattle.building.proofs.Frames.{frames_at_most, work_frames}
use Rattle.building.proofs.ListedRules.{part_behind, rules_stay}
use Rattle.building.proofs.Present.{most_nodes_lem}
use Rattle.building.proofs.ReadInput.{few_states, query_part_passes, small_arity, tree_passes}

-- ---- refusals
module _ (input : List ℕ) (work_length table_length : ℕ) where
  -- of the tree
  pub tree_refused : {n : No} → refused n ≡ tree_reply input → (build input work_length table_length ≡ refused n) × (number_in n ≤ 5)
  tree_refused e = (
    refused_append (tree_part (tree_records (records_of input))) _ (tree_facts input) (head_from input, made_from input) (sym e),
    omega (arith, says_refused (λ w. number_in w ≤ 2) (tree_part (tree_records (records_of input))) (tree_facts input) (tree_says (tree_records (records_of input))) (sym e)),
  )

  module _ (tree : Passes (tree_part (tree_records (records_of input)))) where
    -- of the query
    query_refused : {n : No} → refused n ≡ query_reply input (2 * nodes_in input) → (build input work_length table_length ≡ refused n) × (number_in n ≤ 5)
    query_refused {n} e = (
      unless_append (tree_part (tree_records (records_of input))) _ (head_from input, made_from input) tree
          ∙ refused_append tests _ (query_facts input (2 * nodes_in input)) (head_from input, made_from input) reply,
      omega (arith, says_refused ThreeOrFour tests (query_facts input (2 * nodes_in input)) (query_says (tree_end input) (query_records (records_of input))) reply),
    )
      where
        tests : List Test
        tests = query_part (tree_end input) (query_records (records_of input))

        reply : unless tests (query_facts input (2 * nodes_in input)) ≡ refused n
        reply = sym (reply_after_tree input tree) ∙ sym e

    -- of the work
    work_refused : Passes (query_part (tree_end input) (query_records (records_of input))) → work_length < work_for input → build input work_length table_length ≡ refused (no 5)
    work_refused query short =
        unless_append (tree_part (tree_records (records_of input))) _ (head_from input, made_from input) tree
        ∙ unless_append (query_part (tree_end input) (query_records (records_of input))) _ (head_from input, made_from input) query
        ∙ rw (lt-leb (work_for input) work_length short) refl

-- ---- what was read
pub record ReadFacts (input : List ℕ) (tree : TreeFacts) (query : QueryFacts) : Type 0 where
  pub tree_reply_lem : tree_reply input ≡ answer (tree_facts input)
  pub query_reply_lem : query_reply input (2 * nodes_in input) ≡ answer (query_facts input (2 * nodes_in input))
  pub nodes : tree.nodes ≡ nodes_in input
  pub most : tree.most ≡ most_unjoined (tree_records (records_of input))
  pub rules : query.rules ≡ 2 * nodes_in input + 3
  pub arity : query.arity ≡ (query_in input).arity
  pub states : query.states ≡ (query_in input).states

-- the tree that is answered ends behind its nodes
tree_end_lem : (input : List ℕ) (tree : TreeFacts) → answer tree ≡ tree_reply input → tree.end ≡ 2 * nodes_in input
tree_end_lem input tree e = sym (ap (λ (f : TreeFacts). f.end) (answered (tree_part (tree_records (records_of input))) (sym e)).1)

pub read_facts : (input : List ℕ) (tree : TreeFacts) (query : QueryFacts) → answer tree ≡ tree_reply input
    → answer query ≡ query_reply input tree.end → ReadFacts input tree query
read_facts input tree query e e' = record {
  tree_reply_lem = sym e ∙ ap answer (sym tree_is);
  query_reply_lem = sym here ∙ ap answer (sym query_is);
  nodes = sym (ap (λ (f : TreeFacts). f.nodes) tree_is);
  most = sym (ap (λ (f : TreeFacts). f.most) tree_is);
  rules = sym (ap (λ (f : QueryFacts). f.rules) query_is);
  arity = ap (λ (f : QueryFacts). f.arity) (sym query_is ∙ facts_after_tree input);
  states = ap (λ (f : QueryFacts). f.states) (sym query_is ∙ facts_after_tree input);
}
  where
    tree_is : tree_facts input ≡ tree
    tree_is = (answered (tree_part (tree_records (records_of input))) (sym e)).1

    here : answer query ≡ query_reply input (2 * nodes_in input)
    here = e' ∙ ap (query_reply input) (tree_end_lem input tree e)

    query_is : query_facts input (2 * nodes_in input) ≡ query
    query_is = (answered (query_part (2 * nodes_in input) (records_of (drop (2 * nodes_in input) input))) (sym here)).1

-- a query behind a tree that is answered
pub query_refused_at : (input : List ℕ) (work_length table_length : ℕ) {tree : TreeFacts} {n : No} → answer tree ≡ tree_reply input
    → refused n ≡ query_reply input tree.end → (build input work_length table_length ≡ refused n) × (number_in n ≤ 5)
query_refused_at input work_length table_length {tree} e e' =
    query_refused input work_length table_length (answered (tree_part (tree_records (records_of input))) (sym e)).0
    (e' ∙ ap (query_reply input) (tree_end_lem input tree e))

module _ (input : List ℕ) (tree : TreeFacts) (query : QueryFacts) (f : ReadFacts input tree query) where
  passes : Passes (tree_part (tree_records (records_of input)))
  passes = tree_passes input f.tree_reply_lem

  -- in numbers that the code can count with
  pub small : (tree.most ≤ most_nodes) × (query.arity ≤ most_places) × (query.states ≤ most_states)
  small = (
    omega (arith, f.most, most_nodes_lem (tree_records (records_of input)), (tree_read (tree_records (records_of input)) passes).2),
    omega (arith, f.arity, (small_arity input f.query_reply_lem).1),
    omega (arith, f.states, (few_states input f.query_reply_lem).1),
  )

  pub asked_fits : {n : ℕ} → n ≡ width query.arity query.states → (1 + tree.most) * n ≤ 1048576
  asked_fits {n} e =
      omega (
        arith,
        ap (λ x. (1 + tree.most) * x) e,
        frames_at_most query.arity query.states (1 + tree.most) small.1 small.2 (omega (arith, small.0)),
      )

  -- the work asked for
  pub asked_is : {n : ℕ} → n ≡ width query.arity query.states → (1 + tree.most) * n ≡ work_for input
  asked_is e =
      ap₂ (λ m n. (1 + m) * n) f.most (e ∙ ap₂ width f.arity f.states)
      ∙ sym (work_frames (most_unjoined (tree_records (records_of input))) (query_in input))

  -- the query is short enough for lists of its rules
  listable : Listable input (2 * nodes_in input + 3)
  listable =
      let at : ℕ = 2 * nodes_in input in
      query_listable input at (query_facts input at) (sym f.query_reply_lem) (omega (arith, (tree_read (tree_records (records_of input)) passes).2))

  -- the rules are listed, in lists that are long enough
  pub rules_listed : (lists : List ℕ) {lists' : List ℕ} → Lists input query.rules lists lists' → list_numbers ≤ length lists
      → RuleLists input (2 * nodes_in input + 3) lists'
  rules_listed lists {lists'} told long =
      subst (λ n. RuleLists input n lists') f.rules (told.listed (subst (Listable input) (sym f.rules) listable) long)

  -- and the notes for their flags stand behind them
  pub lookup_listed : (lists notes : List ℕ) {size : ℕ} → RuleLists input (2 * nodes_in input + 3) lists → list_numbers ≤ length lists
      → size ≡ 2 ^ query.arity → Noted size notes
      → Listed input (take list_numbers lists ++ (notes ++ drop (length lists - list_numbers) (drop list_numbers lists)))
  lookup_listed lists notes rules long e noted =
      let behind : List ℕ = drop (length lists - list_numbers) (drop list_numbers lists) in
      let none : behind ≡ [] = ap (λ n. drop n (drop list_numbers lists)) (sym (length-drop list_numbers lists)) ∙ drop-length (drop list_numbers lists) in
      record {
        rules = rules_stay lists (notes ++ behind) long input (2 * nodes_in input + 3) listable rules;
        splits =
            subst₂ Noted (e ∙ ap (λ n. 2 ^ n) f.arity)
            (sym (part_behind lists (notes ++ behind) long ∙ ap (λ l. notes ++ l) none ∙ append-nil notes)) noted;
      }

  -- too short
  pub short_work : (work : List ℕ) (table_length : ℕ) {n : ℕ} → n ≡ width query.arity query.states → length work < (1 + tree.most) * n
      → build input (length work) table_length ≡ refused (no 5)
  short_work work table_length e h =
      work_refused input (length work) table_length passes (query_part_passes input f.query_reply_lem passes) (omega (arith, asked_is e))

  -- the first node
  first_node : (node at top : ℕ) → node ≡ 0 → at ≡ 0 → top ≡ 0 → (records : List StreamRecord) → tree_records (records_of input) ≡ records
      → (n : AtNode input node at top) × (n.earlier ≡ []) × (n.stack ≡ [])
  first_node node at top number place high [] e = absurd (omega (arith, (tree_read (tree_records (records_of input)) passes).1, ap length e))
  first_node node at top number place high (r ∷ rs) e =
      let n : AtNode input node at top = record {
        before = [];
        here = r;
        behind = rs;
        records = e;
        number = number;
        place = place;
        earlier = [];
        stack = [];
        passed = refl;
        high = high;
      } in
      (n, refl, refl)

  module _ (t : State) (work : List ℕ) (entries : ℕ) (limit : t.limit ≡ min entries most_records) where
    -- a state with the numbers that were read comes to it
    pub comes_first : t.from ≡ 0 → t.count ≡ 0 → t.nodes ≡ tree.nodes → t.rules ≡ query.rules
        → t.shape.arity ≡ query.arity → t.shape.states ≡ query.states → t.asked ≡ work_for input → t.asked ≤ length work → t.node ≡ 0 → t.at ≡ 0
        → t.top ≡ 0 → Coming input t work []
    comes_first from count nodes rules arity states asked room node at top =
        let (n, none, empty-stack) = first_node t.node t.at t.top node at top (tree_records (records_of input)) refl in
        record {
          constants = record {
            tree = f.tree_reply_lem;
            query = f.query_reply_lem;
            nodes = nodes ∙ f.nodes;
            rules = rules ∙ f.rules;
            arity = arity ∙ f.arity;
            states = states ∙ f.states;
            asked = asked;
            limit = omega arith;
          };
          here = n;
          earlier = none;
          frames = subst (InWork t work) (sym empty-stack)
              (record { frames = tt; low = λ i h. absurd (omega (arith, zero-mul (width t.shape.arity t.shape.states))); room = room });
          used = omega arith;
        }

    pub first_started : {r : State} {work' lists : List ℕ} → Come input t work [] r work' → Listed input lists
        → Started input work entries r work' lists
    first_started {work' = work'} c listed = record {
      standing = c.standing;
      listed = listed;
      limit = c.limit ∙ limit;
      rest = subst (λ n. drop n work' ≡ drop n work) (sym c.asked) c.rest;
    }
