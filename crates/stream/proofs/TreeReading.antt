-- The tree, record by record: what the loop keeps up, and what it answers where a record is refused and where the tree ends.
use mathlib.Core.Bool.{false, true}
use mathlib.Core.List.Memᴰ
use mathlib.Core.List.{List, [], ◌++◌, ◌∷◌, append-nil}
use mathlib.Core.Logic.{⊎_elim}
use mathlib.Core.Path.{◌∙◌, ◌≡◌, ap, refl, sym}
use Prim.Native.Nat.{◌*◌, ◌+◌, ◌-◌, ◌<◌, ◌≤◌, max, ℕ}
use native.Mathlib.Omega.{arith}
use borrow.Author.Tests.{eq-eqb, leb-false, leb-true, ltb-false, ltb-true, ne_eqb}
use lib.Dec.{leb, ltb}
use lib.ListN.{drop, get_or, length, length-append}
use Rattle.paper.specs.Lists.{◌∈◌}
use Rattle.paper.specs.Refusals.{No, Test, answer, at_each, no_at, nodes_in, refused, tests_at, tree_end_tests, tree_part, tree_tests, unless, tree_end}
use Rattle.paper.specs.Stream.{StreamRecord, behind, body_length, is_tree_kind, records_of, tree_records}
use Rattle.paper.specs.Tree.{most_unjoined, unjoined}
use Rattle.laws.specs.StreamCauses.{AllTree, written}
use Rattle.laws.proofs.Lists.{here, which}
use Rattle.laws.proofs.Replies.{Passes}
use Rattle.laws.proofs.StreamPlaces.{all_tree_snoc, tree_kind, tree_records_append}
use Rattle.stream.specs.OneRecord.{is_tree_at}
use Rattle.stream.specs.Positions.{WholeBetween, after, record_at, records_between}
use Rattle.stream.specs.Reading.{TreeFacts, tree_facts, tree_reply}
use Rattle.stream.proofs.EachRecord.{all_passed, first_refused, passes_more}
use Rattle.stream.proofs.Positions.{behind_between, between_more, bytes_between, records_between_lem, records_here, records_none}
use Rattle.stream.proofs.Positions.{whole_more}
use Rattle.stream.proofs.TreeSteps.{branch_fewer, branch_passes, cut_record, few_unjoined, inside, kind, label_over, leaf_more, leaf_passes, many_nodes, most_more, step_tests, unjoined_most, unjoined_nodes}

-- ---- bytes and nodes
-- each tree record is two bytes
pub tree_bytes : (records : List StreamRecord) → AllTree records → ((r : StreamRecord) → r ∈ records → length r.body ≡ body_length r.kind)
    → length (written records) ≡ 2 * length records
tree_bytes [] a w = refl
tree_bytes (r ∷ rs) a w =
    let one : body_length r.kind ≡ 1 = ⊎_elim (λ e. rw e refl) (λ e. rw e refl) (a r here) in
    omega (arith, tree_bytes rs (λ s m. a s (Memᴰ.tail m)) (λ s m. w s (Memᴰ.tail m)), w r here, length-append r.body (written rs))

-- ---- what holds after each record: they are whole tree records whose tests passed, and make these numbers
pub record TreeSoFar (input : List ℕ) (at nodes now most : ℕ) : Type 0 where
  pub before : WholeBetween input 0 at
  pub all_tree : AllTree (records_between input 0 at)
  pub passed : Passes (at_each tree_tests 0 [] (records_between input 0 at))
  pub nodes_are : nodes ≡ length (records_between input 0 at)
  pub unjoined_are : now ≡ length (unjoined (records_between input 0 at))
  pub most_is : most ≡ most_unjoined (records_between input 0 at)

-- where the tree ends, one subtree decides: with no node there is none
end_passes : (f : TreeFacts) (at : ℕ) (records : List StreamRecord) → length (unjoined records) ≡ 1
    → unless (tests_at at (tree_end_tests records)) f ≡ answer f
end_passes f at [] e = absurd (omega arith)
end_passes f at (r ∷ rs) e = rw (eq-eqb (length (unjoined (r ∷ rs))) 1 e) refl

end_fails : (f : TreeFacts) (at : ℕ) (records : List StreamRecord) → (length (unjoined records) ≡ 1 → ⊥)
    → unless (tests_at at (tree_end_tests records)) f ≡ refused (no_at 1 at)
end_fails f at [] e = refl
end_fails f at (r ∷ rs) e = rw (ne_eqb (length (unjoined (r ∷ rs))) 1 e) refl

module _ (input : List ℕ) (at nodes now most : ℕ) (k : TreeSoFar input at nodes now most) where
  abbrev before : List StreamRecord
  before = records_between input 0 at

  -- no more subtrees are unjoined than there are nodes
  pub now_nodes : now ≤ nodes
  now_nodes = omega (arith, k.nodes_are, k.unjoined_are, unjoined_nodes before)

  -- the next record stands behind them
  stands : behind 0 before ≡ at
  stands = behind_between input 0 at k.before

  -- the tree's records are those before and those of the tree behind them
  all_records : tree_records (records_of input) ≡ before ++ tree_records (records_of (drop at input))
  all_records =
      ap tree_records (records_between_lem input 0 at k.before)
      ∙ tree_records_append before (records_of (drop at input)) k.all_tree

  module _ (here : is_tree_at input at ≡ true) where
    abbrev r : StreamRecord
    r = record_at input at

    -- a record that is refused
    refused_here : {n : No} → unless (step_tests input at here) (tree_facts input) ≡ refused n → refused n ≡ tree_reply input
    refused_here {n} e =
        sym (first_refused tree_tests 0 before k.passed end_tests (tree_facts input) (tree_facts input) r _
        (ap (λ place. unless (tests_at place (tree_tests before r)) (tree_facts input)) stands ∙ e))
        ∙ ap (λ records. unless (at_each tree_tests 0 [] records ++ end_tests) (tree_facts input)) (sym tree_is)
      where
        end_tests : List Test
        end_tests = tests_at (tree_end input) (tree_end_tests (tree_records (records_of input)))

        first : tree_records (records_of (drop at input)) ≡ r ∷ tree_records (records_of (drop (after input at) input))
        first = rw (records_here input at (inside input at here), kind input at here) refl

        tree_is : tree_records (records_of input) ≡ before ++ (r ∷ tree_records (records_of (drop (after input at) input)))
        tree_is = all_records ∙ ap (λ z. before ++ z) first

    pub refused_many : 4095 ≤ nodes → refused (no_at 2 at) ≡ tree_reply input
    refused_many h = refused_here (many_nodes input at here (omega (arith, k.nodes_are)))

    module _ (few : nodes < 4095) where
      few_before : length before < 4095
      few_before = omega (arith, k.nodes_are)

      pub refused_cut : length input < after input at → refused (no_at 1 at) ≡ tree_reply input
      refused_cut h = refused_here (cut_record input at here few_before h)

      module _ (fits : after input at ≤ length input) where
        pub refused_label : 63 < get_or input (at + 1) 0 → refused (no_at 1 at) ≡ tree_reply input
        refused_label h = refused_here (label_over input at here few_before fits h)

        module _ (low : get_or input (at + 1) 0 ≤ 63) where
          refused_low : (get_or input at 0 ≡ 1 → ⊥) → now < 2 → refused (no_at 1 at) ≡ tree_reply input
          refused_low no_leaf h = refused_here (few_unjoined input at here few_before fits low no_leaf (omega (arith, k.unjoined_are)))

          all : records_between input 0 (after input at) ≡ before ++ (r ∷ [])
          all = between_more input 0 at k.before fits

          -- one more record that passes
          goes_on : Passes (step_tests input at here) → (now' most' : ℕ) → now' ≡ length (unjoined (before ++ (r ∷ []))) → most' ≡ max most now'
              → TreeSoFar input (after input at) (nodes + 1) now' most'
          goes_on p now' most' e d = record {
            before = whole_more input 0 at k.before fits;
            all_tree = rw all (all_tree_snoc before r k.all_tree (tree_kind (get_or input at 0) (kind input at here)));
            passed = rw all (passes_more tree_tests 0 before r k.passed p);
            nodes_are = rw all (omega (arith, length-append before (r ∷ []), k.nodes_are));
            unjoined_are = rw all e;
            most_is = rw all (omega (arith, most_more input at here, k.most_is));
          }

          -- a leaf: one subtree more
          pub leaf_goes_on : get_or input at 0 ≡ 1 → (most' : ℕ) → most' ≡ max most (now + 1)
              → TreeSoFar input (after input at) (nodes + 1) (now + 1) most'
          leaf_goes_on e most' d =
              goes_on (leaf_passes input at here few_before fits low e) _ most' (omega (arith, leaf_more input at here e, k.unjoined_are)) d

          -- a branch: one subtree less
          pub branch_goes_on : (get_or input at 0 ≡ 1 → ⊥) → 2 ≤ now → TreeSoFar input (after input at) (nodes + 1) (now - 1) most
          branch_goes_on no_leaf two =
              let two_before : 2 ≤ length (unjoined before) = omega (arith, k.unjoined_are) in
              goes_on (branch_passes input at here few_before fits low two_before) _ _
              (omega (arith, branch_fewer input at here no_leaf two_before, k.unjoined_are))
              (omega (arith, unjoined_most before, k.unjoined_are, k.most_is))

        -- a branch that finds less than two subtrees, whatever its label is
        pub refused_branch : (get_or input at 0 ≡ 1 → ⊥) → now < 2 → refused (no_at 1 at) ≡ tree_reply input
        refused_branch no_leaf h =
            ⊎_elim (λ low. refused_low (leb-true (get_or input (at + 1) 0) 63 low) no_leaf h)
            (λ over. refused_label (leb-false (get_or input (at + 1) 0) 63 over)) (which (leb (get_or input (at + 1) 0) 63))

  -- ---- where the tree ends
  module _ (ends : is_tree_at input at ≡ false) where
    -- none of its records is left
    none_left : tree_records (records_of (drop at input)) ≡ []
    none_left = ⊎_elim stands none (which (ltb at (length input)))
      where
        stands : ltb at (length input) ≡ true → tree_records (records_of (drop at input)) ≡ []
        stands h =
            let other : is_tree_kind (get_or input at 0) ≡ false = rw h at ends in
            rw (records_here input at (ltb-true at (length input) h), other) refl

        none : ltb at (length input) ≡ false → tree_records (records_of (drop at input)) ≡ []
        none h = ap tree_records (records_none input at (ltb-false at (length input) h))

    tree_is : tree_records (records_of input) ≡ before
    tree_is = all_records ∙ ap (λ z. before ++ z) none_left ∙ append-nil before

    ended : tree_reply input ≡ unless (tests_at at (tree_end_tests before)) (tree_facts input)
    ended =
        ap (λ records. unless (tree_part records) (tree_facts input)) tree_is
        ∙ all_passed tree_tests 0 before k.passed (tests_at (behind 0 before) (tree_end_tests before)) (tree_facts input)
        ∙ ap (λ at. unless (tests_at at (tree_end_tests before)) (tree_facts input)) stands

    -- one subtree is a tree that is read
    pub tree_read : now ≡ 1 → answer (record { end = at; nodes = nodes; most = most }) ≡ tree_reply input
    tree_read one = ap answer facts ∙ sym (ended ∙ end_passes (tree_facts input) at before (sym k.unjoined_are ∙ one))
      where
        bytes : at ≡ 2 * length before
        bytes = omega (arith, bytes_between input 0 at k.before, tree_bytes before k.all_tree k.before.begins.whole)

        nodes_here : nodes ≡ nodes_in input
        nodes_here = k.nodes_are ∙ ap length (sym tree_is)

        facts : ◌≡◌ {A = TreeFacts} (record { end = at; nodes = nodes; most = most }) (tree_facts input)
        facts = λ i. record {
          end = (bytes ∙ ap (λ n. 2 * length n) (sym tree_is)) i;
          nodes = nodes_here i;
          most = (k.most_is ∙ ap most_unjoined (sym tree_is)) i;
        }

    -- none, or several, are refused 1, where it ended
    pub not_one : (now ≡ 1 → ⊥) → refused (no_at 1 at) ≡ tree_reply input
    not_one none = sym (ended ∙ end_fails (tree_facts input) at before (λ e. none (k.unjoined_are ∙ e)))
