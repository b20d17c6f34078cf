-- The rules at the present node, where they stand in the input. First what tells a rule for the node from other records; then rules
-- skipped, and one done; then the rule at hand, its numbers, and the search for the next one.
use mathlib.Core.Bool.{◌&&◌, false, true, true≢false}
use mathlib.Core.List.Memᴰ
use mathlib.Core.List.{List, ◌++◌, ◌∷◌, append_assoc}
use mathlib.Core.Logic.{inl, inr, ⊎_elim}
use mathlib.Core.Path.{◌∙◌, ◌≡◌, ap, refl, subst, sym}
use Prim.Native.Nat.{◌*◌, ◌+◌, ◌<◌, ◌^◌, ◌≤◌, ℕ}
use native.Mathlib.Omega.{arith}
use borrow.Author.Tests.{eq-eqb, eqb-true, ne_eqb}
use lib.Dec.{eqb}
use lib.ListN.{drop, get_or, length, length-append}
use Rattle.paper.specs.Building.{Slots, branch_step, leaf_step, record_sets, splits, splits_by}
use Rattle.paper.specs.Lists.{◌∈◌, through}
use Rattle.paper.specs.Query.{Query, Rule, branch_rule, is_rule_kind, leaf_rule, rules_of}
use Rattle.paper.specs.Refusals.{nodes_in, query_in, query_part}
use Rattle.paper.specs.Stream.{StreamRecord, body_length, number, records_of}
use Rattle.laws.proofs.Lists.{both_true, here as first_of}
use Rattle.laws.proofs.Replies.{Passes}
use Rattle.laws.specs.StreamCauses.{TreeKind}
use Rattle.stream.specs.Positions.{NextRule, after, is_rule_for, record_at}
use Rattle.stream.proofs.Positions.{number_byte, records_here, whole_inside}
use Rattle.building.specs.Batch.{Record, Set}
use Rattle.building.specs.Kinds.{branch_rule_kind, leaf_kind, leaf_rule_kind, rule_above}
use Rattle.building.specs.RuleOrder.{BranchRuleFor, LeafRuleFor}
use Rattle.building.specs.Standing.{AtRule, Constants, State, at_node, later_records, no_slots}
use Rattle.building.proofs.ReadInput.{arity_is, head_record, query_passes, rules_are, states_are, whole_later}
use Rattle.building.proofs.RuleNumbers.{branch_numbers, leaf_numbers}
use Rattle.building.proofs.RuleOrder.{branch_here, branch_skips, leaf_here, leaf_skips}

-- ---- a rule for the node
rule_is : (kind label : ℕ) (r : StreamRecord) → is_rule_for kind label r ≡ true → (r.kind ≡ kind) × (number r 0 ≡ label)
rule_is kind label r e =
    let (k, others) = both_true (eqb r.kind kind) (is_rule_kind kind && eqb (number r 0) label) e in
    (eqb-true r.kind kind k, eqb-true (number r 0) label (both_true (is_rule_kind kind) (eqb (number r 0) label) others).1)

no_rule : (kind label : ℕ) (r : StreamRecord) → is_rule_kind kind ≡ true → is_rule_for kind label r ≡ false
    → (r.kind ≡ kind) × (number r 0 ≡ label) → ⊥
no_rule kind label r k no_one (e, l) =
    true≢false (sym (rw (k, eq-eqb r.kind kind e, eq-eqb (number r 0) label l) refl) ∙ no_one)

-- a leaf's rule that stands at the position of the next rule: its bytes, and that its numbers are in range
pub record LeafRuleAt (input : List ℕ) (t : State) (label : ℕ) : Type 0 where
  pub kind : get_or input t.rule 0 ≡ leaf_rule_kind
  pub inside : t.rule + 4 ≤ length input
  pub flag_byte : number (record_at input t.rule) 1 ≡ get_or input (t.rule + 2) 0
  pub state_byte : number (record_at input t.rule) 2 ≡ get_or input (t.rule + 3) 0
  pub rule : LeafRuleFor label (record_at input t.rule)
  pub flag : get_or input (t.rule + 2) 0 < 2 ^ t.shape.arity
  pub state : get_or input (t.rule + 3) 0 < t.shape.states

-- a branch's
pub record BranchRuleAt (input : List ℕ) (t : State) (label : ℕ) : Type 0 where
  pub kind : get_or input t.rule 0 ≡ branch_rule_kind
  pub inside : t.rule + 6 ≤ length input
  pub flag_byte : number (record_at input t.rule) 1 ≡ get_or input (t.rule + 2) 0
  pub left_byte : number (record_at input t.rule) 2 ≡ get_or input (t.rule + 3) 0
  pub right_byte : number (record_at input t.rule) 3 ≡ get_or input (t.rule + 4) 0
  pub state_byte : number (record_at input t.rule) 4 ≡ get_or input (t.rule + 5) 0
  pub rule : BranchRuleFor label (record_at input t.rule)
  pub flag : get_or input (t.rule + 2) 0 < 2 ^ t.shape.arity
  pub left : get_or input (t.rule + 3) 0 < t.shape.states
  pub right : get_or input (t.rule + 4) 0 < t.shape.states
  pub state : get_or input (t.rule + 5) 0 < t.shape.states

-- ---- rules at a node
module _ (Q : Query) (r : StreamRecord) (n : ℕ) (stack : List (Slots Set)) where
  leaf_rules : r.kind ≡ leaf_kind → (rules : List Rule) (z : List Record × Slots Set)
      → at_node Q r n stack rules z ≡ through (leaf_step record_sets (number r 0) n) z rules
  leaf_rules e rules z = rw (eq-eqb r.kind leaf_kind e) refl

  branch_rules : (r.kind ≡ leaf_kind → ⊥) → (rules : List Rule) (z : List Record × Slots Set)
      → at_node Q r n stack rules z
      ≡ through (branch_step record_sets n (get_or stack 1 no_slots) (get_or stack 0 no_slots)) z (splits Q.arity rules (number r 0))
  branch_rules e rules z = rw (ne_eqb r.kind leaf_kind e) refl

  -- records that are no rules for the node change nothing
  rules_skipped : TreeKind r.kind → (z : List Record × Slots Set) (skipped rs : List StreamRecord)
      → ((x : StreamRecord) → x ∈ skipped → is_rule_for (r.kind + rule_above) (number r 0) x ≡ false)
      → at_node Q r n stack (rules_of (skipped ++ rs)) z ≡ at_node Q r n stack (rules_of rs) z
  rules_skipped (inl e) z skipped rs others =
      let kind : r.kind + rule_above ≡ leaf_rule_kind = omega arith in
      leaf_rules e (rules_of (skipped ++ rs)) z
      ∙ leaf_skips record_sets (number r 0) n z skipped rs
      (λ x m h. no_rule leaf_rule_kind (number r 0) x refl (ap (λ k. is_rule_for k (number r 0) x) (sym kind) ∙ others x m) h)
      ∙ sym (leaf_rules e (rules_of rs) z)
  rules_skipped (inr e) z skipped rs others =
      let kind : r.kind + rule_above ≡ branch_rule_kind = omega arith in
      let branch : r.kind ≡ leaf_kind → ⊥ = λ one. omega arith in
      branch_rules branch (rules_of (skipped ++ rs)) z
      ∙ branch_skips record_sets Q.arity (number r 0) n (get_or stack 1 no_slots) (get_or stack 0 no_slots) z skipped rs
      (λ x m h. no_rule branch_rule_kind (number r 0) x refl (ap (λ k. is_rule_for k (number r 0) x) (sym kind) ∙ others x m) h)
      ∙ sym (branch_rules branch (rules_of rs) z)

  -- a leaf rule goes first
  pub leaf_first : r.kind ≡ leaf_kind → (rule : StreamRecord) (rs : List StreamRecord) → LeafRuleFor (number r 0) rule
      → (z z' : List Record × Slots Set)
      → leaf_step record_sets (number r 0) n z (leaf_rule (number r 0) (number rule 1) (number rule 2)) ≡ z'
      → at_node Q r n stack (rules_of rs) z' ≡ at_node Q r n stack (rules_of (rule ∷ rs)) z
  leaf_first e rule rs h z z' step =
      leaf_rules e (rules_of rs) z'
      ∙ ap (λ y. through (leaf_step record_sets (number r 0) n) y (rules_of rs)) (sym step)
      ∙ sym (leaf_here record_sets (number r 0) n z rule rs h)
      ∙ sym (leaf_rules e (rules_of (rule ∷ rs)) z)

  -- a branch rule goes through its splits first
  pub branch_first : (r.kind ≡ leaf_kind → ⊥) → (rule : StreamRecord) (rs : List StreamRecord) → BranchRuleFor (number r 0) rule
      → (z z' : List Record × Slots Set)
      → through (branch_step record_sets n (get_or stack 1 no_slots) (get_or stack 0 no_slots)) z
      (splits_by Q.arity (number r 0) (branch_rule (number r 0) (number rule 1) (number rule 2) (number rule 3) (number rule 4))) ≡ z'
      → at_node Q r n stack (rules_of rs) z' ≡ at_node Q r n stack (rules_of (rule ∷ rs)) z
  branch_first e rule rs h z z' step =
      let f : Slots Set = get_or stack 1 no_slots in
      let g : Slots Set = get_or stack 0 no_slots in
      branch_rules e (rules_of rs) z'
      ∙ ap (λ y. through (branch_step record_sets n f g) y (splits Q.arity (rules_of rs) (number r 0)))
      (sym (rw (eq-eqb (number r 0) (number r 0) refl) at step))
      ∙ sym (branch_here record_sets Q.arity (number r 0) n f g z rule rs h)
      ∙ sym (branch_rules e (rules_of (rule ∷ rs)) z)

-- ---- the rule at hand
module _ (input : List ℕ) (t : State) (k : Constants input t) (here : StreamRecord) (earlier : List Record) (stack : List (Slots Set))
    (z : List Record × Slots Set) (a : AtRule input t.node t.rule here earlier stack z) (h : t.rule < length input) where
  rule_here : ((record_at input t.rule).kind ≡ here.kind + rule_above) × (number (record_at input t.rule) 0 ≡ number here 0)
  rule_here = rule_is (here.kind + rule_above) (number here 0) (record_at input t.rule) (⊎_elim (λ e. absurd (omega arith)) (λ w. w.1) a.found)

  rule_kind : get_or input t.rule 0 ≡ here.kind + rule_above
  rule_kind = rule_here.0

  -- it comes first of the records from it on
  rule_first : records_of (drop t.rule input) ≡ record_at input t.rule ∷ records_of (drop (after input t.rule) input)
  rule_first = records_here input t.rule h

  later_here : later_records input ≡ a.passed ++ (record_at input t.rule ∷ records_of (drop (after input t.rule) input))
  later_here = a.records ∙ ap (λ rs. a.passed ++ rs) rule_first

  rule_inside : after input t.rule ≤ length input
  rule_inside =
      whole_inside input t.rule h
      (whole_later input k.query (record_at input t.rule)
      (subst (λ rs. record_at input t.rule ∈ rs) (sym later_here) (Memᴰ.append_right a.passed first_of)))

  passes_here : Passes (query_part (2 * nodes_in input) (head_record input ∷ (a.passed ++ (record_at input t.rule ∷ records_of (drop (after input t.rule) input)))))
  passes_here = subst (λ rs. Passes (query_part (2 * nodes_in input) (head_record input ∷ rs))) later_here (query_passes input k.query)

  arity_here : 2 ^ number (head_record input) 0 ≡ 2 ^ t.shape.arity
  arity_here = ap (λ x. 2 ^ x) (sym (k.arity ∙ arity_is input k.query))

  states_here : number (head_record input) 1 ≡ t.shape.states
  states_here = sym (k.states ∙ states_are input k.query)

  -- a leaf's rule
  pub leaf_rule_at : here.kind ≡ leaf_kind → LeafRuleAt input t (number here 0)
  leaf_rule_at e = record {
    kind = kind;
    inside = omega (arith, rule_inside, length_is);
    flag_byte = flag_byte;
    state_byte = state_byte;
    rule = (kind, rule_here.1);
    flag = omega (arith, flag_byte, numbers.0, arity_here);
    state = omega (arith, state_byte, numbers.1, states_here);
  }
    where
      R : StreamRecord
      R = record_at input t.rule

      kind : get_or input t.rule 0 ≡ leaf_rule_kind
      kind = omega (arith, rule_kind)

      length_is : body_length (get_or input t.rule 0) ≡ 3
      length_is = ap body_length kind

      byte : (i j : ℕ) → i < 3 → t.rule + 1 + i ≡ j → number (record_at input t.rule) i ≡ get_or input j 0
      byte i j = number_byte input t.rule leaf_rule_kind i j kind

      flag_byte : number (record_at input t.rule) 1 ≡ get_or input (t.rule + 2) 0
      flag_byte = byte 1 (t.rule + 2) (omega arith) (omega arith)

      state_byte : number (record_at input t.rule) 2 ≡ get_or input (t.rule + 3) 0
      state_byte = byte 2 (t.rule + 3) (omega arith) (omega arith)

      numbers : (number R 1 < 2 ^ number (head_record input) 0) × (number R 2 < number (head_record input) 1)
      numbers = leaf_numbers (2 * nodes_in input) (head_record input) a.passed R (records_of (drop (after input t.rule) input)) passes_here kind

  -- a branch's rule
  pub branch_rule_at : here.kind ≡ 2 → BranchRuleAt input t (number here 0)
  branch_rule_at e = record {
    kind = kind;
    inside = omega (arith, rule_inside, length_is);
    flag_byte = flag_byte;
    left_byte = left_byte;
    right_byte = right_byte;
    state_byte = state_byte;
    rule = (kind, rule_here.1);
    flag = omega (arith, flag_byte, numbers.0, arity_here);
    left = omega (arith, left_byte, numbers.1, states_here);
    right = omega (arith, right_byte, numbers.2, states_here);
    state = omega (arith, state_byte, numbers.3, states_here);
  }
    where
      R : StreamRecord
      R = record_at input t.rule

      kind : get_or input t.rule 0 ≡ branch_rule_kind
      kind = omega (arith, rule_kind)

      length_is : body_length (get_or input t.rule 0) ≡ 5
      length_is = ap body_length kind

      byte : (i j : ℕ) → i < 5 → t.rule + 1 + i ≡ j → number (record_at input t.rule) i ≡ get_or input j 0
      byte i j = number_byte input t.rule branch_rule_kind i j kind

      flag_byte : number (record_at input t.rule) 1 ≡ get_or input (t.rule + 2) 0
      flag_byte = byte 1 (t.rule + 2) (omega arith) (omega arith)

      left_byte : number (record_at input t.rule) 2 ≡ get_or input (t.rule + 3) 0
      left_byte = byte 2 (t.rule + 3) (omega arith) (omega arith)

      right_byte : number (record_at input t.rule) 3 ≡ get_or input (t.rule + 4) 0
      right_byte = byte 3 (t.rule + 4) (omega arith) (omega arith)

      state_byte : number (record_at input t.rule) 4 ≡ get_or input (t.rule + 5) 0
      state_byte = byte 4 (t.rule + 5) (omega arith) (omega arith)

      numbers : (number R 1 < 2 ^ number (head_record input) 0) × (number R 2 < number (head_record input) 1)
          × (number R 3 < number (head_record input) 1) × (number R 4 < number (head_record input) 1)
      numbers = branch_numbers (2 * nodes_in input) (head_record input) a.passed R (records_of (drop (after input t.rule) input)) passes_here kind

  -- ---- the next rule
  module _ (next : ℕ) (s : NextRule input (after input t.rule) (here.kind + rule_above) (number here 0) next) where
    all_later : later_records input ≡ (a.passed ++ (record_at input t.rule ∷ s.skipped)) ++ records_of (drop next input)
    all_later =
        later_here ∙ ap (λ rs. a.passed ++ (record_at input t.rule ∷ rs)) s.records
        ∙ sym (append_assoc a.passed (record_at input t.rule ∷ s.skipped) (records_of (drop next input)))

    -- it stands further on
    pub fewer_left : length (records_of (drop next input)) < length (records_of (drop t.rule input))
    fewer_left =
        omega (arith, ap length rule_first, ap length s.records, length-append s.skipped (records_of (drop next input)))

    -- what the rule at hand makes of z, the others go on with
    pub on_to_next : TreeKind here.kind → (z' : List Record × Slots Set)
        → at_node (query_in input) here t.node stack (rules_of (records_of (drop (after input t.rule) input))) z'
        ≡ at_node (query_in input) here t.node stack (rules_of (record_at input t.rule ∷ records_of (drop (after input t.rule) input))) z
        → AtRule input t.node next here earlier stack z'
    on_to_next kind z' done = record {
      passed = a.passed ++ (record_at input t.rule ∷ s.skipped);
      records = all_later;
      found = s.found;
      left =
          sym (rules_skipped (query_in input) here t.node stack kind z' s.skipped (records_of (drop next input)) s.no_rule)
          ∙ ap (λ rs. at_node (query_in input) here t.node stack (rules_of rs) z') (sym s.records)
          ∙ done
          ∙ ap (λ rs. at_node (query_in input) here t.node stack (rules_of rs) z) (sym rule_first)
          ∙ a.left;
    }

-- ---- the first rule of a node, of all records behind the head
pub first_rule : (input : List ℕ) (t : State) → Constants input t
    → (node : ℕ) (here : StreamRecord) (earlier : List Record) (stack : List (Slots Set)) → TreeKind here.kind
    → (next : ℕ) → NextRule input t.rules (here.kind + rule_above) (number here 0) next
    → AtRule input node next here earlier stack (earlier, no_slots)
first_rule input t k node here earlier stack kind next s = record {
  passed = s.skipped;
  records = all;
  found = s.found;
  left =
      sym (rules_skipped (query_in input) here node stack kind (earlier, no_slots) s.skipped (records_of (drop next input)) s.no_rule)
      ∙ ap (λ rs. at_node (query_in input) here node stack (rules_of rs) (earlier, no_slots)) (sym all)
      ∙ ap (λ rules. at_node (query_in input) here node stack rules (earlier, no_slots)) (sym (rules_are input k.query));
}
  where
    all : later_records input ≡ s.skipped ++ records_of (drop next input)
    all = ap (λ n. records_of (drop n input)) (sym k.rules) ∙ s.records
