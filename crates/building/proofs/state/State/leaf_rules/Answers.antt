-- A turn does one rule, or passes it over, whatever is in the table: the building goes on at the next one (`onward`, `passed`).
use Rattle.std.proofs.Common.{◌≡◌, ℕ, List, Bool, true, false, ◌+◌, ◌-◌, ◌<◌, arith, get_or, length, sym}
use mathlib.Core.Logic.{inl, inr}
use mathlib.Core.Path.{subst₃}
use Rattle.paper.specs.Building.{can_stand}
use Rattle.stream.specs.RuleLists.{TellsNext}
use Rattle.building.specs.Batch.{Record}
use Rattle.building.specs.Branches.{shelf_from}
use Rattle.building.specs.Kinds.{leaf_kind}
use Rattle.building.specs.Listed.{Listed}
use Rattle.building.specs.Rules.{Leaves}
use Rattle.building.specs.Standing.{Filling}
use Rattle.building.specs.States.{State, more}
use Rattle.building.proofs.LeafTurn.{LeafReady, leaf_onward, leaf_passed, leaf_ready}
use Rattle.building.proofs.ListedRules.{next_listed, rule_behind}
use Rattle.building.proofs.OwnShelf.{Onward}
use Rattle.building.proofs.RuleLoop.{Ran, ran_ends, ran_onward, ran_starts}
use Rattle.building.proofs.state.State.leaf_rules.Goals as goal
use Rattle.building.proofs.state.State.leaf_rules.Goals.{then-can_stand, else-can_stand, then-loop-rule-test+else-count-le-WAITING_RECORDS, else-loop-rule-test}

module _ {input work work' batch' : List ℕ} {t : State} {base : List Record} {count rule : ℕ}
    (r : Ran input t work base count rule work' batch') (h : rule < length input) (leaf : get_or input t.at 0 ≡ leaf_kind) where
  -- what is known in a turn
  ready : LeafReady input (more t count rule) work'
  ready = leaf_ready input (more t count rule) work' _ r.standing h leaf

  module _ {batch lists : List ℕ} (f : Filling input t work batch base) (listed : Listed input lists) {next : ℕ}
      (told : (from : ℕ) → TellsNext lists from (from + (rule - t.rules)) next) {c : Bool}
      (asked : c ≡ can_stand (get_or input (t.at + 1) 0) (get_or input (rule + 2) 0)) where
    -- it is used
    onward : c ≡ true → {work'' batch'' : List ℕ} {to count'' : ℕ} → length work'' ≡ length work'
        → to ≡ shelf_from t t.top (get_or input (rule + 3) 0)
        → Leaves t.node (get_or input (rule + 2) 0) to t.from count batch' work' count'' batch'' work''
        → Onward input (more t count rule) work' base count'' next work'' batch''
    onward stands long same done =
        leaf_onward input (more t count rule) work' batch' base r.standing h leaf next
        (next_listed input (more t count rule) work' _ r.standing h listed told) f.start _ _ _ long asked stands same done

    -- or passed over
    passed : c ≡ false → Onward input (more t count rule) work' base count next work' batch'
    passed stands_not =
        leaf_passed input (more t count rule) work' batch' base r.standing h leaf next
        (next_listed input (more t count rule) work' _ r.standing h listed told) asked stands_not

pub loop-rule-init : goal.loop-rule-init
loop-rule-init c base f = ran_starts _ _ _ _ base f c.requires.batch_numbers_in_bounds.1

pub bounds-input-rule : goal.bounds-input-rule
bounds-input-rule c =
    omega (arith, (ready (c.loop-rule.invariant _ c.requires.filling.0.1) c.loop-rule-test.true c.requires.rule_in_bounds.1).rule)

pub bounds-input-rule-then-can_stand : goal.bounds-input-rule-then-can_stand
bounds-input-rule-then-can_stand c =
    omega (arith, (ready (c.loop-rule.invariant _ c.requires.filling.0.1) c.loop-rule-test.true c.requires.rule_in_bounds.1).rule)

pub shelf_at-to-requires : goal.shelf_at-to-requires
shelf_at-to-requires c =
    let r = ready (c.loop-rule.invariant _ c.requires.filling.0.1) c.loop-rule-test.true c.requires.rule_in_bounds.1 in
    (omega (arith, r.node.frames), omega (arith, r.state))

pub overflow_cast-self : goal.overflow_cast-self
overflow_cast-self c =
    omega (arith, (ready (c.loop-rule.invariant _ c.requires.filling.0.1) c.loop-rule-test.true c.requires.rule_in_bounds.1).node.nodes)

pub leaf_rule-count-requires-clause-flag_lt_most_flags : goal.leaf_rule-count-requires-clause-flag_lt_most_flags
leaf_rule-count-requires-clause-flag_lt_most_flags c =
    (ready (c.loop-rule.invariant _ c.requires.filling.0.1) c.loop-rule-test.true c.requires.rule_in_bounds.1).flag

pub leaf_rule-count-requires-clause-flag_in_bounds : goal.leaf_rule-count-requires-clause-flag_in_bounds
leaf_rule-count-requires-clause-flag_in_bounds c =
    omega (arith, (ready (c.loop-rule.invariant _ c.requires.filling.0.1) c.loop-rule-test.true c.requires.rule_in_bounds.1).slot, c.shelf_at-to.ensures)

pub overflow_sub-rule : goal.overflow_sub-rule
overflow_sub-rule c =
    let l = c.loop-rule in
    let r = l.invariant c.requires.filling.0.0 c.requires.filling.0.1 in
    rule_behind c.args.input.now (more c.args.self.now l.count l.rule) l.work _ r.standing c.loop-rule-test.true c.requires.filling.1

pub loop-rule-preserved : goal.loop-rule-preserved
loop-rule-preserved c base f =
    let a = c.args in
    let l = c.loop-rule in
    let r = l.invariant base f in
    let next = λ (count : ℕ) (work batch : List ℕ). Onward a.input.now (more a.self.now l.count l.rule) l.work base count c.rule_after-rule.result work batch in
    ran_onward _ _ _ _ base f c.requires.batch_numbers_in_bounds.1 r c.if-count-le-WAITING_RECORDS.true
    (elim c.if-can_stand.branch [
      | then-can_stand w ↦
          subst₃ next (sym w.count-is) (sym w.work-is) (sym w.batch-is)
          (onward r c.loop-rule-test.true c.requires.rule_in_bounds.1 f c.requires.filling.1 c.rule_after-rule.ensures c.can_stand.ensures
          w.if-can_stand.true w.leaf_rule-count.auto.work w.shelf_at-to.ensures w.leaf_rule-count.ensures)
      | else-can_stand w ↦
          subst₃ next (sym w.count-is) (sym w.work-is) (sym w.batch-is)
          (passed r c.loop-rule-test.true c.requires.rule_in_bounds.1 f c.requires.filling.1 c.rule_after-rule.ensures c.can_stand.ensures
          w.if-can_stand.false)
    ])

pub loop-rule-smaller : goal.loop-rule-smaller
loop-rule-smaller c =
    let f = c.requires.filling.0.1 in
    let r = c.loop-rule.invariant _ f in
    elim c.if-can_stand.branch [
      | then-can_stand w ↦
          (onward r c.loop-rule-test.true c.requires.rule_in_bounds.1 f c.requires.filling.1 c.rule_after-rule.ensures c.can_stand.ensures
          w.if-can_stand.true w.leaf_rule-count.auto.work w.shelf_at-to.ensures w.leaf_rule-count.ensures).fewer
      | else-can_stand w ↦
          (passed r c.loop-rule-test.true c.requires.rule_in_bounds.1 f c.requires.filling.1 c.rule_after-rule.ensures c.can_stand.ensures
          w.if-can_stand.false).fewer
    ]

pub returns : goal.returns
returns c base f =
    ran_ends _ _ _ _ base f c.requires.batch_numbers_in_bounds.1 (c.loop-rule.invariant base f) c.requires.rule_in_bounds.0
    (elim c.loop-rule-test.branch [
      | then-loop-rule-test+else-count-le-WAITING_RECORDS w ↦ inl w.if-count-le-WAITING_RECORDS.false
      | else-loop-rule-test w ↦ inr w.loop-rule-test.false
    ])
    _ _ c.count_records.ensures
