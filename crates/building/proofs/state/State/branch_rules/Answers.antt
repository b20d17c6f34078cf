-- A turn does one rule, whatever is in the table: the building goes on at the next one (`onward`).
use Rattle.std.proofs.Common.{◌≡◌, ◌∙◌, ℕ, List, ◌+◌, ◌-◌, ◌^◌, ◌<◌, ap, arith, get_or, length, refl}
use mathlib.Core.Logic.{inl, inr}
use Rattle.stream.specs.RuleLists.{TellsNext}
use Rattle.building.specs.Batch.{Record}
use Rattle.building.specs.Branches.{branch_of}
use Rattle.building.specs.Kinds.{leaf_kind}
use Rattle.building.specs.Listed.{Listed}
use Rattle.building.specs.Rules.{Branch, Branches}
use Rattle.building.specs.Standing.{Filling}
use Rattle.building.specs.States.{State, more}
use Rattle.building.proofs.BranchTurn.{branch_onward, branch_ready, branch_room}
use Rattle.building.proofs.ListedRules.{next_listed, notes_part, notes_room, rule_behind}
use Rattle.building.proofs.OwnShelf.{Onward}
use Rattle.building.proofs.RuleLoop.{Ran, ran_ends, ran_onward, ran_starts}
use Rattle.building.proofs.state.State.branch_rules.Goals as goal
use Rattle.building.proofs.state.State.branch_rules.Goals.{then-loop-rule-test+else-count-le-WAITING_RECORDS, else-loop-rule-test}

onward : {input lists work batch work' batch' work'' batch'' : List ℕ} {t : State} {base : List Record} {count rule count'' next : ℕ} {here : Branch}
    → Filling input t work batch base → Ran input t work base count rule work' batch' → Listed input lists → rule < length input
    → (get_or input t.at 0 ≡ leaf_kind → ⊥) → length work'' ≡ length work' → here ≡ branch_of input t rule
    → Branches here count batch' work' count'' batch'' work'' → ((from : ℕ) → TellsNext lists from (from + (rule - t.rules)) next)
    → Onward input (more t count rule) work' base count'' next work'' batch''
onward {input = input} {work' = work'} {batch' = batch'} {t = t} {base = base} {count = count} {rule = rule} f r listed h branch long same done told =
    branch_onward input (more t count rule) work' batch' base r.standing f.start h branch _ _ _ _ long same done
    (next_listed input (more t count rule) work' _ r.standing h listed told)

pub slice_bounds-notes-count : goal.slice_bounds-notes-count
slice_bounds-notes-count c = omega (arith, notes_room c.requires.filling.1)

pub slice_bounds-notes-start : goal.slice_bounds-notes-start
slice_bounds-notes-start c = omega (arith, notes_room c.requires.filling.1)

pub loop-rule-init : goal.loop-rule-init
loop-rule-init c base f = ran_starts _ _ _ _ base f c.requires.batch_numbers_in_bounds.1

pub branch_at-here-requires : goal.branch_at-here-requires
branch_at-here-requires c =
    let l = c.loop-rule in
    let r = l.invariant c.requires.filling.0.0 c.requires.filling.0.1 in
    branch_ready c.args.input.now (more c.args.self.now l.count l.rule) l.work _ r.standing c.loop-rule-test.true c.requires.rule_in_bounds.1 c.args.self.now refl
    refl refl

pub branch_rule-count-requires-clause-room : goal.branch_rule-count-requires-clause-room
branch_rule-count-requires-clause-room c =
    let l = c.loop-rule in
    let f = c.requires.filling.0.1 in
    let r = l.invariant c.requires.filling.0.0 f in (
      branch_room c.args.input.now (more c.args.self.now l.count l.rule) l.work _ r.standing c.loop-rule-test.true c.requires.rule_in_bounds.1
          c.branch_at-here.ensures (omega arith) (omega (arith, f.few)),
      notes_part c.requires.filling.1 (ap (λ (b : Branch). b.size) c.branch_at-here.ensures ∙ ap (λ n. 2 ^ n) r.standing.constants.arity),
    )

pub overflow_sub-rule : goal.overflow_sub-rule
overflow_sub-rule c =
    let l = c.loop-rule in
    let r = l.invariant c.requires.filling.0.0 c.requires.filling.0.1 in
    rule_behind c.args.input.now (more c.args.self.now l.count l.rule) l.work _ r.standing c.loop-rule-test.true c.requires.filling.1

pub loop-rule-smaller : goal.loop-rule-smaller
loop-rule-smaller c =
    let f = c.requires.filling.0.1 in
    (onward f (c.loop-rule.invariant _ f) c.requires.filling.1 c.loop-rule-test.true c.requires.rule_in_bounds.1 c.branch_rule-count.auto.work
    c.branch_at-here.ensures c.branch_rule-count.ensures c.rule_after-rule.ensures).fewer

pub loop-rule-preserved : goal.loop-rule-preserved
loop-rule-preserved c base f =
    let r = c.loop-rule.invariant base f in
    ran_onward _ _ _ _ base f c.requires.batch_numbers_in_bounds.1 r c.if-count-le-WAITING_RECORDS.true
    (onward f r c.requires.filling.1 c.loop-rule-test.true c.requires.rule_in_bounds.1 c.branch_rule-count.auto.work c.branch_at-here.ensures
    c.branch_rule-count.ensures c.rule_after-rule.ensures)

pub returns : goal.returns
returns c base f =
    ran_ends _ _ _ _ base f c.requires.batch_numbers_in_bounds.1 (c.loop-rule.invariant base f) c.requires.rule_in_bounds.0
    (elim c.loop-rule-test.branch [
      | then-loop-rule-test+else-count-le-WAITING_RECORDS w ↦ inl w.if-count-le-WAITING_RECORDS.false
      | else-loop-rule-test w ↦ inr w.loop-rule-test.false
    ])
    _ _ c.count_records.ensures
