-- Rules of a node, or the next node, go on from where the building stands, and the root's set ends it.
use Rattle.std.proofs.Common.{List, ℕ, ◌∙◌, ap, arith, subst, sym}
use Rattle.std.proofs.lemmas.List.{length-replicate}
use Rattle.std.proofs.lemmas.Result.{err_from_is_err_and}
use mathlib.Core.Path.{subst₂}
use Rattle.std.specs.Prelude.{Ok}
use Rattle.building.specs.Batch.{Record}
use Rattle.building.specs.Driving.{Driven}
use Rattle.building.specs.Standing.{State}
use Rattle.building.proofs.DriveLoop.{DrivenTo, batch_driven, driven_starts, node_driven, past_driven, past_roots_driven, roots_driven, rules_driven}
use Rattle.building.proofs.drive.Goals as goal

pub loop-state-init : goal.loop-state-init
loop-state-init c = driven_starts c.requires _ (omega (arith, length-replicate {A = ℕ} 1940 0))

pub node_rules-requires : goal.node_rules-requires
node_rules-requires c =
    let d = c.loop-state-2.invariant.driven in
    record {
      filling = ((d.base, d.filling), c.requires.listed);
      rule_in_bounds = c.loop-state-2-test.true;
      batch_numbers_in_bounds = (d.room, d.waiting);
    }

pub returns-in_err-node_rules : goal.returns-in_err-node_rules
returns-in_err-node_rules c =
    let d = c.loop-state-2.invariant.driven in
    let p = err_from_is_err_and c.from_residual.result c.from_residual.ensures.1 in
    rw (p.1, p.2) (past_driven c.requires d (c.in_err-node_rules.ensures d.base d.filling))

pub empty_batch-requires : goal.empty_batch-requires
empty_batch-requires c =
    let d = c.loop-state-2.invariant.driven in
    (c.in_ok-node_rules.ensures d.base d.filling).filling.few

pub loop-state-2-smaller-then-state-gt-WAITING_RECORDS : goal.loop-state-2-smaller-then-state-gt-WAITING_RECORDS
loop-state-2-smaller-then-state-gt-WAITING_RECORDS c =
    let d = c.loop-state-2.invariant.driven in
    rw c.empty_batch.ensures (c.in_ok-node_rules.ensures d.base d.filling).fewer

pub loop-state-2-preserved-then-state-gt-WAITING_RECORDS : goal.loop-state-2-preserved-then-state-gt-WAITING_RECORDS
loop-state-2-preserved-then-state-gt-WAITING_RECORDS c =
    let a = c.args in
    let d = c.loop-state-2.invariant.driven in
    let turn = c.in_ok-node_rules.ensures d.base d.filling in
    record {
      driven =
          subst₂
          (λ (table : List Record) (state : State). DrivenTo a.input.now a.table.now a.state.now a.work.now table state c.node_rules.new.work c.node_rules.new.batch)
          (sym c.store.ensures) (sym c.empty_batch.ensures) (batch_driven c.requires d turn c.node_rules.auto.batch);
      node = ap (λ (s : State). s.node) c.empty_batch.ensures ∙ turn.node ∙ c.loop-state-2.invariant.node;
    }

pub loop-state-2-smaller : goal.loop-state-2-smaller
loop-state-2-smaller c =
    let d = c.loop-state-2.invariant.driven in
    (c.in_ok-node_rules.ensures d.base d.filling).fewer

pub loop-state-2-preserved : goal.loop-state-2-preserved
loop-state-2-preserved c =
    let d = c.loop-state-2.invariant.driven in
    let turn = c.in_ok-node_rules.ensures d.base d.filling in
    record {
      driven = rules_driven c.requires d turn c.if-state-gt-WAITING_RECORDS.false c.node_rules.auto.batch;
      node = turn.node ∙ c.loop-state-2.invariant.node;
    }

pub next_node-requires : goal.next_node-requires
next_node-requires c =
    let d = c.loop-state-2.invariant.driven in
    record {
      standing = ((_, d.filling.standing, d.filling.few), c.requires.listed);
      input_len_bound = (c.loop-state-2-test.false, c.if-state.false);
    }

pub loop-state-smaller : goal.loop-state-smaller
loop-state-smaller c =
    let d = c.loop-state-2.invariant.driven in
    omega (
      arith,
      (c.next_node.ensures _ d.filling.standing).node,
      d.filling.standing.constants.nodes,
      c.loop-state-2.invariant.node,
      c.if-state.false,
    )

pub loop-state-preserved : goal.loop-state-preserved
loop-state-preserved c =
    let d = c.loop-state-2.invariant.driven in
    node_driven c.requires d (c.next_node.ensures _ d.filling.standing)

pub roots-requires : goal.roots-requires
roots-requires c =
    let d = c.loop-state-2.invariant.driven in
    record {
      at_end = (c.args.input.now, (d.base, d.filling), c.requires.listed, c.loop-state-2-test.false, c.if-state.true);
      batch_numbers_in_bounds = (d.room, d.waiting);
    }

pub returns-in_err-set : goal.returns-in_err-set
returns-in_err-set c =
    let d = c.loop-state-2.invariant.driven in
    let p = err_from_is_err_and c.from_residual-in_err-set.result c.from_residual-in_err-set.ensures.1 in
    rw (p.1, p.2)
    (past_roots_driven c.requires d c.roots.new.batch
    (c.in_err-set.ensures c.args.input.now d.base c.requires.listed d.filling c.loop-state-2-test.false))

pub returns : goal.returns
returns c =
    let a = c.args in
    let d = c.loop-state-2.invariant.driven in
    subst
    (λ (table : List Record). Driven a.input.now a.table.now a.state.now a.work.now (Ok c.in_ok-set.set) table c.roots.new.self c.loop-state-2.work)
    (sym c.store-2.ensures)
    (roots_driven c.requires d c.roots.auto.batch
    (c.in_ok-set.ensures a.input.now d.base c.requires.listed d.filling c.loop-state-2-test.false))
