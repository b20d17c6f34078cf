-- `passes`, from the contracts of its three calls (`Facing`).
use Rattle.std.proofs.Common.{◌∙◌, ◌&&◌, length, ap, sym}
use Rattle.sound.specs.Head.{set_fits}
use Rattle.sound.proofs.Facing.{head_fails, judges, says_head}
use Rattle.sound.proofs.pass.passes.Goals as goal

pub weigh_records-requires-clause-few_places : goal.weigh_records-requires-clause-few_places
weigh_records-requires-clause-few_places c = ((says_head c.args.head (length c.args.table.now)).0 (sym c.if-not-head_fits.ensures)).few_places

pub weigh_records-requires-clause-used_there : goal.weigh_records-requires-clause-used_there
weigh_records-requires-clause-used_there c = ((says_head c.args.head (length c.args.table.now)).0 (sym c.if-not-head_fits.ensures)).used_there

pub returns-then-not-head_fits : goal.returns-then-not-head_fits
returns-then-not-head_fits c = head_fails c.args.head c.args.table.now c.args.work.now (sym c.if-not-head_fits.ensures)

pub returns-then-weigh_records : goal.returns-then-weigh_records
returns-then-weigh_records c =
    let a = c.args in
    let w = c.weigh_records in
    judges a.head a.table.now a.work.now c.requires w.result w.new.work (λ _. w.ensures) w.auto.work (sym c.if-not-head_fits.ensures) _
    (c.set_fits.ensures ∙ ap (λ p. p && set_fits a.head w.new.work a.head.set) (sym c.if-weigh_records.true))

pub returns-else-weigh_records : goal.returns-else-weigh_records
returns-else-weigh_records c =
    let a = c.args in
    let w = c.weigh_records in
    judges a.head a.table.now a.work.now c.requires w.result w.new.work (λ _. w.ensures) w.auto.work (sym c.if-not-head_fits.ensures) _
    (c.if-weigh_records.false ∙ ap (λ p. p && set_fits a.head w.new.work a.head.set) (sym c.if-weigh_records.false))
