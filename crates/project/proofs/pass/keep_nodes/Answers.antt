-- `keep_nodes`: the root is marked, and each turn is the next step of `passed`.
use Rattle.std.proofs.Common.{◌≡◌, ◌∙◌, ◌<◌, ◌-◌, ap, arith, length, length-set, suc}
use Rattle.project.specs.Passing.{passed, turns}
use Rattle.project.proofs.pass.keep_nodes.Goals as goal

pub look-requires : goal.look-requires
look-requires c =
    let below : c.loop-at.at < turns c.args.head.set = rw c.in-Record.is (omega arith) in
    let asked = c.requires.cells c.loop-at.at below in
    let long : length c.loop-at.work ≡ length c.args.work.now =
    c.loop-at.auto.work ∙ length-set c.clear.new.work c.in-Record.number 1 ∙ c.clear.auto.work in
    record { kind = asked.kind; own = omega (arith, asked.own); left = omega (arith, asked.left); right = omega (arith, asked.right) }

pub loop-at-preserved : goal.loop-at-preserved
loop-at-preserved c =
    let a = c.args in
    let at = c.loop-at.at in
    let below : suc (at - 1) ≡ at = omega arith in
    ap (λ n. passed a.index a.table.now n c.look.new.work) below ∙ ap (passed a.index a.table.now at) c.look.ensures ∙ c.loop-at.invariant
