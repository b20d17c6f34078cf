-- Each record has room for what it writes.
use Rattle.std.proofs.Common.{subst, sym}
use Rattle.text.proofs.WritingTexts.{SoFar, can_meet, can_miss, label_low, met_more, missing_more, starts_written}
use Rattle.text.proofs.canonical.write_text.Goals as goal

pub loop-rest-init : goal.loop-rest-init
loop-rest-init c =
    subst (SoFar c.args.tree.now c.args.tree.now) (λ i. record { waiting = sym c.new.ensures i; text = sym c.new-2.ensures i })
    (starts_written c.args.tree.now c.requires)

pub read_pad-requires : goal.read_pad-requires
read_pad-requires c = can_miss c.loop-rest.writing c.loop-rest.invariant c.in-len2-up.len_at_least c.if-kind-eq-LEAF.true

pub new-requires-else-kind-eq-LEAF : goal.new-requires-else-kind-eq-LEAF
new-requires-else-kind-eq-LEAF c = label_low c.loop-rest.writing c.loop-rest.invariant c.in-len2-up.len_at_least

pub read_branch-requires-clause-fits : goal.read_branch-requires-clause-fits
read_branch-requires-clause-fits c =
    rw c.new-else-kind-eq-LEAF.ensures
    (can_meet c.loop-rest.writing c.loop-rest.invariant c.in-len2-up.len_at_least c.if-kind-eq-LEAF.false)

pub loop-rest-preserved-then-kind-eq-LEAF : goal.loop-rest-preserved-then-kind-eq-LEAF
loop-rest-preserved-then-kind-eq-LEAF c =
    subst (SoFar c.args.tree.now _) (sym c.read_pad.ensures)
    (missing_more c.loop-rest.writing c.loop-rest.invariant c.in-len2-up.len_at_least c.if-kind-eq-LEAF.true)

pub loop-rest-preserved : goal.loop-rest-preserved
loop-rest-preserved c =
    rw (c.read_branch.ensures, c.new-else-kind-eq-LEAF.ensures)
    (met_more c.loop-rest.writing c.loop-rest.invariant c.in-len2-up.len_at_least c.if-kind-eq-LEAF.false)
