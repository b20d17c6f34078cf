-- Each turn passes one more tree record, or is refused as the tree is; where the loop ends, so does the tree.
use Rattle.std.proofs.Common.{true, ◌≡◌, sym, arith}
use Rattle.stream.specs.OneRecord.{is_tree_at}
use Rattle.stream.proofs.TreeReading.{branch_goes_on, leaf_goes_on, not_one, now_nodes, refused_branch, refused_cut, refused_label, refused_many, tree_read}
use Rattle.stream.proofs.tree.read_tree.Goals as goal
use Rattle.stream.proofs.tree.read_tree.Goals.{then-input-next-via-then-input-next, then-input-next-via-else-input-next+then-input-at-gt-HIGHEST_LABEL, then-input-at-eq-LEAF, else-input-at-eq-LEAF+else-unjoined-lt2}

pub returns-then-nodes-ge-MOST_NODES : goal.returns-then-nodes-ge-MOST_NODES
returns-then-nodes-ge-MOST_NODES c = refused_many _ _ _ _ _ c.loop-at.invariant (sym c.loop-at-test.ensures) (omega (arith, c.if-nodes-ge-MOST_NODES.true))

pub returns-then-input-next : goal.returns-then-input-next
returns-then-input-next c = elim c.then-input-next.branch [
  | then-input-next-via-then-input-next w ↦
      refused_cut _ _ _ _ _ c.loop-at.invariant (sym c.loop-at-test.ensures) c.if-nodes-ge-MOST_NODES.false
      (omega (arith, c.body_length.ensures, w.if-input-next.true))
  | then-input-next-via-else-input-next+then-input-at-gt-HIGHEST_LABEL w ↦
      refused_label _ _ _ _ _ c.loop-at.invariant (sym c.loop-at-test.ensures) c.if-nodes-ge-MOST_NODES.false
      (omega (arith, c.body_length.ensures, w.if-input-next.false)) (omega (arith, w.if-input-at-gt-HIGHEST_LABEL.true))
]

pub overflow_add-unjoined : goal.overflow_add-unjoined
overflow_add-unjoined c = omega (arith, now_nodes _ _ _ _ _ c.loop-at.invariant)

pub returns-then-unjoined-lt2 : goal.returns-then-unjoined-lt2
returns-then-unjoined-lt2 c =
    refused_branch _ _ _ _ _ c.loop-at.invariant (sym c.loop-at-test.ensures) c.if-nodes-ge-MOST_NODES.false
    (omega (arith, c.body_length.ensures)) c.if-input-at-eq-LEAF.false c.if-unjoined-lt2.true

pub loop-at-preserved : goal.loop-at-preserved
loop-at-preserved c =
    let here : is_tree_at c.args.input.now c.loop-at.at ≡ true = sym c.loop-at-test.ensures in
    rw c.body_length.ensures (elim c.if-input-at-eq-LEAF.branch [
      | then-input-at-eq-LEAF w ↦
          rw (w.unjoined-is, w.most-is) (leaf_goes_on _ _ _ _ _ c.loop-at.invariant here c.if-nodes-ge-MOST_NODES.false
          (omega (arith, c.body_length.ensures)) c.if-input-at-gt-HIGHEST_LABEL.false w.if-input-at-eq-LEAF.true _ (grind arith))
      | else-input-at-eq-LEAF+else-unjoined-lt2 w ↦
          rw (w.unjoined-is, w.most-is) (branch_goes_on _ _ _ _ _ c.loop-at.invariant here c.if-nodes-ge-MOST_NODES.false
          (omega (arith, c.body_length.ensures)) c.if-input-at-gt-HIGHEST_LABEL.false w.if-input-at-eq-LEAF.false w.if-unjoined-lt2.false)
    ])

pub returns-then-unjoined-ne1 : goal.returns-then-unjoined-ne1
returns-then-unjoined-ne1 c = not_one _ _ _ _ _ c.loop-at.invariant (sym c.loop-at-test.ensures) c.if-unjoined-ne1.true

pub returns : goal.returns
returns c = tree_read _ _ _ _ _ c.loop-at.invariant (sym c.loop-at-test.ensures) c.if-unjoined-ne1.false
