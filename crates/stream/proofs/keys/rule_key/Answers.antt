-- The digits of a branch rule's key are bytes of the rule.
use Rattle.stream.proofs.KeyBytes.{branch_bytes, branch_long}
use Rattle.stream.proofs.keys.rule_key.Goals as goal

pub returns : goal.returns
returns c =
    let a = c.args in
    branch_bytes a.input.now a.head.facts a.at _ _ _ _ c.number_at.ensures.0 c.number_at-2.ensures.0 c.flags.ensures.0 c.ends.ensures.0 _ _
    c.number_at-3.ensures.0 c.number_at-4.ensures.0
    (branch_long _ _ c.requires.whole c.requires.rule c.if-input-at-eq-LEAF_RULE.false).0
