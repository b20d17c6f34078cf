-- Where a turn has gone over a record, the numbers and the bytes to come are judged as before; a fault is refused, whatever follows.
use Rattle.std.proofs.Common.{◌∙◌, ap, arith}
use Rattle.text.specs.JudgeImage.{accepts_image}
use Rattle.text.proofs.ImageRecords.{fault, pad_more, shorter, written_more}
use Rattle.text.proofs.image.is_image.Goals as goal

pub returns-in_default-2 : goal.returns-in_default-2
returns-in_default-2 c = let l = c.loop-rest in
    fault l.rest.now c.in-len2-up.len_at_least l.trees l.nodes l.pad l.single (λ k r. omega arith) (λ k r t. omega arith)
    ∙ ap accepts_image l.invariant.judged

pub returns-in_default-2-2 : goal.returns-in_default-2-2
returns-in_default-2-2 c = let l = c.loop-rest in
    fault l.rest.now c.in-len2-up.len_at_least l.trees l.nodes l.pad l.single (λ k r. omega arith) (λ k r t. omega arith)
    ∙ ap accepts_image l.invariant.judged

pub returns-in_default-2-3 : goal.returns-in_default-2-3
returns-in_default-2-3 c = let l = c.loop-rest in
    fault l.rest.now c.in-len2-up.len_at_least l.trees l.nodes l.pad l.single (λ k r. omega arith) (λ k r t. omega arith)
    ∙ ap accepts_image l.invariant.judged

pub returns-in_default-2-4 : goal.returns-in_default-2-4
returns-in_default-2-4 c = let l = c.loop-rest in
    fault l.rest.now c.in-len2-up.len_at_least l.trees l.nodes l.pad l.single (λ k r. omega arith) (λ k r t. omega arith)
    ∙ ap accepts_image l.invariant.judged

pub loop-rest-preserved-in-1-eq0 : goal.loop-rest-preserved-in-1-eq0
loop-rest-preserved-in-1-eq0 c = let l = c.loop-rest in let left = shorter l.rest.now c.in-len2-up.len_at_least l.trees l.nodes l.pad l.single in record {
  few_trees = omega arith;
  few_nodes = omega arith;
  judged = pad_more l.rest.now c.in-len2-up.len_at_least l.trees l.nodes l.pad l.single c.in-1-eq0.is-0 c.in-1-eq0.is-1 ∙ l.invariant.judged;
}

pub loop-rest-preserved : goal.loop-rest-preserved
loop-rest-preserved c = let l = c.loop-rest in let left = shorter l.rest.now c.in-len2-up.len_at_least l.trees l.nodes l.pad l.single in record {
  few_trees = omega arith;
  few_nodes = omega arith;
  judged = written_more l.rest.now c.in-len2-up.len_at_least l.trees l.nodes l.pad l.single (omega arith) (omega arith) c.if-trees-ge2.true ∙ l.invariant.judged;
}
