-- A comment ends at a line end, or with the text, and at no other byte.
use Rattle.text.proofs.Comments.{ends_here, ends_later, ends_with_text}
use Rattle.text.proofs.pass.comment_end.Goals as goal

pub returns-then-byte-eq10 : goal.returns-then-byte-eq10
returns-then-byte-eq10 c = c.loop-end.invariant _ (ends_here _ c.in-len1-up.len_at_least c.if-byte-eq10.true)

pub loop-end-preserved : goal.loop-end-preserved
loop-end-preserved c = λ end g. c.loop-end.invariant end (ends_later _ c.in-len1-up.len_at_least c.if-byte-eq10.false g)

pub returns : goal.returns
returns c = c.loop-end.invariant _ (ends_with_text _ c.in_default.len_below)
