-- `in_union` goes to the operand that lists the row (`Leading`).
use Rattle.std.proofs.Common.{arith}
use Rattle.row.proofs.Leading.{goes_left, goes_right, is_union}
use Rattle.row.proofs.set.SoundSet.in_union.Goals as goal

pub rows_at-rows-requires : goal.rows_at-rows-requires
rows_at-rows-requires c = let q = c.requires in rw c.record_at-left.ensures (omega (arith, (is_union q.listed q.union).1))

pub returns-then-row-rows-clause-same : goal.returns-then-row-rows-clause-same
returns-then-row-rows-clause-same c =
    let q = c.requires in
    let below = rw (c.rows_at-rows.ensures, c.record_at-left.ensures) at c.if-row-rows.true in
    rw c.record_at-left.ensures (goes_left q.listed q.union below)

pub returns-then-row-rows-clause-lower : goal.returns-then-row-rows-clause-lower
returns-then-row-rows-clause-lower c = let q = c.requires in rw c.record_at-left.ensures (is_union q.listed q.union).1

pub returns-else-row-rows-clause-same : goal.returns-else-row-rows-clause-same
returns-else-row-rows-clause-same c =
    let q = c.requires in
    let above = rw (c.rows_at-rows.ensures, c.record_at-left.ensures) at c.if-row-rows.false in
    rw (c.rows_at-rows.ensures, c.record_at-left.ensures, c.record_at-right.ensures) (goes_right q.listed q.union above)

pub returns-else-row-rows-clause-lower : goal.returns-else-row-rows-clause-lower
returns-else-row-rows-clause-lower c = let q = c.requires in rw c.record_at-right.ensures (is_union q.listed q.union).2
