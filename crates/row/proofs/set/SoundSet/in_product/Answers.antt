-- `in_product` goes to the factor that has the entry (`Leading`).
use Rattle.std.proofs.Common.{◌∙◌, arith, sym}
use Rattle.row.proofs.Leading.{goes_left_factor, goes_right_factor, is_product, some_right}
use Rattle.row.proofs.set.SoundSet.in_product.Goals as goal

pub rows_at-rows-requires : goal.rows_at-rows-requires
rows_at-rows-requires c = let q = c.requires in rw c.record_at-product.ensures (omega (arith, (is_product q.listed q.product).2))

pub flag_at-requires : goal.flag_at-requires
flag_at-requires c = let q = c.requires in rw c.record_at-product.ensures (omega (arith, (is_product q.listed q.product).1))

pub nonzero_div-result : goal.nonzero_div-result
nonzero_div-result c = let q = c.requires in rw (c.rows_at-rows.ensures, c.record_at-product.ensures) (some_right q.listed q.product)

pub nonzero_rem-result : goal.nonzero_rem-result
nonzero_rem-result c = let q = c.requires in rw (c.rows_at-rows.ensures, c.record_at-product.ensures) (some_right q.listed q.product)

pub returns-then-has_place-clause-same : goal.returns-then-has_place-clause-same
returns-then-has_place-clause-same c =
    let q = c.requires in
    let has = rw (c.flag_at.ensures, c.record_at-product.ensures) at (sym c.has_place.ensures ∙ c.if-has_place.true) in
    rw (c.rows_at-rows.ensures, c.record_at-product.ensures) (goes_left_factor q.listed q.product c.args.place q.has has)

pub returns-then-has_place-clause-lower : goal.returns-then-has_place-clause-lower
returns-then-has_place-clause-lower c = let q = c.requires in rw c.record_at-product.ensures (is_product q.listed q.product).1

pub returns-else-has_place-clause-same : goal.returns-else-has_place-clause-same
returns-else-has_place-clause-same c =
    let q = c.requires in
    let not = rw (c.flag_at.ensures, c.record_at-product.ensures) at (sym c.has_place.ensures ∙ c.if-has_place.false) in
    rw (c.rows_at-rows.ensures, c.record_at-product.ensures) (goes_right_factor q.listed q.product c.args.place q.has not)

pub returns-else-has_place-clause-lower : goal.returns-else-has_place-clause-lower
returns-else-has_place-clause-lower c = let q = c.requires in rw c.record_at-product.ensures (is_product q.listed q.product).2
