-- All records fit: so a turn lays one more over the table, and the last turn has laid all of them.
use Rattle.std.proofs.Common.{◌≡◌, ℕ, ap, sym, ◌∙◌, arith, length}
use Rattle.std.proofs.Math.Seq.{paste}
use Rattle.paper.specs.Records.{blank_entry}
use Rattle.table.specs.Batch.{records_in}
use Rattle.table.proofs.Batches.{fits_says, length_records, record_in, stored_there}
use Rattle.table.proofs.Copies.{paste_next, pasted}
use Rattle.table.proofs.store.Goals as goal

pub loop-i-preserved : goal.loop-i-preserved
loop-i-preserved c =
    let i = c.loop-i.i in
    let n = c.args.count in
    let ns = c.args.batch.now in
    let there = fits_says (length c.args.table.now) c.args.from (length c.args.batch.now) n (sym c.fits.ensures ∙ c.if-not-fits.false) in
    paste_next _ _ _ i _ blank_entry c.loop-i.table (omega (arith, there.0)) (omega (arith, length_records n ns))
    (record_in n i ns (omega arith) ∙ sym c.record_at.ensures) c.loop-i.invariant

pub returns : goal.returns
returns c =
    let n = c.args.count in
    let there = fits_says (length c.args.table.now) c.args.from (length c.args.batch.now) n (sym c.fits.ensures ∙ c.if-not-fits.false) in
    c.loop-i.invariant
    ∙ ap (λ (m : ℕ). paste c.args.table.now c.args.from (records_in n c.args.batch.now) m) (let e : c.loop-i.i ≡ n = omega arith in e)
    ∙ pasted _ _ _ n (length_records n _)
    ∙ sym (stored_there _ _ _ _ there.0 there.1)
