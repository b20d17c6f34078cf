-- `has_place` shifts the place's bit to the lowest. A flag has no place from index 16 on.
use Rattle.std.proofs.Common.{◌∙◌, sym, arith}
use borrow.Author.Tests.{le-ltb}
use Rattle.laws.proofs.Bits.{shifted}
use Rattle.places.proofs.Flags.{beyond}
use Rattle.places.proofs.has_place.Goals as goal

pub returns-then-index-lt-BITS : goal.returns-then-index-lt-BITS
returns-then-index-lt-BITS c = shifted c.args.flag c.args.index

pub returns-else-index-lt-BITS : goal.returns-else-index-lt-BITS
returns-else-index-lt-BITS c =
    let a = c.args in
    le-ltb a.index 16 c.if-index-lt-BITS.false ∙ sym (beyond a.index a.flag (omega arith) c.if-index-lt-BITS.false)
