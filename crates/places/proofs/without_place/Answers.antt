-- `without_place` takes the bit of the place away. A flag has no place from index 16 on.
use Rattle.std.proofs.Common.{sym, arith}
use Rattle.laws.proofs.Bits.{without_same}
use Rattle.places.proofs.Flags.{beyond, place_taken}
use Rattle.places.proofs.without_place.Goals as goal

pub returns-then-index-lt-BITS : goal.returns-then-index-lt-BITS
returns-then-index-lt-BITS c = place_taken c.args.flag c.args.index c.if-index-lt-BITS.true

pub returns-else-index-lt-BITS : goal.returns-else-index-lt-BITS
returns-else-index-lt-BITS c =
    let a = c.args in
    sym (without_same a.index a.flag (beyond a.index a.flag (omega arith) c.if-index-lt-BITS.false))
