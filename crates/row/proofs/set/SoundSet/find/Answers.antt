-- `find` by its tests: the rows of the set are those that its root's weight tells (`SoundSets`).
use Rattle.std.proofs.Common.{ap, arith, refl}
use borrow.Author.Tests.{le-leb, le-ltb, lt-leb, lt-ltb}
use Rattle.paper.specs.Questions.{count_of}
use Rattle.paper.specs.Refusals.{answer}
use Rattle.row.proofs.SoundSets.{rows_counted}
use Rattle.row.proofs.set.SoundSet.find.Goals as goal

pub returns-then-set_rows-number : goal.returns-then-set_rows-number
returns-then-set_rows-number c =
    let s = c.args.self.now in
    rw (le-ltb c.args.number (count_of s.head s.table.now) (omega (arith, rows_counted s))) refl

pub returns-then-room-self : goal.returns-then-room-self
returns-then-room-self c =
    let s = c.args.self.now in
    rw
    (lt-ltb c.args.number (count_of s.head s.table.now) (omega (arith, rows_counted s)), lt-leb s.head.arity c.args.room (omega arith))
    refl

pub row_numbered-requires : goal.row_numbered-requires
row_numbered-requires c = omega (arith, rows_counted c.args.self.now)

pub returns : goal.returns
returns c =
    let s = c.args.self.now in
    rw
    (lt-ltb c.args.number (count_of s.head s.table.now) (omega (arith, rows_counted s)), le-leb s.head.arity c.args.room (omega arith))
    (ap answer c.row_numbered.ensures)
