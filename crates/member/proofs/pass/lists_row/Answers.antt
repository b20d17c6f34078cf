-- `lists_row`: unit lists the row; else the cells are right before each turn, and the root's at the end (`Passing`).
use Rattle.std.proofs.Common.{arith}
use Rattle.member.proofs.Passing.{finds, finds_unit, onward, reads}
use Rattle.member.proofs.pass.lists_row.Goals as goal

pub returns-in-Unit : goal.returns-in-Unit
returns-in-Unit c = finds_unit c.requires c.in-Unit.is

pub lists-requires-clause-reads : goal.lists-requires-clause-reads
lists-requires-clause-reads c = reads c.requires c.in-Record.is c.loop-at.at c.loop-at-test.true c.loop-at.work c.loop-at.auto.work

pub lists-requires-clause-places : goal.lists-requires-clause-places
lists-requires-clause-places c = omega (arith, c.requires.long, c.requires.sound.few_places)

pub loop-at-preserved : goal.loop-at-preserved
loop-at-preserved c =
    rw (c.from.ensures, c.lists.ensures) (onward c.requires c.in-Record.is c.loop-at.at c.loop-at-test.true c.loop-at.auto.work c.loop-at.invariant)

pub returns : goal.returns
returns c = finds c.requires c.in-Record.is c.loop-at-test.false c.loop-at.invariant
