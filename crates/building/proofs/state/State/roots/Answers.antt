-- `State::roots` gives the set of the root, unless its records pass the limit.
use Rattle.std.proofs.Common.{arith}
use Rattle.std.proofs.lemmas.Result.{err_from_is_err_and}
use Rattle.building.proofs.Stopping.{past_roots, rooted, set_fits}
use Rattle.building.proofs.state.State.roots.Goals as goal

pub returns-in_err-count_records : goal.returns-in_err-count_records
returns-in_err-count_records c input base listed f done =
    let a = c.args in
    let p = err_from_is_err_and c.from_residual.result c.from_residual.ensures.1 in
    rw (p.1, p.2)
    (past_roots input a.self.now a.work.now a.batch.now base f c.requires.batch_numbers_in_bounds.1 done c.requires.at_end.4
    c.unite_roots-made.result c.unite_roots-made.new.batch (c.unite_roots-made.ensures input f.standing.constants listed) c.in_err-count_records.ensures)

pub overflow_cast-result : goal.overflow_cast-result
overflow_cast-result c =
    let a = c.args in
    let (input, filling, listed, done, last) = c.requires.at_end in
    let (base, f) = filling in
    omega (
      arith,
      set_fits input a.self.now a.work.now a.batch.now base f c.requires.batch_numbers_in_bounds.1 done last c.unite_roots-made.result
          c.unite_roots-made.new.batch (c.unite_roots-made.ensures input f.standing.constants listed),
    )

pub returns : goal.returns
returns c input base listed f done =
    let a = c.args in
    rooted input a.self.now a.work.now a.batch.now base f c.requires.batch_numbers_in_bounds.1 done c.requires.at_end.4 c.unite_roots-made.result
    c.unite_roots-made.new.batch (c.unite_roots-made.ensures input f.standing.constants listed) c.in_ok-count_records.ensures
