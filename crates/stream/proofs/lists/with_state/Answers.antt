-- The record's second byte tells its state, whose bit is put in.
use Rattle.std.proofs.Common.{◌*◌, ◌%◌, ◌^◌, bit_or, ◌∙◌, subst, sym, arith}
use Rattle.stream.specs.RuleLists.{AddsState}
use Rattle.stream.proofs.AcceptingBits.{state_put}
use Rattle.stream.proofs.lists.with_state.Goals as goal

pub returns-then-state-lt-MOST_STATES : goal.returns-then-state-lt-MOST_STATES
returns-then-state-lt-MOST_STATES c =
    let a = c.args in
    let state = c.from-state.ensures ∙ c.byte_at.ensures in
    subst (λ b. AddsState a.input.now a.at a.accepting (bit_or a.accepting (1 * 2 ^ b % 65536))) (sym state)
    (state_put a.input.now a.at a.accepting (omega arith) (omega (arith, state)))
