-- A state that the query can have is found by its bit in the accepting states.
use Rattle.std.proofs.Common.{◌∙◌, ap, arith}
use Rattle.paper.specs.Questions.{has_place}
use Rattle.laws.proofs.Bits.{shifted}
use Rattle.stream.proofs.lists.accepts.Goals as goal

pub returns-then-state-lt-MOST_STATES : goal.returns-then-state-lt-MOST_STATES
returns-then-state-lt-MOST_STATES c = (
  λ input from k low.
      shifted c.number_in.result c.args.state ∙ ap (λ n. has_place n c.args.state) c.number_in.ensures
      ∙ k.accepting c.args.state low,
  λ h. absurd (omega arith),
)
