-- `refusal_behind` puts the word and the paper's number, and the position that 1 to 4 have.
use Rattle.paper.specs.Answers.{no_of_stream}
use Rattle.lines.proofs.PuttingAt.{positioned_at}
use Rattle.lines.proofs.refusal_behind.Goals as goal

pub returns-in-Some : goal.returns-in-Some
returns-in-Some c =
    let positioned = positioned_at (no_of_stream c.args.why) c.in-Some.position (c.args.at, c.args.text.now) c.in-Some.ensures in
    cc
