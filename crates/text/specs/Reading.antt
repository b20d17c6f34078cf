-- What the code of the pass holds and answers, read as what the pass keeps and comes to.
use Rattle.std.specs.Prelude.{Result, Ok, Err}
use Rattle.std.proofs.Math.Option.{Option, none, some}
use Rattle.writings.specs.ReadText.{Mode, outside, in_number, in_comment}
use Rattle.text.specs.declared.tokens.Fault.{Fault}
use Rattle.text.specs.declared.pass.Mode.{Mode as Held}
use Rattle.text.specs.declared.pass.Mode.TheVariants.{Outside, Number, Comment}
use Rattle.text.specs.Pass.{Kept, Step, faulty, going, State, refused, reading}

-- what is answered, if anything
abbrev pub answered : {A : Type 0} → Result A Fault → Option A
answered (Ok a) = some a
answered (Err fault) = none

-- what is kept behind a token
abbrev pub step_to : Result (Unit {0}) Fault → Kept → Step
step_to (Ok done) k = going k
step_to (Err fault) k = faulty

abbrev pub mode_in : Held → Mode
mode_in Outside = outside
mode_in (Number n) = in_number n
mode_in Comment = in_comment

-- and behind a byte
abbrev pub state_in : Held → Kept → State
state_in mode k = reading (mode_in mode) k

abbrev pub state_behind : Result Held Fault → Kept → State
state_behind (Ok mode) k = state_in mode k
state_behind (Err fault) k = refused
