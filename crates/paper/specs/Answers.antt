-- The paper's number of each refusal, with the position that 1 to 4 have, and what each call's answer says, which is a `Result`.
use Rattle.std.specs.Prelude.{Bool, ℕ, Result, Ok, Err}
pub use Rattle.paper.specs.declared.Refusal.{Refusal}
use Rattle.paper.specs.declared.Refusal.TheVariants.{ShortWork, ShortTable, Place, Node, RowNumber, ShortOutput, NotSound, UnitTwice, RowLength, LongInput, Text}
pub use Rattle.paper.specs.declared.StreamRefusal.{StreamRefusal}
use Rattle.paper.specs.declared.StreamRefusal.TheVariants.{Tree, ManyNodes, Query, Twice, Other}
use Rattle.paper.specs.Records.{Head}
use Rattle.paper.specs.Refusals.{No, no, no_at, Reply, refused, answer}

abbrev pub number_of : Refusal → ℕ
number_of ShortWork = 5
number_of ShortTable = 6
number_of Place = 7
number_of Node = 8
number_of RowNumber = 9
number_of ShortOutput = 10
number_of NotSound = 11
number_of UnitTwice = 12
number_of RowLength = 13
number_of LongInput = 14
number_of Text = 15

-- what a refusal says: from 5 on the number alone
abbrev pub no_of : Refusal → No
no_of r = no (number_of r)

-- and of a stream: 1 to 4 have the position of what is at fault
abbrev pub no_of_stream : StreamRefusal → No
no_of_stream (Tree position) = no_at 1 position
no_of_stream (ManyNodes position) = no_at 2 position
no_of_stream (Query position) = no_at 3 position
no_of_stream (Twice position) = no_at 4 position
no_of_stream (Other r) = no_of r

-- what a result says: its answer, or what its refusal says
abbrev pub says : {A E : Type 0} → (E → No) → Result A E → Reply A
says said (Ok a) = answer a
says said (Err why) = refused (said why)

abbrev pub says_built : Result Head StreamRefusal → Reply Head
says_built = says no_of_stream

-- how many rows are listed
abbrev pub says_counted : Result ℕ Refusal → Reply ℕ
says_counted = says no_of

-- the row stands in the output
abbrev pub says_written : Result (Unit {0}) Refusal → Reply (Unit {0})
says_written = says no_of

-- whether the row is listed
abbrev pub says_member : Result Bool Refusal → Reply Bool
says_member = says no_of

-- the marks stand in the output
abbrev pub says_projected : Result (Unit {0}) Refusal → Reply (Unit {0})
says_projected = says no_of

abbrev pub says_fixed : Result Head Refusal → Reply Head
says_fixed = says no_of

-- how many bytes the result has; they stand in the output
abbrev pub says_converted : Result ℕ Refusal → Reply ℕ
says_converted = says no_of

-- what of an answer is told, where the rest stands in a lent buffer
abbrev pub told : {A B : Type 0} → (A → B) → Reply A → Reply B
told f (refused n) = refused n
told f (answer a) = answer (f a)
