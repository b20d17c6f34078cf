-- What may be handed to the system, and what is handed on in the end.
use Rattle.std.specs.Prelude.{List, ◌≡◌, ℕ, ◌+◌, ◌<◌, ◌^◌, ℤ, pos, length, take, drop}
use Rattle.list.specs.declared.handed.Handed.{Handed}
use Rattle.paper.specs.Refusals.{program}
use Rattle.list.specs.Text.{program_text}

-- all that the program tells of an input
abbrev pub text_of : List ℕ → List ℕ
text_of input = program_text (program input)

-- so many bytes more are handed on
abbrev pub handed_on : Handed → ℕ → Handed
handed_on handed more = record { input = handed.input; bytes = handed.bytes + more }

-- the part of a text that comes next, behind what was handed on
abbrev pub Next : List ℕ → Handed → List ℕ → Type 0
Next whole handed bytes = bytes ≡ take (length bytes) (drop handed.bytes whole)

-- standard output has the number 1; what goes there is the part that comes next of what the program tells of the input
pub record Due (descriptor : ℤ) (handed : Handed) (bytes : List ℕ) : Type 0 where
  pub output : descriptor ≡ pos 1
  pub next : Next (text_of handed.input.now) handed bytes
  pub countable : handed.bytes + length bytes < 2 ^ 64

-- everything that the program tells of this input was handed on
pub record HandsOn (input : List ℕ) (handed : Handed) : Type 0 where
  pub of : handed.input.now ≡ input
  pub all : handed.bytes ≡ length (text_of input)
