-- What may be handed to the system, and what is handed on in the end.
use Rattle.std.specs.Prelude.{List, ◌≡◌, ℕ, ℤ, pos, length}
use Rattle.tree.specs.declared.handed.Handed.{Handed}
use Rattle.tree.specs.Telling.{Tells}

-- standard output has the number 1; what goes there is all that the program tells of the input, in one write: nothing was handed on before
pub record Due (descriptor : ℤ) (handed : Handed) (bytes : List ℕ) : Type 0 where
  pub output : descriptor ≡ pos 1
  pub first : handed.bytes ≡ 0
  pub all : Tells handed.input.now bytes

-- everything that the program tells of this input was handed on
pub record HandsOn (input : List ℕ) (handed : Handed) : Type 0 where
  pub of : handed.input.now ≡ input
  pub bytes : List ℕ
  pub told : Tells input bytes
  pub all : handed.bytes ≡ length bytes
