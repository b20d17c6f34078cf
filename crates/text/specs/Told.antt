-- What a conversion tells and leaves in the output, once its result is made, or shown to be none.
use Rattle.std.specs.Prelude.{cond, List, ℕ, leb, length, Result, Ok, Err}
use Rattle.std.proofs.Math.Option.{Option, none, some}
use Rattle.paper.specs.declared.Refusal.{Refusal}
use Rattle.paper.specs.declared.Refusal.TheVariants.{ShortOutput, Text}
use Rattle.paper.specs.Refusals.{over}

abbrev pub told : Option (List ℕ) → List ℕ → Result ℕ Refusal × List ℕ
told none out = (Err Text, out)
told (some bytes) out = cond (leb (length bytes) (length out)) (Ok (length bytes), over bytes out) (Err ShortOutput, out)
