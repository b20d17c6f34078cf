-- The rows of a sound set by the weights in the work: those of its root's weight are those that the paper counts.
use mathlib.Core.List.{List}
use mathlib.Core.Path.{◌∙◌, ◌≡◌, ap, refl}
use Prim.Native.Nat.{ℕ}
use lib.ListN.{length}
use Rattle.std.specs.Prelude.{Result, Ok}
use Rattle.paper.specs.declared.Head.{Head}
use Rattle.paper.specs.declared.Record.{Record}
use Rattle.paper.specs.declared.Set.{Set}
use Rattle.paper.specs.declared.Set.TheVariants.{Empty as empty, Unit as unit, Record as at}
use Rattle.paper.specs.declared.Refusal.{Refusal}
use Rattle.paper.specs.Questions.{count_of}
use Rattle.paper.specs.Records.{listings, set_rows, used_of}
use Rattle.laws.specs.QuestionCauses.{SetFits}
use Rattle.sound.specs.Counting.{rows_in_set}
use Rattle.sound.specs.Face.{Weighs}
use Rattle.sound.proofs.Answered.{sound_set, sound_work}
use Rattle.sound.proofs.Cells.{cell_rows}

module _ {h : Head} {table : List Record} {work work₁ : List ℕ} {w : Result (Unit {0}) Refusal} (W : Weighs h table work w work₁) (said : w ≡ Ok tt) where
  rows_of_lem : (s : Set) → SetFits h (used_of h table) s → rows_in_set work₁ s ≡ length (set_rows h.arity (listings h.arity (used_of h table)) s)
  rows_of_lem empty fits = refl
  rows_of_lem unit fits = refl
  rows_of_lem (at i) fits = ap (λ (cells : List ℕ). rows_in_set cells (at i)) (sound_work W said) ∙ cell_rows h table (sound_set W said) work i fits.0

  pub set_count : rows_in_set work₁ h.set ≡ count_of h table
  set_count = rows_of_lem h.set (sound_set W said).set
