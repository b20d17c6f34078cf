-- The contract of `build` leaves no freedom: two results that it allows for one input are equal, in the answer and in every lent buffer.
use mathlib.Core.List.{List}
use mathlib.Core.Path.{◌∙◌, ◌≡◌, sym}
use Prim.Native.Nat.{ℕ}
use Rattle.std.specs.Prelude.{Result}
use Rattle.paper.specs.declared.Head.{Head}
use Rattle.paper.specs.declared.Record.{Record}
use Rattle.paper.specs.declared.StreamRefusal.{StreamRefusal}
use Rattle.laws.proofs.Answers.{one_built}
use Rattle.building.specs.Face.{Builds}

pub one_build : (input work : List ℕ) (table : List Record) (r s : Result Head StreamRefusal) (work₁ work₂ : List ℕ) (table₁ table₂ : List Record)
    → Builds input work table r work₁ table₁ → Builds input work table s work₂ table₂
    → (r ≡ s) × (work₁ ≡ work₂) × (table₁ ≡ table₂)
one_build input work table r s work₁ work₂ table₁ table₂ a b =
    (one_built r s (a.answer ∙ sym b.answer), a.worked ∙ sym b.worked, a.written ∙ sym b.written)
