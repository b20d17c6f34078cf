-- The contracts of the questions leave no freedom: two results that one allows for one input are equal, in the answer and in every lent
-- buffer, refusals too. First the pass that all of them begin with. (`one_build` stands in crate `building`, those of the readers in `stream`.)
use mathlib.Core.Bool.{Bool}
use mathlib.Core.List.{List}
use mathlib.Core.Path.{◌≡◌, sym, ◌∙◌}
use Prim.Native.Nat.{ℕ}
use Rattle.std.specs.Prelude.{Result}
use Rattle.paper.specs.declared.Refusal.{Refusal}
use Rattle.paper.specs.declared.Head.{Head}
use Rattle.paper.specs.declared.Record.{Record}
use Rattle.paper.specs.Row.{Row}
use Rattle.laws.proofs.Answers.{one_answer}
use Rattle.fix.specs.Face.{Fixes}
use Rattle.member.specs.Face.{Members}
use Rattle.project.specs.Face.{Projects}
use Rattle.row.specs.Face.{Numbers}
use Rattle.sound.specs.Face.{Counts, Weighs}

module _ (h : Head) (table : List Record) (work work₁ work₂ : List ℕ) where
  pub one_weighing : (r s : Result (Unit {0}) Refusal) → Weighs h table work r work₁ → Weighs h table work s work₂ → (r ≡ s) × (work₁ ≡ work₂)
  one_weighing r s a b =
      (one_answer r s (a.answer ∙ sym b.answer), a.worked ∙ sym b.worked)

  pub one_count : (r s : Result ℕ Refusal) → Counts h table work r work₁ → Counts h table work s work₂ → (r ≡ s) × (work₁ ≡ work₂)
  one_count r s a b = (one_answer r s (a.answer ∙ sym b.answer), a.worked ∙ sym b.worked)

  pub one_row : (number : ℕ) (out out₁ out₂ : List ℕ) (r s : Result (Unit {0}) Refusal) → Numbers h table work number out r work₁ out₁
      → Numbers h table work number out s work₂ out₂ → (r ≡ s) × (work₁ ≡ work₂) × (out₁ ≡ out₂)
  one_row number out out₁ out₂ r s a b =
      (one_answer r s (a.answer ∙ sym b.answer), a.worked ∙ sym b.worked, a.written ∙ sym b.written)

  pub one_membership : (row : Row) (r s : Result Bool Refusal) → Members h table work row r work₁ → Members h table work row s work₂
      → (r ≡ s) × (work₁ ≡ work₂)
  one_membership row r s a b = (one_answer r s (a.answer ∙ sym b.answer), a.worked ∙ sym b.worked)

  pub one_projection : (place : ℕ) (out out₁ out₂ : List ℕ) (r s : Result (Unit {0}) Refusal) → Projects h table work place out r work₁ out₁
      → Projects h table work place out s work₂ out₂ → (r ≡ s) × (work₁ ≡ work₂) × (out₁ ≡ out₂)
  one_projection place out out₁ out₂ r s a b =
      (one_answer r s (a.answer ∙ sym b.answer), a.worked ∙ sym b.worked, a.written ∙ sym b.written)

  pub one_fixing : (place n : ℕ) (target target₁ target₂ : List Record) (r s : Result Head Refusal) → Fixes h table work place n target r work₁ target₁
      → Fixes h table work place n target s work₂ target₂ → (r ≡ s) × (work₁ ≡ work₂) × (target₁ ≡ target₂)
  one_fixing place n target target₁ target₂ r s a b =
      (one_answer r s (a.answer ∙ sym b.answer), a.worked ∙ sym b.worked, a.written ∙ sym b.written)
