-- The contracts of the functions for C leave no freedom: two results that one allows for one input are equal, in the number returned, in every lent buffer
-- and in the out parameters, refusals too.
use mathlib.Core.List.{List}
use mathlib.Core.Path.{◌∙◌, ◌≡◌, ap, sym}
use Prim.Native.Nat.{ℕ}
use lib.ListN.{length}
use Rattle.paper.specs.declared.Record.{Record}
use Rattle.paper.specs.Answers.{told}
use Rattle.paper.specs.BracketedText.{Writes}
use Rattle.paper.specs.CanonicalText.{text_of}
use Rattle.paper.specs.Conversions.{Conversion, Images}
use Rattle.paper.specs.Image.{image_bytes}
use Rattle.paper.specs.Refusals.{output_after}
use Rattle.paper.specs.Row.{Row}
use Rattle.paper.specs.WrittenTree.{WrittenTree}
use Rattle.writings.proofs.Replies.{one_right}
use Rattle.writings.proofs.RoundTrips.{one_image}
use Rattle.writings.proofs.Texts.{one_tree}
use Rattle.tarnsatchel.specs.Told.{TellsBuild, TellsConversion, TellsCount, TellsFix, TellsMember, TellsProject, TellsRow, TellsText, TellsTree, answer_after, code}

module _ (work : List ℕ) (r s : ℕ) (work₁ work₂ : List ℕ) where
  pub one_build : (input : List ℕ) (table table₁ table₂ : List Record) (head head₁ head₂ : List ℕ) (position position₁ position₂ : ℕ)
      → TellsBuild input work table head position r work₁ table₁ head₁ position₁
      → TellsBuild input work table head position s work₂ table₂ head₂ position₂
      → (r ≡ s) × (work₁ ≡ work₂) × (table₁ ≡ table₂) × (head₁ ≡ head₂) × (position₁ ≡ position₂)
  one_build input table table₁ table₂ head head₁ head₂ position position₁ position₂ a b = (
    a.number ∙ sym b.number,
    a.worked ∙ sym b.worked,
    a.written ∙ sym b.written,
    a.shown ∙ sym b.shown,
    a.position_is ∙ sym b.position_is,
  )

  module _ (head : List ℕ) (table : List Record) where
    pub one_count : (rows rows₁ rows₂ : ℕ) → TellsCount head table work rows r work₁ rows₁ → TellsCount head table work rows s work₂ rows₂
        → (r ≡ s) × (work₁ ≡ work₂) × (rows₁ ≡ rows₂)
    one_count rows rows₁ rows₂ a b = (a.number ∙ sym b.number, a.worked ∙ sym b.worked, a.shown ∙ sym b.shown)

    pub one_row : (n : ℕ) (row row₁ row₂ : List ℕ) → TellsRow head table work n row r work₁ row₁ → TellsRow head table work n row s work₂ row₂
        → (r ≡ s) × (work₁ ≡ work₂) × (row₁ ≡ row₂)
    one_row n row row₁ row₂ a b = (a.number ∙ sym b.number, a.worked ∙ sym b.worked, a.written ∙ sym b.written)

    pub one_member : (row : Row) (listed listed₁ listed₂ : ℕ) → TellsMember head table work row listed r work₁ listed₁
        → TellsMember head table work row listed s work₂ listed₂ → (r ≡ s) × (work₁ ≡ work₂) × (listed₁ ≡ listed₂)
    one_member row listed listed₁ listed₂ a b = (a.number ∙ sym b.number, a.worked ∙ sym b.worked, a.shown ∙ sym b.shown)

    pub one_project : (place : ℕ) (marks marks₁ marks₂ : List ℕ) → TellsProject head table work place marks r work₁ marks₁
        → TellsProject head table work place marks s work₂ marks₂ → (r ≡ s) × (work₁ ≡ work₂) × (marks₁ ≡ marks₂)
    one_project place marks marks₁ marks₂ a b = (a.number ∙ sym b.number, a.worked ∙ sym b.worked, a.written ∙ sym b.written)

    pub one_fix : (place n : ℕ) (target target₁ target₂ : List Record) (fixed fixed₁ fixed₂ : List ℕ)
        → TellsFix head table work place n target fixed r work₁ target₁ fixed₁ → TellsFix head table work place n target fixed s work₂ target₂ fixed₂
        → (r ≡ s) × (work₁ ≡ work₂) × (target₁ ≡ target₂) × (fixed₁ ≡ fixed₂)
    one_fix place n target target₁ target₂ fixed fixed₁ fixed₂ a b =
        (a.number ∙ sym b.number, a.worked ∙ sym b.worked, a.written ∙ sym b.written, a.shown ∙ sym b.shown)

-- the conversions: of a source that is of one tree at most two right replies are one, so what is told of them is one
module _ (Of : WrittenTree → Type 0) (result : WrittenTree → List ℕ) (one_of_lem : (v w : WrittenTree) → Of v → Of w → v ≡ w) (out : List ℕ) where
  one_conversion : (out₁ out₂ : List ℕ) (bytes bytes₁ bytes₂ r s : ℕ) → TellsConversion (Conversion Of result (length out)) out bytes r out₁ bytes₁
      → TellsConversion (Conversion Of result (length out)) out bytes s out₂ bytes₂ → (r ≡ s) × (out₁ ≡ out₂) × (bytes₁ ≡ bytes₂)
  one_conversion out₁ out₂ bytes bytes₁ bytes₂ r s a b =
      let e : a.reply ≡ b.reply = one_right Of result one_of_lem (length out) a.reply b.reply a.right b.right in (
        a.number ∙ ap code e ∙ sym b.number,
        a.written ∙ ap (λ x. output_after x out) e ∙ sym b.written,
        a.shown ∙ ap (λ x. answer_after (told length x) bytes) e ∙ sym b.shown,
      )

pub one_text_to_tree : (text tree tree₁ tree₂ : List ℕ) (bytes bytes₁ bytes₂ r s : ℕ) → TellsTree text tree bytes r tree₁ bytes₁
    → TellsTree text tree bytes s tree₂ bytes₂ → (r ≡ s) × (tree₁ ≡ tree₂) × (bytes₁ ≡ bytes₂)
one_text_to_tree text tree = one_conversion (Writes text) image_bytes (one_tree text) tree

pub one_tree_to_text : (tree text text₁ text₂ : List ℕ) (bytes bytes₁ bytes₂ r s : ℕ) → TellsText tree text bytes r text₁ bytes₁
    → TellsText tree text bytes s text₂ bytes₂ → (r ≡ s) × (text₁ ≡ text₂) × (bytes₁ ≡ bytes₂)
one_tree_to_text tree text = one_conversion (Images tree) text_of (one_image tree) text
