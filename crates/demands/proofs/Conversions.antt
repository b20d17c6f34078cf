-- The two calls between text and tree, known by their contracts alone: one answer each, refused exactly where a cause applies.
-- First a law for both calls, then each.
use mathlib.Core.List.{List}
use mathlib.Core.Logic.{inl, inr, ⊎_elim}
use mathlib.Core.Path.{◌≡◌, refl, sym, ◌∙◌, ap, subst}
use Prim.Native.Nat.{ℕ}
use native.Mathlib.Omega.{arith}
use lib.ListN.{length}
use Rattle.std.specs.Prelude.{Err, Result}
use Rattle.paper.specs.declared.Refusal.{Refusal}
use Rattle.paper.specs.Answers.{no_of, says, told}
use Rattle.paper.specs.BracketedText.{Writes}
use Rattle.paper.specs.CanonicalText.{text_of}
use Rattle.paper.specs.Conversions.{Conversion, Images, no_room, of_none, the_result}
use Rattle.paper.specs.Image.{image_bytes}
use Rattle.paper.specs.Refusals.{No, Reply, answer, no, no_at, output_after, refused}
use Rattle.paper.specs.WrittenTree.{WrittenTree}
use Rattle.laws.specs.First.{Alone, FirstOf, NoneOf}
use Rattle.laws.proofs.Answers.{one_answer}
use Rattle.laws.proofs.Judged.{first_not_none}
use Rattle.writings.proofs.Replies.{one_right}
use Rattle.writings.proofs.RoundTrips.{one_image}
use Rattle.writings.proofs.Texts.{one_tree}
use Rattle.text.specs.Face.{Converts, MakesText, MakesTree}
use Rattle.demands.specs.Conversions.{Cause, TextCause, TreeCause, conversion_order}
use Rattle.demands.specs.Refused.{Exact}
use Rattle.demands.proofs.Refusals.{exact_reply, result_cases}

-- ---- the law
-- a number is replied exactly if it is that of the first cause that applies
module _ (Of : WrittenTree → Type 0) (result : WrittenTree → List ℕ) (room : ℕ) where
  refuses : (w : No) → Conversion Of result room (refused w) → Alone (FirstOf conversion_order (Cause Of result room)) w
  refuses _ (of_none never) = inl (inl (refl, never), refl)
  refuses _ (no_room {w} g h) = inr (⊎_elim (λ (e, never). never w g) (λ (e, x). omega arith), inl (inr (refl, (w, g, h)), refl))

  first : (w : No) → Alone (FirstOf conversion_order (Cause Of result room)) w → Conversion Of result room (refused w)
  first (no n) (inl (inl (e, never), m)) = subst (λ x. Conversion Of result room (refused (no x))) (sym m) (of_none never)
  first (no n) (inl (inr (e, x), m)) = absurd (omega arith)
  first (no n) (inr (h, inl (inl (e, never), m))) = absurd (omega arith)
  first (no n) (inr (h, inl (inr (e, (w, g, short)), m))) = subst (λ x. Conversion Of result room (refused (no x))) (sym m) (no_room g short)
  first (no n) (inr (h, inr (h', f))) = absurd f
  first (no_at n p) f = absurd f

-- of a source that is of one tree at most
module _ (Of : WrittenTree → Type 0) (result : WrittenTree → List ℕ) (one_of_lem : (v w : WrittenTree) → Of v → Of w → v ≡ w) (out : List ℕ) where
  one_conversion : (out₁ out₂ : List ℕ) (r s : Result ℕ Refusal) → Converts (Conversion Of result (length out)) out r out₁
      → Converts (Conversion Of result (length out)) out s out₂ → (r ≡ s) × (out₁ ≡ out₂)
  one_conversion out₁ out₂ r s a b =
      let e : a.reply ≡ b.reply = one_right Of result one_of_lem (length out) a.reply b.reply a.right b.right in (
        one_answer r s (a.answer ∙ ap (told length) e ∙ sym b.answer),
        a.written ∙ ap (λ x. output_after x out) e ∙ sym b.written,
      )

  -- an answer is replied only if no cause applies
  answers : (bytes : List ℕ) → Conversion Of result (length out) (answer bytes) → NoneOf conversion_order (Cause Of result (length out))
  answers _ (the_result {w} g fits) = (
    ⊎_elim (λ (e, never). never w g) (λ (e, x). omega arith),
    (
      ⊎_elim (λ (e, never). omega arith) (λ (e, (v, g', short)). omega (arith, ap (λ x. length (result x)) (one_of_lem v w g' g))),
      tt,
    ),
  )

  exact : (r : Result ℕ Refusal) (out' : List ℕ) → Converts (Conversion Of result (length out)) out r out'
      → Exact no_of Err r (Alone (FirstOf conversion_order (Cause Of result (length out)))) (NoneOf conversion_order (Cause Of result (length out)))
  exact r out' c =
      exact_reply no_of Err (says no_of) (λ why. refl) (result_cases no_of) length c.reply r c.answer
      (λ n. (
        λ e. refuses Of result (length out) n (subst (Conversion Of result (length out)) e c.right),
        λ f. one_right Of result one_of_lem (length out) c.reply (refused n) c.right (first Of result (length out) n f),
      ))
      (λ (bytes, e). answers bytes (subst (Conversion Of result (length out)) e c.right), λ none. answered c.reply c.right none)
    where
      answered : (reply : Reply (List ℕ)) → Conversion Of result (length out) reply → NoneOf conversion_order (Cause Of result (length out))
          → (bytes : List ℕ) × (reply ≡ answer bytes)
      answered (refused (no n)) g none =
          absurd (first_not_none conversion_order (Cause Of result (length out)) n (refuses Of result (length out) (no n) g) none)
      answered (refused (no_at n p)) g none = absurd (refuses Of result (length out) (no_at n p) g)
      answered (answer bytes) g none = (bytes, refl)

-- ---- text to tree
module _ (text out : List ℕ) where
  pub one_text_to_tree : (out₁ out₂ : List ℕ) (r s : Result ℕ Refusal) → MakesTree text out r out₁ → MakesTree text out s out₂ → (r ≡ s) × (out₁ ≡ out₂)
  one_text_to_tree = one_conversion (Writes text) image_bytes (one_tree text) out

  pub text_to_tree_exact : (r : Result ℕ Refusal) (out' : List ℕ) → MakesTree text out r out'
      → Exact no_of Err r (Alone (FirstOf conversion_order (TreeCause text (length out)))) (NoneOf conversion_order (TreeCause text (length out)))
  text_to_tree_exact = exact (Writes text) image_bytes (one_tree text) out

-- ---- tree to text
module _ (bytes out : List ℕ) where
  pub one_tree_to_text : (out₁ out₂ : List ℕ) (r s : Result ℕ Refusal) → MakesText bytes out r out₁ → MakesText bytes out s out₂ → (r ≡ s) × (out₁ ≡ out₂)
  one_tree_to_text = one_conversion (Images bytes) text_of (one_image bytes) out

  pub tree_to_text_exact : (r : Result ℕ Refusal) (out' : List ℕ) → MakesText bytes out r out'
      → Exact no_of Err r (Alone (FirstOf conversion_order (TextCause bytes (length out)))) (NoneOf conversion_order (TextCause bytes (length out)))
  tree_to_text_exact = exact (Images bytes) text_of (one_image bytes) out
