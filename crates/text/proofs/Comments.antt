-- A comment is passed over up to its end, and the pass goes on there as outside. First where a comment ends, then the pass.
use mathlib.Core.Bool.{cond}
use mathlib.Core.List.{List, [], ◌∷◌}
use mathlib.Core.Path.{◌∙◌, ◌≡◌, ap, refl, subst, sym}
use Prim.Native.Nat.{◌-◌, ◌<◌, ◌≤◌, suc, ℕ}
use native.Mathlib.Omega.{arith}
use borrow.Author.Tests.{ne_eqb}
use lib.ListN.{drop, get_or, length, take}
use lib.Seq.{take-length}
use Rattle.paper.specs.BracketedText.{Comment, goes_on, line_ends, text_ends}
use Rattle.writings.specs.ReadText.{in_comment, outside}
use Rattle.text.specs.Pass.{Kept, State, after_byte, image_behind, reading}

-- ---- where a comment ends
-- a byte stands here
one_byte : (rest : List ℕ) → 1 ≤ length rest → rest ≡ get_or rest 0 0 ∷ take (length rest - 1) (drop 1 rest)
one_byte [] one = absurd (omega arith)
one_byte (b ∷ rest) one =
    let left : suc (length rest) - 1 ≡ length rest = omega arith in
    ap (λ t. b ∷ t) (sym (ap (λ n. take n rest) left ∙ take-length rest))

module _ (rest : List ℕ) (one : 1 ≤ length rest) where
  abbrev pub behind : List ℕ
  behind = take (length rest - 1) (drop 1 rest)

  pub ends_here : get_or rest 0 0 ≡ 10 → Comment rest rest
  ends_here line = subst (λ t. Comment t t) (sym (one_byte rest one ∙ ap (λ b. b ∷ behind) line)) line_ends

  pub ends_later : {end : List ℕ} → (get_or rest 0 0 ≡ 10 → ⊥) → Comment behind end → Comment rest end
  ends_later {end} other g = subst (λ t. Comment t end) (sym (one_byte rest one)) (goes_on other g)

pub ends_with_text : (rest : List ℕ) → length rest < 1 → Comment rest rest
ends_with_text [] none = text_ends
ends_with_text (b ∷ rest) none = absurd (omega arith)

pub no_longer : {t rest : List ℕ} → Comment t rest → length rest ≤ length t
no_longer text_ends = omega arith
no_longer line_ends = omega arith
no_longer (goes_on other g) = omega (arith, no_longer g)

-- ---- the pass
-- of a byte that stands here
pub byte_read : (rest : List ℕ) (one : 1 ≤ length rest) (s : State) → image_behind s rest ≡ image_behind (after_byte s (get_or rest 0 0)) (behind rest one)
byte_read rest one s = ap (image_behind s) (one_byte rest one)

pub in_comment_lem : {t rest : List ℕ} → Comment t rest → (k : Kept) → image_behind (reading in_comment k) t ≡ image_behind (reading outside k) rest
in_comment_lem text_ends k = refl
in_comment_lem line_ends k = refl
in_comment_lem (goes_on {b} {t} other g) k =
    ap (λ x. image_behind (reading (cond x outside in_comment) k) t) (ne_eqb b 10 other) ∙ in_comment_lem g k
