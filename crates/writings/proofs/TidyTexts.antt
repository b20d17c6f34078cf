-- The canonical text is the tidy one: it is tidy, and a tidy text of the tree is the canonical one.
-- First the canonical text is tidy; then tidy bytes are their tokens with one blank between numbers; then these are the canonical text.
use mathlib.Core.Path.{◌≡◌, refl, sym, ◌∙◌, ap, subst}
use mathlib.Core.Bool.{Bool, true, false}
use mathlib.Core.Logic.{◌⊎◌, inl, inr}
use mathlib.Core.List.{List, [], ◌∷◌, ◌++◌, append_assoc, append-nil}
use Prim.Native.Nat.{ℕ, ◌+◌, ◌*◌, ◌/◌, ◌%◌, ◌≤◌, ◌<◌}
use native.Mathlib.Omega.{arith}
use borrow.Author.Tests.{leb-true, leb-false}
use lib.Dec.{leb}
use Rattle.paper.specs.WrittenTree.{Forest, nil, tree, WrittenTree, forest_of, LabelsFit, Allowed}
use Rattle.paper.specs.BracketedText.{Token, number, opening, closing, decimal, NoDigitFirst, Cut, end, blank, line_end, comment, opens, closes, label}
use Rattle.paper.specs.BracketedText.{Siblings, no_more, without_brackets, with_brackets, Writes}
use Rattle.paper.specs.CanonicalText.{bracketed, between, forest_text, text_of}
use Rattle.writings.specs.Tidy.{Digit, Neighbours, TidyAfter, Tidy}
use Rattle.writings.proofs.Images.{regrouped}
use Rattle.writings.proofs.Signs.{one_digit, two_digits}
use Rattle.writings.proofs.CanonicalTexts.{alone, blank_follows, brackets_follow}

-- ---- a label's digits
data Digits : List ℕ → Type 0 where
  one : {b : ℕ} → Digit b → Digits (b ∷ [])
  two : {a b : ℕ} → Digit a → Digit b → Digits (a ∷ b ∷ [])

label_digits : (l : ℕ) → l ≤ 63 → Digits (decimal l)
label_digits l le = go (leb l 9) refl
  where
    go : (c : Bool) → leb l 9 ≡ c → Digits (decimal l)
    go true e = let nine : l ≤ 9 = leb-true l 9 e in rw (one_digit l nine) (one {b = 48 + l} (omega arith))
    go false e =
        let ten : 9 < l = leb-false l 9 e in
        let same : 10 * (l / 10) + l % 10 ≡ l = omega arith in
        subst (λ x. Digits (decimal x)) same (rw (two_digits (l / 10) (l % 10) (omega arith) (omega arith)) (two {a = 48 + l / 10} {b = 48 + l % 10} (omega arith) (omega arith)))

-- ---- the canonical text is tidy
digits_tidy : {ds : List ℕ} → Digits ds → (a : ℕ) (t : List ℕ) → ((b : ℕ) → Digit b → TidyAfter b t) → TidyAfter a (ds ++ t)
digits_tidy (one {b = b} d) a t k = (omega arith, k b d)
digits_tidy (two {b = b'} d d') a t k = (omega arith, (omega arith, k b' d'))

closing_behind : {b : ℕ} → Digit b ⊎ (b ≡ 41) → Neighbours b 41
closing_behind (inl d) = omega arith
closing_behind (inr e) = omega arith

-- the bytes are tidy behind a tree, which ends with a digit or a closing bracket
abbrev BehindTree : List ℕ → Type 0
BehindTree t = (b : ℕ) → Digit b ⊎ (b ≡ 41) → TidyAfter b t

-- the bytes are tidy behind the forest that stands behind a
abbrev Behind : ℕ → Forest → List ℕ → Type 0
Behind a nil t = TidyAfter a t
Behind a (tree l c s) t = BehindTree t

behind_closing : (s : Forest) (t : List ℕ) → BehindTree t → Behind 41 s t
behind_closing nil t k = k 41 (inr refl)
behind_closing (tree l c s) t k = k

forest_tidy : (f : Forest) → LabelsFit f → (a : ℕ) (t : List ℕ) → Behind a f t → TidyAfter a (forest_text f ++ t)
forest_tidy nil h a t k = k
forest_tidy (tree l nil nil) h a t k = rw (alone (decimal l) t) (digits_tidy (label_digits l h.0) a t (λ b d. k b (inl d)))
forest_tidy (tree l nil (tree l' c' s')) h a t k =
    rw (blank_follows (decimal l) (forest_text (tree l' c' s')) t)
    (digits_tidy (label_digits l h.0) a (32 ∷ (forest_text (tree l' c' s') ++ t))
    (λ b d. (omega arith, forest_tidy (tree l' c' s') h.2 32 t k)))
forest_tidy (tree l (tree l' c' s') s) h a t k =
    rw (brackets_follow (decimal l) (forest_text (tree l' c' s')) (forest_text s) t)
    (digits_tidy (label_digits l h.0) a (40 ∷ (forest_text (tree l' c' s') ++ (41 ∷ (forest_text s ++ t))))
    (λ b d. (
      omega arith,
      forest_tidy (tree l' c' s') h.1 40 (41 ∷ (forest_text s ++ t))
          (λ b' e. (closing_behind e, forest_tidy s h.2 41 t (behind_closing s t k))),
    )))

pub canonical_tidy : (w : WrittenTree) → Allowed w → Tidy (text_of w)
canonical_tidy w a = rw (append-nil (text_of w)) at (forest_tidy (forest_of w) a.labels 0 [] ends)
  where
    ends : (b : ℕ) → Digit b ⊎ (b ≡ 41) → b ≡ 32 → ⊥
    ends b (inl d) = omega arith
    ends b (inr e) = omega arith

-- ---- tidy bytes are their tokens with one blank between numbers
abbrev space : List Token → List ℕ
space [] = []
space (number l ∷ ts) = 32 ∷ []
space (opening ∷ ts) = []
space (closing ∷ ts) = []

abbrev spaced : List Token → List ℕ
spaced [] = []
spaced (number l ∷ ts) = decimal l ++ (space ts ++ spaced ts)
spaced (opening ∷ ts) = 40 ∷ spaced ts
spaced (closing ∷ ts) = 41 ∷ spaced ts

record Spaced (t : List ℕ) (ts : List Token) : Type 0 where
  behind_other : (a : ℕ) → (Digit a → ⊥) → TidyAfter a t → t ≡ spaced ts
  behind_digit : (a : ℕ) → Digit a → NoDigitFirst t → TidyAfter a t → t ≡ space ts ++ spaced ts

number_follows : (ts : List Token) → TidyAfter 32 (spaced ts) → space ts ≡ 32 ∷ []
number_follows [] h = absurd (h refl)
number_follows (number l ∷ ts) h = refl
number_follows (opening ∷ ts) h = let d = h.0.number_behind_blank refl in absurd (omega arith)
number_follows (closing ∷ ts) h = let d = h.0.number_behind_blank refl in absurd (omega arith)

digits_first : {ds : List ℕ} → Digits ds → (t : List ℕ) → NoDigitFirst (ds ++ t) → ⊥
digits_first (one d) t (inl h) = omega arith
digits_first (one d) t (inr h) = omega arith
digits_first (two d e) t (inl h) = omega arith
digits_first (two d e) t (inr h) = omega arith

digits_last : {ds : List ℕ} → Digits ds → (a : ℕ) (t : List ℕ) → TidyAfter a (ds ++ t) → (b : ℕ) × Digit b × TidyAfter b t
digits_last (one {b = b} d) a t h = (b, d, h.1)
digits_last (two {b = b} d e) a t h = (b, e, h.1.1)

no_digit : (b : ℕ) → (b < 48) ⊎ (57 < b) → Digit b → ⊥
no_digit b (inl h) d = omega arith
no_digit b (inr h) d = omega arith

cut_spaced : {t : List ℕ} {ts : List Token} → Cut t ts → Spaced t ts
cut_spaced end = record { behind_other = λ a n h. refl; behind_digit = λ a d n h. refl }
cut_spaced (blank {t = t} {ts = ts} g) = let ih = cut_spaced g in record {
  behind_other = λ a n h. absurd (n (h.0.blank_behind_number refl));
  behind_digit = λ a d n h.
      let e = ih.behind_other 32 (no_digit 32 (inl (omega arith))) h.1 in
      ap {B = List ℕ} (λ x. 32 ∷ x) e ∙ ap (λ x. x ++ spaced ts) (sym (number_follows ts (subst (TidyAfter 32) e h.1)));
}
cut_spaced (line_end g) = record {
  behind_other = λ a n h. absurd (h.0.no_line_end refl);
  behind_digit = λ a d n h. absurd (h.0.no_line_end refl);
}
cut_spaced (comment c g) = record {
  behind_other = λ a n h. absurd (h.0.no_comment refl);
  behind_digit = λ a d n h. absurd (h.0.no_comment refl);
}
cut_spaced (opens g) = let ih = cut_spaced g in record {
  behind_other = λ a n h. ap {B = List ℕ} (λ x. 40 ∷ x) (ih.behind_other 40 (no_digit 40 (inl (omega arith))) h.1);
  behind_digit = λ a d n h. ap {B = List ℕ} (λ x. 40 ∷ x) (ih.behind_other 40 (no_digit 40 (inl (omega arith))) h.1);
}
cut_spaced (closes g) = let ih = cut_spaced g in record {
  behind_other = λ a n h. ap {B = List ℕ} (λ x. 41 ∷ x) (ih.behind_other 41 (no_digit 41 (inl (omega arith))) h.1);
  behind_digit = λ a d n h. ap {B = List ℕ} (λ x. 41 ∷ x) (ih.behind_other 41 (no_digit 41 (inl (omega arith))) h.1);
}
cut_spaced (label {l = l} {t = t} le nd g) = let ih = cut_spaced g in record {
  behind_other = λ a n h.
      let (b, d, h') = digits_last (label_digits l le) a t h in
      ap (λ x. decimal l ++ x) (ih.behind_digit b d nd h');
  behind_digit = λ a d n h. absurd (digits_first (label_digits l le) t n);
}

-- ---- and these are the canonical text
abbrev NoClosingFirst : List Token → Type 0
NoClosingFirst [] = Unit {0}
NoClosingFirst (number l ∷ ts) = Unit {0}
NoClosingFirst (opening ∷ ts) = Unit {0}
NoClosingFirst (closing ∷ ts) = ⊥

abbrev NoNumberFirst : List Token → Type 0
NoNumberFirst [] = Unit {0}
NoNumberFirst (number l ∷ ts) = ⊥
NoNumberFirst (opening ∷ ts) = Unit {0}
NoNumberFirst (closing ∷ ts) = Unit {0}

abbrev NoneEmpty : List Token → Type 0
NoneEmpty [] = Unit {0}
NoneEmpty (number l ∷ ts) = NoneEmpty ts
NoneEmpty (opening ∷ ts) = NoClosingFirst ts × NoneEmpty ts
NoneEmpty (closing ∷ ts) = NoneEmpty ts

tidy_rest : (xs : List ℕ) (a : ℕ) (t : List ℕ) → TidyAfter a (xs ++ t) → (b : ℕ) × TidyAfter b t
tidy_rest [] a t h = (a, h)
tidy_rest (x ∷ xs) a t h = tidy_rest xs x t h.1

content_first : (ts : List Token) → TidyAfter 40 (spaced ts) → NoClosingFirst ts
content_first [] h = tt
content_first (number l ∷ ts) h = tt
content_first (opening ∷ ts) h = tt
content_first (closing ∷ ts) h = h.0.no_empty_brackets refl refl

none_empty : (ts : List Token) (a : ℕ) → TidyAfter a (spaced ts) → NoneEmpty ts
none_empty [] a h = tt
none_empty (number l ∷ ts) a h =
    let (b, h') = tidy_rest (decimal l) a (space ts ++ spaced ts) h in
    let (b', h'') = tidy_rest (space ts) b (spaced ts) h' in
    none_empty ts b' h''
none_empty (opening ∷ ts) a h = (content_first ts h.1, none_empty ts 40 h.1)
none_empty (closing ∷ ts) a h = none_empty ts 41 h.1

no_space : (us : List Token) → NoNumberFirst us → space us ≡ []
no_space [] h = refl
no_space (number l ∷ us) h = absurd h
no_space (opening ∷ us) h = refl
no_space (closing ∷ us) h = refl

space_between : {ts us : List Token} {s : Forest} → Siblings ts s us → NoNumberFirst us → space ts ≡ between nil s
space_between (no_more {rest = us}) n = no_space us n
space_between (without_brackets g) n = refl
space_between (with_brackets g g') n = refl

some_content : {ts us : List Token} {c : Forest} → Siblings ts c (closing ∷ us) → NoClosingFirst ts → (x : List ℕ) (s : Forest)
    → bracketed c x ++ between c s ≡ 40 ∷ (x ++ (41 ∷ []))
some_content no_more n x s = absurd n
some_content (without_brackets g) n x s = append-nil (40 ∷ (x ++ (41 ∷ [])))
some_content (with_brackets g g') n x s = append-nil (40 ∷ (x ++ (41 ∷ [])))

with_content : (d x b w y t : List ℕ) → b ++ w ≡ 40 ∷ (x ++ (41 ∷ [])) → (d ++ (b ++ (w ++ y))) ++ t ≡ d ++ (40 ∷ (x ++ (41 ∷ (y ++ t))))
with_content d x b w y t e =
    ap (λ z. (d ++ z) ++ t) (sym (append_assoc b w y) ∙ ap (λ z. z ++ y) e) ∙ brackets_follow d x y t

siblings_spaced : {ts us : List Token} {f : Forest} → Siblings ts f us → NoneEmpty ts → NoNumberFirst us
    → (spaced ts ≡ forest_text f ++ spaced us) × NoneEmpty us
siblings_spaced no_more h n = (refl, h)
siblings_spaced (without_brackets {l = l} {s = s} {rest = rest} g) h n =
    let (e, none) = siblings_spaced g h n in
    (rw (space_between g n, e) (sym (regrouped (decimal l) (between nil s) (forest_text s) (spaced rest))), none)
siblings_spaced (with_brackets {l = l} {c = c} {s = s} {rest = rest} g g') h n =
    let (e, none) = siblings_spaced g h.1 tt in
    let (e', none') = siblings_spaced g' none n in (
      rw (e, e') (sym (with_content (decimal l) (forest_text c) (bracketed c (forest_text c)) (between c s) (forest_text s) (spaced rest)
          (some_content g h.0 (forest_text c) s))),
      none',
    )

pub tidy_canonical : (t : List ℕ) (w : WrittenTree) → Writes t w → Tidy t → t ≡ text_of w
tidy_canonical t w h tidy =
    e ∙ (siblings_spaced h.one_root (none_empty h.tokens 0 (subst (TidyAfter 0) e tidy)) tt).0 ∙ append-nil (text_of w)
  where
    e : t ≡ spaced h.tokens
    e = (cut_spaced h.cut).behind_other 0 (no_digit 0 (inl (omega arith))) tidy
