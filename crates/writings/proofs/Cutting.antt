-- Bytes to tokens: the reading from the first byte to the last finds the tokens that the bytes are, and no others.
-- First the tokens that are found are right, for each mode, then they are found.
use mathlib.Core.Path.{◌≡◌, refl, ◌∙◌, ap, subst}
use mathlib.Core.Bool.{Bool, true, false, cond, ◌&&◌}
use mathlib.Core.Logic.{◌⊎◌, inl, inr}
use mathlib.Core.List.{List, [], ◌∷◌, ◌++◌}
use mathlib.Core.Option.{Option, none, some, none-ne-some}
use Prim.Native.Nat.{ℕ, ◌+◌, ◌*◌, ◌/◌, ◌%◌, ◌≤◌, ◌<◌}
use native.Mathlib.Omega.{arith}
use borrow.Author.Tests.{leb-true, leb-false, le-leb, eqb-true, eqb-false, ne_eqb}
use lib.Dec.{eqb, leb}
use Rattle.laws.proofs.Lists.{both_true}
use Rattle.paper.specs.BracketedText.{Token, number, opening, closing, decimal, NoDigitFirst, Comment, text_ends, line_ends, goes_on}
use Rattle.paper.specs.BracketedText.{Cut, end, blank, line_end, comment, opens, closes, label}
use Rattle.writings.specs.ReadText.{is_blank, is_line_end, is_mark, is_opening, is_closing, is_wrong, Sign, digit, symbol, sign_of}
use Rattle.writings.specs.ReadText.{Mode, outside, in_number, in_comment, put, fresh, numbered, byte, text_end, cut_from}
use Rattle.writings.proofs.Signs.{Means, sign_means, sign_digit, one_digit, two_digits}

-- ---- what is found is right
-- what the bytes are after the part of a token or of a comment that a mode stands for
abbrev Reads : Mode → List ℕ → List Token → Type 0
Reads outside t ts = Cut t ts
Reads (in_number n) t ts = n ≤ 63 → Cut (decimal n ++ t) ts
Reads in_comment t ts = (rest : List ℕ) × Comment t rest × Cut rest ts

put_some : (x : Token) (o : Option (List Token)) (ts : List Token) → put x o ≡ some ts
    → (us : List Token) × (o ≡ some us) × (ts ≡ x ∷ us)
put_some x none ts e = absurd (none-ne-some ts e)
put_some x (some us) ts e = (us, refl, cc)

module _ (b : ℕ) (t : List ℕ) (k : Mode → Option (List Token)) (right : (m : Mode) (ts : List Token) → k m ≡ some ts → Reads m t ts) where
  fresh_right : (x : Sign) → Means x b → (ts : List Token) → fresh x k ≡ some ts → Cut (b ∷ t) ts
  fresh_right (digit d) h ts e =
      rw h.0 (rw (one_digit d h.1) at (right (in_number d) ts e (omega arith)))
  fresh_right (symbol is_blank) h ts e = rw h.1 (blank (right outside ts e))
  fresh_right (symbol is_line_end) h ts e = rw h.1 (line_end (right outside ts e))
  fresh_right (symbol is_mark) h ts e = let r = right in_comment ts e in rw h.1 (comment r.1 r.2)
  fresh_right (symbol is_opening) h ts e = let (us, f, g) = put_some opening (k outside) ts e in rw (h.1, g) (opens (right outside us f))
  fresh_right (symbol is_closing) h ts e = let (us, f, g) = put_some closing (k outside) ts e in rw (h.1, g) (closes (right outside us f))
  fresh_right (symbol is_wrong) h ts e = absurd (none-ne-some ts e)

  numbered_right : (n : ℕ) → n ≤ 63 → (x : Sign) → Means x b → (ts : List Token) → numbered n x k ≡ some ts → Cut (decimal n ++ (b ∷ t)) ts
  numbered_right n le (digit d) h ts e = go (leb 1 n && leb (10 * n + d) 63) refl e
    where
      go : (c : Bool) → leb 1 n && leb (10 * n + d) 63 ≡ c → cond c (k (in_number (10 * n + d))) none ≡ some ts → Cut (decimal n ++ (b ∷ t)) ts
      go true f e' =
          let (p, q) = both_true (leb 1 n) (leb (10 * n + d) 63) f in
          let one : 1 ≤ n = leb-true 1 n p in
          let few : 10 * n + d ≤ 63 = leb-true (10 * n + d) 63 q in
          rw (h.0, one_digit n (omega arith)) (rw (two_digits n d one h.1) at (right (in_number (10 * n + d)) ts e' few))
      go false f e' = absurd (none-ne-some ts e')
  numbered_right n le (symbol x) h ts e =
      let (us, f, g) = put_some (number n) (fresh (symbol x) k) ts e in
      rw g (label le h.0 (fresh_right (symbol x) h us f))

  comment_right : (c : Bool) → eqb b 10 ≡ c → (ts : List Token) → k (cond c outside in_comment) ≡ some ts → Reads in_comment (b ∷ t) ts
  comment_right true h ts e = (10 ∷ t, rw (eqb-true b 10 h) line_ends, line_end (right outside ts e))
  comment_right false h ts e = let (rest, c, r) = right in_comment ts e in (rest, goes_on (eqb-false b 10 h) c, r)

  byte_right : (m : Mode) (ts : List Token) → byte m b k ≡ some ts → Reads m (b ∷ t) ts
  byte_right outside ts e = fresh_right (sign_of b) (sign_means b) ts e
  byte_right (in_number n) ts e = λ le. numbered_right n le (sign_of b) (sign_means b) ts e
  byte_right in_comment ts e = comment_right (eqb b 10) refl ts e

end_right : (m : Mode) (ts : List Token) → text_end m ≡ some ts → Reads m [] ts
end_right outside ts e = let z : ts ≡ [] = cc in rw z end
end_right (in_number n) ts e = let z : ts ≡ number n ∷ [] = cc in λ le. rw z (label le tt end)
end_right in_comment ts e = let z : ts ≡ [] = cc in ([], text_ends, rw z end)

-- the tokens found are those that the bytes are
cut_right : (t : List ℕ) (m : Mode) (ts : List Token) → cut_from m t ≡ some ts → Reads m t ts
cut_right [] m ts e = end_right m ts e
cut_right (b ∷ t) m ts e = byte_right b t (λ m'. cut_from m' t) (λ m' us f. cut_right t m' us f) m ts e

pub found_cut : (t : List ℕ) (ts : List Token) → cut_from outside t ≡ some ts → Cut t ts
found_cut t ts e = cut_right t outside ts e

-- ---- and they are found
comment_found : {t rest : List ℕ} → Comment t rest → {o : Option (List Token)} → cut_from outside rest ≡ o → cut_from in_comment t ≡ o
comment_found text_ends e = e
comment_found line_ends e = e
comment_found (goes_on {b = b} n c) e = rw (ne_eqb b 10 n) (comment_found c e)

-- a number ends before a byte that is no digit
number_ends : (n : ℕ) (t : List ℕ) (ts : List Token) → NoDigitFirst t → cut_from outside t ≡ some ts → cut_from (in_number n) t ≡ some (number n ∷ ts)
number_ends n [] ts h e = let z : ts ≡ [] = cc in rw z
number_ends n (b ∷ t) ts h e = go (sign_of b) (sign_means b) h e
  where
    go : (x : Sign) → Means x b → (b < 48) ⊎ (57 < b) → fresh x (λ m. cut_from m t) ≡ some ts
        → numbered n x (λ m. cut_from m t) ≡ some (number n ∷ ts)
    go (digit d) m (inl lt) f = absurd (omega arith)
    go (digit d) m (inr lt) f = absurd (omega arith)
    go (symbol x) m lt f = ap (put (number n)) f

-- a number is read digit by digit
one_found : (l : ℕ) (t : List ℕ) → l ≤ 9 → cut_from outside (decimal l ++ t) ≡ cut_from (in_number l) t
one_found l t h = rw (one_digit l h, sign_digit l h)

two_found : (n d : ℕ) (t : List ℕ) → 1 ≤ n → d ≤ 9 → 10 * n + d ≤ 63
    → cut_from outside (decimal (10 * n + d) ++ t) ≡ cut_from (in_number (10 * n + d)) t
two_found n d t one nine few =
    rw (two_digits n d one nine, sign_digit n (omega arith), sign_digit d nine, le-leb 1 n one, le-leb (10 * n + d) 63 few)

number_found : (l : ℕ) (t : List ℕ) → l ≤ 63 → cut_from outside (decimal l ++ t) ≡ cut_from (in_number l) t
number_found l t le = go (leb l 9) refl
  where
    go : (c : Bool) → leb l 9 ≡ c → cut_from outside (decimal l ++ t) ≡ cut_from (in_number l) t
    go true e = one_found l t (leb-true l 9 e)
    go false e =
        let ten : 9 < l = leb-false l 9 e in
        let same : 10 * (l / 10) + l % 10 ≡ l = omega arith in
        subst (λ (x : ℕ). cut_from outside (decimal x ++ t) ≡ cut_from (in_number x) t) same
        (two_found (l / 10) (l % 10) t (omega arith) (omega arith) (omega arith))

pub cut_found : {t : List ℕ} {ts : List Token} → Cut t ts → cut_from outside t ≡ some ts
cut_found end = refl
cut_found (blank g) = cut_found g
cut_found (line_end g) = cut_found g
cut_found (comment c g) = comment_found c (cut_found g)
cut_found (opens g) = ap (put opening) (cut_found g)
cut_found (closes g) = ap (put closing) (cut_found g)
cut_found (label {l = l} {t = t} {ts = ts} le h g) = number_found l t le ∙ number_ends l t ts h (cut_found g)
