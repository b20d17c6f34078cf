-- Request 2026-01, the bracketed text of a tree, said without reading it: how bytes make numbers and brackets, and how these make trees.
-- Bytes: 32 blank, 10 line end, 33 exclamation mark, 40 and 41 round brackets, 48 to 57 digits. No other byte has a meaning outside of
-- a comment: 'a slash is simply a wrong character'.
use Rattle.std.specs.Prelude.{◌≡◌, cond, ◌⊎◌, List, [], ◌∷◌, ◌++◌, ℕ, ◌+◌, ◌/◌, ◌%◌, ◌≤◌, ◌<◌, ltb}
use Rattle.paper.specs.WrittenTree.{Forest, nil, tree, WrittenTree, forest_of, written_nodes}

-- what a text is made of, but for what may stand between
pub data Token : Type 0 where
  number : ℕ → Token
  opening : Token
  closing : Token

-- ---- bytes to tokens
-- 'a decimal number 0 to 63 without leading zeros': so it has at most two digits
abbrev pub decimal : ℕ → List ℕ
decimal l = cond (ltb l 10) ((48 + l) ∷ []) ((48 + l / 10) ∷ (48 + l % 10) ∷ [])

-- no digit stands first. Of what follows a number this says that the number ends there, so nothing stands inside it, and that something
-- stands between it and the next one
abbrev pub NoDigitFirst : List ℕ → Type 0
NoDigitFirst [] = Unit {0}
NoDigitFirst (b ∷ t) = (b < 48) ⊎ (57 < b)

-- the bytes begin with the rest of a comment, 'up to the next line end or the text's end', and go on with that line end
pub data Comment : List ℕ → List ℕ → Type 0 where
  text_ends : Comment [] []
  line_ends : {t : List ℕ} → Comment (10 ∷ t) (10 ∷ t)
  goes_on : {b : ℕ} {t rest : List ℕ} → (b ≡ 10 → ⊥) → Comment t rest → Comment (b ∷ t) rest

-- the bytes are these tokens: 'blanks and line ends may stand anywhere but inside a number', and so may a comment
pub data Cut : List ℕ → List Token → Type 0 where
  end : Cut [] []
  blank : {t : List ℕ} {ts : List Token} → Cut t ts → Cut (32 ∷ t) ts
  line_end : {t : List ℕ} {ts : List Token} → Cut t ts → Cut (10 ∷ t) ts
  comment : {t rest : List ℕ} {ts : List Token} → Comment t rest → Cut rest ts → Cut (33 ∷ t) ts
  opens : {t : List ℕ} {ts : List Token} → Cut t ts → Cut (40 ∷ t) (opening ∷ ts)
  closes : {t : List ℕ} {ts : List Token} → Cut t ts → Cut (41 ∷ t) (closing ∷ ts)
  label : {l : ℕ} {t : List ℕ} {ts : List Token} → l ≤ 63 → NoDigitFirst t → Cut t ts → Cut (decimal l ++ t) (number l ∷ ts)

-- ---- tokens to trees
-- the tokens begin with the trees of a forest, one after the other, and go on with the rest. A label's 'children follow in round
-- brackets'; 'brackets with nothing between them mean no children', as no brackets do
pub data Siblings : List Token → Forest → List Token → Type 0 where
  no_more : {rest : List Token} → Siblings rest nil rest
  without_brackets : {l : ℕ} {s : Forest} {ts rest : List Token} → Siblings ts s rest → Siblings (number l ∷ ts) (tree l nil s) rest
  with_brackets : {l : ℕ} {c s : Forest} {ts us rest : List Token}
      → Siblings ts c (closing ∷ us) → Siblings us s rest → Siblings (number l ∷ opening ∷ ts) (tree l c s) rest

-- ---- texts
-- the bytes are a writing of the tree: 'there is one root', 'at most 2,047 written nodes'
pub record Writes (t : List ℕ) (w : WrittenTree) : Type 0 where
  pub tokens : List Token
  pub cut : Cut t tokens
  pub one_root : Siblings tokens (forest_of w) []
  pub few : written_nodes w ≤ 2047
