-- Bytes put behind a text for which there is so much room.
use Rattle.std.specs.Prelude.{cond, List, [], ◌∷◌, ◌++◌, ℕ, ◌+◌, leb, length}
use Rattle.paper.specs.Refusals.{No, no, no_at}
use Rattle.lines.specs.Text.{number_text, refused_word, at_word}

-- all of the bytes, where they have room; else none of them, and all stays
unfoldable pub put : ℕ → List ℕ → List ℕ → List ℕ
put size bytes text = cond (leb (length text + length bytes) size) (text ++ bytes) text

-- a word, a number and the end of the line, one after the other, each where there is room for it
abbrev pub put_fact : ℕ → List ℕ → ℕ → List ℕ → List ℕ
put_fact size word n text = put size (10 ∷ []) (put size (number_text n) (put size word text))

-- the line of a refusal, so too
abbrev pub put_refusal : ℕ → No → List ℕ → List ℕ
put_refusal size (no n) text = put_fact size refused_word n text
put_refusal size (no_at n p) text = put_fact size at_word p (put size (number_text n) (put size refused_word text))
