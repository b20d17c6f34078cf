-- Bytes put behind the first ones of a buffer: how many stand there then, and the buffer.
use Rattle.std.specs.Prelude.{cond, List, [], ◌∷◌, ◌++◌, ◌≡◌, ℕ, ◌+◌, leb, length, take, drop}
use Rattle.paper.specs.Refusals.{No, no, no_at}
use Rattle.lines.specs.Text.{number_text, refused_word, at_word}

-- all of the bytes, where the buffer has room for them, and what stands behind them stays; else none of them, and all stays
unfoldable pub put_at : List ℕ → ℕ × List ℕ → ℕ × List ℕ
put_at bytes s =
    cond (leb (s.0 + length bytes) (length s.1))
    (s.0 + length bytes, take s.0 s.1 ++ bytes ++ drop (s.0 + length bytes) s.1)
    s

-- a word, a number and the end of the line, one after the other, each where there is room for it
abbrev pub put_fact_at : List ℕ → ℕ → ℕ × List ℕ → ℕ × List ℕ
put_fact_at word n s = put_at (10 ∷ []) (put_at (number_text n) (put_at word s))

-- the line of a refusal, so too
abbrev pub put_refusal_at : No → ℕ × List ℕ → ℕ × List ℕ
put_refusal_at (no n) s = put_fact_at refused_word n s
put_refusal_at (no_at n p) s = put_fact_at at_word p (put_at (number_text n) (put_at refused_word s))

-- these bytes stand behind the first `at` of a buffer, and the end is told
pub record Puts (bytes : List ℕ) (at : ℕ) (text : List ℕ) (end : ℕ) (text' : List ℕ) : Type 0 where
  pub ends : end ≡ at + length bytes
  pub stands : take end text' ≡ take at text ++ bytes
