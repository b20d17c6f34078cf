-- A number in decimal digits, a line of a word and a number, and the line of a refusal.
use Rattle.std.specs.Prelude.{cond, List, [], ◌∷◌, ◌++◌, ℕ, zero, suc, ◌+◌, ◌/◌, ltb}
use Rattle.io.specs.Digits.{last_digits}
use Rattle.paper.specs.Refusals.{No, no, no_at}

-- how many digits a number has, at most one more than the first number says
abbrev pub digits_of : ℕ → ℕ → ℕ
digits_of zero n = 1
digits_of (suc most) n = cond (ltb n 10) 1 (1 + digits_of most (n / 10))

-- a number below 10 to the power of 20
abbrev pub number_text : ℕ → List ℕ
number_text n = last_digits 10 (digits_of 19 n) n

-- a word, a number and the end of the line, which is 10
abbrev pub fact_text : List ℕ → ℕ → List ℕ
fact_text word n = word ++ (number_text n ++ (10 ∷ []))

-- `refused `, in ASCII
abbrev pub refused_word : List ℕ
refused_word = 114 ∷ 101 ∷ 102 ∷ 117 ∷ 115 ∷ 101 ∷ 100 ∷ 32 ∷ []

-- ` at `
abbrev pub at_word : List ℕ
at_word = 32 ∷ 97 ∷ 116 ∷ 32 ∷ []

-- the line of a refusal: `refused 14`, and with a position `refused 3 at 40`
abbrev pub refusal_text : No → List ℕ
refusal_text (no n) = fact_text refused_word n
refusal_text (no_at n p) = refused_word ++ (number_text n ++ fact_text at_word p)
