-- How many bytes a number and a line take at most.
use Rattle.std.specs.Prelude.{ℕ, ◌+◌}

-- a number below 2 to the power of 64 in decimal digits
abbrev pub longest_number : ℕ
longest_number = 20

-- a word that a line begins with: `refused ` is as long, and no other is longer
abbrev pub longest_word : ℕ
longest_word = 8

-- such a line, with its end
abbrev pub longest_fact : ℕ
longest_fact = longest_word + longest_number + 1

-- ` at `
abbrev pub at_bytes : ℕ
at_bytes = 4

-- the line of a refusal: `refused `, a number, ` at `, a number, and its end
abbrev pub longest_refusal : ℕ
longest_refusal = longest_word + longest_number + at_bytes + longest_number + 1
