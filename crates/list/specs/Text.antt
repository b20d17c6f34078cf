-- What the program prints: a line for each row, and the whole text. A number, a line of a word and a number, and the line of a refusal are
-- `lines`'.
use Rattle.std.specs.Prelude.{List, [], ◌∷◌, ◌++◌, ℕ, zero, suc, length}
use Rattle.lines.specs.Text.{number_text, fact_text, refusal_text}
use Rattle.paper.specs.Row.{Row}
use Rattle.paper.specs.Refusals.{Reply, refused, answer}

-- an entry of a row: 32 is the space, which stands before each entry but the first
abbrev pub entry_text : ℕ → ℕ → List ℕ
entry_text zero n = number_text n
entry_text (suc place) n = 32 ∷ number_text n

abbrev pub entries_from : ℕ → Row → List ℕ
entries_from place [] = []
entries_from place (x ∷ xs) = entry_text place x ++ entries_from (suc place) xs

abbrev pub row_text : Row → List ℕ
row_text row = entries_from 0 row

-- 10 is the end of a line
abbrev pub line_text : Row → List ℕ
line_text row = row_text row ++ (10 ∷ [])

abbrev pub lines_text : List Row → List ℕ
lines_text [] = []
lines_text (row ∷ rows) = line_text row ++ lines_text rows

-- `records ` and `rows `, in ASCII
abbrev pub records_word : List ℕ
records_word = 114 ∷ 101 ∷ 99 ∷ 111 ∷ 114 ∷ 100 ∷ 115 ∷ 32 ∷ []

abbrev pub rows_word : List ℕ
rows_word = 114 ∷ 111 ∷ 119 ∷ 115 ∷ 32 ∷ []

-- the whole text, of what the paper's `program` says: the records made, the count, a line a row; or the one line of the refusal
abbrev pub program_text : Reply (ℕ × List Row) → List ℕ
program_text (refused w) = refusal_text w
program_text (answer a) = fact_text records_word a.0 ++ (fact_text rows_word (length a.1) ++ lines_text a.1)
