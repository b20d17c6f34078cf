-- How long an input may be; how many bytes the parts of the text take at most, in the order in which a line is made; and the buffer that
-- they wait in.
use Rattle.std.specs.Prelude.{ℕ, ◌+◌, ◌*◌}
use Rattle.lines.specs.Bounds.{longest_number, longest_fact}

-- the paper's limit for the program
abbrev pub longest_input : ℕ
longest_input = 16384

-- an entry of a row, with a space before it
abbrev pub longest_entry : ℕ
longest_entry = 1 + longest_number

-- the entries of a row: an arity is at most 4
abbrev pub longest_entries : ℕ
longest_entries = 4 * longest_entry

-- a row's line, with its end
abbrev pub longest_line : ℕ
longest_line = longest_entries + 1

-- what stands before the first row: the records made and the rows
abbrev pub longest_opening : ℕ
longest_opening = 2 * longest_fact

-- the buffer where lines wait
abbrev pub largest_text : ℕ
largest_text = 65536
