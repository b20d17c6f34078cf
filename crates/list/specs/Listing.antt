-- What is told of a set and of an input: the program's text, of which the first bytes are handed on and the others wait.
use Rattle.std.specs.Prelude.{true, List, ◌++◌, ◌≡◌, ℕ, ◌+◌, ◌≤◌, ◌<◌, ◌^◌, length, take}
use Rattle.list.specs.declared.page.Page.{Page}
use Rattle.paper.specs.declared.Head.{Head}
use Rattle.paper.specs.declared.Record.{Record}
use Rattle.paper.specs.Questions.{count_of, question_work}
use Rattle.paper.specs.Records.{listing}
use Rattle.paper.specs.Refusals.{answer}
use Rattle.paper.specs.Sound.{sound}
use Rattle.list.specs.Handing.{text_of}
use Rattle.lines.specs.Text.{fact_text}
use Rattle.list.specs.Text.{lines_text, program_text, records_word, rows_word}

module _ (h : Head) (table : List Record) where
  -- the text of a set, and its lines up to a row
  abbrev pub set_text : List ℕ
  set_text = program_text (answer (h.used, listing h table))

  abbrev pub lines_to : ℕ → List ℕ
  lines_to n = fact_text records_word h.used ++ (fact_text rows_word (count_of h table) ++ lines_text (take n (listing h table)))

-- the set of an input and its rows, of which every row by number is answered with so much work
pub record IsSet (input : List ℕ) (h : Head) (rows : ℕ) (table : List Record) (cells : ℕ) : Type 0 where
  pub text : set_text h table ≡ text_of input
  pub count : rows ≡ count_of h table
  pub enough : question_work h ≤ cells
  pub is_sound : sound h table ≡ true

-- so many bytes of the text are handed on, and those that wait are the next ones, up to the end of `far`
pub record Tells (far : List ℕ) (p : Page) : Type 0 where
  pub next : take p.handed.bytes (text_of p.handed.input.now) ++ p.text ≡ far
  pub bytes : p.handed.bytes + length p.text ≡ length far
  pub countable : length far < 2 ^ 64

-- all that the program tells of this input
pub record Lists (input : List ℕ) (p : Page) : Type 0 where
  pub of : p.handed.input.now ≡ input
  pub tells : Tells (text_of input) p
