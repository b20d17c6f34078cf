-- The listing as it goes.
use Rattle.std.specs.Prelude.{cond, List, [], ◌++◌, ℕ, ◌+◌, ◌<◌, ◌^◌, leb, length}
use Rattle.list.specs.Bounds.{longest_line, largest_text}
use Rattle.list.specs.declared.page.Page.{Page}
use Rattle.list.specs.Handing.{Next, handed_on, text_of}
use Rattle.list.specs.Text.{line_text}

-- what waits is the part of the program's text that comes next
pub record Waits (p : Page) : Type 0 where
  pub next : Next (text_of p.handed.input.now) p.handed p.text
  pub countable : p.handed.bytes + length p.text < 2 ^ 64

-- what waits is handed on, and nothing waits
abbrev pub passed_on : Page → Page
passed_on p = record { rt = p.rt; handed = handed_on p.handed (length p.text); text = [] }

-- the page before a line is put
abbrev pub with_room : Page → Page
with_room p = cond (leb (length p.text + longest_line) largest_text) p (passed_on p)

-- the line is put behind what waits
abbrev pub lined : Page → List ℕ → Page
lined p row = record { rt = p.rt; handed = p.handed; text = p.text ++ line_text row }
