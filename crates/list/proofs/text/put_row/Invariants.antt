-- `put_row` puts one entry a turn.
use Rattle.std.proofs.Common.{◌≡◌, ◌++◌, take}
use Rattle.list.specs.Text.{row_text}
use Rattle.list.proofs.text.put_row.Given as goal

abbrev pub invariant-loop-place : goal.invariant-loop-place
invariant-loop-place g l = l.text ≡ l.fn.text ++ row_text (take l.place l.row)
