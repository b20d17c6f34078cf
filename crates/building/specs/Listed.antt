-- What a build looks up: the rules of the query, listed by symbol when the query was read, and behind these lists the notes of its splits.
use Rattle.std.specs.Prelude.{List, ℕ, ◌+◌, ◌*◌, ◌^◌, drop}
use Rattle.paper.specs.Refusals.{nodes_in, query_in}
use Rattle.stream.specs.RuleLists.{RuleLists, list_numbers}
use Rattle.building.specs.Splits.{Noted, note_numbers}

-- so many numbers
abbrev pub lookup_numbers : ℕ
lookup_numbers = list_numbers + note_numbers

-- the lists are those of the records behind the query's head: of each symbol they lead from rule to rule, in the order of the file. The
-- notes are for the flags of the query's arity
pub record Listed (input lists : List ℕ) : Type 0 where
  pub rules : RuleLists input (2 * nodes_in input + 3) lists
  pub splits : Noted (2 ^ (query_in input).arity) (drop list_numbers lists)
