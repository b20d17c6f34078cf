-- What the pass makes of one record: its cell, from the row and its operands' cells.
use Rattle.std.specs.Prelude.{◌≡◌, ◌<◌, Bool, not, ◌&&◌, ◌||◌, List, ℕ, eqb, get_or, length}
use Rattle.std.specs.List.{enumerate_from, list_all}
use Rattle.paper.specs.declared.Record.{Record}
use Rattle.paper.specs.declared.kinds.RecordKind.{RecordKind}
use Rattle.paper.specs.Kinds.{kind_number}
use Rattle.paper.specs.Questions.{has_place}
use Rattle.paper.specs.Records.{by_kind}
use Rattle.paper.specs.Row.{Row}

-- node n stands at each place of the flag
abbrev pub stands : ℕ → ℕ → Row → Bool
stands n b row = list_all (λ p. not (has_place b p.0) || eqb n p.1) (enumerate_from 0 row)

-- whether a record lists the row restricted to its flag: a single, where its node stands at each place of the flag; a union, where its
-- left or its right operand lists it; a product, where both do
abbrev pub lists : Row → List ℕ → Record → Bool
lists row work r =
    let left : Bool = eqb (get_or work r.left 0) 1 in
    let right : Bool = eqb (get_or work r.right 0) 1 in
    by_kind r.kind (stands r.node r.flag row) (left || right) (left && right)

-- a record of a sound set, whose operands have cells
pub record Reads (r : Record) (work : List ℕ) : Type 0 where
  pub kind : (k : RecordKind) × (r.kind ≡ kind_number k)
  pub left : r.left < length work
  pub right : r.right < length work
