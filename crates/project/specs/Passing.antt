-- The pass over the records, from the root down: what becomes of the cells at one record, and at all of them.
use Rattle.std.specs.Prelude.{Bool, cond, List, ◌≡◌, ℕ, zero, suc, ◌+◌, ◌≤◌, ◌<◌, eqb, length, get_or, set}
use Rattle.paper.specs.declared.Head.{Head}
use Rattle.paper.specs.declared.Record.{Record}
use Rattle.paper.specs.declared.Set.{Set}
use Rattle.paper.specs.declared.Set.TheVariants.{Empty as empty, Unit as unit, Record as at}
use Rattle.paper.specs.declared.kinds.RecordKind.{RecordKind}
use Rattle.paper.specs.Kinds.{kind_number}
use Rattle.paper.specs.Questions.{has_place}
use Rattle.paper.specs.Sound.{entry}
use Rattle.sound.specs.Questions.{cleared}

-- ---- cells
-- what a single keeps: its node and 1 more, if it has the place with this index
abbrev pub kept : ℕ → Record → ℕ
kept index r = cond (has_place r.flag index) (r.node + 1) 0

-- the cell of a record under the root that is still to be looked at
abbrev pub is_marked : ℕ → Bool
is_marked cell = eqb cell 1

-- record k hands its mark on to its operands
abbrev pub handed_on : ℕ → Record → List ℕ → List ℕ
handed_on k r cells = set (set (set cells k 0) r.left 1) r.right 1

-- the cells after record k: a marked single keeps its node, and any other marked record hands its mark on
abbrev pub cells_after : ℕ → ℕ → Record → List ℕ → List ℕ
cells_after index k r cells =
    cond (is_marked (get_or cells k 0)) (cond (eqb r.kind 1) (set cells k (kept index r)) (handed_on k r cells)) cells

-- ---- the pass
-- after the first n records, the last of them first
abbrev pub passed : ℕ → List Record → ℕ → List ℕ → List ℕ
passed index table zero cells = cells
passed index table (suc k) cells = passed index table k (cells_after index k (entry table k) cells)

-- the root is marked, if the set is a record
abbrev pub root_marked : Set → List ℕ → List ℕ
root_marked empty cells = cells
root_marked unit cells = cells
root_marked (at i) cells = set cells i 1

-- the records that are looked at
abbrev pub turns : Set → ℕ
turns empty = 0
turns unit = 0
turns (at i) = suc i

abbrev pub nodes_kept : ℕ → Head → List Record → List ℕ → List ℕ
nodes_kept index h table work = passed index table (turns h.set) (root_marked h.set (cleared h.used work))

-- ---- what is asked
-- a record has a kind, and its own cell and those of its operands are in the work
pub record InWork (at : ℕ) (r : Record) (work : List ℕ) : Type 0 where
  pub kind : (k : RecordKind) × (r.kind ≡ kind_number k)
  pub own : at < length work
  pub left : r.left < length work
  pub right : r.right < length work

-- each record that is looked at is in the table, and its cells are in the work
pub record Ready (h : Head) (table : List Record) (work : List ℕ) : Type 0 where
  pub there : turns h.set ≤ length table
  pub cells : (k : ℕ) → k < turns h.set → InWork k (entry table k) work
