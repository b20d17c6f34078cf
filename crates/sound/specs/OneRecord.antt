-- The test of one record, over the weights of those before it: the rows that each kind lists, none where the record is not sound, and the weight
-- made of them; then what it asks for.
use Rattle.std.specs.Prelude.{Bool, cond, ◌&&◌, List, [], ◌∷◌, ℕ, ◌+◌, ◌*◌, ◌^◌, ◌≤◌, ◌<◌, Option, Some, None, eqb, ltb, leb, length, get_or}
use Rattle.paper.specs.declared.Head.{Head}
use Rattle.paper.specs.declared.Record.{Record}
use Rattle.paper.specs.Lists.{every}
use Rattle.paper.specs.Row.{no_place}
use Rattle.paper.specs.Sound.{apart, most_rows}
use Rattle.sound.specs.Weights.{flag_in, rows_in}

-- ---- the rows
-- this where the test holds
abbrev pub given : {A : Type 0} → Bool → Option A → Option A
given c found = cond c found None

-- the rows, if a record may list so many
abbrev pub if_few : ℕ → Option ℕ
if_few rows = given (leb rows most_rows) (Some rows)

abbrev pub single_rows : Record → Option ℕ
single_rows r = given (eqb r.left 0 && eqb r.right 0) (Some 1)

abbrev pub union_rows : ℕ → ℕ → ℕ → Option ℕ
union_rows flag left right = given (eqb (flag_in left) flag && eqb (flag_in right) flag) (if_few (rows_in left + rows_in right))

abbrev pub product_rows : ℕ → ℕ → ℕ → Option ℕ
product_rows flag left right =
    given (apart (flag_in left) (flag_in right) && eqb (flag_in left + flag_in right) flag) (if_few (rows_in left * rows_in right))

-- the weights of its operands, where both are before it
abbrev pub before : Record → ℕ → List ℕ → Option (ℕ × ℕ)
before r at weights = given (ltb r.left at && ltb r.right at) (Some (get_or weights r.left 0, get_or weights r.right 0))

-- the rows by these weights
abbrev pub of_both : (ℕ → ℕ → Option ℕ) → Option (ℕ × ℕ) → Option ℕ
of_both rows None = None
of_both rows (Some (left, right)) = rows left right

-- of record `at`, by its kind and its operands
unfoldable pub rows_by : Record → ℕ → List ℕ → Option ℕ
rows_by r at weights =
    cond (eqb r.kind 1) (single_rows r)
    (cond (eqb r.kind 2) (of_both (union_rows r.flag) (before r at weights))
    (given (eqb r.kind 3) (of_both (product_rows r.flag) (before r at weights))))

-- a node of the tree, and a flag in range
unfoldable pub record_fits : Record → ℕ → ℕ → Bool
record_fits r nodes arity = every (ltb r.node nodes ∷ ltb no_place r.flag ∷ ltb r.flag (2 ^ arity) ∷ [])

abbrev pub rows_found : Head → Record → ℕ → List ℕ → Option ℕ
rows_found h r at weights = given (record_fits r h.nodes h.arity) (rows_by r at weights)

-- the weight of a record with this flag and so many rows
abbrev pub weight_for : ℕ → Option ℕ → Option ℕ
weight_for flag None = None
weight_for flag (Some rows) = Some (16 * rows + flag)

-- record `at` has a place for its weight, and those before it have weights, each of no more rows than a record may list
pub record Weighable (at : ℕ) (weights : List ℕ) : Type 0 where
  pub there : at < length weights
  pub few : (k : ℕ) → k < at → rows_in (get_or weights k 0) ≤ most_rows
