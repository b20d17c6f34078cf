-- 'Records': what a record, a set and its head are, and what they list.
use Rattle.std.specs.Prelude.{cond, List, [], ◌∷◌, ◌++◌, ℕ, eqb, get_or, take, replicate}
use Rattle.std.specs.Int.Count.{ones}
pub use Rattle.paper.specs.declared.Record.{Record}
pub use Rattle.paper.specs.declared.Set.{Set}
pub use Rattle.paper.specs.declared.Set.TheVariants.{Empty as empty, Unit as unit, Record as at}
pub use Rattle.paper.specs.declared.Head.{Head}
use Rattle.paper.specs.Lists.{through}
use Rattle.paper.specs.Row.{Row, blank, single_row, products}

abbrev pub blank_entry : Record
blank_entry = record { kind = 0; node = 0; left = 0; right = 0; flag = 0 }

-- kind 1: the node at each place of the flag
abbrev pub single_of : ℕ → ℕ → Record
single_of node flag = record { kind = 1; node = node; left = 0; right = 0; flag = flag }

-- kind 2
abbrev pub union_of : ℕ → ℕ → ℕ → ℕ → Record
union_of node flag left right = record { kind = 2; node = node; left = left; right = right; flag = flag }

-- kind 3
abbrev pub product_of : ℕ → ℕ → ℕ → ℕ → Record
product_of node flag left right = record { kind = 3; node = node; left = left; right = right; flag = flag }

-- the number of places that a record fills is the number of ones in its flag
abbrev pub filled : Record → ℕ
filled r = ones r.flag

-- by the kind of a record: a single, a union, a product
abbrev pub by_kind : {A : Type 0} → ℕ → A → A → A → A
by_kind kind single union product = cond (eqb kind 1) single (cond (eqb kind 2) union product)

-- the rows of a record, given those of the records before it: a union lists its left rows, then its right ones
abbrev pub record_rows : ℕ → List (List Row) → Record → List Row
record_rows arity before r =
    let left : List Row = get_or before r.left [] in
    let right : List Row = get_or before r.right [] in
    by_kind r.kind (single_row arity r.node r.flag ∷ []) (left ++ right) (products left right)

-- the rows of each record, in order
abbrev pub listings : ℕ → List Record → List (List Row)
listings arity records = through (λ before r. before ++ (record_rows arity before r ∷ [])) [] records

-- empty lists no row, unit one row of blanks
abbrev pub set_rows : ℕ → List (List Row) → Set → List Row
set_rows arity before empty = []
set_rows arity before unit = replicate arity blank ∷ []
set_rows arity before (at i) = get_or before i []

-- the records that a set uses are the first of its table
abbrev pub used_of : Head → List Record → List Record
used_of h table = take h.used table

-- the rows that the set lists. They are numbered from 0
abbrev pub listing : Head → List Record → List Row
listing h table = set_rows h.arity (listings h.arity (used_of h table)) h.set
