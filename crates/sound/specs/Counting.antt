-- The rows of a set by the weights of its records.
use Rattle.std.specs.Prelude.{List, ℕ, get_or}
use Rattle.paper.specs.declared.Set.{Set}
use Rattle.paper.specs.declared.Set.TheVariants.{Empty as empty, Unit as unit, Record as at}
use Rattle.sound.specs.Weights.{rows_in}

-- the rows of a set
abbrev pub rows_in_set : List ℕ → Set → ℕ
rows_in_set weights empty = 0
rows_in_set weights unit = 1
rows_in_set weights (at i) = rows_in (get_or weights i 0)
