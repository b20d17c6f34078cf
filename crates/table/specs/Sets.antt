-- A set as a number: 0 is empty, 1 is unit, i + 2 is record i.
use Rattle.std.specs.Prelude.{ℕ, zero, suc}
pub use Rattle.paper.specs.declared.Set.{Set}
pub use Rattle.paper.specs.declared.Set.TheVariants.{Empty as empty, Unit as unit, Record as at}

-- the set that a number is, and the number that a set is
abbrev pub set_in : ℕ → Set
set_in zero = empty
set_in (suc zero) = unit
set_in (suc (suc i)) = at i

abbrev pub set_number : Set → ℕ
set_number empty = 0
set_number unit = 1
set_number (at i) = suc (suc i)
