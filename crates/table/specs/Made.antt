-- What single, product and union make: a set that stands already, or one record more.
use Rattle.std.specs.Prelude.{List, ◌≡◌, ◌⊎◌}
use Rattle.paper.specs.Building.{new_record}
use Rattle.paper.specs.declared.Record.{Record}
use Rattle.table.specs.Sets.{Set}
pub use Rattle.table.specs.declared.made.Made.{Made}
pub use Rattle.table.specs.declared.made.Made.TheVariants.{Standing, New}

-- the table behind it, and its set
abbrev pub after : Made → List Record → List Record × Set
after (Standing set) table = (table, set)
after (New r) table = new_record r table

-- `make` does so to any table
abbrev pub Makes : (List Record → List Record × Set) → Made → Type 0
Makes make made = (table : List Record) → make table ≡ after made table

-- a set that stands is one of these two
abbrev pub OneOf : Set → Set → Made → Type 0
OneOf left right (Standing set) = (set ≡ left) ⊎ (set ≡ right)
OneOf left right (New r) = Unit {0}
