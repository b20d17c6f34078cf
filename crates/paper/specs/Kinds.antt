-- The kinds of the table's records and their numbers: 1 is a single, 2 a union, 3 a product, and no other number is a kind's.
use Rattle.std.specs.Prelude.{◌≡◌, ◌≢◌, ℕ, Result, Ok, Err}
pub use Rattle.paper.specs.declared.kinds.RecordKind.{RecordKind}
pub use Rattle.paper.specs.declared.kinds.RecordKind.TheVariants.{Single, Union, Product}
use Rattle.paper.specs.declared.kinds.UnknownKind.{UnknownKind}

abbrev pub kind_number : RecordKind → ℕ
kind_number Single = 1
kind_number Union = 2
kind_number Product = 3

-- what a number is read as
abbrev pub Decodes : ℕ → Result RecordKind UnknownKind → Type 0
Decodes n (Ok kind) = n ≡ kind_number kind
Decodes n (Err e) = (kind : RecordKind) → n ≢ kind_number kind
