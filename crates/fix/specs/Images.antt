-- The image of one record, given the sets that its operands have become, and the images that stand in the work, as numbers of sets.
use Rattle.std.specs.Prelude.{Bool, cond, not, ◌&&◌, List, ◌⊎◌, ◌≡◌, ℕ, ◌≤◌, ◌<◌, eqb, get_or, length}
pub use Rattle.paper.specs.declared.Record.{Record}
use Rattle.paper.specs.Building.{single_record, product_record, union_record}
use Rattle.paper.specs.Questions.{has_place, is_unit, without}
use Rattle.paper.specs.Records.{by_kind}
pub use Rattle.table.specs.Sets.{Set, set_in, set_number, empty, unit, at}
pub use Rattle.fix.specs.declared.image.Fixing.{Fixing}

-- a used record of a sound set is a single, a union or a product: there is no other kind
abbrev pub IsKind : ℕ → Type 0
IsKind kind = (kind ≡ 1) ⊎ ((kind ≡ 2) ⊎ (kind ≡ 3))

-- the paper's image of a record, given the sets that its operands have become
abbrev pub image_with : Fixing → Record → Set → Set → List Record → List Record × Set
image_with f r left right table =
    let flag : ℕ = without r.flag f.index in
    by_kind r.kind
    (cond (has_place r.flag f.index && not (eqb r.node f.node)) (table, empty) (single_record r.node flag table))
    (union_record r.node flag left right table)
    (product_record r.node flag left right table)

-- it is a union, and both its operands have become unit
abbrev pub twice_in : Record → Set → Set → Bool
twice_in r left right = eqb r.kind 2 && (is_unit left && is_unit right)

-- ---- in the work
-- the number of an image is there, and fits a field
abbrev pub InWork : ℕ → List ℕ → Type 0
InWork i work = (i < length work) × (get_or work i 0 ≤ 65535)

abbrev pub OperandsInWork : Record → List ℕ → Type 0
OperandsInWork r work = (r.kind ≡ 1 → ⊥) → InWork r.left work × InWork r.right work

-- the image of a record
abbrev pub set_at : List ℕ → ℕ → Set
set_at work i = set_in (get_or work i 0)

-- what the operands of a record have become; a single has none
abbrev pub operands_in : Record → List ℕ → Set × Set
operands_in r work = cond (eqb r.kind 1) (empty, empty) (set_at work r.left, set_at work r.right)
