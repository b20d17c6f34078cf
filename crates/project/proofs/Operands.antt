-- The used records of a sound set. First their operands, which have no higher numbers, and their kinds; then their rows: those of a single, of a union and of a
-- product from their operands', their shape, and that every record lists some row.
use mathlib.Core.List.{List, [], ◌++◌, ◌∷◌}
use mathlib.Core.Logic.{⊎_elim}
use mathlib.Core.Path.{◌∙◌, ◌≡◌, ap₂}
use Prim.Native.Nat.{◌<◌, ◌≤◌, ℕ}
use native.Mathlib.Omega.{arith}
use lib.ListN.{get_or, length, take}
use Rattle.paper.specs.declared.Head.{Head}
use Rattle.paper.specs.declared.Record.{Record}
use Rattle.paper.specs.declared.kinds.RecordKind.{RecordKind}
use Rattle.paper.specs.declared.kinds.RecordKind.TheVariants.{Single, Union, Product}
use Rattle.paper.specs.Kinds.{kind_number}
use Rattle.paper.specs.Lists.{◌∈◌}
use Rattle.paper.specs.Records.{listings, record_rows, used_of}
use Rattle.paper.specs.Row.{Row, products, single_row}
use Rattle.paper.specs.Sound.{entry}
use Rattle.laws.specs.QuestionCauses.{IsProduct, IsSingle, IsUnion, Sound}
use Rattle.laws.proofs.Listings.{listings_at, listings_first}
use Rattle.laws.proofs.Lists.{here}
use Rattle.laws.proofs.Shaped.{product_rows, shaped_all, single_rows, union_rows}
use Rattle.laws.proofs.Shapes.{Shape, shape_few}
use Rattle.laws.proofs.SoundRecords.{sound_from_all}
use Rattle.sound.proofs.Cells.{lists_some, used_length}

module _ (h : Head) (table : List Record) where
  -- a used record, and its rows
  abbrev pub used : List Record
  used = used_of h table

  abbrev pub rows : ℕ → List Row
  rows k = get_or (listings h.arity used) k []

  module _ (S : Sound h table) where
    number : length used ≡ h.used
    number = used_length h table S.used_there

    -- a single's operands are 0
    pub operands_low : (k : ℕ) → k < h.used → ((entry used k).left ≤ k) × ((entry used k).right ≤ k)
    operands_low k below =
        ⊎_elim (λ e. (omega (arith, e.1), omega (arith, e.2)))
        (⊎_elim (λ e. (omega (arith, e.1), omega (arith, e.2))) (λ e. (omega (arith, e.1), omega (arith, e.2)))) (S.records k below).kind

    pub known_kind : (k : ℕ) → k < h.used → (kind : RecordKind) × ((entry used k).kind ≡ kind_number kind)
    known_kind k below = ⊎_elim (λ e. (Single, e.0)) (⊎_elim (λ e. (Union, e.0)) (λ e. (Product, e.0))) (S.records k below).kind

    pub shaped : (k : ℕ) → k < h.used → Shape h.arity (entry used k).flag (rows k)
    shaped k below =
        shape_few h.nodes S.few_nodes h.arity (entry used k).flag (rows k)
        (shaped_all h.arity h.nodes S.few_nodes used
        ((sound_from_all h.arity h.nodes used).1 (λ j w. S.records j (omega (arith, number)))) k (omega (arith, number)))

    -- ---- by kind
    module _ (k : ℕ) (below : k < h.used) where
      abbrev r : Record
      r = entry used k

      before : (j : ℕ) → j < k → get_or (listings h.arity (take k used)) j [] ≡ rows j
      before j w = listings_first h.arity used k j (omega (arith, number)) w

      listed : rows k ≡ record_rows h.arity (listings h.arity (take k used)) r
      listed = listings_at h.arity used k (omega (arith, number))

      pub single_lists : IsSingle r → rows k ≡ single_row h.arity r.node r.flag ∷ []
      single_lists e = listed ∙ single_rows h.arity (listings h.arity (take k used)) r e.0

      pub union_lists : IsUnion used k r → rows k ≡ rows r.left ++ rows r.right
      union_lists e =
          listed ∙ union_rows h.arity (listings h.arity (take k used)) r e.0
          ∙ ap₂ {C = List Row} (λ x y. x ++ y) (before r.left e.1) (before r.right e.2)

      pub product_lists : IsProduct used k r → rows k ≡ products (rows r.left) (rows r.right)
      product_lists e =
          listed ∙ product_rows h.arity (listings h.arity (take k used)) r e.0
          ∙ ap₂ products (before r.left e.1) (before r.right e.2)

    -- ---- every record lists some row
    pub some_row : (k : ℕ) → k < h.used → (row : Row) × (row ∈ rows k)
    some_row k below = go (rows k) (lists_some h table S k below)
      where
        go : (list : List Row) → 0 < length list → (row : Row) × (row ∈ list)
        go [] l = absurd (omega arith)
        go (row ∷ list) l = (row, here)
