-- What the cell of each record says: whether the record lists the row restricted to its flag. First by the record's kind, then that
-- the test of a turn finds it.
use mathlib.Core.Bool.{Bool, ◌&&◌, ◌||◌, false, true}
use mathlib.Core.List.{List, [], ◌++◌}
use mathlib.Core.Logic.{⊎_elim}
use mathlib.Core.Path.{◌∙◌, ◌≡◌, ap, ap₂, refl, sym}
use Prim.Native.Nat.{◌<◌, ◌≤◌, ℕ}
use native.Mathlib.Omega.{arith}
use lib.Dec.{eqb}
use lib.ListN.{get_or, length, take}
use Rattle.std.specs.Int.{from_bool}
use Rattle.paper.specs.declared.Record.{Record}
use Rattle.paper.specs.Questions.{is_listed}
use Rattle.paper.specs.Records.{listings, record_rows}
use Rattle.paper.specs.Row.{Row, products}
use Rattle.paper.specs.Sound.{entry}
use Rattle.laws.specs.QuestionCauses.{IsProduct, IsSingle, IsUnion, SoundAt}
use Rattle.laws.proofs.Listings.{listings_at, listings_first}
use Rattle.laws.proofs.Shaped.{kind_product, kind_single, kind_union, product_rows, shaped_all, single_rows, union_rows}
use Rattle.laws.proofs.Shapes.{Shape, shape_few}
use Rattle.laws.proofs.SoundRecords.{sound_from_all}
use Rattle.member.specs.Rows.{lists, stands}
use Rattle.member.proofs.Restricted.{product_lists, restricted, single_lists, union_lists}

-- a cell is 1 where it says so
pub cell_one : (c : Bool) → eqb (from_bool c) 1 ≡ c
cell_one true = refl
cell_one false = refl

-- record i of a table lists the row restricted to its flag
abbrev pub listed_at : ℕ → List Record → Row → ℕ → Bool
listed_at k table row i = is_listed (get_or (listings k table) i []) (restricted (entry table i).flag row)

-- ---- a sound table of records, and a row of its arity
module _ (k N : ℕ) (few : N ≤ 4095) (table : List Record) (sounds : (i : ℕ) → i < length table → SoundAt k N table i (entry table i)) (row : Row)
    (long : length row ≡ k) where
  abbrev rows_at : ℕ → List Row
  rows_at i = get_or (listings k table) i []

  abbrev listed : ℕ → Bool
  listed = listed_at k table row

  shaped : (i : ℕ) → i < length table → Shape k (entry table i).flag (rows_at i)
  shaped i there = shape_few N few k (entry table i).flag (rows_at i) (shaped_all k N few table ((sound_from_all k N table).1 sounds) i there)

  module _ (i : ℕ) (there : i < length table) where
    abbrev r : Record
    r = entry table i

    rows_are : rows_at i ≡ record_rows k (listings k (take i table)) r
    rows_are = listings_at k table i there

    before : (j : ℕ) → j < i → get_or (listings k (take i table)) j [] ≡ rows_at j
    before j h = listings_first k table i j (omega arith) h

    -- ---- by kind
    single_listed : IsSingle r → listed i ≡ stands r.node r.flag row
    single_listed e =
        ap (λ (rows : List Row). is_listed rows (restricted r.flag row)) (rows_are ∙ single_rows k (listings k (take i table)) r e.0)
        ∙ single_lists k r.node r.flag row long

    union_listed : IsUnion table i r → listed i ≡ listed r.left || listed r.right
    union_listed e =
        ap (λ (rows : List Row). is_listed rows (restricted r.flag row))
        (rows_are ∙ union_rows k (listings k (take i table)) r e.0
        ∙ ap₂ {C = List Row} (λ u v. u ++ v) (before r.left e.1) (before r.right e.2))
        ∙ union_lists (rows_at r.left) (rows_at r.right) (restricted r.flag row)
        ∙ ap₂ (λ (a b : ℕ). is_listed (rows_at r.left) (restricted a row) || is_listed (rows_at r.right) (restricted b row)) (sym e.3) (sym e.4)

    product_listed : IsProduct table i r → listed i ≡ listed r.left && listed r.right
    product_listed e =
        ap₂ (λ (rows : List Row) (b : ℕ). is_listed rows (restricted b row))
        (rows_are ∙ product_rows k (listings k (take i table)) r e.0 ∙ ap₂ products (before r.left e.1) (before r.right e.2))
        (sym e.4)
        ∙ product_lists k (entry table r.left).flag (entry table r.right).flag (rows_at r.left) (rows_at r.right) row e.3
        (shaped r.left (omega (arith, e.1))) (shaped r.right (omega (arith, e.2)))

    -- ---- the test of a turn, by the cells of the records before
    module _ (work : List ℕ) (cells : (j : ℕ) → j < i → get_or work j 0 ≡ from_bool (listed_at k table row j)) where
      one : (j : ℕ) → j < i → eqb (get_or work j 0) 1 ≡ listed j
      one j h = ap (λ (n : ℕ). eqb n 1) (cells j h) ∙ cell_one (listed j)

      pub turn_lists : lists row work (entry table i) ≡ listed_at k table row i
      turn_lists = ⊎_elim single (⊎_elim union product) (sounds i there).kind
        where
          single : IsSingle r → lists row work r ≡ listed i
          single e = kind_single r.kind _ _ _ e.0 ∙ sym (single_listed e)

          union : IsUnion table i r → lists row work r ≡ listed i
          union e =
              kind_union r.kind _ _ _ e.0
              ∙ ap₂ (λ (a b : Bool). a || b) (one r.left e.1) (one r.right e.2) ∙ sym (union_listed e)

          product : IsProduct table i r → lists row work r ≡ listed i
          product e =
              kind_product r.kind _ _ _ e.0
              ∙ ap₂ (λ (a b : Bool). a && b) (one r.left e.1) (one r.right e.2) ∙ sym (product_listed e)
