-- Where a row comes from: a union's row is a row of one operand as a whole, and at a place of its flag a product's has the entry of a row of one
-- factor, and a single's has the node. First places and flags, then what a listed row is, then the four ways down and the end.
use mathlib.Core.Bool.{Bool, false, true, ◌||◌}
use mathlib.Core.List.{List, [], ◌++◌, ◌∷◌}
use mathlib.Core.Logic.{◌⊎◌, ⊎_elim}
use mathlib.Core.Path.{◌∙◌, ◌≡◌, ap, ap₂, refl, sym}
use Prim.Native.Nat.{◌%◌, ◌-◌, ◌/◌, ◌<◌, ◌^◌, ◌≤◌, suc, zero, ℕ}
use native.Mathlib.Nat.{pow-suc}
use native.Mathlib.Omega.{arith}
use borrow.Author.Tests.{eqb-true}
use lib.Dec.{eqb}
use lib.ListN.{get_or-append, get_or, length, take}
use lib.Seq.{get_or-append_right}
use Rattle.paper.specs.Questions.{has_place}
use Rattle.paper.specs.Records.{listings}
use Rattle.paper.specs.Row.{Row, blank, merge, products, single_row}
use Rattle.laws.specs.QuestionCauses.{IsProduct, IsSingle, IsUnion}
use Rattle.laws.proofs.Bits.{bit_sum}
use Rattle.laws.proofs.Listings.{listings_at, listings_first}
use Rattle.laws.proofs.Shaped.{product_rows, shaped_all, single_rows, union_rows}
use Rattle.laws.proofs.Shapes.{entry_blank, entry_node, merge_at_left, merge_at_right, places_of, single_at}
use Rattle.laws.proofs.SoundRecords.{sound_from_all}
use Rattle.sound.proofs.RowCounts.{product_count, single_count, union_count}
use Rattle.row.specs.declared.set.Listed.{Listed}
use Rattle.row.specs.declared.set.SoundSet.{SoundSet}
use Rattle.row.specs.Listed.{HasSameEntry, IsListed, IsSameRow, Record, entry_at, record_at, row_at, rows_at, used_in}
use Rattle.row.proofs.RowNumbers.{Factors, factors, row_listed}
use Rattle.row.proofs.SoundSets.{is_sound, used_long}

-- a place of a flag is one of the arity's
place_below : (k p b : ℕ) → b < 2 ^ k → has_place b p ≡ true → p < k
place_below zero zero b h e = absurd (omega (arith, eqb-true (b % 2) 1 e))
place_below zero (suc p) b h e = absurd (omega (arith, place_below zero p (b / 2) (omega arith) e))
place_below (suc k) zero b h e = omega arith
place_below (suc k) (suc p) b h e = omega (arith, place_below k p (b / 2) (omega (arith, pow-suc 2 k)) e)

module _ {s : SoundSet} where
  -- ---- what a row that is listed is
  module _ {row : Listed} (l : IsListed s row) where
    there : row.at < length (used_in s)
    there = omega (arith, l.used, used_long s)

    shape : (length (row_at s row) ≡ s.head.arity) × (places_of (row_at s row) ≡ (record_at s row.at).flag)
    shape =
        let sound = (sound_from_all s.head.arity s.head.nodes (used_in s)).1 (λ j below. (is_sound s).records j (omega (arith, used_long s))) in
        let all = shaped_all s.head.arity s.head.nodes (is_sound s).few_nodes (used_in s) sound row.at there in
        let (long, places, nodes) = all (row_at s row) (row_listed (rows_at s row.at) row.number l.number) in
        (long, places)

    -- it has an entry for each place, blank at those that are not in its record's flag
    pub row_long : length (row_at s row) ≡ s.head.arity
    row_long = shape.0

    pub blank_at : (p : ℕ) → p < s.head.arity → has_place (record_at s row.at).flag p ≡ false → entry_at s row p ≡ blank
    blank_at p inside e = entry_blank s.head.arity (record_at s row.at).flag p (row_at s row) row_long shape.1 inside e

    node_at : (p : ℕ) → p < s.head.arity → has_place (record_at s row.at).flag p ≡ true → eqb (entry_at s row p) blank ≡ false
    node_at p inside e = entry_node s.head.arity (record_at s row.at).flag p (row_at s row) row_long shape.1 inside e

    -- the rows by the kind
    abbrev r : Record
    r = record_at s row.at

    kinds : IsSingle r ⊎ (IsUnion (used_in s) row.at r ⊎ IsProduct (used_in s) row.at r)
    kinds = ((is_sound s).records row.at l.used).kind

    operand : (j : ℕ) → j < row.at → get_or (listings s.head.arity (take row.at (used_in s))) j [] ≡ rows_at s j
    operand j below = listings_first s.head.arity (used_in s) row.at j (omega (arith, there)) below

    row_in : {rows : List Row} → rows_at s row.at ≡ rows → row_at s row ≡ get_or rows row.number []
    row_in e = ap (λ (rows : List Row). get_or rows row.number []) e

    single_lists : r.kind ≡ 1 → rows_at s row.at ≡ single_row s.head.arity r.node r.flag ∷ []
    single_lists single =
        listings_at s.head.arity (used_in s) row.at there ∙ single_rows s.head.arity (listings s.head.arity (take row.at (used_in s))) r single

    union_lists : IsUnion (used_in s) row.at r → rows_at s row.at ≡ rows_at s r.left ++ rows_at s r.right
    union_lists e =
        listings_at s.head.arity (used_in s) row.at there
        ∙ union_rows s.head.arity (listings s.head.arity (take row.at (used_in s))) r e.0
        ∙ ap₂ {C = List Row} (λ xs ys. xs ++ ys) (operand r.left e.1) (operand r.right e.2)

    product_lists : IsProduct (used_in s) row.at r → rows_at s row.at ≡ products (rows_at s r.left) (rows_at s r.right)
    product_lists e =
        listings_at s.head.arity (used_in s) row.at there
        ∙ product_rows s.head.arity (listings s.head.arity (take row.at (used_in s))) r e.0
        ∙ ap₂ products (operand r.left e.1) (operand r.right e.2)

    -- ---- the row of a union
    module _ (union : r.kind ≡ 2) where
      pub is_union : IsUnion (used_in s) row.at r
      is_union = ⊎_elim (λ e. absurd (omega (arith, e.0))) (⊎_elim (λ e. e) (λ e. absurd (omega (arith, e.0)))) kinds

      pub goes_left : row.number < length (rows_at s r.left) → IsSameRow s row record { at = r.left; number = row.number }
      goes_left below = record {
        listed = record { used = omega (arith, l.used, is_union.1); number = below };
        flag = is_union.3;
        entries = sym (row_in (union_lists is_union) ∙ get_or-append (rows_at s r.left) (rows_at s r.right) [] row.number below);
      }

      pub goes_right : length (rows_at s r.left) ≤ row.number
          → IsSameRow s row record { at = r.right; number = row.number - length (rows_at s r.left) }
      goes_right above = record {
        listed = record {
          used = omega (arith, l.used, is_union.2);
          number = omega (arith, l.number, union_count s.head.arity (used_in s) row.at there is_union.1 is_union.2 is_union.0);
        };
        flag = is_union.4;
        entries = sym (row_in (union_lists is_union) ∙ get_or-append_right (rows_at s r.left) (rows_at s r.right) row.number [] above);
      }

    -- ---- the entry at a place of its flag
    module _ (p : ℕ) (has : has_place r.flag p ≡ true) where
      pub inside : p < s.head.arity
      inside = place_below s.head.arity p r.flag ((is_sound s).records row.at l.used).flag_below has

      entry_in : {rows : List Row} → rows_at s row.at ≡ rows → entry_at s row p ≡ get_or (get_or rows row.number []) p blank
      entry_in e = ap (λ (x : Row). get_or x p blank) (row_in e)

      -- a single
      pub at_node : r.kind ≡ 1 → r.node ≡ entry_at s row p
      at_node single =
          let only : row.number ≡ 0 = omega (arith, l.number, single_count s.head.arity (used_in s) row.at there single) in
          sym (entry_in (single_lists single)
          ∙ ap (λ (m : ℕ). get_or (get_or (single_row s.head.arity r.node r.flag ∷ []) m []) p blank) only
          ∙ single_at s.head.arity r.node r.flag p inside
          ∙ rw has refl)

    -- a product
    module _ (product : r.kind ≡ 3) where
      pub is_product : IsProduct (used_in s) row.at r
      is_product = ⊎_elim (λ e. absurd (omega (arith, e.0))) (⊎_elim (λ e. absurd (omega (arith, e.0))) (λ e. e)) kinds

      abbrev left_of : Listed
      left_of = record { at = r.left; number = row.number / length (rows_at s r.right) }

      abbrev right_of : Listed
      right_of = record { at = r.right; number = row.number % length (rows_at s r.right) }

      parts : Factors (rows_at s r.left) (rows_at s r.right) row.number
      parts =
          factors (rows_at s r.left) (rows_at s r.right) row.number
          (omega (arith, l.number, product_count s.head.arity (used_in s) row.at there is_product.1 is_product.2 is_product.0))

      pub some_right : 0 < length (rows_at s r.right)
      some_right = parts.some

      left_listed : IsListed s left_of
      left_listed = record { used = omega (arith, l.used, is_product.1); number = parts.left }

      right_listed : IsListed s right_of
      right_listed = record { used = omega (arith, l.used, is_product.2); number = parts.right }

  module _ {row : Listed} (l : IsListed s row) (product : (record_at s row.at).kind ≡ 3) (p : ℕ) (has : has_place (record_at s row.at).flag p ≡ true) where
    as_long : length (row_at s (left_of l product)) ≡ length (row_at s (right_of l product))
    as_long = row_long (left_listed l product) ∙ sym (row_long (right_listed l product))

    entry_merged : entry_at s row p ≡ get_or (merge (row_at s (left_of l product)) (row_at s (right_of l product))) p blank
    entry_merged = entry_in l p has (product_lists l (is_product l product)) ∙ ap (λ (x : Row). get_or x p blank) (parts l product).row

    pub goes_left_factor : has_place (record_at s (r l).left).flag p ≡ true → HasSameEntry s p row (left_of l product)
    goes_left_factor in_left = record {
      listed = left_listed l product;
      has = in_left;
      same = sym (entry_merged
          ∙ merge_at_left (row_at s (left_of l product)) (row_at s (right_of l product)) p as_long
          (node_at (left_listed l product) p (inside l p has) in_left));
    }

    pub goes_right_factor : has_place (record_at s (r l).left).flag p ≡ false → HasSameEntry s p row (right_of l product)
    goes_right_factor not_left = record {
      listed = right_listed l product;
      has = ap (λ (c : Bool). c || has_place (record_at s (r l).right).flag p) (sym not_left)
          ∙ sym (bit_sum p (record_at s (r l).left).flag (record_at s (r l).right).flag (is_product l product).3)
          ∙ ap (λ (b : ℕ). has_place b p) (is_product l product).4
          ∙ has;
      same = sym (entry_merged
          ∙ merge_at_right (row_at s (left_of l product)) (row_at s (right_of l product)) p as_long
          (blank_at (left_listed l product) p (inside l p has) not_left));
    }
