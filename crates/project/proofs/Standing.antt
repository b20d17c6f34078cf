-- A node at a place of some row: in the rows of a single, in those of two lists one after the other, and in those of a product.
use mathlib.Core.Bool.{Bool, cond, false, true}
use mathlib.Core.List.Memᴰ
use mathlib.Core.List.{List, [], ◌++◌, ◌∷◌}
use mathlib.Core.Logic.{◌↔◌, ◌⊎◌, inl, inr, ⊎_elim}
use mathlib.Core.Path.{◌∙◌, ◌≡◌, ap, sym}
use Prim.Native.Nat.{◌<◌, ℕ}
use borrow.Author.Tests.{eqb-true, ne_eqb}
use lib.Bits.{and_comm, bit_and}
use lib.Dec.{eqb}
use lib.ListN.{get_or, length}
use Rattle.paper.specs.Lists.{◌∈◌}
use Rattle.paper.specs.Questions.{has_place}
use Rattle.paper.specs.Row.{Row, blank, merge, products, single_row}
use Rattle.laws.specs.Said.{StandsIn}
use Rattle.laws.proofs.Bits.{bit_one}
use Rattle.laws.proofs.Lists.{here, only, which}
use Rattle.laws.proofs.Shapes.{Shape, entry_blank, merge_at_left, merge_at_right, single_at}
use Rattle.laws.proofs.Splits.{in_products, mem_products}

module _ (i n : ℕ) where
  -- ---- two lists, one after the other
  pub stands_append : (xs ys : List Row) → StandsIn i n (xs ++ ys) ↔ (StandsIn i n xs ⊎ StandsIn i n ys)
  stands_append xs ys = (
    λ (row, m, e). ⊎_elim (λ w. inl (row, w, e)) (λ w. inr (row, w, e)) (Memᴰ.append_cases xs m),
    ⊎_elim (λ (row, m, e). (row, Memᴰ.append_left ys m, e)) (λ (row, m, e). (row, Memᴰ.append_right xs m, e)),
  )

  module _ (k : ℕ) (inside : i < k) (node : n ≡ blank → ⊥) where
    -- ---- a single has its node at the places of its flag, and nothing elsewhere
    pub stands_single : (m b : ℕ) → StandsIn i n (single_row k m b ∷ []) ↔ ((has_place b i ≡ true) × (m ≡ n))
    stands_single m b = (
      λ (row, w, e).
          let entry : get_or row i blank ≡ cond (has_place b i) m blank = ap (λ (r : Row). get_or r i blank) (only w) ∙ single_at k m b i inside in
          ⊎_elim
          (λ f. (f, sym (ap (λ (d : Bool). cond d m blank) f) ∙ sym entry ∙ e))
          (λ f. absurd (node (sym e ∙ entry ∙ ap (λ (d : Bool). cond d m blank) f)))
          (which (has_place b i)),
      λ (f, e). (single_row k m b, here, single_at k m b i inside ∙ ap (λ (d : Bool). cond d m blank) f ∙ e),
    )

    -- ---- a product of rows that share no place has there what one of its factors has
    module _ (b c : ℕ) (xs ys : List Row) (apart : bit_and b c ≡ 0) (left : Shape k b xs) (right : Shape k c ys) where
      same_length : {x y : Row} → x ∈ xs → y ∈ ys → length x ≡ length y
      same_length {x} {y} mx my = (left x mx).0 ∙ sym (right y my).0

      pub in_factor : StandsIn i n (products xs ys) → StandsIn i n xs ⊎ StandsIn i n ys
      in_factor (row, m, e) =
          let (x, y, mx, my, merged) = mem_products xs ys m in
          let here : get_or (merge x y) i blank ≡ n = sym (ap (λ (r : Row). get_or r i blank) merged) ∙ e in
          ⊎_elim
          (λ f. inr (y, my, sym (merge_at_right x y i (same_length mx my) (eqb-true (get_or x i blank) blank f)) ∙ here))
          (λ f. inl (x, mx, sym (merge_at_left x y i (same_length mx my) f) ∙ here))
          (which (eqb (get_or x i blank) blank))

      -- where the right factor has a node, the left one is blank
      left_blank : (x y : Row) → x ∈ xs → y ∈ ys → get_or y i blank ≡ n → get_or x i blank ≡ blank
      left_blank x y mx my e =
          ⊎_elim
          (λ f. entry_blank k b i x (left x mx).0 (left x mx).1 inside (bit_one i c b (and_comm c b ∙ apart) f))
          (λ f. absurd (node (sym e ∙ entry_blank k c i y (right y my).0 (right y my).1 inside f)))
          (which (has_place c i))

      pub in_product : (x : Row) → x ∈ xs → (y : Row) → y ∈ ys → StandsIn i n xs ⊎ StandsIn i n ys → StandsIn i n (products xs ys)
      in_product x mx y my (inl (row, m, e)) =
          let shows : eqb (get_or row i blank) blank ≡ false = ne_eqb (get_or row i blank) blank (λ w. node (sym e ∙ w)) in
          (merge row y, in_products xs ys m my, merge_at_left row y i (same_length m my) shows ∙ e)
      in_product x mx y my (inr (row, m, e)) =
          (merge x row, in_products xs ys mx m, merge_at_right x row i (same_length mx m) (left_blank x row mx m e) ∙ e)
