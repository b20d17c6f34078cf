-- How many rows a used record lists: one, as many as both operands, or as many for each left row as the right operand has. So every sound
-- record lists some row.
use mathlib.Core.List.{List, [], ◌++◌, ◌∷◌, map}
use mathlib.Core.Logic.{⊎_elim}
use mathlib.Core.Path.{◌∙◌, ◌≡◌, ap, ap₂, subst, sym}
use Prim.Native.Nat.{◌*◌, ◌+◌, ◌<◌, ◌≤◌, suc, zero, ℕ}
use native.Mathlib.Nat.{mul-pos}
use native.Mathlib.Omega.{arith}
use lib.ListN.{get_or, length, length-append, length-map, take}
use Rattle.paper.specs.declared.Record.{Record}
use Rattle.paper.specs.Records.{listings, record_rows}
use Rattle.paper.specs.Row.{Row, merge, products}
use Rattle.paper.specs.Sound.{entry}
use Rattle.laws.specs.QuestionCauses.{SoundAt}
use Rattle.laws.proofs.Listings.{listings_at, listings_first}
use Rattle.laws.proofs.Shaped.{last_or, product_rows, single_rows, union_rows}

length_products : (xs ys : List Row) → length (products xs ys) ≡ length xs * length ys
length_products [] ys = omega arith
length_products (x ∷ xs) ys =
    omega (arith, length-append (map (merge x) ys) (products xs ys), length-map ys (merge x), length_products xs ys)

module _ (arity : ℕ) (used : List Record) where
  -- the rows of record k
  abbrev pub rows_at : ℕ → List Row
  rows_at k = get_or (listings arity used) k []

  module _ (k : ℕ) (there : k < length used) where
    -- in the listings of the records before it
    earlier : (j : ℕ) → j < k → get_or (listings arity (take k used)) j [] ≡ rows_at j
    earlier j l = listings_first arity used k j (omega arith) l

    abbrev record_k : Record
    record_k = entry used k

    by_kind : (rows : List Row) → record_rows arity (listings arity (take k used)) record_k ≡ rows → length (rows_at k) ≡ length rows
    by_kind rows e = ap length (listings_at arity used k there ∙ e)

    pub single_count : record_k.kind ≡ 1 → length (rows_at k) ≡ 1
    single_count e = by_kind _ (single_rows arity (listings arity (take k used)) record_k e)

    module _ (left : record_k.left < k) (right : record_k.right < k) where
      pub union_count : record_k.kind ≡ 2 → length (rows_at k) ≡ length (rows_at record_k.left) + length (rows_at record_k.right)
      union_count e =
          by_kind _ (union_rows arity (listings arity (take k used)) record_k e ∙ ap₂ ◌++◌ (earlier _ left) (earlier _ right))
          ∙ length-append (rows_at record_k.left) (rows_at record_k.right)

      pub product_count : record_k.kind ≡ 3 → length (rows_at k) ≡ length (rows_at record_k.left) * length (rows_at record_k.right)
      product_count e =
          by_kind _ (product_rows arity (listings arity (take k used)) record_k e ∙ ap₂ products (earlier _ left) (earlier _ right))
          ∙ length_products (rows_at record_k.left) (rows_at record_k.right)

  -- ---- some row
  module _ (nodes : ℕ) where
    some_new : (k : ℕ) → k < length used → SoundAt arity nodes used k (entry used k) → ((j : ℕ) → j < k → 0 < length (rows_at j))
        → 0 < length (rows_at k)
    some_new k there sound before =
        ⊎_elim (λ single. omega (arith, single_count k there single.0))
        (⊎_elim
        (λ union. omega (arith, union_count k there union.1 union.2 union.0, before _ union.1))
        (λ product.
        subst (λ (n : ℕ). 0 < n) (sym (product_count k there product.1 product.2 product.0))
        (mul-pos (before _ product.1) (before _ product.2))))
        sound.kind

    -- each of the first n records lists some row, if they are sound
    pub some_rows : (n : ℕ) → n ≤ length used → ((k : ℕ) → k < n → SoundAt arity nodes used k (entry used k)) → (k : ℕ) → k < n
        → 0 < length (rows_at k)
    some_rows zero there sound k l = absurd (omega arith)
    some_rows (suc n) there sound k l =
        let before : (j : ℕ) → j < n → 0 < length (rows_at j) = some_rows n (omega arith) (λ j h. sound j (omega arith)) in
        ⊎_elim (λ old. before k old)
        (λ new. subst (λ (j : ℕ). 0 < length (rows_at j)) (sym new) (some_new n (omega arith) (sound n (omega arith)) before))
        (last_or k n (omega arith))
