-- Picking the rows that have node n at index i, that place blanked: from a union, from a product, and that it keeps each row once.
use mathlib.Core.Bool.{Bool, cond, false, true}
use mathlib.Core.List.Memᴰ
use mathlib.Core.List.{List, [], ◌++◌, ◌∷◌, map}
use mathlib.Core.Logic.{⊎_elim}
use mathlib.Core.Path.{◌∙◌, ◌≡◌, ap, refl, sym}
use Prim.Native.Nat.{◌<◌, ℕ}
use borrow.Author.Tests.{eqb-true}
use lib.Dec.{eqb}
use lib.ListN.{get_or, length, set}
use lib.Seq.{set-get_or, set-set}
use Rattle.paper.specs.Lists.{Once, ◌∈◌}
use Rattle.paper.specs.Row.{Row, blank, merge, products}
use Rattle.laws.specs.Fixings.{picked}
use Rattle.laws.proofs.Lists.{here}
use Rattle.laws.proofs.Shapes.{merge_at_left, merge_at_right, set_left, set_right}

module _ (i n : ℕ) where
  abbrev entry : Row → ℕ
  entry x = get_or x i blank

  abbrev blanked : Row → Row
  blanked x = set x i blank

  -- ---- from a union
  pub picked_append : (xs ys : List Row) → picked i n (xs ++ ys) ≡ picked i n xs ++ picked i n ys
  picked_append [] ys = refl
  picked_append (x ∷ xs) ys = rw (picked_append xs ys) (go (eqb (entry x) n))
    where
      go : (c : Bool)
          → cond c (blanked x ∷ (picked i n xs ++ picked i n ys)) (picked i n xs ++ picked i n ys)
          ≡ cond c (blanked x ∷ picked i n xs) (picked i n xs) ++ picked i n ys
      go true = refl
      go false = refl

  -- ---- from a product whose left rows fill the place
  -- with one left row, all of the mergers or none
  picked_one : (k : ℕ) (x : Row) (ys : List Row) → length x ≡ k → eqb (entry x) blank ≡ false
      → ((y : Row) → y ∈ ys → (length y ≡ k) × (entry y ≡ blank))
      → picked i n (map (merge x) ys) ≡ cond (eqb (entry x) n) (map (merge (blanked x)) ys) []
  picked_one k x [] hx node h = go (eqb (entry x) n)
    where
      go : (c : Bool) → [] ≡ cond {A = List Row} c [] []
      go true = refl
      go false = refl
  picked_one k x (y ∷ ys) hx node h =
      let (hy, y-blank) = h y here in
      let l : length x ≡ length y = hx ∙ sym hy in
      rw (merge_at_left x y i l node, set_left x y i l y-blank, picked_one k x ys hx node (λ z m. h z (Memᴰ.tail m))) (go (eqb (entry x) n))
    where
      rest : List Row
      rest = map (merge (blanked x)) ys

      go : (c : Bool) → cond c (merge (blanked x) y ∷ cond c rest []) (cond c rest []) ≡ cond c (merge (blanked x) y ∷ rest) []
      go true = refl
      go false = refl

  -- they are picked in the left factor
  pub picked_left : (k : ℕ) (xs ys : List Row) → ((x : Row) → x ∈ xs → (length x ≡ k) × (eqb (get_or x i blank) blank ≡ false))
      → ((y : Row) → y ∈ ys → (length y ≡ k) × (get_or y i blank ≡ blank)) → picked i n (products xs ys) ≡ products (picked i n xs) ys
  picked_left k [] ys hx hy = refl
  picked_left k (x ∷ xs) ys hx hy =
      let (l, node) = hx x here in
      picked_append (map (merge x) ys) (products xs ys)
      ∙ rw (picked_one k x ys l node hy, picked_left k xs ys (λ z m. hx z (Memᴰ.tail m)) hy) (go (eqb (entry x) n))
    where
      go : (c : Bool)
          → cond c (map (merge (blanked x)) ys) [] ++ products (picked i n xs) ys
          ≡ products (cond c (blanked x ∷ picked i n xs) (picked i n xs)) ys
      go true = refl
      go false = refl

  -- ---- from a product whose right rows fill the place
  -- with one left row, the mergers with the right rows picked
  picked_row : (k : ℕ) (x : Row) (ys : List Row) → length x ≡ k → entry x ≡ blank → ((y : Row) → y ∈ ys → length y ≡ k)
      → picked i n (map (merge x) ys) ≡ map (merge x) (picked i n ys)
  picked_row k x [] hx x-blank h = refl
  picked_row k x (y ∷ ys) hx x-blank h =
      let l : length x ≡ length y = hx ∙ sym (h y here) in
      rw (merge_at_right x y i l x-blank, set_right x y i l x-blank, picked_row k x ys hx x-blank (λ z m. h z (Memᴰ.tail m)))
      (go (eqb (entry y) n))
    where
      go : (c : Bool)
          → cond c (merge x (blanked y) ∷ map (merge x) (picked i n ys)) (map (merge x) (picked i n ys))
          ≡ map (merge x) (cond c (blanked y ∷ picked i n ys) (picked i n ys))
      go true = refl
      go false = refl

  -- they are picked in the right factor
  pub picked_right : (k : ℕ) (xs ys : List Row) → ((x : Row) → x ∈ xs → (length x ≡ k) × (get_or x i blank ≡ blank))
      → ((y : Row) → y ∈ ys → length y ≡ k) → picked i n (products xs ys) ≡ products xs (picked i n ys)
  picked_right k [] ys hx hy = refl
  picked_right k (x ∷ xs) ys hx hy =
      let (l, x-blank) = hx x here in
      picked_append (map (merge x) ys) (products xs ys)
      ∙ rw (picked_row k x ys l x-blank hy, picked_right k xs ys (λ z m. hx z (Memᴰ.tail m)) hy)

  -- ---- each row once
  -- z is a row of the list with n there, blanked
  abbrev PickedFrom : List Row → Row → Type 0
  PickedFrom rows z = (x : Row) × (x ∈ rows) × (get_or x i blank ≡ n) × (z ≡ set x i blank)

  -- so each row picked is one
  pub mem_picked : (rows : List Row) (z : Row) → z ∈ picked i n rows → PickedFrom rows z
  mem_picked [] z m = absurd (Memᴰ.not-nil m)
  mem_picked (x ∷ xs) z m = go (eqb (entry x) n) refl m (mem_picked xs z)
    where
      further : PickedFrom xs z → PickedFrom (x ∷ xs) z
      further (y, my, e, f) = (y, Memᴰ.tail my, e, f)

      go : (c : Bool) → eqb (entry x) n ≡ c → z ∈ cond c (blanked x ∷ picked i n xs) (picked i n xs)
          → (z ∈ picked i n xs → PickedFrom xs z) → PickedFrom (x ∷ xs) z
      go true e w ih = ⊎_elim (λ f. (x, here, eqb-true (entry x) n e, f)) (λ v. further (ih v)) (Memᴰ.cases_cons w)
      go false e w ih = further (ih w)

  -- a row can be read off the blanked one
  set_back : (x : Row) → entry x ≡ n → set (blanked x) i n ≡ x
  set_back x e = set-set x i blank n ∙ ap (set x i) (sym e) ∙ set-get_or x i blank

  -- so no row is picked twice
  pub once_picked : (k : ℕ) (rows : List Row) → i < k → ((row : Row) → row ∈ rows → length row ≡ k) → Once rows → Once (picked i n rows)
  once_picked k [] inside long o = tt
  once_picked k (x ∷ xs) inside long o = go (eqb (entry x) n) refl (once_picked k xs inside (λ r m. long r (Memᴰ.tail m)) o.1)
    where
      go : (c : Bool) → eqb (entry x) n ≡ c → Once (picked i n xs) → Once (cond c (blanked x ∷ picked i n xs) (picked i n xs))
      go true e ih = (
        λ m. let (y, my, ey, same) = mem_picked xs (blanked x) m in
            o.0 (Memᴰ.cast (sym (set_back x (eqb-true (entry x) n e)) ∙ ap (λ (z : Row). set z i n) same ∙ set_back y ey) my),
        ih,
      )
      go false e ih = ih
