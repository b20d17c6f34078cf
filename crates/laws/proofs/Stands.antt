-- What it is for a set of a table to stand for a list of rows, and that singles, products and unions of standing sets stand.
-- First unit as a factor, then standing, then tables that grow, then the three operations.
use mathlib.Core.Bool.{Bool, cond, false, true, true≢false}
use mathlib.Core.List.Memᴰ
use mathlib.Core.List.{List, [], ◌++◌, ◌∷◌, append_assoc, append-nil, map}
use mathlib.Core.Logic.{inl, inr, ⊎_elim}
use mathlib.Core.Path.{◌∙◌, ◌≡◌, ap, ap₂, refl, sym}
use Prim.Native.Nat.{◌+◌, ◌<◌, ◌^◌, ◌≤◌, suc, zero, ℕ}
use native.Mathlib.Omega.{arith}
use borrow.Author.Tests.{eqb-false, eqb-true}
use lib.Bits.{bit_and, or_disjoint, or_lt}
use lib.Dec.{eqb}
use lib.ListN.{get_or-append, length, length-append, replicate}
use lib.Seq.{get_or-append_seam}
use Rattle.paper.specs.Building.{is_empty, new_record, product_record, single_record, union_record}
use Rattle.paper.specs.Lists.{Once, ◌∈◌, is_nil}
use Rattle.paper.specs.Records.{blank_entry, listings, product_of, record_rows, set_rows, single_of, union_of}
use Rattle.paper.specs.Row.{Row, blank, merge, products, single_row}
use Rattle.paper.specs.Sound.{entry}
use Rattle.laws.specs.Plain.{Record, Set, at, empty, unit}
use Rattle.laws.specs.QuestionCauses.{SoundAt}
use Rattle.laws.proofs.Listings.{get_d_listings, get_d_pushed}
use Rattle.laws.proofs.Lists.{each_none, here, once_one}
use Rattle.laws.proofs.Shapes.{Shape, merge_inj, shape_few, shape_product, shape_single}
use Rattle.laws.proofs.SoundRecords.{SoundFrom}
use Rattle.laws.proofs.Splits.{once_products}

-- ---- unit as a factor: a row of blanks merged with a row is that row
merge_blank : (y : Row) → merge (replicate (length y) blank) y ≡ y
merge_blank [] = refl
merge_blank (x ∷ xs) = rw (merge_blank xs)

blank_merge : (x : Row) → merge x (replicate (length x) blank) ≡ x
blank_merge [] = refl
blank_merge (x ∷ xs) = cc (head (eqb x blank) refl, blank_merge xs)
  where
    head : (b : Bool) → eqb x blank ≡ b → cond b blank x ≡ x
    head true e = sym (eqb-true x blank e)
    head false e = refl

-- every row of the list has this length
abbrev Long : ℕ → List Row → Type 0
Long k rows = (row : Row) → row ∈ rows → length row ≡ k

unit_times : (k : ℕ) (ys : List Row) → Long k ys → products (replicate k blank ∷ []) ys ≡ ys
unit_times k ys long = append-nil (map (merge (replicate k blank)) ys) ∙ go ys long
  where
    go : (zs : List Row) → Long k zs → map (merge (replicate k blank)) zs ≡ zs
    go [] h = refl
    go (z ∷ zs) h = cc (rw (h z here) at (merge_blank z), go zs (λ row m. h row (Memᴰ.tail m)))

times_unit : (k : ℕ) (xs : List Row) → Long k xs → products xs (replicate k blank ∷ []) ≡ xs
times_unit k [] h = refl
times_unit k (x ∷ xs) h = cc (rw (h x here) at (blank_merge x), times_unit k xs (λ row m. h row (Memᴰ.tail m)))

-- a single without a place is unit
pub single_zero : (k n : ℕ) → single_row k n 0 ≡ replicate k blank
single_zero zero n = refl
single_zero (suc k) n = rw (single_zero k n)

-- some rows times some rows are some rows, and some rows followed by others too
nil_products : (xs ys : List Row) → is_nil xs ≡ false → is_nil ys ≡ false → is_nil (products xs ys) ≡ false
nil_products [] ys hx hy = absurd (true≢false hx)
nil_products (x ∷ xs) [] hx hy = absurd (true≢false hy)
nil_products (x ∷ xs) (y ∷ ys) hx hy = refl

nil_append : (xs ys : List Row) → is_nil xs ≡ false → is_nil (xs ++ ys) ≡ false
nil_append [] ys h = absurd (true≢false h)
nil_append (x ∷ xs) ys h = refl

-- ---- standing for a list of rows
-- what the set itself has to meet: empty lists nothing, unit has no place, a record has the flag and lists some row
abbrev pub Valid : ℕ → ℕ → List Record → Set → List Row → Type 0
Valid k b table empty rows = rows ≡ []
Valid k b table unit rows = b ≡ 0
Valid k b table (at i) rows = (i < length table) × (0 < b) × (is_nil rows ≡ false) × ((entry table i).flag ≡ b) × (b < 2 ^ k)

-- the set e of a table stands for rows of flag b, none of them twice
pub record Stands (k b : ℕ) (table : List Record) (e : Set) (rows : List Row) : Type 0 where
  pub lists : set_rows k (listings k table) e ≡ rows
  pub valid : Valid k b table e rows
  pub shape : Shape k b rows
  pub once : Once rows

-- an entry stays when records are added
pub entry_old : (table more : List Record) (i : ℕ) → i < length table → entry (table ++ more) i ≡ entry table i
entry_old table more i h = get_or-append table more blank_entry i h

-- a new one is the last
pub entry_new : (table : List Record) (r : Record) → entry (table ++ (r ∷ [])) (length table) ≡ r
entry_new table r = get_or-append_seam table r [] blank_entry

-- ---- tables that grow
-- no record of the rest lists a row twice
abbrev pub OnceFrom : ℕ → List Record → List Record → Type 0
OnceFrom k before [] = Unit {0}
OnceFrom k before (r ∷ rest) = Once (record_rows k (listings k before) r) × OnceFrom k (before ++ (r ∷ [])) rest

-- a table with more records at its end, each sound after those before it and with no row twice
pub record Extends (k N : ℕ) (table table' : List Record) : Type 0 where
  pub more : List Record
  pub longer : table' ≡ table ++ more
  pub sound : SoundFrom k N table more
  pub once : OnceFrom k table more

-- what holds of the first records of the rest, and of those after them, holds of the rest
once_from_append : (k : ℕ) (before xs ys : List Record) → OnceFrom k before xs → OnceFrom k (before ++ xs) ys → OnceFrom k before (xs ++ ys)
once_from_append k before [] ys h g = rw append-nil at g
once_from_append k before (r ∷ xs) ys h g =
    (h.0, once_from_append k (before ++ (r ∷ [])) xs ys h.1 (rw (← append_assoc before (r ∷ []) xs) at g))

sound_from_append : (k N : ℕ) (before xs ys : List Record) → SoundFrom k N before xs → SoundFrom k N (before ++ xs) ys
    → SoundFrom k N before (xs ++ ys)
sound_from_append k N before [] ys h g = rw append-nil at g
sound_from_append k N before (r ∷ xs) ys h g =
    (h.0, sound_from_append k N (before ++ (r ∷ [])) xs ys h.1 (rw (← append_assoc before (r ∷ []) xs) at g))

-- a table extends itself
pub extends_refl : (k N : ℕ) (table : List Record) → Extends k N table table
extends_refl k N table = record { more = []; longer = sym (append-nil table); sound = tt; once = tt }

-- and what extends an extension of it extends it
pub extends_trans : (k N : ℕ) (s s' s'' : List Record) → Extends k N s s' → Extends k N s' s'' → Extends k N s s''
extends_trans k N s s' s'' x y = record {
  more = x.more ++ y.more;
  longer = y.longer ∙ rw x.longer (append_assoc s x.more y.more);
  sound = sound_from_append k N s x.more y.more x.sound (rw x.longer at y.sound);
  once = once_from_append k s x.more y.more x.once (rw x.longer at y.once);
}

-- what stands goes on to stand as the table grows
pub later : (k N b : ℕ) (s s' : List Record) (e : Set) (rows : List Row) → Extends k N s s' → Stands k b s e rows → Stands k b s' e rows
later k N b s s' empty rows x h = record { lists = h.lists; valid = h.valid; shape = h.shape; once = h.once }
later k N b s s' unit rows x h = record { lists = h.lists; valid = h.valid; shape = h.shape; once = h.once }
later k N b s s' (at i) rows x h =
    let (used, above, some, flag, below) = h.valid in
    rw x.longer (record {
      lists = get_d_listings k s x.more i used ∙ h.lists;
      valid = (omega (arith, length-append s x.more), above, some, rw (entry_old s x.more i used) flag, below);
      shape = h.shape;
      once = h.once;
    })

-- only empty stands for no rows
pub nothing_stands : (k b : ℕ) (s : List Record) (e : Set) (rows : List Row) → Stands k b s e rows → is_empty e ≡ is_nil rows
nothing_stands k b s empty rows h = sym (ap is_nil h.valid)
nothing_stands k b s unit rows h = ap is_nil h.lists
nothing_stands k b s (at i) rows h = sym h.valid.2

-- two units in one list make a row stand twice
pub not_unit_twice : (k b : ℕ) (s : List Record) (x y : Set) (u v : List Row) → Once (u ++ v) → Stands k b s x u → Stands k b s y v
    → x ≡ unit → y ≡ unit → ⊥
not_unit_twice k b s x y u v o p q ex ey = two.0 here
  where
    blanks : (z : Set) (rows : List Row) → Stands k b s z rows → z ≡ unit → rows ≡ replicate k blank ∷ []
    blanks z rows st e = sym st.lists ∙ ap (set_rows k (listings k s)) e

    two : Once (replicate k blank ∷ replicate k blank ∷ [])
    two = rw (blanks x u p ex, blanks y v q ey) at o

-- ---- the operations
-- an operation on a table: the table grows, and the result stands for the rows
abbrev pub Makes : ℕ → ℕ → ℕ → List Record → List Record × Set → List Row → Type 0
Makes k N b s made rows = Extends k N s made.0 × Stands k b made.0 made.1 rows

-- flags in range that share no bit have a sum in range
sum_below : (k b c : ℕ) → bit_and b c ≡ 0 → b < 2 ^ k → c < 2 ^ k → b + c < 2 ^ k
sum_below k b c apart hb hc = rw (or_disjoint b c apart) at (or_lt k b c hb hc)

-- rows that share no place make each merger once
once_times : (k b c : ℕ) (u v : List Row) → bit_and b c ≡ 0 → Shape k b u → Shape k c v → Once u → Once v → Once (products u v)
once_times k b c u v apart hu hv ou ov =
    once_products u v ou ov
    (λ x x' y y' mx mx' my my' e.
    let (lx, fx, nx) = hu x mx in
    let (lx', fx', nx') = hu x' mx' in
    let (ly, fy, ny) = hv y my in
    let (ly', fy', ny') = hv y' my' in
    merge_inj b c x x' y y' apart fx fx' fy fy' (lx ∙ sym lx') (lx ∙ sym ly) (lx' ∙ sym ly') e)

module _ (k N : ℕ) (few : N ≤ 4095) where
  -- nothing is made
  keeps : (b : ℕ) (s : List Record) (e : Set) (rows : List Row) → Stands k b s e rows → Makes k N b s (s, e) rows
  keeps b s e rows h = (extends_refl k N s, h)

  -- a new record stands for its rows
  new_stands : (s : List Record) (r : Record) (rows : List Row) → SoundAt k N s (length s) r → record_rows k (listings k s) r ≡ rows
      → is_nil rows ≡ false → Shape k r.flag rows → Once rows → Makes k N r.flag s (new_record r s) rows
  new_stands s r rows sound e some shape once = (
    record { more = r ∷ []; longer = refl; sound = (sound, tt); once = (rw e once, tt) },
    record {
      lists = get_d_pushed k s r ∙ e;
      valid = (omega (arith, length-append s (r ∷ [])), sound.flag_above, some, rw (entry_new s r) refl, sound.flag_below);
      shape = shape;
      once = once;
    },
  )

  -- a single stands for its row; without a place it is unit
  pub single_stands : (n b : ℕ) (s : List Record) → n < N → b < 2 ^ k → Makes k N b s (single_record n b s) (single_row k n b ∷ [])
  single_stands n b s node small = go (eqb b 0) refl
    where
      rows : List Row
      rows = single_row k n b ∷ []

      shape : Shape k b rows
      shape = shape_few N few k b rows (shape_single k N few n b node small)

      go : (c : Bool) → eqb b 0 ≡ c → Makes k N b s (cond c (s, unit) (new_record (single_of n b) s)) rows
      go true e =
          let z : b ≡ 0 = eqb-true b 0 e in
          keeps b s unit rows (record { lists = rw (z, single_zero k n); valid = z; shape = shape; once = once_one (single_row k n b) })
      go false e =
          let z : b ≡ 0 → ⊥ = eqb-false b 0 e in
          new_stands s (single_of n b) rows (record { node = node; flag_above = omega arith; flag_below = small; kind = inl (refl, refl, refl) })
          refl refl shape (once_one (single_row k n b))

  -- a product stands for the products of the rows: with empty it is empty, with unit the other factor, else a new record
  pub product_stands : (n b c : ℕ) (s : List Record) (x y : Set) (u v : List Row) → n < N → bit_and b c ≡ 0
      → Stands k b s x u → Stands k c s y v → Makes k N (b + c) s (product_record n (b + c) x y s) (products u v)
  product_stands n b c s x y u v node apart p q = go x y p q
    where
      shape : Shape k (b + c) (products u v)
      shape = shape_product 4095 k b c u v apart p.shape q.shape

      once : Once (products u v)
      once = once_times k b c u v apart p.shape q.shape p.once q.once

      nothing : products u v ≡ [] → Makes k N (b + c) s (s, empty) (products u v)
      nothing e = keeps (b + c) s empty (products u v) (record { lists = sym e; valid = e; shape = shape; once = once })

      -- the flag and the rows of the other factor are those of the product
      other : (d : ℕ) (e : Set) (rows : List Row) → d ≡ b + c → products u v ≡ rows → Stands k d s e rows → Makes k N (b + c) s (s, e) (products u v)
      other d e rows flag same h = keeps (b + c) s e (products u v) (rw (same, ← flag) h)

      go : (e f : Set) → Stands k b s e u → Stands k c s f v → Makes k N (b + c) s (product_record n (b + c) e f s) (products u v)
      go empty f p' q' = nothing (rw p'.valid)
      go unit f p' q' = other c f v (omega (arith, p'.valid)) (rw (← p'.lists) (unit_times k v (λ row m. (q'.shape row m).0))) q'
      go (at i) empty p' q' = nothing (rw q'.valid (each_none u))
      go (at i) unit p' q' = other b (at i) u (omega (arith, q'.valid)) (rw (← q'.lists) (times_unit k u (λ row m. (p'.shape row m).0))) p'
      go (at i) (at j) p' q' =
          let (used, above, some, flag, below) = p'.valid in
          let (used', above', some', flag', below') = q'.valid in
          new_stands s (product_of n (b + c) i j) (products u v)
          (record {
            node = node;
            flag_above = omega arith;
            flag_below = sum_below k b c apart below below';
            kind = inr (inr (refl, used, used', ap₂ bit_and flag flag' ∙ apart, ap₂ (λ (z w : ℕ). z + w) flag flag'));
          })
          (ap₂ products p'.lists q'.lists) (nil_products u v some some') shape once

  -- a union stands for the rows of both: with empty it is the other set, else a new record. Where no row comes twice, unit meets only empty
  pub union_stands : (n b : ℕ) (s : List Record) (x y : Set) (u v : List Row) → n < N → Once (u ++ v)
      → Stands k b s x u → Stands k b s y v → Makes k N b s (union_record n b x y s) (u ++ v)
  union_stands n b s x y u v node o p q = go x y p q
    where
      right_empty : (e : Set) → Stands k b s e u → v ≡ [] → Makes k N b s (s, e) (u ++ v)
      right_empty e p' none = keeps b s e (u ++ v) (rw (none, append-nil) p')

      go : (e f : Set) → Stands k b s e u → Stands k b s f v → Makes k N b s (union_record n b e f s) (u ++ v)
      go empty f p' q' = keeps b s f (u ++ v) (rw p'.valid q')
      go unit empty p' q' = right_empty unit p' q'.valid
      go unit unit p' q' = absurd (not_unit_twice k b s unit unit u v o p' q' refl refl)
      go unit (at j) p' q' = absurd (omega (arith, p'.valid, q'.valid.1))
      go (at i) empty p' q' = right_empty (at i) p' q'.valid
      go (at i) unit p' q' = absurd (omega (arith, q'.valid, p'.valid.1))
      go (at i) (at j) p' q' =
          let (used, above, some, flag, below) = p'.valid in
          let (used', above', some', flag', below') = q'.valid in
          new_stands s (union_of n b i j) (u ++ v)
          (record { node = node; flag_above = above; flag_below = below; kind = inr (inl (refl, used, used', flag, flag')) })
          (ap₂ {C = List Row} (λ z w. z ++ w) p'.lists q'.lists) (nil_append u v some)
          (λ row m. ⊎_elim (p'.shape row) (q'.shape row) (Memᴰ.append_cases u m)) o
