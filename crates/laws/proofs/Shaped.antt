-- The rows of a sound table have the places of their record's flag. First kinds and numbers of records, then one more record, then all.
use mathlib.Core.List.Memᴰ
use mathlib.Core.List.{List, [], ◌++◌, ◌∷◌, append_assoc, append-nil}
use mathlib.Core.Logic.{◌⊎◌, inl, inr, ⊎_elim}
use mathlib.Core.Path.{◌∙◌, ◌≡◌, subst, subst₂, sym}
use Prim.Native.Nat.{◌+◌, ◌<◌, ◌≤◌, ℕ}
use native.Mathlib.Omega.{arith}
use borrow.Author.Tests.{eq-eqb, eqb-false, eqb-true, ne_eqb}
use lib.Dec.{eqb}
use lib.ListN.{get_or, length, length-append}
use Rattle.paper.specs.Lists.{Once}
use Rattle.paper.specs.Records.{by_kind, listings, record_rows}
use Rattle.paper.specs.Row.{Row, products, single_row}
use Rattle.paper.specs.Sound.{entry}
use Rattle.laws.specs.Plain.{Record}
use Rattle.laws.specs.QuestionCauses.{IsProduct, IsSingle, IsUnion, SoundAt}
use Rattle.laws.proofs.Listings.{get_d_listings, get_d_pushed}
use Rattle.laws.proofs.Lists.{which}
use Rattle.laws.proofs.Shapes.{ShapeBelow, shape_product, shape_single}
use Rattle.laws.proofs.SoundRecords.{SoundFrom}
use Rattle.laws.proofs.Stands.{OnceFrom, entry_new, entry_old}

-- ---- kinds
pub kind_single : {A : Type 0} (k : ℕ) (x y z : A) → k ≡ 1 → by_kind k x y z ≡ x
kind_single k x y z e = rw (eq-eqb k 1 e)

pub kind_union : {A : Type 0} (k : ℕ) (x y z : A) → k ≡ 2 → by_kind k x y z ≡ y
kind_union k x y z e = rw (ne_eqb k 1 (λ w. omega arith), eq-eqb k 2 e)

pub kind_product : {A : Type 0} (k : ℕ) (x y z : A) → k ≡ 3 → by_kind k x y z ≡ z
kind_product k x y z e = rw (ne_eqb k 1 (λ w. omega arith), ne_eqb k 2 (λ w. omega arith))

-- the rows of a record by its kind
module _ (k : ℕ) (before : List (List Row)) (r : Record) where
  abbrev pub left_rows : List Row
  left_rows = get_or before r.left []

  abbrev pub right_rows : List Row
  right_rows = get_or before r.right []

  pub single_rows : r.kind ≡ 1 → record_rows k before r ≡ single_row k r.node r.flag ∷ []
  single_rows e = kind_single r.kind (single_row k r.node r.flag ∷ []) (left_rows ++ right_rows) (products left_rows right_rows) e

  pub union_rows : r.kind ≡ 2 → record_rows k before r ≡ left_rows ++ right_rows
  union_rows e = kind_union r.kind (single_row k r.node r.flag ∷ []) (left_rows ++ right_rows) (products left_rows right_rows) e

  pub product_rows : r.kind ≡ 3 → record_rows k before r ≡ products left_rows right_rows
  product_rows e = kind_product r.kind (single_row k r.node r.flag ∷ []) (left_rows ++ right_rows) (products left_rows right_rows) e

-- a number of a longer table is an old one or the new one
pub last_or : (i n : ℕ) → i < n + 1 → (i < n) ⊎ (i ≡ n)
last_or i n h =
    ⊎_elim (λ e. inr (eqb-true i n e)) (λ e. let f : i ≡ n → ⊥ = eqb-false i n e in inl (omega arith)) (which (eqb i n))

-- what holds of each old record, and of the new one, holds of each: P is said of a record and its rows
module _ (P : Record → List Row → Type 0) (k : ℕ) where
  abbrev pub EachRecord : List Record → Type 0
  EachRecord table = (i : ℕ) → i < length table → P (entry table i) (get_or (listings k table) i [])

  pub each_push : (table : List Record) (r : Record) → EachRecord table → P r (record_rows k (listings k table) r) → EachRecord (table ++ (r ∷ []))
  each_push table r s new i hi = ⊎_elim old last (last_or i (length table) (omega (arith, length-append table (r ∷ []), hi)))
    where
      all : List Record
      all = table ++ (r ∷ [])

      old : i < length table → P (entry all i) (get_or (listings k all) i [])
      old w = subst₂ P (sym (entry_old table (r ∷ []) i w)) (sym (get_d_listings k table (r ∷ []) i w)) (s i w)

      last : i ≡ length table → P (entry all i) (get_or (listings k all) i [])
      last w =
          subst (λ (j : ℕ). P (entry all j) (get_or (listings k all) j [])) (sym w)
          (subst₂ P (sym (entry_new table r)) (sym (get_d_pushed k table r)) new)

-- ---- shapes
module _ (k N : ℕ) (few : N ≤ 4095) where
  abbrev pub Shaped : List Record → Type 0
  Shaped = EachRecord (λ r rows. ShapeBelow N k r.flag rows) k

  -- the rows of a new record
  pub shape_new : (table : List Record) (r : Record) → SoundAt k N table (length table) r → Shaped table
      → ShapeBelow N k r.flag (record_rows k (listings k table) r)
  shape_new table r h s = ⊎_elim single_case (⊎_elim union_case product_case) h.kind
    where
      L : List Row
      L = get_or (listings k table) r.left []

      T : List Row
      T = get_or (listings k table) r.right []

      single_case : IsSingle r → ShapeBelow N k r.flag (record_rows k (listings k table) r)
      single_case e =
          subst (ShapeBelow N k r.flag) (sym (single_rows k (listings k table) r e.0))
          (shape_single k N few r.node r.flag h.node h.flag_below)

      union_case : IsUnion table (length table) r → ShapeBelow N k r.flag (record_rows k (listings k table) r)
      union_case e =
          subst (ShapeBelow N k r.flag) (sym (union_rows k (listings k table) r e.0))
          (λ row m. ⊎_elim
          (λ w. let z = s r.left e.1 row w in (z.0, z.1 ∙ e.3, z.2))
          (λ w. let z = s r.right e.2 row w in (z.0, z.1 ∙ e.4, z.2))
          (Memᴰ.append_cases L m))

      product_case : IsProduct table (length table) r → ShapeBelow N k r.flag (record_rows k (listings k table) r)
      product_case e =
          subst (ShapeBelow N k r.flag) (sym (product_rows k (listings k table) r e.0))
          (subst (λ (b : ℕ). ShapeBelow N k b (products L T)) e.4
          (shape_product N k (entry table r.left).flag (entry table r.right).flag L T e.3 (s r.left e.1) (s r.right e.2)))

  pub shaped_push : (table : List Record) (r : Record) → SoundAt k N table (length table) r → Shaped table → Shaped (table ++ (r ∷ []))
  shaped_push table r h s = each_push (λ q rows. ShapeBelow N k q.flag rows) k table r s (shape_new table r h s)

  shaped_from : (rest before : List Record) → SoundFrom k N before rest → Shaped before → Shaped (before ++ rest)
  shaped_from [] before f s = subst Shaped (sym (append-nil before)) s
  shaped_from (r ∷ rest) before f s =
      subst Shaped (append_assoc before (r ∷ []) rest) (shaped_from rest (before ++ (r ∷ [])) f.1 (shaped_push before r f.0 s))

  -- every record of a sound table lists rows of its flag
  pub shaped_all : (table : List Record) → SoundFrom k N [] table → Shaped table
  shaped_all table f = shaped_from table [] f (λ i w. absurd (omega arith))

-- ---- no row twice, record by record
abbrev pub OnceAll : ℕ → List Record → Type 0
OnceAll k = EachRecord (λ r rows. Once rows) k

once_from : (k : ℕ) (rest before : List Record) → OnceFrom k before rest → OnceAll k before → OnceAll k (before ++ rest)
once_from k [] before f s = subst (OnceAll k) (sym (append-nil before)) s
once_from k (r ∷ rest) before f s =
    subst (OnceAll k) (append_assoc before (r ∷ []) rest)
    (once_from k rest (before ++ (r ∷ [])) f.1 (each_push (λ q rows. Once rows) k before r s f.0))

pub once_all : (k : ℕ) (table : List Record) → OnceFrom k [] table → OnceAll k table
once_all k table f = once_from k table [] f (λ i w. absurd (omega arith))

all_once_from : (k : ℕ) (rest before : List Record) → OnceAll k (before ++ rest) → OnceFrom k before rest
all_once_from k [] before h = tt
all_once_from k (r ∷ rest) before h = (
  subst Once (get_d_listings k (before ++ (r ∷ [])) rest (length before) (omega (arith, length-append before (r ∷ []))) ∙ get_d_pushed k before r)
      (subst (λ (t : List Record). Once (get_or (listings k t) (length before) [])) (sym (append_assoc before (r ∷ []) rest))
      (h (length before) (omega (arith, length-append before (r ∷ rest))))),
  all_once_from k rest (before ++ (r ∷ [])) (subst (OnceAll k) (sym (append_assoc before (r ∷ []) rest)) h),
)

pub all_once : (k : ℕ) (table : List Record) → OnceAll k table → OnceFrom k [] table
all_once k table h = all_once_from k table [] h
