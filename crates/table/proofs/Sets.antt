-- Sets as numbers: what the numbers mean, and then which set or record the paper's operations make, by the numbers of their sets.
use mathlib.Core.Path.{◌∙◌, ◌≡◌, ap, refl}
use mathlib.Core.List.{List}
use Prim.Native.Nat.{◌+◌, ◌-◌, ◌≤◌, suc, zero, ℕ}
use native.Mathlib.Omega.{arith}
use borrow.Author.Tests.{eq-eqb, ne_eqb}
use Rattle.paper.specs.declared.Record.{Record}
use Rattle.paper.specs.Building.{new_record, product_record, single_record, union_record}
use Rattle.paper.specs.Records.{product_of, single_of, union_of}
use Rattle.table.specs.Sets.{Set, at, empty, set_in, set_number, unit}

-- ---- numbers and what they mean
pub set_of : (i : ℕ) → set_in (i + 2) ≡ at i
set_of i = ap set_in (let e : i + 2 ≡ suc (suc i) = omega arith in e)

pub record_number : (n : ℕ) → 2 ≤ n → set_in n ≡ at (n - 2)
record_number n h = ap set_in (let e : n ≡ (n - 2) + 2 = omega arith in e) ∙ set_of (n - 2)

pub set_number_lem : (e : Set) → set_in (set_number e) ≡ e
set_number_lem empty = refl
set_number_lem unit = refl
set_number_lem (at i) = refl

pub number_set : (n : ℕ) → set_number (set_in n) ≡ n
number_set zero = refl
number_set (suc zero) = refl
number_set (suc (suc n)) = refl

-- ---- the paper's operations, by the numbers of their sets
module _ (n b : ℕ) (table : List Record) where
  pub single_unit : b ≡ 0 → single_record n b table ≡ (table, set_in 1)
  single_unit e = rw (eq-eqb b 0 e)

  pub single_new : (b ≡ 0 → ⊥) → single_record n b table ≡ new_record (single_of n b) table
  single_new h = rw (ne_eqb b 0 h)

  product_unit : (x : Set) → product_record n b x unit table ≡ (table, x)
  product_unit empty = refl
  product_unit unit = refl
  product_unit (at i) = refl

  product_empty : (x : Set) → product_record n b x empty table ≡ (table, empty)
  product_empty empty = refl
  product_empty unit = refl
  product_empty (at i) = refl

  module _ (l r : ℕ) where
    pub product_left_empty : l ≡ 0 → product_record n b (set_in l) (set_in r) table ≡ (table, set_in l)
    product_left_empty e = rw e

    pub product_left_unit : l ≡ 1 → product_record n b (set_in l) (set_in r) table ≡ (table, set_in r)
    product_left_unit e = rw e

    pub product_right_empty : r ≡ 0 → product_record n b (set_in l) (set_in r) table ≡ (table, set_in r)
    product_right_empty e = rw e (product_empty (set_in l))

    pub product_right_unit : r ≡ 1 → product_record n b (set_in l) (set_in r) table ≡ (table, set_in l)
    product_right_unit e = rw e (product_unit (set_in l))

    pub product_new : 2 ≤ l → 2 ≤ r → product_record n b (set_in l) (set_in r) table ≡ new_record (product_of n b (l - 2) (r - 2)) table
    product_new g h = rw (record_number l g, record_number r h)

    pub union_left_empty : l ≡ 0 → union_record n b (set_in l) (set_in r) table ≡ (table, set_in r)
    union_left_empty e = rw e

    pub union_left_unit : l ≡ 1 → union_record n b (set_in l) (set_in r) table ≡ (table, set_in l)
    union_left_unit e = rw e

    pub union_new : 2 ≤ l → 2 ≤ r → union_record n b (set_in l) (set_in r) table ≡ new_record (union_of n b (l - 2) (r - 2)) table
    union_new g h = rw (record_number l g, record_number r h)

  -- a record with empty or with unit is the record
  pub union_left_record : (l r : ℕ) → 2 ≤ l → r ≤ 1 → union_record n b (set_in l) (set_in r) table ≡ (table, set_in l)
  union_left_record l zero g h = rw (record_number l g)
  union_left_record l (suc zero) g h = rw (record_number l g)
  union_left_record l (suc (suc r)) g h = absurd (omega arith)
