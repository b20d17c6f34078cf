-- What a batch says, and what `store` leaves of a table: whether its records fit, the records one by one, and the table;
-- last, `store` as the laws of loops that store take it (`storer`).
use mathlib.Core.Path.{◌≡◌, refl, ap, ◌∙◌}
use Prim.Native.Nat.{ℕ, zero, suc, ◌+◌, ◌*◌, ◌<◌, ◌≤◌}
use native.Mathlib.Omega.{arith}
use mathlib.Core.Bool.{Bool, true, false, cond, false≢true}
use mathlib.Core.List.{List, ◌++◌}
use lib.Dec.{leb}
use lib.ListN.{length, get_or, take, drop, length-append, length-drop}
use lib.Seq.{get_or-drop, length-take-le}
use borrow.Author.Tests.{leb-true, le-leb}
use Rattle.paper.specs.declared.Record.{Record}
use Rattle.paper.specs.Records.{blank_entry}
use Rattle.walks.proofs.Storing.{Storer}
use Rattle.table.specs.Batch.{record_numbers, record_at, records_in, fits, stored}

-- ---- whether the records fit
module _ (entries from numbers count : ℕ) where
  -- the test `fits`, and the two facts that it is of
  pub fits_there : from + count ≤ entries → record_numbers * count ≤ numbers → fits entries from numbers count ≡ true
  fits_there l m = simp (le-leb (from + count) entries l, le-leb (record_numbers * count) numbers m)

  pub fits_says : fits entries from numbers count ≡ true → (from + count ≤ entries) × (record_numbers * count ≤ numbers)
  fits_says = go (leb (from + count) entries) refl
    where
      go : (c : Bool) → leb (from + count) entries ≡ c → cond c (leb (record_numbers * count) numbers) false ≡ true
          → (from + count ≤ entries) × (record_numbers * count ≤ numbers)
      go true e f = (leb-true (from + count) entries e, leb-true (record_numbers * count) numbers f)
      go false e f = absurd (false≢true f)

-- ---- the records of a batch
pub length_records : (n : ℕ) (batch : List ℕ) → length (records_in n batch) ≡ n
unfolding records_in
length_records zero batch = refl
length_records (suc n) batch = ap suc (length_records n (drop record_numbers batch))

-- record i of what follows the first record is the next one of the whole
record_behind : (batch : List ℕ) (i : ℕ) → record_at (drop record_numbers batch) i ≡ record_at batch (suc i)
record_behind batch i =
    λ k. record {
      kind = further (record_numbers * i) (record_numbers * suc i) (omega arith) k;
      node = further (record_numbers * i + 1) (record_numbers * suc i + 1) (omega arith) k;
      left = further (record_numbers * i + 2) (record_numbers * suc i + 2) (omega arith) k;
      right = further (record_numbers * i + 3) (record_numbers * suc i + 3) (omega arith) k;
      flag = further (record_numbers * i + 4) (record_numbers * suc i + 4) (omega arith) k;
    }
  where
    further : (m n : ℕ) → record_numbers + m ≡ n → get_or (drop record_numbers batch) m 0 ≡ get_or batch n 0
    further m n e = get_or-drop record_numbers batch m 0 ∙ ap (λ (j : ℕ). get_or batch j 0) e

pub record_in : (n i : ℕ) (batch : List ℕ) → i < n → get_or (records_in n batch) i blank_entry ≡ record_at batch i
unfolding records_in
record_in zero i batch l = absurd (omega (arith, l))
record_in (suc n) zero batch l = refl
record_in (suc n) (suc i) batch l = record_in n i (drop record_numbers batch) (omega (arith, l)) ∙ record_behind batch i

-- ---- the table
module _ (table : List Record) (from : ℕ) (batch : List ℕ) (count : ℕ) where
  -- where the records fit, they stand in the table
  pub stored_there : from + count ≤ length table → record_numbers * count ≤ length batch
      → stored table from batch count ≡ take from table ++ (records_in count batch ++ drop (from + count) table)
  stored_there l m = rw (fits_there (length table) from (length batch) count l m)

  -- the table stays as long as it was
  pub length_stored : length (stored table from batch count) ≡ length table
  length_stored = go (fits (length table) from (length batch) count) refl
    where
      go : (c : Bool) → fits (length table) from (length batch) count ≡ c
          → length (cond c (take from table ++ (records_in count batch ++ drop (from + count) table)) table) ≡ length table
      go true e =
          omega (
            arith,
            length-append (take from table) (records_in count batch ++ drop (from + count) table),
            length-append (records_in count batch) (drop (from + count) table),
            length-take-le from table (omega (arith, (fits_says (length table) from (length batch) count e).0)),
            length_records count batch,
            length-drop (from + count) table,
            (fits_says (length table) from (length batch) count e).0,
          )
      go false e = refl

abbrev pub storer : Storer
storer = record { put = stored; keeps_length = length_stored }
