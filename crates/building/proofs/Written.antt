-- The records of a batch: those before a place that is written stay, and five numbers written behind them are one more record.
use mathlib.Core.List.{List, [], ◌∷◌, ◌++◌}
use mathlib.Core.Path.{◌∙◌, ◌≡◌, ap, ap₂, refl, sym}
use Prim.Native.Nat.{◌*◌, ◌+◌, ◌<◌, ◌≤◌, suc, zero, ℕ}
use native.Mathlib.Numerals.{add-one}
use native.Mathlib.Omega.{arith}
use lib.ListN.{drop, get_or, length, length-set, set}
use lib.Seq.{get_or-set_other, get_or-set_same}
use Rattle.table.proofs.Batches.{record_in}
use Rattle.building.specs.Batch.{Record, record_at, records_in}
use Rattle.building.specs.Bounds.{record_numbers}

-- one more record comes last
records_more : (k : ℕ) (B : List ℕ) → records_in (suc k) B ≡ records_in k B ++ (record_at B k ∷ [])
unfolding records_in
records_more zero B = refl
records_more (suc k) B =
    ap {B = List Record} (λ rs. record_at B 0 ∷ rs) (records_more k (drop record_numbers B))
    ∙ ap {B = List Record} (λ r. record_at B 0 ∷ (records_in k (drop record_numbers B) ++ (r ∷ []))) last
  where
    last : record_at (drop record_numbers B) k ≡ record_at B (suc k)
    last = sym (record_in (suc k) k (drop record_numbers B) (omega arith)) ∙ record_in (suc (suc k)) (suc k) B (omega arith)

-- two batches that agree below the numbers of k records have the same first k records
same_records : (B B' : List ℕ) (k : ℕ) → ((i : ℕ) → i < record_numbers * k → get_or B' i 0 ≡ get_or B i 0) → records_in k B' ≡ records_in k B
unfolding records_in
same_records B B' zero h = refl
same_records B B' (suc k) h =
    records_more k B' ∙ ap₂ {C = List Record} (λ rs r. rs ++ (r ∷ [])) (same_records B B' k (λ i l. h i (omega arith))) last ∙ sym (records_more k B)
  where
    last : record_at B' k ≡ record_at B k
    last = λ i. record {
      kind = h (record_numbers * k) (omega arith) i;
      node = h (record_numbers * k + 1) (omega arith) i;
      left = h (record_numbers * k + 2) (omega arith) i;
      right = h (record_numbers * k + 3) (omega arith) i;
      flag = h (record_numbers * k + 4) (omega arith) i;
    }

-- ---- five numbers written from a on
module _ (B : List ℕ) (a : ℕ) (r : Record) where
  abbrev first : List ℕ
  first = set B a r.kind

  abbrev second : List ℕ
  second = set first (a + 1) r.node

  abbrev third : List ℕ
  third = set second (a + 2) r.left

  abbrev fourth : List ℕ
  fourth = set third (a + 3) r.right

  abbrev pub written : List ℕ
  written = set fourth (a + 4) r.flag

  lengths : (length first ≡ length B) × (length second ≡ length B) × (length third ≡ length B) × (length fourth ≡ length B)
  lengths = (simp length-set, simp length-set, simp length-set, simp length-set)

  passed : (xs : List ℕ) (i j x : ℕ) → j < i → get_or (set xs i x) j 0 ≡ get_or xs j 0
  passed xs i j x h = get_or-set_other xs i j x 0 (λ e. omega arith)

  stays : (i : ℕ) → i < a → get_or written i 0 ≡ get_or B i 0
  stays i h =
      passed fourth (a + 4) i r.flag (omega arith)
      ∙ passed third (a + 3) i r.right (omega arith)
      ∙ passed second (a + 2) i r.left (omega arith)
      ∙ passed first (a + 1) i r.node (omega arith)
      ∙ passed B a i r.kind h

  module _ (room : a + record_numbers ≤ length B) where
    kind_at : get_or written a 0 ≡ r.kind
    kind_at =
        passed fourth (a + 4) a r.flag (omega arith)
        ∙ passed third (a + 3) a r.right (omega arith)
        ∙ passed second (a + 2) a r.left (omega arith)
        ∙ passed first (a + 1) a r.node (omega arith)
        ∙ get_or-set_same B a r.kind 0 (omega arith)

    node_at : get_or written (a + 1) 0 ≡ r.node
    node_at =
        passed fourth (a + 4) (a + 1) r.flag (omega arith)
        ∙ passed third (a + 3) (a + 1) r.right (omega arith)
        ∙ passed second (a + 2) (a + 1) r.left (omega arith)
        ∙ get_or-set_same first (a + 1) r.node 0 (omega (arith, lengths))

    left_at_lem : get_or written (a + 2) 0 ≡ r.left
    left_at_lem =
        passed fourth (a + 4) (a + 2) r.flag (omega arith)
        ∙ passed third (a + 3) (a + 2) r.right (omega arith)
        ∙ get_or-set_same second (a + 2) r.left 0 (omega (arith, lengths))

    right_at : get_or written (a + 3) 0 ≡ r.right
    right_at = passed fourth (a + 4) (a + 3) r.flag (omega arith) ∙ get_or-set_same third (a + 3) r.right 0 (omega (arith, lengths))

    flag_at : get_or written (a + 4) 0 ≡ r.flag
    flag_at = get_or-set_same fourth (a + 4) r.flag 0 (omega (arith, lengths))

-- the record r, written behind the first k, is one more
pub one_more : (B : List ℕ) (k : ℕ) (r : Record) → record_numbers * k + record_numbers ≤ length B
    → records_in (k + 1) (written B (record_numbers * k) r) ≡ records_in k B ++ (r ∷ [])
one_more B k r h =
    ap (λ n. records_in n (written B (record_numbers * k) r)) (add-one k)
    ∙ records_more k (written B (record_numbers * k) r)
    ∙ ap₂ {C = List Record} (λ rs x. rs ++ (x ∷ [])) (same_records B (written B (record_numbers * k) r) k (stays B (record_numbers * k) r)) last
  where
    last : record_at (written B (record_numbers * k) r) k ≡ r
    last = λ i. record {
      kind = kind_at B (record_numbers * k) r h i;
      node = node_at B (record_numbers * k) r h i;
      left = left_at_lem B (record_numbers * k) r h i;
      right = right_at B (record_numbers * k) r h i;
      flag = flag_at B (record_numbers * k) r h i;
    }
