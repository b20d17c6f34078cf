-- A batch that is stored behind the records made so far: they stay the first records of the table, those of the batch come next, and the
-- rest of the table is as it was.
use mathlib.Core.List.{List, ◌++◌, append_assoc}
use mathlib.Core.Path.{◌≡◌, sym, ap, ◌∙◌}
use Prim.Native.Nat.{ℕ, ◌+◌, ◌*◌, ◌≤◌}
use native.Mathlib.Omega.{arith}
use lib.ListN.{length, drop, length-append, length-drop}
use lib.Seq.{take-append_seam, drop-append-add, drop-drop}
use Rattle.paper.specs.Refusals.{over}
use Rattle.table.specs.Batch.{stored}
use Rattle.table.proofs.Batches.{length_records, stored_there}
use Rattle.building.specs.Batch.{Record, records_in}
use Rattle.building.specs.Bounds.{record_numbers}

module _ (made table : List Record) (batch : List ℕ) (count : ℕ) (entries : length made + count ≤ length table) (room : record_numbers * count ≤ length batch) where
  pub stored_behind : stored (over made table) (length made) batch count ≡ over (made ++ records_in count batch) table
  stored_behind =
      stored_there (over made table) (length made) batch count (omega (arith, long)) room
      ∙ (λ i. take-append_seam made (drop (length made) table) i ++ (records_in count batch ++ rest i))
      ∙ sym (append_assoc made (records_in count batch) (drop (length (made ++ records_in count batch)) table))
    where
      long : length (over made table) ≡ length table
      long = omega (arith, length-append made (drop (length made) table), length-drop (length made) table)

      all : length made + count ≡ length (made ++ records_in count batch)
      all = omega (arith, length-append made (records_in count batch), length_records count batch)

      rest : drop (length made + count) (over made table) ≡ drop (length (made ++ records_in count batch)) table
      rest =
          drop-append-add made (drop (length made) table) count
          ∙ drop-drop count (length made) table
          ∙ ap (λ (n : ℕ). drop n table) all
