-- A batch of records as numbers, five a record: kind, node, left, right, flag. What they say, and a table with them stored in it.
use Rattle.std.specs.Prelude.{Bool, false, cond, List, [], ◌∷◌, ◌++◌, ℕ, zero, suc, ◌+◌, ◌*◌, leb, length, get_or, take, drop}
use Rattle.paper.specs.declared.Record.{Record}

-- a record is so many numbers
abbrev pub record_numbers : ℕ
record_numbers = 5

-- record i of a batch
abbrev pub record_at : List ℕ → ℕ → Record
record_at batch i = record {
  kind = get_or batch (record_numbers * i) 0;
  node = get_or batch (record_numbers * i + 1) 0;
  left = get_or batch (record_numbers * i + 2) 0;
  right = get_or batch (record_numbers * i + 3) 0;
  flag = get_or batch (record_numbers * i + 4) 0;
}

-- its first records
unfoldable pub records_in : ℕ → List ℕ → List Record
records_in zero batch = []
records_in (suc n) batch = record_at batch 0 ∷ records_in n (drop record_numbers batch)

-- the batch has so many records, and so many entries are there from the first on
abbrev pub fits : ℕ → ℕ → ℕ → ℕ → Bool
fits entries from numbers count = cond (leb (from + count) entries) (leb (record_numbers * count) numbers) false

-- they stand in the table from that entry on, the others stay; where they do not fit, all stay
abbrev pub stored : List Record → ℕ → List ℕ → ℕ → List Record
stored table from batch count =
    cond (fits (length table) from (length batch) count) (take from table ++ (records_in count batch ++ drop (from + count) table)) table
