-- How large the numbers of the building get, and why. First what the paper limits; then the numbers that a field has room for; then
-- records: of a split, of a rule, of a batch, and of the table and the batch together.
use Rattle.std.specs.Prelude.{ℕ, ◌+◌, ◌*◌, ◌^◌}
pub use Rattle.table.specs.Batch.{record_numbers}

-- ---- the paper's limits
-- places of a row, states of a query, nodes of a tree, records of a set
abbrev pub most_places : ℕ
most_places = 4

abbrev pub most_states : ℕ
most_states = 16

abbrev pub most_nodes : ℕ
most_nodes = 4095

abbrev pub most_records : ℕ
most_records = 60000

-- a flag has a bit for each place, so that there are at most 16
abbrev pub most_flags : ℕ
most_flags = 2 ^ most_places

-- a frame for each unjoined subtree, of which there are no more than nodes, and one for the present node
abbrev pub most_frames : ℕ
most_frames = most_nodes + 1

-- ---- fields
-- a field of a record has 16 bits
abbrev pub field_numbers : ℕ
field_numbers = 2 ^ 16

-- the set of a slot has its low 16 bits, so that the number of a set fits both
abbrev pub slot_sets : ℕ
slot_sets = 2 ^ 16

-- ---- records
-- a split makes a single and two products, and then a union, each at most one record
abbrev pub triple_records : ℕ
triple_records = 3

abbrev pub split_records : ℕ
split_records = triple_records + 1

-- the splits of a branch rule: each place that is not in the rule's own flag goes to the left child, to the right one or to neither, so
-- that there are at most 3 to the power of 4
abbrev pub rule_splits : ℕ
rule_splits = 3 ^ most_places

-- the records of one rule: 324. A leaf rule makes at most one
abbrev pub rule_records : ℕ
rule_records = split_records * rule_splits

-- the records that may wait in the batch where another rule is begun. They are few, since the batch is cleared for every build, and enough
-- for many rules of one batch
abbrev pub waiting_records : ℕ
waiting_records = 64

-- the records of a batch: 388. Another rule is begun only while so few wait, and then its own fit. The root's slots, united at the end,
-- make fewer: at most one record a state
abbrev pub batch_records : ℕ
batch_records = waiting_records + rule_records

-- the numbers of a batch: 1,940
abbrev pub batch_numbers : ℕ
batch_numbers = record_numbers * batch_records

-- the records that are numbered: 60,388. The table keeps within the paper's limit, but that the batch goes past it is seen only at the
-- end of a turn. All the same the number of every record fits its field, and that of its set, two more, fits its slot
abbrev pub numbered : ℕ
numbered = most_records + batch_records
