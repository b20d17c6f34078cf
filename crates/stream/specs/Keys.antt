-- What the records behind the head say once, as a table of bits. First a key for each accepting state and for each kind and left side of a
-- rule, with the query's own arity and states as radices, then the bits, then what the reading of the records keeps up.
use Rattle.std.specs.Prelude.{Bool, ◌||◌, cond, true, List, ◌∷◌, map, ◌≡◌, ℕ, ◌+◌, ◌*◌, ◌/◌, ◌%◌, ◌^◌, ◌<◌, ◌≤◌, eqb, get_or, length}
use Rattle.paper.specs.Lists.{◌∈◌, has}
use Rattle.paper.specs.Stream.{StreamRecord}
use Rattle.stream.specs.OneRecord.{fits}
use Rattle.stream.specs.Positions.{record_at}
use Rattle.stream.specs.Reading.{QueryFacts}

-- ---- how large it gets
-- bits of a word
abbrev pub word_bits : ℕ
word_bits = 64

-- words of the largest table: it has a bit for each key of any query
abbrev pub large_table : ℕ
large_table = 4113

-- at arity 4 with 16 states there are most flags, most ends and most keys
abbrev pub most_flags : ℕ
most_flags = 16

abbrev pub most_ends : ℕ
most_ends = 257

abbrev pub most_keys : ℕ
most_keys = 263184

-- ---- keys
-- the flags of the query
abbrev pub flags_of : QueryFacts → ℕ
flags_of f = 2 ^ f.arity

-- what can stand behind a rule's label and flag: nothing in a leaf rule, two states in a branch rule
abbrev pub ends_of : QueryFacts → ℕ
ends_of f = 1 + f.states * f.states

-- the keys of the query: those of the states come first, and each is below 16
abbrev pub keys_of : QueryFacts → ℕ
keys_of f = 16 + 64 * flags_of f * ends_of f

-- the key of a rule, by its label, its flag and what stands behind them
abbrev pub side_key : QueryFacts → ℕ → ℕ → ℕ → ℕ
side_key f label flag end = 16 + ((label * flags_of f + flag) * ends_of f + end)

-- and of two states behind them
abbrev pub pair_end : QueryFacts → ℕ → ℕ → ℕ
pair_end f left right = 1 + (left * f.states + right)

-- the key of a kind and numbers: an accepting state, a leaf rule or a branch rule
abbrev pub key_from : QueryFacts → List ℕ → ℕ
key_from f words =
    cond (eqb (get_or words 0 0) 19) (get_or words 1 0)
    (side_key f (get_or words 1 0) (get_or words 2 0) (cond (eqb (get_or words 0 0) 17) 0 (pair_end f (get_or words 3 0) (get_or words 4 0))))

-- of a record
abbrev pub key_of : QueryFacts → StreamRecord → ℕ
key_of f r = key_from f (r.kind ∷ r.body)

-- ---- bits
-- the table has the key: 64 keys to a word, the lowest bit first
abbrev pub has_key : List ℕ → ℕ → Bool
has_key said key = eqb (get_or said (key / 64) 0 / 2 ^ (key % 64) % 2) 1

-- a key is looked up, and put in
pub record SaysKey (said : List ℕ) (key : ℕ) (there : Bool) (said' : List ℕ) : Type 0 where
  pub told : there ≡ has_key said key
  pub adds : (k : ℕ) → has_key said' k ≡ eqb key k || has_key said k

-- ---- what the reading keeps up
-- the table has the keys of these records and no other. It has room for all keys, and the records fit
pub record TableOf (f : QueryFacts) (records : List StreamRecord) (said : List ℕ) : Type 0 where
  pub room : keys_of f ≤ 64 * length said
  pub fitting : (r : StreamRecord) → r ∈ records → fits f r ≡ true
  pub keys : (k : ℕ) → has_key said k ≡ has (map (key_of f) records) k

-- a record that fits stands at the position
pub record FittingAt (input : List ℕ) (f : QueryFacts) (at : ℕ) : Type 0 where
  pub here : at < length input
  pub fitting : fits f (record_at input at) ≡ true
