-- 'A set is sound if': the test, clause by clause in the paper's order.
use Rattle.std.specs.Prelude.{Bool, true, ◌&&◌, ◌||◌, List, [], ◌∷◌, ◌++◌, ℕ, ◌+◌, ◌^◌, eqb, ltb, leb, length, get_or}
use Rattle.std.specs.Int.Bits.{bit_and}
use Rattle.paper.specs.Lists.{every}
use Rattle.paper.specs.Row.{Row, no_place}
use Rattle.paper.specs.Records.{Record, Set, empty, unit, at, Head, blank_entry, listings, used_of}

-- the most rows that a record may list: 2 to the power of 48
abbrev pub most_rows : ℕ
most_rows = 281474976710656

-- the two flags share no bit
abbrev pub apart : ℕ → ℕ → Bool
apart a b = eqb (bit_and a b) no_place

abbrev pub entry : List Record → ℕ → Record
entry records i = get_or records i blank_entry

-- the record's operands have lower numbers, and their flags pass the test
abbrev pub operands : List Record → Record → (ℕ → ℕ → Bool) → Bool
operands before r test =
    every (
    ltb r.left (length before)
    ∷ ltb r.right (length before)
    ∷ test (entry before r.left).flag (entry before r.right).flag
    ∷ [])

-- a single's left and right are zero; a union's operands have its flag; a product's share no bit and together make its flag
abbrev pub sound_kind : List Record → Record → Bool
sound_kind before r =
    eqb r.kind 1 && (eqb r.left 0 && eqb r.right 0)
    || (eqb r.kind 2 && operands before r (λ a b. eqb a r.flag && eqb b r.flag)
    || eqb r.kind 3 && operands before r (λ a b. apart a b && eqb (a + b) r.flag))

-- a used record, after those before it
abbrev pub sound_record : ℕ → ℕ → List Record → Record → Bool
sound_record arity nodes before r =
    every (ltb r.node nodes ∷ ltb no_place r.flag ∷ ltb r.flag (2 ^ arity) ∷ sound_kind before r ∷ [])

abbrev pub sound_records : ℕ → ℕ → List Record → List Record → Bool
sound_records arity nodes before [] = true
sound_records arity nodes before (r ∷ rs) = sound_record arity nodes before r && sound_records arity nodes (before ++ (r ∷ [])) rs

-- no list has more rows than n
abbrev pub few_rows : ℕ → List (List Row) → Bool
few_rows n [] = true
few_rows n (rows ∷ more) = leb (length rows) n && few_rows n more

-- a root is a used record with the open places as its flag; unit stands only with no open place
abbrev pub sound_set : Head → List Record → Set → Bool
sound_set h used empty = true
sound_set h used unit = eqb h.open_places no_place
sound_set h used (at i) = ltb i h.used && eqb (entry used i).flag h.open_places

abbrev pub sound : Head → List Record → Bool
sound h table =
    every (
    leb 1 h.nodes
    ∷ leb h.nodes 4095
    ∷ leb 1 h.arity
    ∷ leb h.arity 4
    ∷ ltb h.open_places (2 ^ h.arity)
    ∷ leb h.used 60000
    ∷ leb h.used (length table)
    ∷ sound_records h.arity h.nodes [] (used_of h table)
    ∷ few_rows most_rows (listings h.arity (used_of h table))
    ∷ sound_set h (used_of h table) h.set
    ∷ [])
