-- Records by their position in the input: the one that stands at a position, and those between two positions.
-- Then where whole records stand, and what it is to be the next rule of a symbol.
use Rattle.std.specs.Prelude.{◌≡◌, ◌⊎◌, Bool, true, false, ◌&&◌, List, ◌++◌, ℕ, ◌+◌, ◌≤◌, ◌<◌, eqb, length, get_or, take, drop}
use Rattle.paper.specs.Lists.{◌∈◌}
use Rattle.paper.specs.Stream.{body_length, StreamRecord, number, records_of}
use Rattle.paper.specs.Query.{is_rule_kind}
use Rattle.laws.specs.StreamCauses.{Begins}

-- the record that stands at a position: its kind, and as much of its body as the input has
abbrev pub record_at : List ℕ → ℕ → StreamRecord
record_at input at = record { kind = get_or input at 0; body = take (body_length (get_or input at 0)) (drop (at + 1) input) }

-- where the record after it stands
abbrev pub after : List ℕ → ℕ → ℕ
after input at = at + 1 + body_length (get_or input at 0)

-- the records from one position up to another
abbrev pub records_between : List ℕ → ℕ → ℕ → List StreamRecord
records_between input from to = records_of (drop from (take to input))

-- only whole records stand between the two
pub record WholeBetween (input : List ℕ) (from to : ℕ) : Type 0 where
  pub ordered : from ≤ to
  pub inside : to ≤ length input
  pub begins : Begins (drop from input) (records_between input from to) (drop to input)

-- a rule of this kind and label
abbrev pub is_rule_for : ℕ → ℕ → StreamRecord → Bool
is_rule_for kind label r = eqb r.kind kind && (is_rule_kind kind && eqb (number r 0) label)

-- from `at` on there are records that are no such rule, and then those from `next` on; the first of these is one, if there is any
pub record NextRule (input : List ℕ) (at kind label next : ℕ) : Type 0 where
  pub skipped : List StreamRecord
  pub records : records_of (drop at input) ≡ skipped ++ records_of (drop next input)
  pub no_rule : (r : StreamRecord) → r ∈ skipped → is_rule_for kind label r ≡ false
  pub found : (next ≡ length input) ⊎ ((next < length input) × (is_rule_for kind label (record_at input next) ≡ true))
