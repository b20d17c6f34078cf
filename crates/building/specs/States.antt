-- What becomes of a state: when records have been made, when they are stored, and when the building comes to a node.
-- First a state with another batch and at another place; then these, of which each changes some.
use Rattle.std.specs.Prelude.{◌≡◌, ℕ, ◌+◌, ◌-◌, ◌≤◌, ◌<◌, Result, Ok, Err}
use Rattle.paper.specs.declared.Refusal.{Refusal}
use Rattle.paper.specs.declared.Refusal.TheVariants.{ShortTable}
pub use Rattle.building.specs.declared.state.State.{State}

-- ---- a part of a state
-- where its batch goes and how many records it has
abbrev with_batch : State → ℕ → ℕ → State
with_batch t from count = record {
  from = from;
  count = count;
  at = t.at;
  node = t.node;
  top = t.top;
  rule = t.rule;
  nodes = t.nodes;
  rules = t.rules;
  shape = t.shape;
  limit = t.limit;
  asked = t.asked;
}

-- the node, where its record stands, the frames below its own, and its next rule
abbrev with_place : State → ℕ → ℕ → ℕ → ℕ → State
with_place t node at top rule = record {
  from = t.from;
  count = t.count;
  at = at;
  node = node;
  top = top;
  rule = rule;
  nodes = t.nodes;
  rules = t.rules;
  shape = t.shape;
  limit = t.limit;
  asked = t.asked;
}

-- ---- states
-- with so many records in the batch, at the next rule
abbrev pub more : State → ℕ → ℕ → State
more t count rule = with_place (with_batch t t.from count) t.node t.at t.top rule

-- so many are counted if they fit; past the limit nothing changes
abbrev pub Counts : State → ℕ → ℕ → Result (Unit {0}) Refusal → State → Type 0
Counts t count rule (Ok done) r = (count ≤ t.limit - t.from) × (r ≡ more t count rule)
Counts t count rule (Err why) r = (t.limit - t.from < count) × (why ≡ ShortTable) × (r ≡ t)

-- with an empty batch: what it had is in the table
abbrev pub emptied : State → State
emptied t = with_batch t (t.from + t.count) 0

-- come to a node: its number, where its record stands, and the frames below its own
abbrev pub moved : State → ℕ → ℕ → ℕ → State
moved t node at top = with_place t node at top t.rule

-- at the first rule of the node
abbrev pub started : State → ℕ → State
started t rule = with_place t t.node t.at t.top rule
