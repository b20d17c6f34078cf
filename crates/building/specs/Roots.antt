-- The end of the building: the root's slots of the accepting states, states ascending, each united on the right of those before. Last
-- the head of the set that they make.
use Rattle.std.specs.Prelude.{List, ◌++◌, ◌≡◌, ℕ, ◌+◌, ◌-◌, ◌*◌, ◌^◌, ◌≤◌, length, Result, Ok, Err}
use Rattle.paper.specs.declared.Refusal.{Refusal}
use Rattle.paper.specs.declared.Head.{Head}
use Rattle.paper.specs.Lists.{through, up_to}
use Rattle.paper.specs.Building.{Slots, accept_step, record_sets}
use Rattle.paper.specs.Refusals.{query_in}
use Rattle.building.specs.Batch.{Made, Makes, Record, Set, empty, records_in, set_in}
use Rattle.building.specs.Bounds.{batch_records, most_nodes, most_records}
use Rattle.building.specs.Frames.{FrameIs, width}
use Rattle.building.specs.Listed.{Listed}
use Rattle.building.specs.Standing.{Constants, Done, Filling, IsFilling, IsStanding, Past, State}

-- the slots of the states below n, at the present node
abbrev pub united_to : List ℕ → State → Slots Set → ℕ → List Record → List Record × Set
united_to input t slots n table = through (accept_step record_sets (query_in input) t.node slots) (table, empty) (up_to n)

-- united in the batch, whatever slots the frame of the present node has
abbrev pub UnitedTo : List ℕ → State → List ℕ → ℕ → List ℕ → Made → List ℕ → Type 0
UnitedTo input t work n batch made batch' =
    (slots : Slots Set) → FrameIs t.shape.arity t.shape.states work (t.top * width t.shape.arity t.shape.states) slots
    → Makes (united_to input t slots n) n t.from t.count batch made batch'

-- ---- by the lists, which tell the accepting states: whatever input it is whose rules they list
-- the building stands there, of some such input
abbrev pub StandsListed : State → List ℕ → List ℕ → Type 0
StandsListed t lists work = (input : List ℕ) × (IsStanding input t work × Listed input lists)

abbrev pub UnitesTo : State → List ℕ → List ℕ → ℕ → List ℕ → Made → List ℕ → Type 0
UnitesTo t lists work n batch made batch' =
    (input : List ℕ) → Constants input t → Listed input lists → UnitedTo input t work n batch made batch'

-- one more state, wherever the batch began
pub record UnitesNext (t : State) (lists work : List ℕ) (state : ℕ) (made : Made) (batch : List ℕ) (r : Made) (batch' : List ℕ) : Type 0 where
  pub more : t.count ≤ r.count
  pub few : r.count ≤ t.count + (state + 1)
  pub at_hand : r.set ≤ t.from + r.count + 1
  pub unites : (first : List ℕ) → UnitesTo t lists work state first made batch → UnitesTo t lists work (state + 1) first r batch'

-- no rule and no node is left
abbrev pub AtEnd : State → List ℕ → List ℕ → List ℕ → Type 0
AtEnd t lists work batch =
    (input : List ℕ) × IsFilling input t work batch × Listed input lists × (length input ≤ t.rule) × (t.nodes ≤ t.node + 1)

-- the set of the root is made: base is in the table, and the batch has the other records
pub record Rooted (input : List ℕ) (t : State) (base : List Record) (set : ℕ) (r : State) (batch' : List ℕ) : Type 0 where
  pub done : Done input r set (base ++ records_in r.count batch')
  pub start : length base ≡ r.from
  pub count : r.count ≤ batch_records
  pub limit : r.limit ≡ t.limit
  pub asked : r.asked ≡ t.asked

-- or more records are made than fit
abbrev pub Roots : List ℕ → State → List Record → Result ℕ Refusal → State → List ℕ → Type 0
Roots input t base (Ok set) r batch' = Rooted input t base set r batch'
Roots input t base (Err why) r batch' = Past input r why × (r.limit ≡ t.limit) × (r.asked ≡ t.asked)

abbrev pub Ends : State → List ℕ → List ℕ → List ℕ → Result ℕ Refusal → State → List ℕ → Type 0
Ends t lists work batch answer r batch' =
    (input : List ℕ) (base : List Record) → Listed input lists → Filling input t work batch base → length input ≤ t.rule
    → Roots input t base answer r batch'

-- ---- the head of the set
-- numbers that it can hold
pub record HeadFits (t : State) : Type 0 where
  pub nodes : t.nodes ≤ most_nodes
  pub used : t.from + t.count ≤ most_records

abbrev pub head_of : State → ℕ → Head
head_of t set = record {
  nodes = t.nodes;
  arity = t.shape.arity;
  open_places = 2 ^ t.shape.arity - 1;
  used = t.from + t.count;
  set = set_in set;
}
