-- Where the building stands between two turns, said of the input: which records are made, and what the work holds.
-- First the numbers that stay, then the present node, its rules and the work, and all of it together; then where the building has
-- stopped, and what rules of a node do.
use Rattle.std.specs.Prelude.{true, cond, List, [], ◌∷◌, ◌++◌, ◌⊎◌, ◌≡◌, ℕ, ◌+◌, ◌*◌, ◌≤◌, ◌<◌, eqb, length, get_or, drop, Result, Ok, Err}
use Rattle.paper.specs.declared.Refusal.{Refusal}
use Rattle.paper.specs.declared.Refusal.TheVariants.{ShortTable}
use Rattle.paper.specs.Lists.{through}
use Rattle.paper.specs.Stream.{StreamRecord, number, records_of, tree_records}
use Rattle.paper.specs.Query.{Query, Rule, rules_of}
use Rattle.paper.specs.Building.{Slots, record_sets, leaf_step, branch_step, splits, made}
use Rattle.paper.specs.Refusals.{answer, tree_in, query_in, nodes_in, work_for, made_from}
use Rattle.stream.specs.Positions.{record_at, is_rule_for}
use Rattle.stream.specs.Reading.{tree_facts, tree_reply, query_facts, query_reply}
use Rattle.building.specs.Batch.{Record, Set, empty, records_in, set_in}
use Rattle.building.specs.Bounds.{batch_records, most_records}
use Rattle.building.specs.Frames.{FramesAre, width}
use Rattle.building.specs.Kinds.{leaf_kind, rule_above}
use Rattle.building.specs.NodeOrder.{from_node}
use Rattle.building.specs.Slots.{slot_at}
pub use Rattle.building.specs.declared.state.State.{State}

-- ---- the numbers that stay
-- nothing is wrong with the tree and the query, and the numbers are theirs; at most 60,000 records fit
pub record Constants (input : List ℕ) (t : State) : Type 0 where
  pub tree : tree_reply input ≡ answer (tree_facts input)
  pub query : query_reply input (2 * nodes_in input) ≡ answer (query_facts input (2 * nodes_in input))
  pub nodes : t.nodes ≡ nodes_in input
  pub rules : t.rules ≡ 2 * nodes_in input + 3
  pub arity : t.shape.arity ≡ (query_in input).arity
  pub states : t.shape.states ≡ (query_in input).states
  pub asked : t.asked ≡ work_for input
  pub limit : t.limit ≤ most_records

-- ---- the present node
-- its number, where its record stands, and how many frames are below its own: the records of the nodes before it, its own, and those
-- behind it; the records that the nodes before have made, and the slots of the subtrees that they leave unjoined
pub record AtNode (input : List ℕ) (node at top : ℕ) : Type 0 where
  pub before : List StreamRecord
  pub here : StreamRecord
  pub behind : List StreamRecord
  pub records : tree_records (records_of input) ≡ before ++ (here ∷ behind)
  pub number : node ≡ length before
  pub place : at ≡ 2 * length before
  pub earlier : List Record
  pub stack : List (Slots Set)
  pub passed : from_node (query_in input) before 0 [] [] ≡ (earlier, stack)
  pub high : top ≡ length stack

abbrev pub no_slots : Slots Set
no_slots = λ q b. empty

-- these rules at a node, with the stack that it finds: what they make of z
abbrev pub at_node : Query → StreamRecord → ℕ → List (Slots Set) → List Rule → List Record × Slots Set → List Record × Slots Set
at_node Q r n stack rules z =
    cond (eqb r.kind leaf_kind)
    (through (leaf_step record_sets (number r 0) n) z rules)
    (through (branch_step record_sets n (get_or stack 1 no_slots) (get_or stack 0 no_slots)) z (splits Q.arity rules (number r 0)))

-- the stack without the subtrees that a branch joins
abbrev pub stack_left : StreamRecord → List (Slots Set) → List (Slots Set)
stack_left r stack = cond (eqb r.kind leaf_kind) stack (drop 2 stack)

-- ---- its rules
-- the records of the query behind its head
abbrev pub later_records : List ℕ → List StreamRecord
later_records input = records_of (drop (2 * nodes_in input + 3) input)

-- those passed, and those from the next rule of the node on, if there is any. The rules passed have made z of nothing: with the others
-- it becomes what all rules make
pub record AtRule (input : List ℕ) (node rule : ℕ) (here : StreamRecord) (earlier : List Record) (stack : List (Slots Set))
    (z : List Record × Slots Set) : Type 0 where
  pub passed : List StreamRecord
  pub records : later_records input ≡ passed ++ records_of (drop rule input)
  pub found : (rule ≡ length input) ⊎ ((rule < length input) × (is_rule_for (here.kind + rule_above) (number here 0) (record_at input rule) ≡ true))
  pub left : at_node (query_in input) here node stack (rules_of (records_of (drop rule input))) z
      ≡ at_node (query_in input) here node stack (query_in input).rules (earlier, no_slots)

-- ---- the work
-- the frames of these slots, the last one first; each set is at hand
pub record InWork (t : State) (work : List ℕ) (stack : List (Slots Set)) : Type 0 where
  pub frames : FramesAre t.shape.arity t.shape.states work stack
  pub low : (i : ℕ) → i < length stack * width t.shape.arity t.shape.states → slot_at work i ≤ t.from + t.count + 1
  pub room : t.asked ≤ length work

-- ---- all of it
-- these records are made
pub record Standing (input : List ℕ) (t : State) (work : List ℕ) (made : List Record) : Type 0 where
  pub constants : Constants input t
  pub node : AtNode input t.node t.at t.top
  pub slots : Slots Set
  pub rule : AtRule input t.node t.rule node.here node.earlier node.stack (made, slots)
  pub frames : InWork t work (slots ∷ node.stack)
  pub used : length made ≡ t.from + t.count

-- base is in the table, and the batch has the others. They are as many as fit
pub record Filling (input : List ℕ) (t : State) (work batch : List ℕ) (base : List Record) : Type 0 where
  pub standing : Standing input t work (base ++ records_in t.count batch)
  pub start : length base ≡ t.from
  pub few : t.from + t.count ≤ t.limit

-- ---- where it has stopped
-- with all records made, and the set
pub record Done (input : List ℕ) (t : State) (set : ℕ) (all : List Record) : Type 0 where
  pub constants : Constants input t
  pub made : made (query_in input) (tree_in input) ≡ (all, set_in set)
  pub used : length all ≡ t.from + t.count
  pub few : t.from + t.count ≤ t.limit
  pub at_hand : set ≤ t.from + t.count + 1

-- or since more records are made than fit
pub record Past (input : List ℕ) (t : State) (why : Refusal) : Type 0 where
  pub constants : Constants input t
  pub many : t.limit < length (made_from input)
  pub sixth : why ≡ ShortTable

-- ---- rules of a node
-- from where base is in the table; the batch has the other records that are made
pub record Stepped (input : List ℕ) (t : State) (work : List ℕ) (base : List Record) (r : State) (work' batch' : List ℕ) : Type 0 where
  pub filling : Filling input r work' batch' base
  pub limit : r.limit ≡ t.limit
  pub asked : r.asked ≡ t.asked
  pub node : r.node ≡ t.node
  pub rest : drop t.asked work' ≡ drop t.asked work
  pub count : r.count ≤ batch_records
  pub fewer : length (records_of (drop r.rule input)) < length (records_of (drop t.rule input))

-- or more are made than fit
pub record Stopped (input : List ℕ) (t : State) (work : List ℕ) (why : Refusal) (r : State) (work' : List ℕ) : Type 0 where
  pub past : Past input r why
  pub limit : r.limit ≡ t.limit
  pub asked : r.asked ≡ t.asked
  pub rest : drop t.asked work' ≡ drop t.asked work

-- the building stands there, with some records made, as many as fit
abbrev pub IsStanding : List ℕ → State → List ℕ → Type 0
IsStanding input t work = (made : List Record) × Standing input t work made × (t.from + t.count ≤ t.limit)

abbrev pub IsFilling : List ℕ → State → List ℕ → List ℕ → Type 0
IsFilling input t work batch = (base : List Record) × Filling input t work batch base

-- what is answered, whatever records are in the table
abbrev pub Turns : List ℕ → State → List ℕ → List Record → Result (Unit {0}) Refusal → State → List ℕ → List ℕ → Type 0
Turns input t work base (Ok done) r work' batch' = Stepped input t work base r work' batch'
Turns input t work base (Err why) r work' batch' = Stopped input t work why r work'

abbrev pub Turned : List ℕ → State → List ℕ → List ℕ → Result (Unit {0}) Refusal → State → List ℕ → List ℕ → Type 0
Turned input t work batch outcome r work' batch' =
    (base : List Record) → Filling input t work batch base → Turns input t work base outcome r work' batch'
