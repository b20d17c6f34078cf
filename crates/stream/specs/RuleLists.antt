-- Lists of a query's rules by symbol, which is a kind with a label: the position of a symbol's first rule, and for each rule that of the
-- next one of its symbol. The accepting states stand with them, a bit each.
-- First symbols and the positions of records, then where the lists keep their numbers, then what they say.
use Rattle.std.specs.Prelude.{Bool, ◌||◌, cond, true, false, Option, Some, None, List, [], ◌∷◌, ◌++◌, ◌≡◌, ℕ, zero, suc, ◌+◌, ◌*◌, ◌-◌, ◌/◌, ◌%◌, ◌≤◌, ◌<◌, eqb, ltb, length, get_or, drop}
use Rattle.paper.specs.Lists.{has}
use Rattle.paper.specs.Query.{accepting_of}
use Rattle.paper.specs.Questions.{has_place}
use Rattle.paper.specs.Stream.{StreamRecord, records_of}
use Rattle.laws.specs.StreamCauses.{RuleKind}
use Rattle.stream.specs.Positions.{record_at, after, is_rule_for, NextRule}

-- ---- symbols: each label of leaf rules, then each of branch rules
abbrev pub labels : ℕ
labels = 64

abbrev pub symbols : ℕ
symbols = 2 * labels

abbrev pub symbol : ℕ → ℕ → ℕ
symbol kind label = (kind - 17) * labels + label

abbrev pub kind_for : ℕ → ℕ
kind_for s = 17 + s / labels

abbrev pub label_for : ℕ → ℕ
label_for s = s % labels

-- the number of the symbol of a kind and a label, or of no symbol: where the label is one that no node has, or the kind no rule's
pub record SymbolOf (kind label : ℕ) (x : Option ℕ) : Type 0 where
  pub right : RuleKind kind → label ≤ 63 → x ≡ Some (symbol kind label)
  pub high : 63 < label → x ≡ None
  pub other : (RuleKind kind → ⊥) → x ≡ None

-- a rule of the symbol
abbrev pub is_for : ℕ → StreamRecord → Bool
is_for s r = is_rule_for (kind_for s) (label_for s) r

-- the record at a position is a rule of this symbol and of no other; of none, if this is no symbol
abbrev pub SymbolAt : List ℕ → ℕ → Option ℕ → Type 0
SymbolAt input at (Some x) = (x < symbols) × ((s : ℕ) → s < symbols → is_for s (record_at input at) ≡ eqb x s)
SymbolAt input at None = (s : ℕ) → s < symbols → is_for s (record_at input at) ≡ false

-- ---- the position of record i, from `from` on
abbrev pub place : List ℕ → ℕ → ℕ → ℕ
place input from zero = from
place input from (suc i) = after input (place input from i)

-- ---- where the numbers are kept: that of a symbol's first rule at the symbol, then the accepting states, then that of the rule behind
-- one at that one's cell. No rule is shorter than four bytes, so each has a cell of its own
abbrev pub accepting_cell : ℕ
accepting_cell = symbols

abbrev pub first_cell : ℕ
first_cell = symbols + 1

abbrev pub cell_behind : ℕ → ℕ
cell_behind bytes = first_cell + bytes / 4

abbrev pub cell_of : ℕ → ℕ → ℕ
cell_of from at = cell_behind (at - from)

-- lists of this length have a cell for each rule from `from` on
abbrev pub Room : List ℕ → ℕ → ℕ → Type 0
Room input from size = (first_cell ≤ size) × (length input ≤ from + 4 * (size - first_cell))

-- a query that is read has at most so many bytes behind its head: 1,024 rules, of at most six bytes, and 16 accepting states, of two
abbrev pub most_bytes : ℕ
most_bytes = 1024 * 6 + 16 * 2

-- so long are lists that have room for any such query
abbrev pub list_numbers : ℕ
list_numbers = first_cell + most_bytes / 4

-- there are no more bytes from `from` on, and each position, and the end of the input, fits a number of the lists
abbrev pub Listable : List ℕ → ℕ → Type 0
Listable input from = (length input < 65536) × (length input ≤ from + most_bytes)

-- ---- what the lists say
pub record RuleLists (input : List ℕ) (from : ℕ) (lists : List ℕ) : Type 0 where
  pub first : (s : ℕ) → s < symbols → NextRule input from (kind_for s) (label_for s) (get_or lists s 0)
  pub next : (s i : ℕ) → s < symbols → place input from i < length input → is_for s (record_at input (place input from i)) ≡ true
      → NextRule input (after input (place input from i)) (kind_for s) (label_for s) (get_or lists (cell_of from (place input from i)) 0)
  pub accepting : (q : ℕ) → q < 16 → has_place (get_or lists accepting_cell 0) q ≡ has (accepting_of (records_of (drop from input))) q

-- lists that are long enough become these, where there is no more to list than a query has; else they stay
pub record Lists (input : List ℕ) (from : ℕ) (lists lists' : List ℕ) : Type 0 where
  pub listed : Listable input from → list_numbers ≤ length lists → RuleLists input from lists'
  pub kept : (Listable input from → list_numbers ≤ length lists → ⊥) → lists' ≡ lists

-- one more record: these states, and its own if it is an accepting one's
abbrev pub AddsState : List ℕ → ℕ → ℕ → ℕ → Type 0
AddsState input at old new = (q : ℕ) → q < 16 → has_place new q ≡ has_place old q || has (accepting_of (record_at input at ∷ [])) q

-- ---- what a reader of the lists is told, whatever input they are of
-- the first rule of a kind and a label
abbrev pub TellsFirst : List ℕ → ℕ → ℕ → ℕ → Type 0
TellsFirst lists kind label r =
    (input : List ℕ) (from : ℕ) → RuleLists input from lists → RuleKind kind → label ≤ 63 → NextRule input from kind label r

-- the rule behind one, of its kind and label: that one stands where the records passed lead to
abbrev pub TellsNext : List ℕ → ℕ → ℕ → ℕ → Type 0
TellsNext lists from rule r =
    (input : List ℕ) (kind label : ℕ) (passed : List StreamRecord) → RuleLists input from lists → label ≤ 63 → rule < length input
    → records_of (drop from input) ≡ passed ++ records_of (drop rule input) → is_rule_for kind label (record_at input rule) ≡ true
    → NextRule input (after input rule) kind label r

-- whether a state is accepting
abbrev pub TellsAccepting : List ℕ → ℕ → Bool → Type 0
TellsAccepting lists state r =
    (input : List ℕ) (from : ℕ) → RuleLists input from lists → state < 16 → r ≡ has (accepting_of (records_of (drop from input))) state

-- ---- all rules of a symbol: the positions that the lists lead to from one on
abbrev pub chain : ℕ → List ℕ → ℕ → ℕ → ℕ → List ℕ
chain zero lists from end rule = []
chain (suc most) lists from end rule = cond (ltb rule end) (rule ∷ chain most lists from end (get_or lists (cell_of from rule) 0)) []

abbrev pub positions : List ℕ → ℕ → List ℕ → ℕ → List ℕ
positions input from lists s = chain (length input) lists from (length input) (get_or lists s 0)

-- the records that are rules of the symbol, in their order
abbrev pub rules_for : ℕ → List StreamRecord → List StreamRecord
rules_for s [] = []
rules_for s (r ∷ rs) = cond (is_for s r) (r ∷ rules_for s rs) (rules_for s rs)
