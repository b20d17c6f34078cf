-- What one rule does at one node, said of the numbers of a batch and of the work: a slot, a split, a leaf rule; then shelves of slots,
-- the splits at a list of flags, and a branch rule. A name with a prime is what is found afterwards.
use Rattle.std.specs.Prelude.{cond, true, ◌&&◌, List, [], ◌∷◌, ◌++◌, map, ◌≡◌, ℕ, ◌+◌, ◌*◌, ◌^◌, ◌≤◌, ◌<◌, get_or, length}
use Rattle.paper.specs.Building.{Slots, Split, branch_step, can_stand, leaf_step, put, record_sets, splits_by, triple, unite}
use Rattle.paper.specs.Lists.{each, through, up_to}
use Rattle.paper.specs.Query.{branch_rule, leaf_rule}
use Rattle.paper.specs.Sound.{apart}
pub use Rattle.building.specs.declared.rule.Branch.{Branch}
use Rattle.building.specs.Batch.{Record, Set, records_in, set_in}
use Rattle.building.specs.Bounds.{batch_numbers, field_numbers, most_places, most_records, rule_records, split_records}
use Rattle.building.specs.Slots.{Marked, Puts, shelf_at, slot_at}

-- ---- one slot
-- the k records of the batch became count, by at most `most`; in work one slot is written, with a set at hand
pub record OneSlot (to flag most used k : ℕ) (work : List ℕ) (count : ℕ) (work' : List ℕ) : Type 0 where
  pub more : k ≤ count
  pub few : count ≤ k + most
  pub set : ℕ
  pub puts : Puts to flag set work work'
  pub at_hand : set ≤ used + count + 1

-- a leaf rule that matches and is used: the single of its flag, put into its slot
pub record Leaves (node flag to used k : ℕ) (batch work : List ℕ) (count : ℕ) (batch' work' : List ℕ) : Type 0 where
  pub leaves : (base : List Record) (slots : Slots Set) (label t : ℕ) → length base ≡ used → can_stand label flag ≡ true
      → leaf_step record_sets label node (base ++ records_in k batch, slots) (leaf_rule label flag t)
      ≡ (base ++ records_in count batch', put slots t flag (shelf_at work' to flag))
  pub slot : OneSlot to flag 1 used k work count work'

-- the split by a rule from the states p and q to t with its own flag, at the flags w of the children
abbrev pub split_at : ℕ → ℕ → ℕ → ℕ → ℕ × ℕ → Split
split_at own p q t w = record { state = t; own = own; left = p; left_flag = w.0; right = q; right_flag = w.1 }

-- a split whose children's sets are the numbers left and right, united with the slot of its three flags together
pub record Unites (rule : Branch) (b₁ b₂ left right k : ℕ) (batch work : List ℕ) (count : ℕ) (batch' work' : List ℕ) : Type 0 where
  pub unites : (base : List Record) (slots : Slots Set) (t : ℕ) → length base ≡ rule.used
      → let flag : ℕ = rule.own + b₁ + b₂ in
      slots t flag ≡ shelf_at work rule.to flag
      → unite record_sets rule.node t flag slots
      (triple record_sets rule.node (split_at rule.own 0 0 t (b₁, b₂)) (set_in left) (set_in right) (base ++ records_in k batch))
      ≡ (base ++ records_in count batch', put slots t flag (shelf_at work' rule.to flag))
  pub slot : OneSlot rule.to (rule.own + b₁ + b₂) split_records rule.used k work count work'

-- ---- shelves of slots
-- the slots of the state t, for the flags below size, stand in work from `from` on
abbrev pub Shelf : Slots Set → ℕ → ℕ → List ℕ → ℕ → Type 0
Shelf slots t size work from = (b : ℕ) → b < size → slots t b ≡ shelf_at work from b

-- the sets of those slots are numbers up to n
abbrev pub Low : ℕ → ℕ → List ℕ → ℕ → Type 0
Low n size work from = (b : ℕ) → b < size → slot_at work (from + b) ≤ n

-- the k records of the batch became count, by at most `most`; in work only one shelf is written, with sets at hand, and it stays marked
pub record OneShelf (to size used most k : ℕ) (work : List ℕ) (count : ℕ) (work' : List ℕ) : Type 0 where
  pub more : k ≤ count
  pub few : count ≤ k + most
  pub below : (i : ℕ) → i < to → get_or work' i 0 ≡ get_or work i 0
  pub above : (i : ℕ) → to + size ≤ i → get_or work' i 0 ≡ get_or work i 0
  pub low : Low (used + count + 1) size work' to
  pub marked : Marked size work to → Marked size work' to

-- what is handed on stands in the numbers: the table is base and the first k records of the batch, the slots of t are the own shelf
pub record Stands (base : List Record) (t : ℕ) (rule : Branch) (z : List Record × Slots Set) (k : ℕ) (batch work : List ℕ) : Type 0 where
  pub table : z.0 ≡ base ++ records_in k batch
  pub shelf : Shelf z.1 t rule.size work rule.to

-- ---- splits
-- the flags b₁ and b₂ of the children, if they share no bit with each other and the own flag
abbrev pub pair_at : ℕ → ℕ → ℕ → List (ℕ × ℕ)
pair_at own b₁ b₂ = cond (apart own b₁ && apart (own + b₁) b₂) ((b₁, b₂) ∷ []) []

-- those for a left flag b₁, the right ones below n. For each b₁ one after the other these are the paper's `flags_beside`
abbrev pub flags_at : ℕ → ℕ → ℕ → List (ℕ × ℕ)
flags_at own n b₁ = each (up_to n) (pair_at own b₁)

-- the splits from p and q to t at these flags, one after the other
abbrev pub splits_run : Branch → ℕ → ℕ → ℕ → Slots Set → Slots Set → List (ℕ × ℕ) → List Record × Slots Set → List Record × Slots Set
splits_run rule p q t lefts rights flags z =
    through (branch_step record_sets rule.node lefts rights) z (map (split_at rule.own p q t) flags)

-- the splits at these flags are done in the numbers, whatever the rule's states are. The children's slots stand in work
pub record Runs (flags : List (ℕ × ℕ)) (rule : Branch) (k : ℕ) (batch work : List ℕ) (count : ℕ) (batch' work' : List ℕ) : Type 0 where
  pub runs : (base : List Record) (p q t : ℕ) (lefts rights : Slots Set) (z : List Record × Slots Set) → length base ≡ rule.used
      → Shelf lefts p rule.size work rule.left → Shelf rights q rule.size work rule.right → Stands base t rule z k batch work
      → Stands base t rule (splits_run rule p q t lefts rights flags z) count batch' work'
  pub shelf : OneShelf rule.to rule.size rule.used (split_records * length flags) k work count work'

-- ---- a branch rule
-- one that matches: all its splits, whatever its label and its states are. The slots of another state s stay
pub record Branches (rule : Branch) (k : ℕ) (batch work : List ℕ) (count : ℕ) (batch' work' : List ℕ) : Type 0 where
  pub branches : (base : List Record) (arity label p q t : ℕ) (lefts rights slots : Slots Set) → length base ≡ rule.used → rule.size ≡ 2 ^ arity
      → Shelf lefts p rule.size work rule.left → Shelf rights q rule.size work rule.right → Shelf slots t rule.size work rule.to
      → let z : List Record × Slots Set =
      through (branch_step record_sets rule.node lefts rights) (base ++ records_in k batch, slots)
      (splits_by arity label (branch_rule label rule.own p q t)) in
      Stands base t rule z count batch' work' × ((s b : ℕ) → (s ≡ t → ⊥) → z.1 s b ≡ slots s b)
  pub shelf : OneShelf rule.to rule.size rule.used rule_records k work count work'

-- size is the number of flags of an arity up to 4
pub record FlagsOf (size : ℕ) : Type 0 where
  pub arity : ℕ
  pub small : arity ≤ most_places
  pub powers : size ≡ 2 ^ arity

-- room for a branch rule that has come to k records of the batch, and three shelves in work, of which the rule's own is the last. Their
-- sets are at hand, and the children's shelves are marked
pub record Room (rule : Branch) (k : ℕ) (batch work : List ℕ) : Type 0 where
  pub flags : FlagsOf rule.size
  pub own_flag : rule.own < rule.size
  pub few : rule.used ≤ most_records
  pub few_nodes : rule.node < field_numbers
  pub records : batch_numbers ≤ length batch
  pub left_before : rule.left + rule.size ≤ rule.to
  pub right_before : rule.right + rule.size ≤ rule.to
  pub within : rule.to + rule.size ≤ length work
  pub left_low : Low (rule.used + k + 1) rule.size work rule.left
  pub right_low : Low (rule.used + k + 1) rule.size work rule.right
  pub low : Low (rule.used + k + 1) rule.size work rule.to
  pub left_marked : Marked rule.size work rule.left
  pub right_marked : Marked rule.size work rule.right
