-- Demand 3's words: a fixing, what a list of fixings leaves of a listing, and a run of them, each into a table of its own.
use Rattle.std.specs.Prelude.{◌≡◌, ◌↔◌, Bool, true, cond, ◌&&◌, List, [], ◌∷◌, map, ℕ, ◌-◌, ◌≤◌, ◌<◌, eqb, length, get_or, set}
use Rattle.paper.specs.Lists.{◌∈◌, Once}
use Rattle.paper.specs.Row.{Row, blank}
use Rattle.paper.specs.Records.{listings, used_of, listing}
use Rattle.laws.specs.Plain.{Record, Head}
use Rattle.paper.specs.Questions.{question_work, fixed_set}
use Rattle.paper.specs.Refusals.{Reply, refused, answer, is_open, fix, over}
use Rattle.laws.specs.QuestionCauses.{Sound}

-- the rows with node n at index i, in order, that place blank
abbrev pub picked : ℕ → ℕ → List Row → List Row
picked i n [] = []
picked i n (row ∷ rows) = cond (eqb (get_or row i blank) n) (set row i blank ∷ picked i n rows) (picked i n rows)

-- a place and the node that it is fixed at
pub record Fixing : Type 0 where
  pub place : ℕ
  pub node : ℕ

-- the row has those nodes there
abbrev pub has_nodes : List Fixing → Row → Bool
has_nodes [] row = true
has_nodes (f ∷ fs) row = eqb (get_or row (f.place - 1) blank) f.node && has_nodes fs row

-- the row with the fixed places blank
abbrev pub blanked : List Fixing → Row → Row
blanked [] row = row
blanked (f ∷ fs) row = blanked fs (set row (f.place - 1) blank)

-- only the rows that have those nodes there, in the old order, the fixed places blank
abbrev pub narrowed : List Fixing → List Row → List Row
narrowed fs [] = []
narrowed fs (row ∷ rows) = cond (has_nodes fs row) (blanked fs row ∷ narrowed fs rows) (narrowed fs rows)

-- the row is what is left of one of those rows: it had those nodes there, and the fixed places are blank now
abbrev pub LeftOf : (Row → Type 0) → List Fixing → Row → Type 0
LeftOf Stood fs row = (full : Row) × Stood full × (has_nodes fs full ≡ true) × (row ≡ blanked fs full)

-- the same fixings, in any order
abbrev pub SameFixings : List Fixing → List Fixing → Type 0
SameFixings fs gs = (f : Fixing) → (f ∈ fs) ↔ (f ∈ gs)

-- different places from 1 to the arity, each with a node of the tree
pub record DifferentPlaces (h : Head) (fs : List Fixing) : Type 0 where
  pub different : Once (map (λ f. f.place) fs)
  pub places : (f : Fixing) → f ∈ fs → (1 ≤ f.place) × (f.place ≤ h.arity)
  pub nodes : (f : Fixing) → f ∈ fs → f.node < h.nodes

-- each at an open place and a node of the tree, all places different
pub record Allowed (h : Head) (fs : List Fixing) : Type 0 where
  pub different : Once (map (λ f. f.place) fs)
  pub all_open : (f : Fixing) → f ∈ fs → is_open h f.place ≡ true
  pub all_nodes : (f : Fixing) → f ∈ fs → f.node < h.nodes

-- ---- the calls: each fixing with the work and the target lent to it
pub record Lent : Type 0 where
  pub fixing : Fixing
  pub work : ℕ
  pub target : List Record

abbrev pub fixings_of : List Lent → List Fixing
fixings_of ls = map (λ l. l.fixing) ls

-- one call: the head it answers and the target it leaves
abbrev pub call_fix : Head → List Record → Lent → Reply (Head × List Record)
call_fix h table l = fix h table l.work l.fixing.place l.fixing.node (length l.target)

-- one call after the other, each on the set that the one before it left
abbrev pub next : Reply (Head × List Record) → List Record → (Head → List Record → Reply (Head × List Record)) → Reply (Head × List Record)
next (refused n) target go = refused n
next (answer (h, new)) target go = go h (over new target)

abbrev pub call_fixes : List Lent → Head → List Record → Reply (Head × List Record)
call_fixes [] h table = answer (h, table)
call_fixes (l ∷ ls) h table = next (call_fix h table l) l.target (call_fixes ls)

-- how many entries a target is to have, for the set at hand: as many as it has records, or as many as the first set has
abbrev pub Entries : Type 0
Entries = Head → ℕ

abbrev pub as_used : Entries
as_used set = set.used

abbrev pub as_used_first : Head → Entries
as_used_first first set = first.used

-- so many are enough for every set that has no more records than the first
abbrev pub Enough : Entries → Head → Type 0
Enough entries first = (set : Head) → set.used ≤ first.used → set.used ≤ entries set

-- at each call a target with so many entries, and the work that the paper asks for
abbrev pub Suffices : Entries → List Lent → Head → List Record → Type 0
Suffices entries [] h table = Unit {0}
Suffices entries (l ∷ ls) h table =
    (entries h ≤ length l.target) × (question_work h ≤ l.work)
    × Suffices entries ls (fixed_set h table l.fixing.place l.fixing.node).0 (over (fixed_set h table l.fixing.place l.fixing.node).1 l.target)

-- a sound set, none of whose used records lists a row twice
pub record GoodSet (h : Head) (table : List Record) : Type 0 where
  pub sound : Sound h table
  pub once : (i : ℕ) → i < h.used → Once (get_or (listings h.arity (used_of h table)) i [])

-- the head is of the same tree and arity, and its open places are the open ones that were not fixed
pub record FixedFrom (h : Head) (fs : List Fixing) (head : Head) : Type 0 where
  pub nodes : head.nodes ≡ h.nodes
  pub arity : head.arity ≡ h.arity
  pub opens : (place : ℕ) → (is_open head place ≡ true) ↔ ((is_open h place ≡ true) × (place ∈ map (λ f. f.place) fs → ⊥))

-- every call is accepted, and the last set lists what the demand says, and is good again
pub record FixedAll (ls : List Lent) (h : Head) (table : List Record) : Type 0 where
  pub head : Head
  pub left : List Record
  pub accepted : call_fixes ls h table ≡ answer (head, left)
  pub lists : listing head left ≡ narrowed (fixings_of ls) (listing h table)
  pub good : GoodSet head left
  pub fixed : FixedFrom h (fixings_of ls) head
