-- What it is for a row to be held by a slot of a subtree, whose nodes are an interval, and for the slots of a tree to be right.
-- First intervals, then slots.
use mathlib.Core.Bool.{Bool, ◌&&◌, true}
use mathlib.Core.List.{List}
use mathlib.Core.Option.{some}
use mathlib.Core.Path.{◌≡◌}
use Prim.Native.Nat.{◌<◌, ◌≤◌, ℕ}
use borrow.Author.Tests.{le-leb, leb-true, lt-ltb, ltb-true}
use lib.Dec.{leb, ltb}
use lib.ListN.{length}
use Rattle.paper.specs.Building.{slots_of}
use Rattle.paper.specs.Lists.{Once, ◌∈◌}
use Rattle.paper.specs.Query.{Rule}
use Rattle.paper.specs.Row.{Row, flag_of, mark, no_place, run}
use Rattle.paper.specs.Tree.{Tree, pads}
use Rattle.laws.specs.RowSets.{row_sets}
use Rattle.laws.proofs.Lists.{both_true}
use Rattle.laws.proofs.Rows.{keep}

-- ---- intervals of nodes: from lo to below hi
abbrev pub within : ℕ → ℕ → ℕ → Bool
within lo hi x = leb lo x && ltb x hi

-- a number within lies from lo to below hi
pub within_true : (lo hi x : ℕ) → within lo hi x ≡ true → (lo ≤ x) × (x < hi)
within_true lo hi x e = let h = both_true (leb lo x) (ltb x hi) e in (leb-true lo x h.0, ltb-true x hi h.1)

-- and each of those is within
pub in_within : (lo hi x : ℕ) → lo ≤ x → x < hi → within lo hi x ≡ true
in_within lo hi x a b = rw (le-leb lo x a, lt-ltb x hi b)

-- ---- slots
-- the pads of the tree stand at no place of the row
abbrev pub PadsUnmarked : Tree → Row → Type 0
PadsUnmarked t row = (n : ℕ) → n ∈ pads t → mark row n ≡ no_place

-- the row is held by the slot (q, b) of the tree t, whose nodes are those from lo to below hi:
-- it has k places, nodes of the tree but for its pads at the places of b and blanks at the others, and a run with it gives the root state q
pub record Holds (k : ℕ) (rules : List Rule) (lo : ℕ) (t : Tree) (hi : ℕ) (q b : ℕ) (row : Row) : Type 0 where
  pub places : length row ≡ k
  pub kept : keep (within lo hi) row ≡ row
  pub flag : flag_of (within lo hi) row ≡ b
  pub unmarked : PadsUnmarked t row
  pub runs : run rules row t ≡ some q

-- the rows that building puts in the slot
abbrev pub slot_rows : ℕ → List Rule → Tree → ℕ → ℕ → List Row
slot_rows k rules t q b = (slots_of (row_sets k) k rules t tt).1 q b

-- the slots of a tree are right: a row that stands in one is held there, a row that is held there stands in it, and none stands twice
pub record Right (k : ℕ) (rules : List Rule) (lo : ℕ) (t : Tree) (hi : ℕ) : Type 0 where
  pub sound : (q b : ℕ) (row : Row) → row ∈ slot_rows k rules t q b → Holds k rules lo t hi q b row
  pub complete : (q b : ℕ) (row : Row) → Holds k rules lo t hi q b row → row ∈ slot_rows k rules t q b
  pub once : (q b : ℕ) → Once (slot_rows k rules t q b)
