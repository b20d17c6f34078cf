-- The tree that is read: where the tests of the tree part pass, the records make one tree, its nodes numbered from 0.
-- First the unjoined subtrees as a stack of numbered trees, then one more record, then the whole part.
use mathlib.Core.Bool.{Bool, ◌||◌, cond, false, true}
use mathlib.Core.List.{List, [], ◌++◌, ◌∷◌}
use mathlib.Core.Path.{◌≡◌, subst, sym}
use Prim.Native.Nat.{◌+◌, ◌≤◌, suc, ℕ}
use native.Mathlib.Omega.{arith}
use borrow.Author.Tests.{eqb-true, leb-true, ltb-true}
use lib.Dec.{eqb, leb}
use lib.ListN.{length, length-append}
use Rattle.paper.specs.Lists.{through}
use Rattle.paper.specs.Refusals.{at_each, tree_end_tests, tree_part, tree_tests}
use Rattle.paper.specs.Stream.{StreamRecord, number}
use Rattle.paper.specs.Tree.{Tree, grow, join, last_of, leaf, tree_of, unjoined}
use Rattle.laws.specs.Numbered.{Numbered, branch_numbered, leaf_numbered}
use Rattle.laws.proofs.AtEach.{at_each_lem, part_each, part_end}
use Rattle.laws.proofs.Lists.{through_append}
use Rattle.laws.proofs.Replies.{Passes}
use Rattle.laws.proofs.Runs.{numbered_below}

-- ---- the unjoined subtrees
-- they have the nodes below hi, the last one first
pub data Stacked : ℕ → List Tree → Type 0 where
  bottom : Stacked 0 []
  above : {lo hi : ℕ} {t : Tree} {ts : List Tree} → Stacked lo ts → Numbered lo t hi → Stacked hi (t ∷ ts)

-- a branch joins the last two
pub join_stacked : (label n : ℕ) (ts : List Tree) → Stacked n ts → 2 ≤ length ts → Stacked (suc n) (join label n ts)
join_stacked label n [] s two = absurd (omega arith)
join_stacked label n (last ∷ []) s two = absurd (omega arith)
join_stacked label n (last ∷ older ∷ others) (above (above s x) y) two = above s (branch_numbered x y)

-- one subtree alone is numbered from 0
pub one_stacked : {n : ℕ} (ts : List Tree) → Stacked n ts → length ts ≡ 1 → Numbered 0 (last_of ts) n
one_stacked [] s one = absurd (omega arith)
one_stacked (t ∷ []) (above bottom x) one = x
one_stacked (t ∷ older ∷ others) s one = absurd (omega arith)

-- ---- one more record
-- a leaf, or a branch with two subtrees to join
pub grow_stacked : (s : List Tree × ℕ) (r : StreamRecord) → Stacked s.1 s.0 → eqb r.kind 1 || leb 2 (length s.0) ≡ true
    → Stacked (suc s.1) (grow s r).0
grow_stacked s r h e = go (eqb r.kind 1) e
  where
    go : (c : Bool) → c || leb 2 (length s.0) ≡ true
        → Stacked (suc s.1) (cond c (leaf (number r 0) s.1 ∷ s.0) (join (number r 0) s.1 s.0))
    go true e' = above h leaf_numbered
    go false e' = join_stacked (number r 0) s.1 s.0 h (leb-true 2 (length s.0) e')

-- each record is one node
pub next_node : (s : List Tree × ℕ) (records : List StreamRecord) → (through grow s records).1 ≡ s.1 + length records
next_node s [] = omega arith
next_node s (r ∷ rs) = omega (arith, next_node (grow s r) rs)

-- ---- the tree part
-- what holds after each of its records
record ReadSoFar (records : List StreamRecord) : Type 0 where
  stacked : Stacked (through grow ([], 0) records).1 (unjoined records)
  few : length records ≤ 4095

read_next : (before : List StreamRecord) (r : StreamRecord) → ReadSoFar before → Passes (tree_tests before r) → ReadSoFar (before ++ (r ∷ []))
read_next before r h p = record {
  stacked = subst (λ (s : List Tree × ℕ). Stacked s.1 s.0) (sym (through_append grow ([], 0) before (r ∷ [])))
      (grow_stacked (through grow ([], 0) before) r h.stacked p.1.1.1.0);
  few = omega (arith, length-append before (r ∷ []), ltb-true (length before) 4095 p.0);
}

read_all : (records : List StreamRecord) → Passes (at_each tree_tests 0 [] records) → ReadSoFar records
read_all records p = at_each_lem tree_tests 0 ReadSoFar read_next [] records (record { stacked = bottom; few = omega arith }) p

-- a tree part whose tests pass is one tree, its nodes numbered from 0
pub tree_read : (records : List StreamRecord) → Passes (tree_part records)
    → Numbered 0 (tree_of records) (length records) × (1 ≤ length records) × (length records ≤ 4095)
tree_read records p = (numbered, numbered_below numbered, so_far.few)
  where
    so_far : ReadSoFar records
    so_far = read_all records (part_each tree_tests tree_end_tests 0 records p)

    one : length (unjoined records) ≡ 1
    one = eqb-true (length (unjoined records)) 1 (part_end tree_tests tree_end_tests 0 records p).1.0

    all_nodes : (through grow ([], 0) records).1 ≡ length records
    all_nodes = omega (arith, next_node ([], 0) records)

    numbered : Numbered 0 (tree_of records) (length records)
    numbered = rw all_nodes at (one_stacked (unjoined records) so_far.stacked one)
