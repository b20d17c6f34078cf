-- The tree that the tree records make. Nodes are numbered from 0 in their order; the last is the root. At the end, its pads.
use Rattle.std.specs.Prelude.{cond, List, [], ◌∷◌, ◌++◌, ℕ, suc, ◌+◌, max, eqb, length}
use Rattle.paper.specs.Lists.{through}
use Rattle.paper.specs.Stream.{StreamRecord, number}

-- each node has its label and its number. Leaf label 5 and branch label 5 are different symbols
pub data Tree : Type 0 where
  leaf : (label node : ℕ) → Tree
  branch : (label node : ℕ) → Tree → Tree → Tree

-- a branch joins the last two unjoined subtrees, the older one left. The last one stands first in the list.
-- With fewer than two the input is refused
abbrev pub join : ℕ → ℕ → List Tree → List Tree
join label node [] = []
join label node (last ∷ []) = last ∷ []
join label node (last ∷ older ∷ others) = branch label node older last ∷ others

-- the subtrees unjoined, and the next node's number, after one more record
abbrev pub grow : List Tree × ℕ → StreamRecord → List Tree × ℕ
grow (ts, n) r = (cond (eqb r.kind 1) (leaf (number r 0) n ∷ ts) (join (number r 0) n ts), suc n)

abbrev pub unjoined : List StreamRecord → List Tree
unjoined records = (through grow ([], 0) records).0

-- the most subtrees ever unjoined
abbrev pub most_from : List Tree × ℕ → List StreamRecord → ℕ
most_from s [] = 0
most_from s (r ∷ rs) = max (length (grow s r).0) (most_from (grow s r) rs)

abbrev pub most_unjoined : List StreamRecord → ℕ
most_unjoined records = most_from ([], 0) records

-- the one subtree at the end. With none, or several, the input is refused
abbrev pub last_of : List Tree → Tree
last_of [] = leaf 0 0
last_of (t ∷ ts) = t

abbrev pub tree_of : List StreamRecord → Tree
tree_of records = last_of (unjoined records)

-- the root's number
abbrev pub root : Tree → ℕ
root (leaf a n) = n
root (branch a n l r) = n

-- how many nodes the tree has
abbrev pub size : Tree → ℕ
size (leaf a n) = 1
size (branch a n l r) = suc (size l + size r)

-- request 2026-02: the nodes that are pads, which is to say leaves of label 0. A branch of label 0 is no pad
abbrev pub pad_label : ℕ
pad_label = 0

abbrev pub pads : Tree → List ℕ
pads (leaf a n) = cond (eqb a pad_label) (n ∷ []) []
pads (branch a n l r) = pads l ++ pads r
