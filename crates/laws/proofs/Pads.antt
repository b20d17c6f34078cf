-- The pads of a tree. In order: which nodes they are, their numbers, and that a row names one exactly if it is marked with some place,
-- of which only the entries in the tree tell.
use mathlib.Core.Bool.{Bool, false, true}
use mathlib.Core.List.Memᴰ
use mathlib.Core.List.{[], ◌∷◌}
use mathlib.Core.Logic.{◌⊎◌, ⊎_elim}
use mathlib.Core.Path.{◌≡◌, ap, refl, sym}
use Prim.Native.Nat.{◌<◌, ◌≤◌, ℕ}
use native.Mathlib.Omega.{arith}
use borrow.Author.Tests.{eq-eqb, eqb-true, ne_eqb}
use lib.Dec.{eqb}
use Rattle.paper.specs.Lists.{◌∈◌}
use Rattle.paper.specs.Row.{Row, blank, mark, no_place}
use Rattle.paper.specs.Tree.{Tree, branch, leaf, pad_label, pads}
use Rattle.laws.specs.Numbered.{Numbered, branch_numbered, leaf_numbered}
use Rattle.laws.proofs.Lists.{here, in_cond, mem_cond, only}
use Rattle.laws.proofs.Rows.{bit, keep}
use Rattle.laws.proofs.Runs.{mark_keep, numbered_below}

-- ---- which nodes they are
-- a leaf of label 0 is a pad, and no other leaf is
pub leaf_pad : (a n : ℕ) → a ≡ pad_label → n ∈ pads (leaf a n)
leaf_pad a n e = in_cond (eqb a pad_label) (eq-eqb a pad_label e) here

pub pad_leaf : (a n : ℕ) {x : ℕ} → x ∈ pads (leaf a n) → (a ≡ pad_label) × (x ≡ n)
pad_leaf a n m = let (e, it) = mem_cond (eqb a pad_label) (n ∷ []) m in (eqb-true a pad_label e, only it)

-- a branch is no pad: those of its tree are those of its children
module _ (a n : ℕ) (l r : Tree) {x : ℕ} where
  pub pad_branch : x ∈ pads (branch a n l r) → (x ∈ pads l) ⊎ (x ∈ pads r)
  pad_branch m = Memᴰ.append_cases (pads l) m

  pub left_pad : x ∈ pads l → x ∈ pads (branch a n l r)
  left_pad m = Memᴰ.append_left (pads r) m

  pub right_pad : x ∈ pads r → x ∈ pads (branch a n l r)
  right_pad m = Memᴰ.append_right (pads l) m

-- ---- their numbers are the tree's
pad_numbered : {lo : ℕ} {t : Tree} {hi : ℕ} → Numbered lo t hi → (x : ℕ) → x ∈ pads t → (lo ≤ x) × (x < hi)
pad_numbered (leaf_numbered {a} {n}) x m = let (pad, it) = pad_leaf a n m in (omega arith, omega arith)
pad_numbered (branch_numbered {a} {n} {lo} {m} {l} {r} nl nr) x w =
    let left_some = numbered_below nl in
    let right_some = numbered_below nr in
    ⊎_elim (λ p. let h = pad_numbered nl x p in (h.0, omega arith)) (λ p. let h = pad_numbered nr x p in (omega arith, omega arith))
    (pad_branch a n l r w)

-- ---- rows that name them
-- a pad keeps its mark where the entries outside the tree are blanked
pub pads_keep : (p : ℕ → Bool) → p blank ≡ false → (row : Row) {lo : ℕ} {t : Tree} {hi : ℕ} → Numbered lo t hi
    → ((v : ℕ) → lo ≤ v → v < hi → p v ≡ true) → (x : ℕ) → x ∈ pads t → mark (keep p row) x ≡ mark row x
pads_keep p p-blank row numbered inside x m =
    let (from, to) = pad_numbered numbered x m in
    mark_keep p p-blank row x (inside x from to)

-- a node that a row names is marked with some place
pub named_marked : (n : ℕ) (row : Row) → n ∈ row → mark row n ≡ no_place → ⊥
named_marked n [] m e = Memᴰ.not-nil m
named_marked n (x ∷ xs) m e =
    ⊎_elim (λ w. omega (arith, ap bit (eq-eqb x n (sym w)))) (λ w. named_marked n xs w (omega arith)) (Memᴰ.cases_cons m)

-- and one that it does not name with none
pub unnamed_unmarked : (n : ℕ) (row : Row) → (n ∈ row → ⊥) → mark row n ≡ no_place
unnamed_unmarked n [] other = refl
unnamed_unmarked n (x ∷ xs) other =
    omega (arith, ap bit (ne_eqb x n (λ e. other (Memᴰ.head (sym e)))), unnamed_unmarked n xs (λ m. other (Memᴰ.tail m)))
