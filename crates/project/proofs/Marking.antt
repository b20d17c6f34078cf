-- The nodes that the cells keep are marked, one cell a turn: what holds of the bytes before each turn, that a turn keeps it, and all of them.
use mathlib.Core.Bool.{Bool, ◌||◌, cond, false, true}
use mathlib.Core.List.{List, [], ◌++◌, ◌∷◌}
use mathlib.Core.Path.{◌∙◌, ◌≡◌, ap, refl, sym}
use Prim.Native.Nat.{◌+◌, ◌-◌, ◌<◌, ◌≤◌, suc, ℕ}
use native.Mathlib.Numerals.{add-one}
use native.Mathlib.Omega.{arith}
use borrow.Author.Tests.{eqb-false, eqb-true, ne_eqb}
use lib.Dec.{eqb}
use lib.ListN.{get_or, get_or-replicate, length, length-map, length-replicate, length-set, replicate, set, take}
use lib.Seq.{ext_get_or, get_or-set_other, get_or-set_same, take-suc}
use Rattle.std.proofs.lemmas.List.{take_all}
use Rattle.paper.specs.Lists.{has, up_to}
use Rattle.project.specs.Marks.{marks_in}
use Rattle.laws.proofs.Counting.{length_count_from}
use Rattle.laws.proofs.Listed.{map_up_to}

-- ---- the numbers of a list, one more at its end
has_last : (xs : List ℕ) (y n : ℕ) → has (xs ++ (y ∷ [])) n ≡ has xs n || eqb y n
has_last [] y n = go (eqb y n)
  where
    go : (c : Bool) → c || false ≡ c
    go true = refl
    go false = refl
has_last (x ∷ xs) y n = go (eqb x n) (has_last xs y n)
  where
    go : (c : Bool) → has (xs ++ (y ∷ [])) n ≡ has xs n || eqb y n → c || has (xs ++ (y ∷ [])) n ≡ (c || has xs n) || eqb y n
    go true e = refl
    go false e = e

-- ---- turns
-- the first i cells have been gone through
pub record Marked (cells : List ℕ) (nodes i : ℕ) (marks : List ℕ) : Type 0 where
  pub long : length marks ≡ nodes
  pub bytes : (node : ℕ) → node < nodes → get_or marks node 0 ≡ cond (has (take i cells) (suc node)) 1 0

pub marked_none : (cells : List ℕ) (nodes : ℕ) → Marked cells nodes 0 (replicate nodes 0)
marked_none cells nodes = record { long = length-replicate nodes 0; bytes = λ node h. get_or-replicate nodes node 0 0 h }

module _ {cells : List ℕ} {nodes i : ℕ} {marks : List ℕ} (M : Marked cells nodes i marks) (inside : i < length cells) where
  abbrev cell : ℕ
  cell = get_or cells i 0

  -- what a turn makes of a byte
  more : (next : List ℕ) → length next ≡ nodes → ((node : ℕ) → node < nodes → get_or next node 0 ≡ cond (eqb cell (suc node)) 1 (get_or marks node 0))
      → Marked cells nodes (i + 1) next
  more next long bytes = record {
    long = long;
    bytes = λ node h.
        bytes node h
        ∙ ap (cond (eqb cell (suc node)) 1) (M.bytes node h)
        ∙ sym (ap (λ (c : Bool). cond c 1 0) (has_more node) ∙ either (has (take i cells) (suc node)) (eqb cell (suc node)) 0);
  }
    where
      has_more : (node : ℕ) → has (take (i + 1) cells) (suc node) ≡ has (take i cells) (suc node) || eqb cell (suc node)
      has_more node =
          ap (λ (xs : List ℕ). has xs (suc node)) (ap (λ (n : ℕ). take n cells) (add-one i) ∙ take-suc cells i 0 inside)
          ∙ has_last (take i cells) cell (suc node)

      either : (a b : Bool) (x : ℕ) → cond (a || b) 1 x ≡ cond b 1 (cond a 1 x)
      either true true x = refl
      either true false x = refl
      either false true x = refl
      either false false x = refl

  -- a cell that keeps none
  pub marked_no_more : cell ≡ 0 → Marked cells nodes (i + 1) marks
  marked_no_more e = more marks M.long (λ node h. rw (ne_eqb cell (suc node) (λ w. omega (arith, e))) refl)

  -- a cell that keeps a node
  pub marked_more : (cell ≡ 0 → ⊥) → cell ≤ nodes → Marked cells nodes (i + 1) (set marks (cell - 1) 1)
  marked_more some fits = more (set marks (cell - 1) 1) (length-set marks (cell - 1) 1 ∙ M.long) (λ node h. go node h (eqb cell (suc node)) refl)
    where
      go : (node : ℕ) → node < nodes → (c : Bool) → eqb cell (suc node) ≡ c
          → get_or (set marks (cell - 1) 1) node 0 ≡ cond c 1 (get_or marks node 0)
      go node h true e =
          let here : node ≡ cell - 1 = omega (arith, eqb-true cell (suc node) e) in
          ap (λ (j : ℕ). get_or (set marks (cell - 1) 1) j 0) here ∙ get_or-set_same marks (cell - 1) 1 0 (omega (arith, M.long))
      go node h false e = get_or-set_other marks (cell - 1) node 1 0 (λ w. eqb-false cell (suc node) e (omega arith))

-- ---- all turns
pub marked_all : {cells : List ℕ} {nodes i : ℕ} {marks : List ℕ} → length cells ≤ i → Marked cells nodes i marks → marks ≡ marks_in cells nodes
marked_all {cells} {nodes} {i} {marks} all M =
    ext_get_or 0 marks (marks_in cells nodes) (M.long ∙ sym long)
    (λ node h. let inside : node < nodes = omega (arith, M.long) in
    M.bytes node inside
    ∙ ap (λ (xs : List ℕ). cond (has xs (suc node)) 1 0) (take_all i cells all)
    ∙ sym (map_up_to (λ m. cond (has cells (suc m)) 1 0) nodes node inside))
  where
    long : length (marks_in cells nodes) ≡ nodes
    long = length-map (up_to nodes) (λ node. cond (has cells (suc node)) 1 0) ∙ length_count_from nodes 0
