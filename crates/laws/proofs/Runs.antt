-- Runs of a query on a numbered tree. In order: rules by their sides, the run at a branch, the numbers of a tree,
-- and that a run sees of a row only its entries in the tree.
use mathlib.Core.Bool.{Bool, cond, false, true, true≢false}
use mathlib.Core.List.Memᴰ
use mathlib.Core.List.{List, [], ◌∷◌, map}
use mathlib.Core.Logic.{⊎_elim}
use mathlib.Core.Option.{Option, none-ne-some, some-injective, none, some}
use mathlib.Core.Path.{◌∙◌, ◌≡◌, ap, refl, sym}
use Prim.Native.Nat.{◌+◌, ◌<◌, ◌≤◌, suc, ℕ}
use native.Mathlib.Omega.{arith}
use borrow.Author.Tests.{eqb-true, ne_eqb}
use Rattle.paper.specs.Lists.{Once, ◌∈◌, same}
use Rattle.paper.specs.Query.{Rule, branch_rule, leaf_rule, names, side, state_for}
use Rattle.paper.specs.Row.{Row, blank, mark, run, step_to}
use Rattle.paper.specs.Tree.{Tree, root, size}
use Rattle.laws.specs.Numbered.{Numbered, branch_numbered, leaf_numbered}
use Rattle.laws.proofs.Lists.{here, same_refl, same_true, which}
use Rattle.laws.proofs.Rows.{flag_of_keep, is, keep}

-- ---- rules by their sides
-- the rule found is one of the rules, with that side
pub rule_found : (rules : List Rule) (s : List ℕ) (q : ℕ) → state_for rules s ≡ some q
    → (r : Rule) × (r ∈ rules) × (side r ≡ s) × (names r ≡ q)
rule_found [] s q e = absurd (none-ne-some q e)
rule_found (r ∷ rs) s q e = go (same (side r) s) refl e (rule_found rs s q)
  where
    go : (b : Bool) → same (side r) s ≡ b → cond b (some (names r)) (state_for rs s) ≡ some q
        → (state_for rs s ≡ some q → (u : Rule) × (u ∈ rs) × (side u ≡ s) × (names u ≡ q))
        → (u : Rule) × (u ∈ r ∷ rs) × (side u ≡ s) × (names u ≡ q)
    go true h e' ih = (r, here, same_true (side r) s h, some-injective (names r) q e')
    go false h e' ih = let (u, mu, side-is, names-it) = ih e' in (u, Memᴰ.tail mu, side-is, names-it)

-- where no side stands twice, a rule is found by its side
pub finds_rule : (rules : List Rule) → Once (map side rules) → (r : Rule) → r ∈ rules → state_for rules (side r) ≡ some (names r)
finds_rule [] o r m = absurd (Memᴰ.not-nil m)
finds_rule (u ∷ us) o r m = ⊎_elim first (λ n. later n (finds_rule us o.1 r n)) (Memᴰ.cases_cons m)
  where
    first : r ≡ u → state_for (u ∷ us) (side r) ≡ some (names r)
    first e = rw e (rw (same_refl (side u)))

    later : r ∈ us → state_for us (side r) ≡ some (names r) → state_for (u ∷ us) (side r) ≡ some (names r)
    later n ih =
        ⊎_elim (λ t. absurd (o.0 (Memᴰ.cast (same_true (side u) (side r) t) (Memᴰ.map side n)))) (λ f. rw f ih)
        (which (same (side u) (side r)))

-- a leaf rule is its side and the state that it names
pub leaf_parts : (r : Rule) (a b : ℕ) → side r ≡ 17 ∷ a ∷ b ∷ [] → r ≡ leaf_rule a b (names r)
leaf_parts (leaf_rule a' b' q) a b e = cc
leaf_parts (branch_rule a' b' l r t) a b e = cc

-- and so is a branch rule
pub branch_parts : (r : Rule) (a b p q : ℕ) → side r ≡ 18 ∷ a ∷ b ∷ p ∷ q ∷ [] → r ≡ branch_rule a b p q (names r)
branch_parts (leaf_rule a' b' t) a b p q e = cc
branch_parts (branch_rule a' b' l r t) a b p q e = cc

-- ---- the run at a branch
-- it gives a state only where both children have one and a rule is found
pub step_some : (rules : List Rule) (a b : ℕ) (x y : Option ℕ) (t : ℕ) → step_to rules a b x y ≡ some t
    → (p : ℕ) × (q : ℕ) × (x ≡ some p) × (y ≡ some q) × (state_for rules (18 ∷ a ∷ b ∷ p ∷ q ∷ []) ≡ some t)
step_some rules a b none y t e = absurd (none-ne-some t e)
step_some rules a b (some p) none t e = absurd (none-ne-some t e)
step_some rules a b (some p) (some q) t e = (p, q, refl, refl, e)

-- ---- the numbers of a tree
-- a numbered tree has a node
pub numbered_below : {lo : ℕ} {t : Tree} {hi : ℕ} → Numbered lo t hi → lo < hi
numbered_below leaf_numbered = omega arith
numbered_below (branch_numbered l r) = omega (arith, numbered_below l, numbered_below r)

-- it has as many nodes as numbers
pub size_numbered : {lo : ℕ} {t : Tree} {hi : ℕ} → Numbered lo t hi → lo + size t ≡ hi
size_numbered leaf_numbered = omega arith
size_numbered (branch_numbered l r) = omega (arith, size_numbered l, size_numbered r)

-- its root has the last number
pub root_numbered : {lo : ℕ} {t : Tree} {hi : ℕ} → Numbered lo t hi → suc (root t) ≡ hi
root_numbered leaf_numbered = refl
root_numbered (branch_numbered l r) = refl

-- ---- a run sees of a row only its entries in the tree
module _ (p : ℕ → Bool) (p-blank : p blank ≡ false) (row : Row) where
  -- a node that passes the test keeps its mark where the entries that fail are blanked
  pub mark_keep : (n : ℕ) → p n ≡ true → mark (keep p row) n ≡ mark row n
  mark_keep n h =
      flag_of_keep p (is n) (ne_eqb blank n (λ e. true≢false (sym h ∙ ap p (sym e) ∙ p-blank))) (λ x e. ap p (eqb-true x n e) ∙ h) row

  -- so the run on a tree whose nodes pass the test is the same where they are
  pub run_keep : (rules : List Rule) {lo : ℕ} {t : Tree} {hi : ℕ} → Numbered lo t hi
      → ((v : ℕ) → lo ≤ v → v < hi → p v ≡ true) → run rules (keep p row) t ≡ run rules row t
  run_keep rules (leaf_numbered {a} {n}) h = rw (mark_keep n (h n (omega arith) (omega arith)))
  run_keep rules (branch_numbered {a} {n} {lo} {m} {l} {r} nl nr) h =
      let left_some = numbered_below nl in
      let right_some = numbered_below nr in
      rw (
        mark_keep n (h n (omega arith) (omega arith)),
        run_keep rules nl (λ v from to. h v from (omega arith)),
        run_keep rules nr (λ v from to. h v (omega arith) (omega arith)),
      )
