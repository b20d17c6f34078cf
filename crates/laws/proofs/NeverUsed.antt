-- Leaf rules for label 0 with a flag above 0 are never used: without them a query makes the same records and the same set.
-- First one such rule at a leaf, then all rules at a leaf and at a branch, then the tree and the answer.
use mathlib.Core.Bool.{Bool, ◌&&◌, cond, false, true}
use mathlib.Core.List.{List, [], ◌++◌, ◌∷◌}
use mathlib.Core.Path.{◌∙◌, ◌≡◌, ap, refl, sym}
use Prim.Native.Nat.{ℕ}
use native.Mathlib.Omega.{arith}
use borrow.Author.Tests.{eq-eqb, eqb-true, ltb-true, ne_eqb}
use lib.Dec.{eqb, ltb}
use Rattle.paper.specs.Building.{Sets, Slots, can_stand, leaf_step, made, record_sets, slots_of, splits, splits_by}
use Rattle.paper.specs.Lists.{through}
use Rattle.paper.specs.Query.{Query, Rule, branch_rule, leaf_rule}
use Rattle.paper.specs.Row.{no_place}
use Rattle.paper.specs.Tree.{Tree, branch, leaf, pad_label}
use Rattle.laws.specs.PadRules.{marks_pad, used_rules, with_used_rules}
use Rattle.laws.proofs.Lists.{both_true}

-- ---- a leaf
not_taken : {A : Type 0} (c d : Bool) (x y : A) → (c ≡ true → d ≡ false) → cond (c && d) x y ≡ y
not_taken true d x y h = rw (h refl)
not_taken false d x y h = refl

module _ {S E : Type 0} (A : Sets S E) (label n : ℕ) where
  -- such a rule changes nothing: where it matches, the leaf is a pad
  rule_unused : (z : S × Slots E) (a b q : ℕ) → marks_pad (leaf_rule a b q) ≡ true → leaf_step A label n z (leaf_rule a b q) ≡ z
  rule_unused z a b q e = not_taken (eqb label a) (can_stand label b) _ z pad
    where
      pad : eqb label a ≡ true → can_stand label b ≡ false
      pad same =
          let (zero-label, above) = both_true (eqb a pad_label) (ltb no_place b) e in
          let some : b ≡ no_place → ⊥ = λ w. omega (arith, ltb-true no_place b above) in
          rw (eq-eqb label pad_label (eqb-true label a same ∙ eqb-true a pad_label zero-label), ne_eqb b no_place some)

  leaf_same : (rules : List Rule) (z : S × Slots E) → through (leaf_step A label n) z (used_rules rules) ≡ through (leaf_step A label n) z rules
  leaf_same [] z = refl
  leaf_same (branch_rule a b p q t ∷ rs) z = leaf_same rs z
  leaf_same (leaf_rule a b q ∷ rs) z = go (marks_pad (leaf_rule a b q)) refl (leaf_same rs)
    where
      go : (c : Bool) → marks_pad (leaf_rule a b q) ≡ c
          → ((y : S × Slots E) → through (leaf_step A label n) y (used_rules rs) ≡ through (leaf_step A label n) y rs)
          → through (leaf_step A label n) z (cond c (used_rules rs) (leaf_rule a b q ∷ used_rules rs))
          ≡ through (leaf_step A label n) (leaf_step A label n z (leaf_rule a b q)) rs
      go true e ih = ih z ∙ ap (λ y. through (leaf_step A label n) y rs) (sym (rule_unused z a b q e))
      go false e ih = ih (leaf_step A label n z (leaf_rule a b q))

-- ---- a branch: no leaf rule makes a split
splits_same : (arity label : ℕ) (rules : List Rule) → splits arity (used_rules rules) label ≡ splits arity rules label
splits_same arity label [] = refl
splits_same arity label (branch_rule a b p q t ∷ rs) = ap (λ more. splits_by arity label (branch_rule a b p q t) ++ more) (splits_same arity label rs)
splits_same arity label (leaf_rule a b q ∷ rs) = go (marks_pad (leaf_rule a b q)) (splits_same arity label rs)
  where
    go : (c : Bool) → splits arity (used_rules rs) label ≡ splits arity rs label
        → splits arity (cond c (used_rules rs) (leaf_rule a b q ∷ used_rules rs)) label ≡ splits arity rs label
    go true ih = ih
    go false ih = ih

-- ---- the tree, and the answer
module _ {S E : Type 0} (A : Sets S E) where
  slots_same : (arity : ℕ) (rules : List Rule) (t : Tree) (s : S) → slots_of A arity (used_rules rules) t s ≡ slots_of A arity rules t s
  slots_same arity rules (leaf a n) s = leaf_same A a n rules _
  slots_same arity rules (branch a n l r) s = rw (slots_same arity rules l s, slots_same arity rules r, splits_same arity a rules)

-- the records that a build makes, and its set, are those of the query without these rules
pub never_used : (Q : Query) (t : Tree) → made (with_used_rules Q) t ≡ made Q t
never_used Q t = rw (slots_same record_sets Q.arity Q.rules t [])
