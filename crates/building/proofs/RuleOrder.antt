-- At a node the rules go in file order: a loop over the records of the query behind the head, that stands at a position.
-- For a leaf and then for a branch: a record that does not match, records that do not match, a record that does.
use mathlib.Core.Bool.{Bool, cond, false, true, ◌||◌}
use mathlib.Core.List.Memᴰ
use mathlib.Core.List.{List, [], ◌++◌, ◌∷◌}
use mathlib.Core.Path.{◌∙◌, ◌≡◌, ap, refl, sym}
use Prim.Native.Nat.{ℕ}
use borrow.Author.Tests.{eq-eqb, eqb-true, ne_eqb}
use lib.Dec.{eqb}
use Rattle.paper.specs.Building.{Sets, Slots, branch_step, leaf_step, splits}
use Rattle.paper.specs.Lists.{◌∈◌, through}
use Rattle.paper.specs.Query.{branch_rule, leaf_rule, rules_of}
use Rattle.paper.specs.Stream.{StreamRecord, number}
use Rattle.laws.proofs.Lists.{here, through_append}
use Rattle.building.specs.Kinds.{branch_rule_kind, leaf_rule_kind}
use Rattle.building.specs.RuleOrder.{BranchRuleFor, LeafRuleFor, splits_for}

-- ---- a leaf
module _ {S E : Type 0} (A : Sets S E) (label n : ℕ) where
  -- a leaf rule with another label changes nothing
  other_label : (z : S × Slots E) (a b q : ℕ) → (a ≡ label → ⊥) → leaf_step A label n z (leaf_rule a b q) ≡ z
  other_label z a b q other = rw (ne_eqb label a (λ e. other (sym e)))

  -- nor does a record that is no leaf rule with this label
  pub leaf_skip : (z : S × Slots E) (r : StreamRecord) (rs : List StreamRecord) → (LeafRuleFor label r → ⊥)
      → through (leaf_step A label n) z (rules_of (r ∷ rs)) ≡ through (leaf_step A label n) z (rules_of rs)
  leaf_skip z r rs other = go (eqb r.kind leaf_rule_kind) (eqb r.kind branch_rule_kind) refl
    where
      go : (c d : Bool) → eqb r.kind leaf_rule_kind ≡ c
          → through (leaf_step A label n) z (cond (c || d) (cond c (leaf_rule (number r 0) (number r 1) (number r 2))
          (branch_rule (number r 0) (number r 1) (number r 2) (number r 3) (number r 4)) ∷ rules_of rs) (rules_of rs))
          ≡ through (leaf_step A label n) z (rules_of rs)
      go true d e =
          ap (λ y. through (leaf_step A label n) y (rules_of rs))
          (other_label z (number r 0) (number r 1) (number r 2) (λ w. other (eqb-true r.kind leaf_rule_kind e, w)))
      go false true e = refl
      go false false e = refl

  pub leaf_skips : (z : S × Slots E) (skipped rs : List StreamRecord) → ((r : StreamRecord) → r ∈ skipped → LeafRuleFor label r → ⊥)
      → through (leaf_step A label n) z (rules_of (skipped ++ rs)) ≡ through (leaf_step A label n) z (rules_of rs)
  leaf_skips z [] rs others = refl
  leaf_skips z (r ∷ skipped) rs others =
      leaf_skip z r (skipped ++ rs) (others r here) ∙ leaf_skips z skipped rs (λ x m. others x (Memᴰ.tail m))

  -- a leaf rule with this label goes first
  pub leaf_here : (z : S × Slots E) (r : StreamRecord) (rs : List StreamRecord) → LeafRuleFor label r
      → through (leaf_step A label n) z (rules_of (r ∷ rs))
      ≡ through (leaf_step A label n) (leaf_step A label n z (leaf_rule label (number r 1) (number r 2))) (rules_of rs)
  leaf_here z r rs h = rw (eq-eqb r.kind leaf_rule_kind h.0, h.1)

-- ---- a branch
module _ (arity label : ℕ) where
  -- a record that is no branch rule with this label adds no split
  splits_skip : (r : StreamRecord) (rs : List StreamRecord) → (BranchRuleFor label r → ⊥)
      → splits arity (rules_of (r ∷ rs)) label ≡ splits arity (rules_of rs) label
  splits_skip r rs other = go (eqb r.kind leaf_rule_kind) (eqb r.kind branch_rule_kind) refl
    where
      go : (c d : Bool) → eqb r.kind branch_rule_kind ≡ d
          → splits arity (cond (c || d) (cond c (leaf_rule (number r 0) (number r 1) (number r 2))
          (branch_rule (number r 0) (number r 1) (number r 2) (number r 3) (number r 4)) ∷ rules_of rs) (rules_of rs)) label
          ≡ splits arity (rules_of rs) label
      go true d e = refl
      go false true e = rw (ne_eqb label (number r 0) (λ w. other (eqb-true r.kind branch_rule_kind e, sym w)))
      go false false e = refl

  -- a branch rule with this label has its splits first
  splits_here : (r : StreamRecord) (rs : List StreamRecord) → BranchRuleFor label r
      → splits arity (rules_of (r ∷ rs)) label ≡ splits_for arity r ++ splits arity (rules_of rs) label
  splits_here r rs h = rw (h.0, eq-eqb label (number r 0) (sym h.1))

module _ {S E : Type 0} (A : Sets S E) (arity label n : ℕ) (f g : Slots E) where
  -- a record that is no branch rule with this label changes nothing
  pub branch_skip : (z : S × Slots E) (r : StreamRecord) (rs : List StreamRecord) → (BranchRuleFor label r → ⊥)
      → through (branch_step A n f g) z (splits arity (rules_of (r ∷ rs)) label) ≡ through (branch_step A n f g) z (splits arity (rules_of rs) label)
  branch_skip z r rs other = ap (through (branch_step A n f g) z) (splits_skip arity label r rs other)

  pub branch_skips : (z : S × Slots E) (skipped rs : List StreamRecord) → ((r : StreamRecord) → r ∈ skipped → BranchRuleFor label r → ⊥)
      → through (branch_step A n f g) z (splits arity (rules_of (skipped ++ rs)) label)
      ≡ through (branch_step A n f g) z (splits arity (rules_of rs) label)
  branch_skips z [] rs others = refl
  branch_skips z (r ∷ skipped) rs others =
      branch_skip z r (skipped ++ rs) (others r here) ∙ branch_skips z skipped rs (λ x m. others x (Memᴰ.tail m))

  -- a branch rule with this label goes through its splits first
  pub branch_here : (z : S × Slots E) (r : StreamRecord) (rs : List StreamRecord) → BranchRuleFor label r
      → through (branch_step A n f g) z (splits arity (rules_of (r ∷ rs)) label)
      ≡ through (branch_step A n f g) (through (branch_step A n f g) z (splits_for arity r)) (splits arity (rules_of rs) label)
  branch_here z r rs h =
      ap (through (branch_step A n f g) z) (splits_here arity label r rs h)
      ∙ through_append (branch_step A n f g) z (splits_for arity r) (splits arity (rules_of rs) label)
