-- Symbols: a record is a rule of at most one, told by its first two bytes. Then the positions of records, one behind the other, and that
-- the cell of each rule is its own.
use mathlib.Core.Bool.{Bool, false, true}
use mathlib.Core.List.{List}
use mathlib.Core.Logic.{inl, inr, ⊎_elim}
use mathlib.Core.Path.{◌∙◌, ◌≡◌, refl, subst, sym}
use Prim.Native.Nat.{◌+◌, ◌<◌, ◌≤◌, suc, zero, ℕ}
use native.Mathlib.Omega.{arith}
use borrow.Author.Tests.{eq-eqb, eqb-false, eqb-true, ltb-false, ltb-true, ne_eqb}
use lib.Dec.{eqb, ltb}
use lib.ListN.{get_or, length}
use Rattle.std.specs.Prelude.{None, Option, Some}
use Rattle.paper.specs.Query.{is_rule_kind}
use Rattle.paper.specs.Stream.{StreamRecord, number}
use Rattle.laws.specs.StreamCauses.{RuleKind}
use Rattle.laws.proofs.Lists.{both_true, iff_eq, which}
use Rattle.stream.specs.Positions.{after, record_at}
use Rattle.stream.specs.RuleLists.{SymbolAt, SymbolOf, cell_of, is_for, kind_for, label_for, place, symbol, symbols}
use Rattle.stream.proofs.RuleSearch.{by_label, other_kind, rule_between}

-- ---- a symbol has its kind and its label, and no other
module _ (kind label : ℕ) (rule : RuleKind kind) (low : label ≤ 63) where
  pub its_kind : kind_for (symbol kind label) ≡ kind
  its_kind = ⊎_elim (λ e. omega arith) (λ e. omega arith) rule

  pub its_label : label_for (symbol kind label) ≡ label
  its_label = ⊎_elim (λ e. omega arith) (λ e. omega arith) rule

  pub symbol_low : symbol kind label < symbols
  symbol_low = ⊎_elim (λ e. omega arith) (λ e. omega arith) rule

-- ---- the symbol of a record
-- a rule of a symbol has its kind and its label
for_kind : (s : ℕ) (r : StreamRecord) → is_for s r ≡ true → r.kind ≡ kind_for s
for_kind s r e = eqb-true r.kind (kind_for s) (both_true _ _ e).0

for_label : (s : ℕ) (r : StreamRecord) → is_for s r ≡ true → number r 0 ≡ label_for s
for_label s r e =
    eqb-true (number r 0) (label_for s)
    (both_true (is_rule_kind (kind_for s)) (eqb (number r 0) (label_for s)) (both_true (eqb r.kind (kind_for s)) _ e).1).1

-- so it is of no other
pub one_symbol : (s t : ℕ) (r : StreamRecord) → is_for s r ≡ true → is_for t r ≡ true → s ≡ t
one_symbol s t r e f = omega (arith, for_kind s r e, for_kind t r f, for_label s r e, for_label t r f)

module _ (input : List ℕ) (at : ℕ) (inside : at < length input) where
  -- a record of another kind has none
  no_symbol : (get_or input at 0 ≡ 17 → ⊥) → (get_or input at 0 ≡ 18 → ⊥) → SymbolAt input at None
  no_symbol a b s h =
      sym (other_kind input at (kind_for s) (label_for s) inside (λ e. ⊎_elim a b (rule_between (get_or input at 0) (omega arith) (omega arith))))

  module _ (rule : RuleKind (get_or input at 0)) where
    -- a rule is judged by its label, where its kind is the symbol's
    by_test : (x : Bool) (s : ℕ) → (get_or input at 0 ≡ kind_for s → eqb (get_or input (at + 1) 0) (label_for s) ≡ x)
        → ((get_or input at 0 ≡ kind_for s → ⊥) → x ≡ false) → is_for s (record_at input at) ≡ x
    by_test x s f g = ⊎_elim this other (which (eqb (get_or input at 0) (kind_for s)))
      where
        this : eqb (get_or input at 0) (kind_for s) ≡ true → is_for s (record_at input at) ≡ x
        this e =
            let z : get_or input at 0 ≡ kind_for s = eqb-true (get_or input at 0) (kind_for s) e in
            sym (by_label input at (kind_for s) (label_for s) inside z (subst RuleKind z rule)) ∙ f z

        other : eqb (get_or input at 0) (kind_for s) ≡ false → is_for s (record_at input at) ≡ x
        other e =
            let z : get_or input at 0 ≡ kind_for s → ⊥ = eqb-false (get_or input at 0) (kind_for s) e in
            sym (other_kind input at (kind_for s) (label_for s) inside z) ∙ sym (g z)

    -- with a label that is too high it has none
    high_label : 63 < get_or input (at + 1) 0 → SymbolAt input at None
    high_label h s b = by_test false s (λ z. ne_eqb (get_or input (at + 1) 0) (label_for s) (λ e. omega arith)) (λ z. refl)

    -- any other has that of its kind and label
    symbol_here : get_or input (at + 1) 0 ≤ 63 → SymbolAt input at (Some (symbol (get_or input at 0) (get_or input (at + 1) 0)))
    symbol_here h = (
      symbol_low (get_or input at 0) (get_or input (at + 1) 0) rule h,
      λ s b.
          by_test (eqb (symbol (get_or input at 0) (get_or input (at + 1) 0)) s) s
          (λ z.
          iff_eq (eqb (get_or input (at + 1) 0) (label_for s)) (eqb (symbol (get_or input at 0) (get_or input (at + 1) 0)) s)
          (λ w. eq-eqb _ s (omega (arith, eqb-true (get_or input (at + 1) 0) (label_for s) w)))
          (λ w. eq-eqb (get_or input (at + 1) 0) (label_for s) (omega (arith, eqb-true (symbol (get_or input at 0) (get_or input (at + 1) 0)) s w))))
          (λ z. ne_eqb _ s (λ w. z (let k = its_kind (get_or input at 0) (get_or input (at + 1) 0) rule h in omega (arith, k)))),
    )

  -- so its first two bytes tell its symbol
  pub symbol_told : (x : Option ℕ) → SymbolOf (get_or input at 0) (get_or input (at + 1) 0) x → SymbolAt input at x
  symbol_told x is = ⊎_elim leaf (λ a. ⊎_elim branch (λ b. none (eqb-false _ 17 a) (eqb-false _ 18 b)) (which (eqb (get_or input at 0) 18)))
      (which (eqb (get_or input at 0) 17))
    where
      none : (get_or input at 0 ≡ 17 → ⊥) → (get_or input at 0 ≡ 18 → ⊥) → SymbolAt input at x
      none a b = subst (SymbolAt input at) (sym (is.other (⊎_elim a b))) (no_symbol a b)

      rule : RuleKind (get_or input at 0) → SymbolAt input at x
      rule r =
          ⊎_elim
          (λ h. let high = ltb-true 63 (get_or input (at + 1) 0) h in subst (SymbolAt input at) (sym (is.high high)) (high_label r high))
          (λ h. let low = ltb-false 63 (get_or input (at + 1) 0) h in subst (SymbolAt input at) (sym (is.right r low)) (symbol_here r low))
          (which (ltb 63 (get_or input (at + 1) 0)))

      leaf : eqb (get_or input at 0) 17 ≡ true → SymbolAt input at x
      leaf e = rule (inl (eqb-true (get_or input at 0) 17 e))

      branch : eqb (get_or input at 0) 18 ≡ true → SymbolAt input at x
      branch e = rule (inr (eqb-true (get_or input at 0) 18 e))

-- ---- positions
module _ (input : List ℕ) (from : ℕ) where
  pub place_from : (i : ℕ) → from ≤ place input from i
  place_from zero = omega arith
  place_from (suc i) = omega (arith, place_from i)

  -- a record lies at or behind each earlier one
  pub place_up : (i j : ℕ) → i ≤ j → place input from i ≤ place input from j
  place_up i zero h = let none : i ≡ 0 = omega arith in rw none (omega arith)
  place_up i (suc j) h =
      ⊎_elim (λ e. let earlier = place_up i j (omega (arith, ltb-true i (suc j) e)) in omega (arith, earlier))
      (λ e. same (omega (arith, ltb-false i (suc j) e))) (which (ltb i (suc j)))
    where
      same : i ≡ suc j → place input from i ≤ place input from (suc j)
      same e = rw e (omega arith)

  -- and behind its end
  place_after : (i j : ℕ) → i < j → after input (place input from i) ≤ place input from j
  place_after i j h = place_up (suc i) j (omega arith)

  -- a rule is at least four bytes long
  rule_long : (s at : ℕ) → s < symbols → is_for s (record_at input at) ≡ true → at + 4 ≤ after input at
  rule_long s at h e = ⊎_elim leaf branch (rule_between (kind_for s) (omega arith) (omega arith))
    where
      leaf : kind_for s ≡ 17 → at + 4 ≤ after input at
      leaf z = rw (for_kind s (record_at input at) e ∙ z) (omega arith)

      branch : kind_for s ≡ 18 → at + 4 ≤ after input at
      branch z = rw (for_kind s (record_at input at) e ∙ z) (omega arith)

  -- so the cells of later records lie behind its own
  pub cell_behind : (s i j : ℕ) → s < symbols → is_for s (record_at input (place input from i)) ≡ true → i < j
      → cell_of from (place input from i) < cell_of from (place input from j)
  cell_behind s i j h e l = omega (arith, rule_long s (place input from i) h e, place_after i j l, place_from i)
