-- A record that fits: its kind is one of three, and its numbers are in range. First the kind, then a rule's label and flag, then the
-- states on the left side of a branch rule, then an accepting state.
use mathlib.Core.Bool.{◌&&◌, true}
use mathlib.Core.List.{[]}
use mathlib.Core.Logic.{⊎_elim}
use mathlib.Core.Path.{◌∙◌, ◌≡◌, ap, sym}
use Prim.Native.Nat.{◌<◌, ◌^◌}
use native.Mathlib.Omega.{arith}
use borrow.Author.Tests.{eqb-false, eqb-true, leb-true, ltb-true}
use lib.Dec.{eqb, leb, ltb}
use lib.ListN.{drop, length}
use Rattle.paper.specs.Lists.{all_below}
use Rattle.paper.specs.Query.{is_rule_kind}
use Rattle.paper.specs.Refusals.{in_range}
use Rattle.paper.specs.Stream.{StreamRecord, body_length, number, whole}
use Rattle.laws.proofs.Lists.{both_true, which}
use Rattle.laws.proofs.StreamPlaces.{made_of}
use Rattle.stream.specs.OneRecord.{fits, query_with, whole_in_range}
use Rattle.stream.specs.Reading.{QueryFacts}

module _ (f : QueryFacts) (r : StreamRecord) (fitting : fits f r ≡ true) where
  parts : (leb 17 r.kind && leb r.kind 19 ≡ true) × (whole_in_range f r ≡ true)
  parts = both_true (leb 17 r.kind && leb r.kind 19) (whole_in_range f r) fitting

  in_range_lem : (whole r ≡ true) × (in_range (query_with f []) r ≡ true)
  in_range_lem = both_true (whole r) (in_range (query_with f []) r) parts.1

  -- it is a leaf rule, a branch rule or an accepting state
  pub by_kind : {A : Type 0} → (r.kind ≡ 17 → A) → (r.kind ≡ 18 → A) → (r.kind ≡ 19 → A) → A
  by_kind {A} leaf branch state =
      ⊎_elim (λ e. leaf (eqb-true r.kind 17 e)) (λ e. later (eqb-false r.kind 17 e)) (which (eqb r.kind 17))
    where
      kinds : (leb 17 r.kind ≡ true) × (leb r.kind 19 ≡ true)
      kinds = both_true (leb 17 r.kind) (leb r.kind 19) parts.0

      last : (r.kind ≡ 17 → ⊥) → (r.kind ≡ 18 → ⊥) → r.kind ≡ 19
      last m n = omega (arith, leb-true 17 r.kind kinds.0, leb-true r.kind 19 kinds.1)

      later : (r.kind ≡ 17 → ⊥) → A
      later n =
          ⊎_elim (λ e. branch (eqb-true r.kind 18 e)) (λ e. state (last n (eqb-false r.kind 18 e))) (which (eqb r.kind 18))

  -- what is no accepting state is a rule
  pub a_rule : (r.kind ≡ 19 → ⊥) → is_rule_kind r.kind ≡ true
  a_rule other = by_kind (ap is_rule_kind) (ap is_rule_kind) (λ e. absurd (other e))

  -- a rule
  module _ (rule : is_rule_kind r.kind ≡ true) where
    tests : leb (number r 0) 63 && (ltb (number r 1) (2 ^ f.arity) && all_below f.states (drop 2 r.body)) ≡ true
    tests = rw rule at in_range_lem.1

    label_then : (leb (number r 0) 63 ≡ true) × (ltb (number r 1) (2 ^ f.arity) && all_below f.states (drop 2 r.body) ≡ true)
    label_then = both_true (leb (number r 0) 63) _ tests

    flag_then : (ltb (number r 1) (2 ^ f.arity) ≡ true) × (all_below f.states (drop 2 r.body) ≡ true)
    flag_then = both_true (ltb (number r 1) (2 ^ f.arity)) _ label_then.1

    pub label_low : number r 0 < 64
    label_low = omega (arith, leb-true (number r 0) 63 label_then.0)

    pub flag_low : number r 1 < 2 ^ f.arity
    flag_low = ltb-true (number r 1) (2 ^ f.arity) flag_then.0

  -- the states on the left side of a branch rule
  module _ (branch : r.kind ≡ 18) where
    five : length r.body ≡ 5
    five = eqb-true (length r.body) (body_length r.kind) in_range_lem.0 ∙ ap body_length branch

    states_low : ltb (number r 2) f.states && (ltb (number r 3) f.states && (ltb (number r 4) f.states && true)) ≡ true
    states_low = ap (λ body. all_below f.states (drop 2 body)) (sym (made_of 5 r.body five)) ∙ (flag_then (ap is_rule_kind branch)).1

    pub left_low : number r 2 < f.states
    left_low = ltb-true (number r 2) f.states (both_true (ltb (number r 2) f.states) _ states_low).0

    pub right_low : number r 3 < f.states
    right_low =
        let q = (both_true (ltb (number r 2) f.states) _ states_low).1 in
        ltb-true (number r 3) f.states (both_true (ltb (number r 3) f.states) _ q).0

  -- an accepting state
  pub state_low : r.kind ≡ 19 → number r 0 < f.states
  state_low state = ltb-true (number r 0) f.states (rw (ap is_rule_kind state) at in_range_lem.1)
