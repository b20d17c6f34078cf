-- The query that is read: where the tests of the query part pass, its numbers are in range, and no rule and no state is said twice.
-- First what such a query has, then tests for what stands in earlier records, then one more rule or accepting state, one more record, the part.
use mathlib.Core.Bool.{Bool, ◌&&◌, ◌||◌, cond, false, false≢true, not, true, true≢false}
use mathlib.Core.List.Memᴰ
use mathlib.Core.List.{List, [], ◌++◌, ◌∷◌, append-nil, map, map-append}
use mathlib.Core.Logic.{⊎_elim}
use mathlib.Core.Path.{◌∙◌, ◌≡◌, ap, refl, subst, sym}
use Prim.Native.Nat.{◌<◌, ◌^◌, ◌≤◌, ℕ}
use native.Mathlib.Omega.{arith}
use borrow.Author.Tests.{eqb-true, leb-true, ltb-true, not-true}
use lib.Dec.{eqb, leb, ltb}
use lib.ListN.{drop, length, length-append}
use Rattle.paper.specs.Lists.{Once, ◌∈◌, all_below, has, same}
use Rattle.paper.specs.Query.{Query, Rule, accepting_of, branch_rule, is_rule_kind, leaf_rule, query_of, rule_of, rules_of, side}
use Rattle.paper.specs.Refusals.{has_side, head_tests, later_tests, query_end_tests, query_part, query_tests}
use Rattle.paper.specs.Stream.{StreamRecord, number}
use Rattle.laws.specs.Numbered.{Deterministic, InRange, rule_flag}
use Rattle.laws.proofs.AtEach.{at_each_lem, part_each, part_end}
use Rattle.laws.proofs.Lists.{both_true, once_snoc, only, same_refl, true_has}
use Rattle.laws.proofs.Replies.{Passes}

-- what a query that is read has
pub record ReadQuery (Q : Query) : Type 0 where
  pub deterministic : Deterministic Q
  pub numbers_fit : InRange Q
  pub some_places : 1 ≤ Q.arity
  pub few_places : Q.arity ≤ 4
  pub some_states : 1 ≤ Q.states
  pub few_states : Q.states ≤ 16
  pub few_rules : length Q.rules ≤ 1024
  pub accepts_once : Once Q.accepting

-- ---- sides
-- a kind and left side that stands in the list is found
pub side_found : (rules : List Rule) {s : List ℕ} → s ∈ map side rules → has_side rules s ≡ true
side_found [] m = absurd (Memᴰ.not-nil m)
side_found (r ∷ rs) {s} m = go (same (side r) s) refl (side_found rs)
  where
    go : (c : Bool) → same (side r) s ≡ c → (s ∈ map side rs → has_side rs s ≡ true) → c || has_side rs s ≡ true
    go true e ih = refl
    go false e ih =
        ⊎_elim (λ w. absurd (true≢false (sym (same_refl (side r)) ∙ ap (same (side r)) (sym w) ∙ e))) ih (Memᴰ.cases_cons m)

-- ---- one more rule, one more accepting state
abbrev with_rule : Query → Rule → Query
with_rule Q r = record { arity = Q.arity; states = Q.states; rules = Q.rules ++ (r ∷ []); accepting = Q.accepting }

abbrev with_state : Query → ℕ → Query
with_state Q q = record { arity = Q.arity; states = Q.states; rules = Q.rules; accepting = Q.accepting ++ (q ∷ []) }

module _ (Q : Query) (h : ReadQuery Q) where
  -- a rule with its flag in range and a new left side, if there are not too many
  add_rule : (r : Rule) → rule_flag r < 2 ^ Q.arity → length Q.rules < 1024 → has_side Q.rules (side r) ≡ false → ReadQuery (with_rule Q r)
  add_rule r flag few new = record {
    deterministic = rw map-append (once_snoc (map side Q.rules) (side r) h.deterministic (λ m. true≢false (sym (side_found Q.rules m) ∙ new)));
    numbers_fit = record { flags = flags_in; accepts = h.numbers_fit.accepts };
    some_places = h.some_places;
    few_places = h.few_places;
    some_states = h.some_states;
    few_states = h.few_states;
    few_rules = omega (arith, length-append Q.rules (r ∷ []));
    accepts_once = h.accepts_once;
  }
    where
      flags_in : (x : Rule) → x ∈ Q.rules ++ (r ∷ []) → rule_flag x < 2 ^ Q.arity
      flags_in x m =
          ⊎_elim (h.numbers_fit.flags x) (λ n. subst (λ (z : Rule). rule_flag z < 2 ^ Q.arity) (sym (only n)) flag)
          (Memᴰ.append_cases Q.rules m)

  -- a new accepting state in range
  add_state : (q : ℕ) → q < Q.states → has Q.accepting q ≡ false → ReadQuery (with_state Q q)
  add_state q below new = record {
    deterministic = h.deterministic;
    numbers_fit = record { flags = h.numbers_fit.flags; accepts = accepts_in };
    some_places = h.some_places;
    few_places = h.few_places;
    some_states = h.some_states;
    few_states = h.few_states;
    few_rules = h.few_rules;
    accepts_once = once_snoc Q.accepting q h.accepts_once (λ m. true≢false (sym (true_has Q.accepting q m) ∙ new));
  }
    where
      accepts_in : (x : ℕ) → x ∈ Q.accepting ++ (q ∷ []) → x < Q.states
      accepts_in x m = ⊎_elim (h.numbers_fit.accepts x) (λ n. omega (arith, only n)) (Memᴰ.append_cases Q.accepting m)

-- ---- one more record
-- the rules, and the accepting states, of records one after the other
pub rules_append : (xs ys : List StreamRecord) → rules_of (xs ++ ys) ≡ rules_of xs ++ rules_of ys
rules_append [] ys = refl
rules_append (x ∷ xs) ys = go (is_rule_kind x.kind) (rules_append xs ys)
  where
    go : (c : Bool) → rules_of (xs ++ ys) ≡ rules_of xs ++ rules_of ys
        → cond c (rule_of x ∷ rules_of (xs ++ ys)) (rules_of (xs ++ ys)) ≡ cond c (rule_of x ∷ rules_of xs) (rules_of xs) ++ rules_of ys
    go true e = rw e
    go false e = e

accepting_append : (xs ys : List StreamRecord) → accepting_of (xs ++ ys) ≡ accepting_of xs ++ accepting_of ys
accepting_append [] ys = refl
accepting_append (x ∷ xs) ys = go (eqb x.kind 19) (accepting_append xs ys)
  where
    go : (c : Bool) → accepting_of (xs ++ ys) ≡ accepting_of xs ++ accepting_of ys
        → cond c (number x 0 ∷ accepting_of (xs ++ ys)) (accepting_of (xs ++ ys))
        ≡ cond c (number x 0 ∷ accepting_of xs) (accepting_of xs) ++ accepting_of ys
    go true e = rw e
    go false e = e

-- no kind is both a rule's and an accepting state's
not_both_kinds : (k : ℕ) → is_rule_kind k ≡ true → eqb k 19 ≡ true → ⊥
not_both_kinds k a b = false≢true (ap is_rule_kind (sym (eqb-true k 19 b)) ∙ a)

-- a rule's flag is number 1 of its record, whatever its kind
rule_flag_lem : (r : StreamRecord) → rule_flag (rule_of r) ≡ number r 1
rule_flag_lem r = go (eqb r.kind 17)
  where
    go : (c : Bool) → rule_flag (cond c (leaf_rule (number r 0) (number r 1) (number r 2))
        (branch_rule (number r 0) (number r 1) (number r 2) (number r 3) (number r 4))) ≡ number r 1
    go true = refl
    go false = refl

-- the query with the rule or the accepting state of one more record
abbrev with_record : Query → StreamRecord → Query
with_record Q r = record {
  arity = Q.arity;
  states = Q.states;
  rules = Q.rules ++ rules_of (r ∷ []);
  accepting = Q.accepting ++ accepting_of (r ∷ []);
}

query_snoc : (head : StreamRecord) (later : List StreamRecord) (r : StreamRecord)
    → query_of (head ∷ (later ++ (r ∷ []))) ≡ with_record (query_of (head ∷ later)) r
query_snoc head later r = λ i. record {
  arity = number head 0;
  states = number head 1;
  rules = rules_append later (r ∷ []) i;
  accepting = accepting_append later (r ∷ []) i;
}

-- a later record whose tests pass
later_read : (Q : Query) (r : StreamRecord) → ReadQuery Q → Passes (later_tests Q r) → ReadQuery (with_record Q r)
later_read Q r h p = go (is_rule_kind r.kind) (eqb r.kind 19) refl refl p.1.1.0 p.1.1.1.0 p.1.1.1.1.0
  where
    flag_fits : Bool
    flag_fits = ltb (number r 1) (2 ^ Q.arity)

    states_fit : Bool
    states_fit = all_below Q.states (drop 2 r.body)

    flag : leb (number r 0) 63 && (flag_fits && states_fit) ≡ true → rule_flag (rule_of r) < 2 ^ Q.arity
    flag e =
        let after-label = (both_true (leb (number r 0) 63) (flag_fits && states_fit) e).1 in
        rw rule_flag_lem (ltb-true (number r 1) (2 ^ Q.arity) (both_true flag_fits states_fit after-label).0)

    go : (c d : Bool) → is_rule_kind r.kind ≡ c → eqb r.kind 19 ≡ d
        → cond c (leb (number r 0) 63 && (flag_fits && states_fit)) (ltb (number r 0) Q.states) ≡ true
        → not c || ltb (length Q.rules) 1024 ≡ true
        → cond c (not (has_side Q.rules (side (rule_of r)))) (not (has Q.accepting (number r 0))) ≡ true
        → ReadQuery (record {
          arity = Q.arity;
          states = Q.states;
          rules = Q.rules ++ cond c (rule_of r ∷ []) [];
          accepting = Q.accepting ++ cond d (number r 0 ∷ []) [];
        })
    go true true a b range few new = absurd (not_both_kinds r.kind a b)
    go true false a b range few new =
        rw (append-nil Q.accepting)
        (add_rule Q h (rule_of r) (flag range) (ltb-true (length Q.rules) 1024 few) (not-true (has_side Q.rules (side (rule_of r))) new))
    go false true a b range few new =
        rw (append-nil Q.rules)
        (add_state Q h (number r 0) (ltb-true (number r 0) Q.states range) (not-true (has Q.accepting (number r 0)) new))
    go false false a b range few new = rw (append-nil Q.rules, append-nil Q.accepting) h

-- the head alone
head_read : (r : StreamRecord) → Passes (head_tests r) → ReadQuery (query_of (r ∷ []))
head_read r p = record {
  deterministic = tt;
  numbers_fit = record { flags = λ x m. absurd (Memᴰ.not-nil m); accepts = λ x m. absurd (Memᴰ.not-nil m) };
  some_places = leb-true 1 (number r 0) places.0;
  few_places = leb-true (number r 0) 4 places.1;
  some_states = leb-true 1 (number r 1) states.0;
  few_states = leb-true (number r 1) 16 states.1;
  few_rules = omega arith;
  accepts_once = tt;
}
  where
    places : (leb 1 (number r 0) ≡ true) × (leb (number r 0) 4 ≡ true)
    places = both_true (leb 1 (number r 0)) (leb (number r 0) 4) p.1.1.0

    states : (leb 1 (number r 1) ≡ true) × (leb (number r 1) 16 ≡ true)
    states = both_true (leb 1 (number r 1)) (leb (number r 1) 16) p.1.1.1.0

-- ---- the query part
-- what holds after each of its records
abbrev ReadSoFar : List StreamRecord → Type 0
ReadSoFar [] = Unit {0}
ReadSoFar (h ∷ rs) = ReadQuery (query_of (h ∷ rs))

read_next : (before : List StreamRecord) (r : StreamRecord) → ReadSoFar before → Passes (query_tests before r) → ReadSoFar (before ++ (r ∷ []))
read_next [] r h p = head_read r p
read_next (x ∷ xs) r h p = subst ReadQuery (sym (query_snoc x xs r)) (later_read (query_of (x ∷ xs)) r h p)

end_read : (records : List StreamRecord) → ReadSoFar records → Passes (query_end_tests records) → ReadQuery (query_of records)
end_read [] h p = absurd (false≢true p.0)
end_read (x ∷ xs) h p = h

-- a query part whose tests pass gives a query in range, in which no rule and no state is said twice
pub query_read : (from : ℕ) (records : List StreamRecord) → Passes (query_part from records) → ReadQuery (query_of records)
query_read from records p =
    end_read records (at_each_lem query_tests from ReadSoFar read_next [] records tt (part_each query_tests query_end_tests from records p))
    (part_end query_tests query_end_tests from records p)
