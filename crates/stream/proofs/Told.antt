-- What the lists tell their readers. First that records passed lead to the position of a record, then the readers of the first and of the
-- next rule, then that the lists lead to all rules of a symbol, in their order.
use mathlib.Core.Bool.{cond, false, true}
use mathlib.Core.List.Memᴰ
use mathlib.Core.List.{List, [], ◌++◌, ◌∷◌, append_assoc, map}
use mathlib.Core.Logic.{inl, inr, ⊎_elim}
use mathlib.Core.Path.{◌∙◌, ◌≡◌, ap, refl, subst, sym}
use Prim.Native.Nat.{◌+◌, ◌<◌, ◌≤◌, suc, zero, ℕ}
use native.Mathlib.Omega.{arith}
use borrow.Author.Tests.{eqb-true, le-ltb, lt-ltb, ltb-false, ltb-true}
use lib.Dec.{eqb, ltb}
use lib.ListN.{drop, get_or, length, length-append, length-drop}
use Rattle.paper.specs.Lists.{◌∈◌}
use Rattle.paper.specs.Query.{is_rule_kind}
use Rattle.paper.specs.Stream.{StreamRecord, body_length, number, records_of, records_within}
use Rattle.laws.specs.StreamCauses.{RuleKind}
use Rattle.laws.proofs.Lists.{both_true, here, which}
use Rattle.stream.specs.Positions.{NextRule, after, is_rule_for, record_at}
use Rattle.stream.specs.RuleLists.{RuleLists, TellsNext, cell_of, chain, is_for, kind_for, label_for, place, positions, rules_for}
use Rattle.stream.specs.RuleLists.{symbol, symbols}
use Rattle.stream.proofs.Positions.{one_rest, records_here, records_none}
use Rattle.stream.proofs.Symbols.{its_kind, its_label, place_from, symbol_low}

-- ---- positions that records lead to
next_place : (input : List ℕ) (from i : ℕ) → place input (after input from) i ≡ place input from (suc i)
next_place input from zero = refl
next_place input from (suc i) = ap (after input) (next_place input from i)

-- so where the records passed and those from a position on are all records, the position is the place behind those passed
pub place_found : (passed : List StreamRecord) (input : List ℕ) (from rule : ℕ) → rule < length input
    → records_of (drop from input) ≡ passed ++ records_of (drop rule input) → place input from (length passed) ≡ rule
place_found [] input from rule h e = omega (arith, one_rest input from rule e)
place_found (r ∷ rs) input from rule h e =
    ⊎_elim
    (λ w. sym (next_place input from (length rs)) ∙ place_found rs input (after input from) rule h (rest (ltb-true from (length input) w)))
    (λ w. absurd (none (ltb-false from (length input) w))) (which (ltb from (length input)))
  where
    rest : from < length input → records_of (drop (after input from) input) ≡ rs ++ records_of (drop rule input)
    rest w = cc (records_here input from w, e)

    none : length input ≤ from → ⊥
    none w = let z : ◌≡◌ {A = ℕ} 0 1 = cc (records_none input from w, e) in omega arith

-- it is not before the first of them
pub led_behind : (passed : List StreamRecord) (input : List ℕ) (from rule : ℕ) → rule < length input
    → records_of (drop from input) ≡ passed ++ records_of (drop rule input) → from ≤ rule
led_behind passed input from rule h e = subst (λ p. from ≤ p) (place_found passed input from rule h e) (place_from input from (length passed))

-- ---- the two readers
-- the rule behind one of a symbol
next_told : (input : List ℕ) (from : ℕ) (lists : List ℕ) → RuleLists input from lists → (s rule : ℕ) (passed : List StreamRecord) → s < symbols
    → rule < length input → records_of (drop from input) ≡ passed ++ records_of (drop rule input) → is_for s (record_at input rule) ≡ true
    → NextRule input (after input rule) (kind_for s) (label_for s) (get_or lists (cell_of from rule) 0)
next_told input from lists k s rule passed low h e is =
    subst (λ p. NextRule input (after input p) (kind_for s) (label_for s) (get_or lists (cell_of from p) 0)) stands
    (k.next s (length passed) low (omega (arith, stands)) (subst (λ p. is_for s (record_at input p) ≡ true) (sym stands) is))
  where
    stands : place input from (length passed) ≡ rule
    stands = place_found passed input from rule h e

-- what holds of a symbol's kind and label holds of the kind and label that it is made of
module _ (kind label : ℕ) (rule : RuleKind kind) (low : label ≤ 63) where
  of_symbol : (P : ℕ → ℕ → Type 0) → P (kind_for (symbol kind label)) (label_for (symbol kind label)) → P kind label
  of_symbol P h = subst (λ a. P a label) (its_kind kind label rule low) (subst (P (kind_for (symbol kind label))) (its_label kind label rule low) h)

rule_kind : (kind label : ℕ) (r : StreamRecord) → is_rule_for kind label r ≡ true → RuleKind kind
rule_kind kind label r e = ⊎_elim (λ w. inl (eqb-true kind 17 w)) (λ w. inr (eqb-true kind 18 (branch w))) (which (eqb kind 17))
  where
    is_kind : is_rule_kind kind ≡ true
    is_kind = (both_true (is_rule_kind kind) (eqb (number r 0) label) (both_true (eqb r.kind kind) _ e).1).0

    branch : eqb kind 17 ≡ false → eqb kind 18 ≡ true
    branch w = rw w at is_kind

pub tells_next : (lists : List ℕ) (from rule : ℕ) → TellsNext lists from rule (get_or lists (cell_of from rule) 0)
tells_next lists from rule input kind label passed k low h e is =
    of_symbol kind label kind_is low (λ a l. NextRule input (after input rule) a l (get_or lists (cell_of from rule) 0))
    (next_told input from lists k (symbol kind label) rule passed (symbol_low kind label kind_is low) h e
    (rw (its_kind kind label kind_is low, its_label kind label kind_is low) is))
  where
    kind_is : RuleKind kind
    kind_is = rule_kind kind label (record_at input rule) is

-- ---- all rules of a symbol
-- records that are none of its rules add none
rules_skipped : (s : ℕ) (xs ys : List StreamRecord) → ((r : StreamRecord) → r ∈ xs → is_for s r ≡ false)
    → rules_for s (xs ++ ys) ≡ rules_for s ys
rules_skipped s [] ys h = refl
rules_skipped s (x ∷ xs) ys h = rw (h x here) (rules_skipped s xs ys (λ r m. h r (Memᴰ.tail m)))

-- no records, no rules
rules_none : (s : ℕ) (xs : List StreamRecord) → length xs ≤ 0 → [] ≡ rules_for s xs
rules_none s [] h = refl
rules_none s (x ∷ xs) h = absurd (omega arith)

-- there are no more records than bytes
few_records : (n : ℕ) (bytes : List ℕ) → length (records_within n bytes) ≤ n
few_records zero bytes = omega arith
few_records (suc n) [] = omega arith
few_records (suc n) (k ∷ bytes) = omega (arith, few_records n (drop (body_length k) bytes))

module _ (input : List ℕ) (from : ℕ) (lists : List ℕ) (k : RuleLists input from lists) (s : ℕ) (low : s < symbols) where
  -- the records passed up to a position, and the rule that is next from there on
  pub record Reached (start rule : ℕ) : Type 0 where
    pub passed : List StreamRecord
    pub led : records_of (drop from input) ≡ passed ++ records_of (drop start input)
    pub next : NextRule input start (kind_for s) (label_for s) rule

  module _ (start rule : ℕ) (c : Reached start rule) where
    -- the records up to that rule are passed over
    rules_from : rules_for s (records_of (drop start input)) ≡ rules_for s (records_of (drop rule input))
    rules_from = ap (rules_for s) c.next.records ∙ rules_skipped s c.next.skipped (records_of (drop rule input)) c.next.no_rule

    module _ (h : rule < length input) (is : is_for s (record_at input rule) ≡ true) where
      led_here : records_of (drop from input) ≡ (c.passed ++ c.next.skipped) ++ records_of (drop rule input)
      led_here =
          c.led ∙ ap (λ z. c.passed ++ z) c.next.records
          ∙ sym (append_assoc c.passed c.next.skipped (records_of (drop rule input)))

      -- from behind the rule on, the one that its cell tells is next
      comes_next : Reached (after input rule) (get_or lists (cell_of from rule) 0)
      comes_next = record {
        passed = (c.passed ++ c.next.skipped) ++ (record_at input rule ∷ []);
        led =
            led_here ∙ ap (λ z. (c.passed ++ c.next.skipped) ++ z) (records_here input rule h)
            ∙ sym (append_assoc (c.passed ++ c.next.skipped) (record_at input rule ∷ []) (records_of (drop (after input rule) input)));
        next = next_told input from lists k s rule (c.passed ++ c.next.skipped) low h led_here is;
      }

      -- and fewer records are left
      fewer : length (records_of (drop start input)) ≡ length c.next.skipped + suc (length (records_of (drop (after input rule) input)))
      fewer =
          ap length c.next.records ∙ length-append c.next.skipped (records_of (drop rule input))
          ∙ ap (λ z. length c.next.skipped + length z) (records_here input rule h)

      -- the rule, then those behind it
      rules_here : rules_for s (records_of (drop start input)) ≡ record_at input rule ∷ rules_for s (records_of (drop (after input rule) input))
      rules_here = rules_from ∙ ap (rules_for s) (records_here input rule h) ∙ rw is refl

  -- the chain from a rule on, which ends with the records
  chain_right : (most start rule : ℕ) → Reached start rule → length (records_of (drop start input)) ≤ most
      → map (record_at input) (chain most lists from (length input) rule) ≡ rules_for s (records_of (drop start input))
  chain_right zero start rule c few = rules_none s (records_of (drop start input)) few
  chain_right (suc most) start rule c few =
      ⊎_elim ends
      (λ w.
      on w.0 w.1
      (chain_right most (after input rule) (get_or lists (cell_of from rule) 0) (comes_next start rule c w.0 w.1)
      (omega (arith, fewer start rule c w.0 w.1))))
      c.next.found
    where
      positions_on : List ℕ
      positions_on = chain most lists from (length input) (get_or lists (cell_of from rule) 0)

      ends : rule ≡ length input
          → map (record_at input) (cond (ltb rule (length input)) (rule ∷ positions_on) []) ≡ rules_for s (records_of (drop start input))
      ends e =
          rw (le-ltb rule (length input) (omega arith)) (sym (rules_from start rule c ∙ ap (rules_for s) (records_none input rule (omega arith))))

      on : rule < length input → is_for s (record_at input rule) ≡ true
          → map (record_at input) positions_on ≡ rules_for s (records_of (drop (after input rule) input))
          → map (record_at input) (cond (ltb rule (length input)) (rule ∷ positions_on) []) ≡ rules_for s (records_of (drop start input))
      on h is ih =
          rw (lt-ltb rule (length input) h)
          (ap {B = List StreamRecord} (λ z. record_at input rule ∷ z) ih ∙ sym (rules_here start rule c h is))

  -- the positions that the lists lead to are those of the symbol's rules, in the order of the file
  pub listed_right : map (record_at input) (positions input from lists s) ≡ rules_for s (records_of (drop from input))
  listed_right =
      chain_right (length input) from (get_or lists s 0) (record { passed = []; led = refl; next = k.first s low })
      (omega (arith, few_records (length (drop from input)) (drop from input), length-drop from input))
