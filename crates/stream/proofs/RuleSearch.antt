-- Rules of a kind and a label. First whether one stands at a position, said of the bytes, then the records that a search has skipped.
use mathlib.Core.Bool.{false, true}
use mathlib.Core.List.Memᴰ
use mathlib.Core.List.{List, [], ◌++◌, ◌∷◌, append_assoc}
use mathlib.Core.Logic.{inl, inr, ⊎_elim}
use mathlib.Core.Path.{◌∙◌, ◌≡◌, ap, refl, subst, sym}
use Prim.Native.Nat.{◌+◌, ◌<◌, ◌≤◌, ℕ}
use native.Mathlib.Omega.{arith}
use borrow.Author.Tests.{eq-eqb, eqb-false, eqb-true, ne_eqb}
use lib.Dec.{eqb}
use lib.ListN.{drop, get_or, length}
use Rattle.paper.specs.Lists.{◌∈◌}
use Rattle.paper.specs.Query.{is_rule_kind}
use Rattle.paper.specs.Stream.{StreamRecord, body_length, number, records_of}
use Rattle.laws.specs.StreamCauses.{RuleKind}
use Rattle.laws.proofs.Lists.{only, which}
use Rattle.stream.specs.Positions.{NextRule, after, is_rule_for, record_at}
use Rattle.stream.proofs.Positions.{number_byte, records_here, records_none}

-- ---- one record
pub rule_between : (k : ℕ) → 17 ≤ k → k ≤ 18 → RuleKind k
rule_between k a b = ⊎_elim (λ c. inl (eqb-true k 17 c)) (λ c. inr (let n = eqb-false k 17 c in omega arith)) (which (eqb k 17))

module _ (input : List ℕ) (at kind label : ℕ) (inside : at < length input) where
  -- not if its kind is another
  pub other_kind : (get_or input at 0 ≡ kind → ⊥) → false ≡ is_rule_for kind label (record_at input at)
  other_kind h = rw (ne_eqb (get_or input at 0) kind h) refl

  module _ (same : get_or input at 0 ≡ kind) where
    this_kind : eqb (get_or input at 0) kind ≡ true
    this_kind = eq-eqb (get_or input at 0) kind same

    module _ (rule : RuleKind kind) where
      rule_kind : is_rule_kind kind ≡ true
      rule_kind = ⊎_elim (λ e. rw e refl) (λ e. rw e refl) rule

      some_numbers : 1 ≤ body_length kind
      some_numbers = ⊎_elim (λ e. rw e (omega arith)) (λ e. rw e (omega arith)) rule

      its_label : number (record_at input at) 0 ≡ get_or input (at + 1) 0
      its_label = number_byte input at kind 0 (at + 1) same some_numbers (omega arith)

      -- else by its label
      pub by_label : eqb (get_or input (at + 1) 0) label ≡ is_rule_for kind label (record_at input at)
      by_label = rw (this_kind, rule_kind, its_label) refl

-- ---- the records skipped: none of them is a rule that is sought
pub record Skipped (input : List ℕ) (at kind label next : ℕ) : Type 0 where
  pub skipped : List StreamRecord
  pub records : records_of (drop at input) ≡ skipped ++ records_of (drop next input)
  pub no_rule : (r : StreamRecord) → r ∈ skipped → is_rule_for kind label r ≡ false

pub none_skipped : (input : List ℕ) (at kind label : ℕ) → Skipped input at kind label at
none_skipped input at kind label = record { skipped = []; records = refl; no_rule = λ r m. absurd (Memᴰ.not-nil m) }

module _ (input : List ℕ) (at kind label next : ℕ) (k : Skipped input at kind label next) where
  module _ (inside : next < length input) where
    -- one more, or the rule
    pub one_skipped : is_rule_for kind label (record_at input next) ≡ false → Skipped input at kind label (after input next)
    one_skipped h = record {
      skipped = k.skipped ++ (record_at input next ∷ []);
      records =
          k.records ∙ ap (λ z. k.skipped ++ z) (records_here input next inside)
          ∙ sym (append_assoc k.skipped (record_at input next ∷ []) (records_of (drop (after input next) input)));
      no_rule = λ r m. ⊎_elim (k.no_rule r) (this_one r) (Memᴰ.append_cases k.skipped m);
    }
      where
        this_one : (r : StreamRecord) → r ∈ record_at input next ∷ [] → is_rule_for kind label r ≡ false
        this_one r n = subst (λ s. is_rule_for kind label s ≡ false) (sym (only n)) h

    pub rule_found : is_rule_for kind label (record_at input next) ≡ true → NextRule input at kind label next
    rule_found h = record { skipped = k.skipped; records = k.records; no_rule = k.no_rule; found = inr (inside, h) }

  -- there is none
  pub all_skipped : length input ≤ next → NextRule input at kind label (length input)
  all_skipped h = record {
    skipped = k.skipped;
    records = k.records ∙ ap (λ z. k.skipped ++ z) (records_none input next h ∙ sym (records_none input (length input) (omega arith)));
    no_rule = k.no_rule;
    found = inl refl;
  }
