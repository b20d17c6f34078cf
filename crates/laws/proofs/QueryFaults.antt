-- The head of the query, and a later record: the tests there against the causes that may apply there, where the records before passed theirs.
-- First the head, then the rules and accepting states of the records so far, then a later record: its cause 4, its cause 3, its tests.
use mathlib.Core.Path.{◌≡◌, refl, sym, ap, ◌∙◌, subst, subst₂}
use mathlib.Core.Logic.{◌⊎◌, inl, inr, ⊎_elim}
use mathlib.Core.Bool.{Bool, true, false, cond, not, ◌&&◌, ◌||◌, true≢false, false≢true}
use mathlib.Core.List.{List, [], ◌∷◌, ◌++◌, append-nil, head-eq_of_cons-eq, tail-eq_of_cons-eq, nil≢cons, cons≢nil}
use mathlib.Core.List.Memᴰ
use Prim.Native.Nat.{ℕ, ◌+◌, ◌^◌, ◌≤◌, ◌<◌}
use native.Mathlib.Omega.{arith}
use borrow.Author.Tests.{eqb-true, eqb-false, eq-eqb, leb-true, ltb-false, not-true, not-false}
use lib.Dec.{eqb, leb, ltb}
use lib.ListN.{length, get_or, drop}
use Rattle.paper.specs.Lists.{◌∈◌, has, same, all_below}
use Rattle.paper.specs.Stream.{body_length, StreamRecord, number, is_tree_kind}
use Rattle.paper.specs.Query.{side, is_rule_kind, rule_of, rules_of, accepting_of, query_of}
use Rattle.paper.specs.Refusals.{StreamTest, tree_end_tests, head_tests, in_range, has_side, is_new, later_tests, query_end_tests}
use Rattle.laws.specs.StreamCauses.{written, of_kind, RuleKind, AllTree, TreeEnds, InQuery, FaultAt, record_order}
use Rattle.laws.specs.StreamCauses.{QueryFault, no_head_first, second_head, unknown_kind, cut_record, head_out_of_range}
use Rattle.laws.specs.StreamCauses.{leaf_rule_out_of_range, branch_rule_out_of_range, state_out_of_range, many_rules}
use Rattle.laws.specs.StreamCauses.{SaidTwice, leaf_rule_twice, branch_rule_twice, state_twice}
use Rattle.laws.proofs.Lists.{both_true, or_right, same_true, same_refl, here}
use Rattle.laws.proofs.Judged.{Judged, judged_none, judged_skip, judged_test}
use Rattle.laws.proofs.Tests.{Fails, fails_at_most, fails_below, fails_and, fails_last, fails_between, passed_not}
use Rattle.laws.proofs.StreamPlaces.{first_record, cut, not_cut, begins_with, made_of, no_tree_kind, tree_ends, tree_ends_nil, one_query, Counted}
use Rattle.laws.proofs.TreeFaults.{cause_two, cause_one, cause_three, cause_four, end_judged}

-- ---- the query's part of a place: a fault after these records of the query, and back
module _ (before tree query : List StreamRecord) (bytes : List ℕ) (parts : before ≡ tree ++ query) (all : AllTree tree)
    (ends : TreeEnds (written query ++ bytes)) where
  cause_in_query : {Fault : List StreamRecord → List ℕ → Type 0} → Fault query bytes → InQuery before bytes Fault
  cause_in_query f = record { tree = tree; query = query; parts = parts; all_tree = all; tree_ends = ends; fault = f }

  in_query_cause : {Fault : List StreamRecord → List ℕ → Type 0} → InQuery before bytes Fault → Fault query bytes
  in_query_cause {Fault} f =
      let same-query = one_query tree f.tree query f.query bytes (sym parts ∙ f.parts) all f.all_tree ends f.tree_ends in
      subst (λ q. Fault q bytes) (sym same-query) f.fault

-- ---- the head of the query, or the input's end in its place
none_twice : (bytes : List ℕ) → SaidTwice [] bytes → ⊥
none_twice bytes (leaf_rule_twice r a b q q' more e m h z) = Memᴰ.not-nil m
none_twice bytes (branch_rule_twice r a b p q t t' more e m h z) = Memᴰ.not-nil m
none_twice bytes (state_twice r q more e m h z) = Memᴰ.not-nil m

-- the head's two numbers
abbrev HeadOut : ℕ → ℕ → Type 0
HeadOut arity states = (arity < 1) ⊎ ((4 < arity) ⊎ ((states < 1) ⊎ (16 < states)))

no_head_fault : (arity states : ℕ) (rest : List ℕ) → (HeadOut arity states → ⊥) → QueryFault [] (16 ∷ arity ∷ states ∷ rest) → ⊥
no_head_fault arity states rest f (no_head_first e h) = h (arity ∷ states ∷ rest) refl
no_head_fault arity states rest f (second_head h more e) = h refl
no_head_fault arity states rest f (unknown_kind k more e (inl h)) = omega (arith, head-eq_of_cons-eq e)
no_head_fault arity states rest f (unknown_kind k more e (inr h)) = omega (arith, head-eq_of_cons-eq e)
no_head_fault arity states rest f (cut_record k more e h) =
    let h' : length more < 2 = rw (← head-eq_of_cons-eq e) at h in omega (arith, ap length (tail-eq_of_cons-eq e))
no_head_fault arity states rest f (head_out_of_range a n more q e h) =
    let same-arity : a ≡ arity = cc in
    let same-states : n ≡ states = cc in
    f (subst₂ HeadOut same-arity same-states h)
no_head_fault arity states rest f (leaf_rule_out_of_range head later a b q more e z h) = nil≢cons e
no_head_fault arity states rest f (branch_rule_out_of_range head later a b p q t more e z h) = nil≢cons e
no_head_fault arity states rest f (state_out_of_range head later q more e z h) = nil≢cons e
no_head_fault arity states rest f (many_rules k more e r h) = omega arith

abbrev head_ranges : StreamRecord → List StreamTest
head_ranges r = (3, leb 1 (number r 0) && leb (number r 0) 4) ∷ (3, leb 1 (number r 1) && leb (number r 1) 16) ∷ []

module _ (before : List StreamRecord) (all : AllTree before) (counted : Counted before) where
  head_three : (bytes : List ℕ) → TreeEnds bytes → QueryFault [] bytes → FaultAt before bytes 3
  head_three bytes ends f = inr (inr (inl (refl, cause_in_query before before [] bytes (sym (append-nil before)) all ends f)))

  in_head : {Fault : List StreamRecord → List ℕ → Type 0} (bytes : List ℕ) → TreeEnds bytes → InQuery before bytes Fault → Fault [] bytes
  in_head bytes ends f = in_query_cause before before [] bytes (sym (append-nil before)) all ends f

  -- the input ends where the tree does
  pub no_query_judged : Judged (FaultAt before []) (tree_end_tests before ++ query_end_tests []) record_order
  no_query_judged =
      end_judged before [] all counted tree_ends_nil
      (judged_test (λ e. head_three [] tree_ends_nil (no_head_first refl (λ more z. nil≢cons z))) (λ e. absurd (false≢true e)))

  head_ranges_judged : (arity states : ℕ) (rest : List ℕ)
      → Judged (FaultAt before (16 ∷ arity ∷ states ∷ rest)) (head_ranges (first_record 16 (arity ∷ states ∷ rest))) (3 ∷ 4 ∷ [])
  head_ranges_judged arity states rest =
      judged_test (λ e. out (⊎_elim inl (λ h. inr (inl h)) ((fails_between 1 4 arity).0 e)))
      (λ a. judged_test (λ e. out (inr (inr ((fails_between 1 16 states).0 e))))
      (λ s. judged_skip (λ f. no_head_fault arity states rest (none a s) (in_head (16 ∷ arity ∷ states ∷ rest) ends (cause_three f)))
      (judged_skip (λ f. none_twice (16 ∷ arity ∷ states ∷ rest) (in_head (16 ∷ arity ∷ states ∷ rest) ends (cause_four f))) judged_none)))
    where
      ends : TreeEnds (16 ∷ arity ∷ states ∷ rest)
      ends = tree_ends 16 (arity ∷ states ∷ rest) refl

      out : HeadOut arity states → FaultAt before (16 ∷ arity ∷ states ∷ rest) 3
      out h = head_three (16 ∷ arity ∷ states ∷ rest) ends (head_out_of_range arity states rest refl refl h)

      none : leb 1 arity && leb arity 4 ≡ true → leb 1 states && leb states 16 ≡ true → HeadOut arity states → ⊥
      none a s (inl h) = passed_not (fails_between 1 4 arity) a (inl h)
      none a s (inr (inl h)) = passed_not (fails_between 1 4 arity) a (inr h)
      none a s (inr (inr h)) = passed_not (fails_between 1 16 states) s h

  head_whole_judged : (k : ℕ) (more : List ℕ) → k ≡ 16 → body_length k ≤ length more
      → Judged (FaultAt before (k ∷ more)) (head_ranges (first_record k more)) (3 ∷ 4 ∷ [])
  head_whole_judged k more e h =
      subst (λ j. body_length j ≤ length more → Judged (FaultAt before (j ∷ more)) (head_ranges (first_record j more)) (3 ∷ 4 ∷ [])) (sym e)
      (λ two. subst (λ m. Judged (FaultAt before (16 ∷ m)) (head_ranges (first_record 16 m)) (3 ∷ 4 ∷ [])) (sym (begins_with 2 more two))
      (head_ranges_judged (get_or more 0 0) (get_or more 1 0) (drop 2 more))) h

  -- the tests where the tree ends and of the head judge as the causes there do
  pub head_judged : (k : ℕ) (more : List ℕ) → is_tree_kind k ≡ false
      → Judged (FaultAt before (k ∷ more)) (tree_end_tests before ++ head_tests (first_record k more)) record_order
  head_judged k more kind =
      end_judged before (k ∷ more) all counted (tree_ends k more kind)
      (judged_test (λ e. head_three (k ∷ more) (tree_ends k more kind) (no_head_first refl (λ rest z. eqb-false k 16 e (head-eq_of_cons-eq z))))
      (λ h. judged_test (λ e. head_three (k ∷ more) (tree_ends k more kind) (cut_record k more refl (cut k more e)))
      (λ w. head_whole_judged k more (eqb-true k 16 h) (not_cut k more w))))

-- ---- the rules and the accepting states of the records so far
-- as many rules as records of the two kinds
rules_counted : (rs : List StreamRecord) → length (rules_of rs) ≡ of_kind 17 rs + of_kind 18 rs
rules_counted [] = refl
rules_counted (r ∷ rs) = go (eqb r.kind 17) (eqb r.kind 18) refl refl (rules_counted rs)
  where
    go : (c d : Bool) → eqb r.kind 17 ≡ c → eqb r.kind 18 ≡ d → length (rules_of rs) ≡ of_kind 17 rs + of_kind 18 rs
        → length (cond (c || d) (rule_of r ∷ rules_of rs) (rules_of rs)) ≡ cond c 1 0 + of_kind 17 rs + (cond d 1 0 + of_kind 18 rs)
    go true true e f ih = absurd (omega (arith, eqb-true r.kind 17 e, eqb-true r.kind 18 f))
    go true false e f ih = omega arith
    go false true e f ih = omega arith
    go false false e f ih = omega arith

-- some record passes the test
abbrev any_of : (StreamRecord → Bool) → List StreamRecord → Bool
any_of f [] = false
any_of f (r ∷ rs) = f r || any_of f rs

any_found : (f : StreamRecord → Bool) (rs : List StreamRecord) → any_of f rs ≡ true → (r : StreamRecord) × (r ∈ rs) × (f r ≡ true)
any_found f [] e = absurd (false≢true e)
any_found f (r ∷ rs) e = go (f r) refl e (any_found f rs)
  where
    go : (c : Bool) → f r ≡ c → c || any_of f rs ≡ true → (any_of f rs ≡ true → (x : StreamRecord) × (x ∈ rs) × (f x ≡ true))
        → (x : StreamRecord) × (x ∈ r ∷ rs) × (f x ≡ true)
    go true h w ih = (r, here, h)
    go false h w ih = let z = ih w in (z.0, Memᴰ.tail z.1, z.2)

any_stands : (f : StreamRecord → Bool) (rs : List StreamRecord) (r : StreamRecord) → r ∈ rs → f r ≡ true → any_of f rs ≡ true
any_stands f [] r m e = absurd (Memᴰ.not-nil m)
any_stands f (x ∷ rs) r m e =
    ⊎_elim (λ z. let h : f x ≡ true = rw z at e in rw h refl) (λ n. or_right (f x) (any_of f rs) (any_stands f rs r n e)) (Memᴰ.cases_cons m)

-- a rule of the records with that side, an accepting state of theirs
abbrev is_rule_with : List ℕ → StreamRecord → Bool
is_rule_with s r = is_rule_kind r.kind && same (side (rule_of r)) s

abbrev is_state : ℕ → StreamRecord → Bool
is_state q r = eqb r.kind 19 && eqb (number r 0) q

any_rule : (s : List ℕ) (rs : List StreamRecord) → has_side (rules_of rs) s ≡ any_of (is_rule_with s) rs
any_rule s [] = refl
any_rule s (r ∷ rs) = go (is_rule_kind r.kind) (any_rule s rs)
  where
    go : (c : Bool) → has_side (rules_of rs) s ≡ any_of (is_rule_with s) rs
        → has_side (cond c (rule_of r ∷ rules_of rs) (rules_of rs)) s ≡ (c && same (side (rule_of r)) s) || any_of (is_rule_with s) rs
    go true ih = ap (λ z. same (side (rule_of r)) s || z) ih
    go false ih = ih

any_state : (q : ℕ) (rs : List StreamRecord) → has (accepting_of rs) q ≡ any_of (is_state q) rs
any_state q [] = refl
any_state q (r ∷ rs) = go (eqb r.kind 19) (any_state q rs)
  where
    go : (c : Bool) → has (accepting_of rs) q ≡ any_of (is_state q) rs
        → has (cond c (number r 0 ∷ accepting_of rs) (accepting_of rs)) q ≡ (c && eqb (number r 0) q) || any_of (is_state q) rs
    go true ih = ap (λ z. eqb (number r 0) q || z) ih
    go false ih = ih

rule_kind : (k : ℕ) → is_rule_kind k ≡ true → RuleKind k
rule_kind k e = go (eqb k 17) refl e
  where
    go : (c : Bool) → eqb k 17 ≡ c → c || eqb k 18 ≡ true → RuleKind k
    go true h w = inl (eqb-true k 17 h)
    go false h w = inr (eqb-true k 18 w)

-- a whole record that has them has this kind and body
leaf_rule_like : (r : StreamRecord) (a b : ℕ) → length r.body ≡ body_length r.kind → is_rule_with (17 ∷ a ∷ b ∷ []) r ≡ true
    → (r.kind ≡ 17) × (r.body ≡ a ∷ b ∷ number r 2 ∷ [])
leaf_rule_like r a b w e = go (rule_kind r.kind (both_true (is_rule_kind r.kind) (same (side (rule_of r)) (17 ∷ a ∷ b ∷ [])) e).0)
  where
    go : RuleKind r.kind → (r.kind ≡ 17) × (r.body ≡ a ∷ b ∷ number r 2 ∷ [])
    go (inl k) =
        let left = same_true (17 ∷ number r 0 ∷ number r 1 ∷ []) (17 ∷ a ∷ b ∷ []) (rw k at e) in
        let body = made_of 3 r.body (w ∙ ap body_length k) in
        (k, cc)
    go (inr k) = absurd (false≢true (rw k at e))

branch_rule_like : (r : StreamRecord) (a b p q : ℕ) → length r.body ≡ body_length r.kind → is_rule_with (18 ∷ a ∷ b ∷ p ∷ q ∷ []) r ≡ true
    → (r.kind ≡ 18) × (r.body ≡ a ∷ b ∷ p ∷ q ∷ number r 4 ∷ [])
branch_rule_like r a b p q w e = go (rule_kind r.kind (both_true (is_rule_kind r.kind) (same (side (rule_of r)) (18 ∷ a ∷ b ∷ p ∷ q ∷ [])) e).0)
  where
    go : RuleKind r.kind → (r.kind ≡ 18) × (r.body ≡ a ∷ b ∷ p ∷ q ∷ number r 4 ∷ [])
    go (inl k) = absurd (false≢true (rw k at e))
    go (inr k) =
        let left = same_true (18 ∷ number r 0 ∷ number r 1 ∷ number r 2 ∷ number r 3 ∷ []) (18 ∷ a ∷ b ∷ p ∷ q ∷ []) (rw k at e) in
        let body = made_of 5 r.body (w ∙ ap body_length k) in
        (k, cc)

state_like : (r : StreamRecord) (q : ℕ) → length r.body ≡ body_length r.kind → is_state q r ≡ true → (r.kind ≡ 19) × (r.body ≡ q ∷ [])
state_like r q w e =
    let both = both_true (eqb r.kind 19) (eqb (number r 0) q) e in
    let k : r.kind ≡ 19 = eqb-true r.kind 19 both.0 in
    let state : number r 0 ≡ q = eqb-true (number r 0) q both.1 in
    let body = made_of 1 r.body (w ∙ ap body_length k) in
    (k, cc)

-- ---- a later record of the query
known_kind : (k : ℕ) → leb 17 k && leb k 19 ≡ true → (k ≡ 17) ⊎ ((k ≡ 18) ⊎ (k ≡ 19))
known_kind k e = go (eqb k 17) (eqb k 18) refl refl
  where
    go : (c d : Bool) → eqb k 17 ≡ c → eqb k 18 ≡ d → (k ≡ 17) ⊎ ((k ≡ 18) ⊎ (k ≡ 19))
    go true d f g = inl (eqb-true k 17 f)
    go false true f g = inr (inl (eqb-true k 18 g))
    go false false f g =
        let both = both_true (leb 17 k) (leb k 19) e in
        let no-leaf-rule : k ≡ 17 → ⊥ = eqb-false k 17 f in
        let no-branch-rule : k ≡ 18 → ⊥ = eqb-false k 18 g in
        inr (inr (omega (arith, leb-true 17 k both.0, leb-true k 19 both.1)))

module _ (head : StreamRecord) (later : List StreamRecord) (head-kind : head.kind ≡ 16)
    (all_whole : (r : StreamRecord) → r ∈ later → length r.body ≡ body_length r.kind) where
  -- the head is no rule and no accepting state
  not_the_head : {r : StreamRecord} → r ∈ head ∷ later → 16 < r.kind → r ∈ later
  not_the_head m h = ⊎_elim (λ e. let z : 16 < head.kind = rw e at h in absurd (omega (arith, head-kind))) (λ n. n) (Memᴰ.cases_cons m)

  rules_so_far : of_kind 17 (head ∷ later) + of_kind 18 (head ∷ later) ≡ length (rules_of later)
  rules_so_far = rw head-kind (omega (arith, rules_counted later))

  -- cause 4 against the tests, for each kind
  leaf_rule_said : (a b q : ℕ) (rest : List ℕ) → SaidTwice (head ∷ later) (17 ∷ a ∷ b ∷ q ∷ rest) → has_side (rules_of later) (17 ∷ a ∷ b ∷ []) ≡ true
  leaf_rule_said a b q rest (leaf_rule_twice r a' b' q' q'' more e m k body) =
      let same-a : a ≡ a' = cc in
      let same-b : b ≡ b' = cc in
      any_rule (17 ∷ a ∷ b ∷ []) later
      ∙ any_stands (is_rule_with (17 ∷ a ∷ b ∷ [])) later r (not_the_head m (omega arith))
      (rw (k, body, same-a, same-b) (same_refl (17 ∷ a' ∷ b' ∷ [])))
  leaf_rule_said a b q rest (branch_rule_twice r a' b' p' q' t t' more e m k body) = absurd (omega (arith, head-eq_of_cons-eq e))
  leaf_rule_said a b q rest (state_twice r q' more e m k body) = absurd (omega (arith, head-eq_of_cons-eq e))

  said_leaf_rule : (a b q : ℕ) (rest : List ℕ) → has_side (rules_of later) (17 ∷ a ∷ b ∷ []) ≡ true → SaidTwice (head ∷ later) (17 ∷ a ∷ b ∷ q ∷ rest)
  said_leaf_rule a b q rest h =
      let (r, m, t) = any_found (is_rule_with (17 ∷ a ∷ b ∷ [])) later (sym (any_rule (17 ∷ a ∷ b ∷ []) later) ∙ h) in
      let l = leaf_rule_like r a b (all_whole r m) t in
      leaf_rule_twice r a b q (number r 2) rest refl (Memᴰ.tail m) l.0 l.1

  branch_rule_said : (a b p q t : ℕ) (rest : List ℕ) → SaidTwice (head ∷ later) (18 ∷ a ∷ b ∷ p ∷ q ∷ t ∷ rest)
      → has_side (rules_of later) (18 ∷ a ∷ b ∷ p ∷ q ∷ []) ≡ true
  branch_rule_said a b p q t rest (leaf_rule_twice r a' b' q' q'' more e m k body) = absurd (omega (arith, head-eq_of_cons-eq e))
  branch_rule_said a b p q t rest (branch_rule_twice r a' b' p' q' t' t'' more e m k body) =
      let same-a : a ≡ a' = cc in
      let same-b : b ≡ b' = cc in
      let same-p : p ≡ p' = cc in
      let same-q : q ≡ q' = cc in
      any_rule (18 ∷ a ∷ b ∷ p ∷ q ∷ []) later
      ∙ any_stands (is_rule_with (18 ∷ a ∷ b ∷ p ∷ q ∷ [])) later r (not_the_head m (omega arith))
      (rw (k, body, same-a, same-b, same-p, same-q) (same_refl (18 ∷ a' ∷ b' ∷ p' ∷ q' ∷ [])))
  branch_rule_said a b p q t rest (state_twice r q' more e m k body) = absurd (omega (arith, head-eq_of_cons-eq e))

  said_branch_rule : (a b p q t : ℕ) (rest : List ℕ) → has_side (rules_of later) (18 ∷ a ∷ b ∷ p ∷ q ∷ []) ≡ true
      → SaidTwice (head ∷ later) (18 ∷ a ∷ b ∷ p ∷ q ∷ t ∷ rest)
  said_branch_rule a b p q t rest h =
      let (r, m, z) = any_found (is_rule_with (18 ∷ a ∷ b ∷ p ∷ q ∷ [])) later (sym (any_rule (18 ∷ a ∷ b ∷ p ∷ q ∷ []) later) ∙ h) in
      let l = branch_rule_like r a b p q (all_whole r m) z in
      branch_rule_twice r a b p q t (number r 4) rest refl (Memᴰ.tail m) l.0 l.1

  state_said : (q : ℕ) (rest : List ℕ) → SaidTwice (head ∷ later) (19 ∷ q ∷ rest) → has (accepting_of later) q ≡ true
  state_said q rest (leaf_rule_twice r a' b' q' q'' more e m k body) = absurd (omega (arith, head-eq_of_cons-eq e))
  state_said q rest (branch_rule_twice r a' b' p' q' t t' more e m k body) = absurd (omega (arith, head-eq_of_cons-eq e))
  state_said q rest (state_twice r q' more e m k body) =
      any_state q later
      ∙ any_stands (is_state q) later r (not_the_head m (omega arith))
      (rw (k, body) (eq-eqb q' q (sym (head-eq_of_cons-eq (tail-eq_of_cons-eq e)))))

  said_state : (q : ℕ) (rest : List ℕ) → has (accepting_of later) q ≡ true → SaidTwice (head ∷ later) (19 ∷ q ∷ rest)
  said_state q rest h =
      let (r, m, t) = any_found (is_state q) later (sym (any_state q later) ∙ h) in
      let l = state_like r q (all_whole r m) t in
      state_twice r q rest refl (Memᴰ.tail m) l.0 l.1

  -- what cause 3 says of a rule or an accepting state that is whole
  abbrev LeafRuleOut : ℕ → ℕ → ℕ → Type 0
  LeafRuleOut a b q = (63 < a) ⊎ ((2 ^ number head 0 ≤ b) ⊎ (number head 1 ≤ q))

  abbrev BranchRuleOut : ℕ → ℕ → ℕ → ℕ → ℕ → Type 0
  BranchRuleOut a b p q t = (63 < a) ⊎ ((2 ^ number head 0 ≤ b) ⊎ ((number head 1 ≤ p) ⊎ ((number head 1 ≤ q) ⊎ (number head 1 ≤ t))))

  leaf_rule_fault : (a b q : ℕ) (rest : List ℕ) → QueryFault (head ∷ later) (17 ∷ a ∷ b ∷ q ∷ rest)
      → LeafRuleOut a b q ⊎ (1024 ≤ of_kind 17 (head ∷ later) + of_kind 18 (head ∷ later))
  leaf_rule_fault a b q rest (no_head_first e h) = absurd (cons≢nil e)
  leaf_rule_fault a b q rest (second_head h more e) = absurd (omega (arith, head-eq_of_cons-eq e))
  leaf_rule_fault a b q rest (unknown_kind k more e (inl h)) = absurd (omega (arith, head-eq_of_cons-eq e))
  leaf_rule_fault a b q rest (unknown_kind k more e (inr h)) = absurd (omega (arith, head-eq_of_cons-eq e))
  leaf_rule_fault a b q rest (cut_record k more e h) =
      let h' : length more < 3 = rw (← head-eq_of_cons-eq e) at h in absurd (omega (arith, ap length (tail-eq_of_cons-eq e)))
  leaf_rule_fault a b q rest (head_out_of_range x n more e z h) = absurd (cons≢nil e)
  leaf_rule_fault a b q rest (leaf_rule_out_of_range head' later' a' b' q' more e z h) =
      let same_head : head' ≡ head = cc in
      let same-a : a' ≡ a = cc in
      let same-b : b' ≡ b = cc in
      let same-q : q' ≡ q = cc in
      inl (rw (same_head, same-a, same-b, same-q) at h)
  leaf_rule_fault a b q rest (branch_rule_out_of_range head' later' a' b' p' q' t' more e z h) = absurd (omega (arith, head-eq_of_cons-eq z))
  leaf_rule_fault a b q rest (state_out_of_range head' later' q' more e z h) = absurd (omega (arith, head-eq_of_cons-eq z))
  leaf_rule_fault a b q rest (many_rules k more e r h) = inr h

  branch_rule_fault : (a b p q t : ℕ) (rest : List ℕ) → QueryFault (head ∷ later) (18 ∷ a ∷ b ∷ p ∷ q ∷ t ∷ rest)
      → BranchRuleOut a b p q t ⊎ (1024 ≤ of_kind 17 (head ∷ later) + of_kind 18 (head ∷ later))
  branch_rule_fault a b p q t rest (no_head_first e h) = absurd (cons≢nil e)
  branch_rule_fault a b p q t rest (second_head h more e) = absurd (omega (arith, head-eq_of_cons-eq e))
  branch_rule_fault a b p q t rest (unknown_kind k more e (inl h)) = absurd (omega (arith, head-eq_of_cons-eq e))
  branch_rule_fault a b p q t rest (unknown_kind k more e (inr h)) = absurd (omega (arith, head-eq_of_cons-eq e))
  branch_rule_fault a b p q t rest (cut_record k more e h) =
      let h' : length more < 5 = rw (← head-eq_of_cons-eq e) at h in absurd (omega (arith, ap length (tail-eq_of_cons-eq e)))
  branch_rule_fault a b p q t rest (head_out_of_range x n more e z h) = absurd (cons≢nil e)
  branch_rule_fault a b p q t rest (leaf_rule_out_of_range head' later' a' b' q' more e z h) = absurd (omega (arith, head-eq_of_cons-eq z))
  branch_rule_fault a b p q t rest (branch_rule_out_of_range head' later' a' b' p' q' t' more e z h) =
      let same_head : head' ≡ head = cc in
      let same-a : a' ≡ a = cc in
      let same-b : b' ≡ b = cc in
      let same-p : p' ≡ p = cc in
      let same-q : q' ≡ q = cc in
      let same-t : t' ≡ t = cc in
      inl (rw (same_head, same-a, same-b, same-p, same-q, same-t) at h)
  branch_rule_fault a b p q t rest (state_out_of_range head' later' q' more e z h) = absurd (omega (arith, head-eq_of_cons-eq z))
  branch_rule_fault a b p q t rest (many_rules k more e r h) = inr h

  state_fault : (q : ℕ) (rest : List ℕ) → QueryFault (head ∷ later) (19 ∷ q ∷ rest) → number head 1 ≤ q
  state_fault q rest (no_head_first e h) = absurd (cons≢nil e)
  state_fault q rest (second_head h more e) = absurd (omega (arith, head-eq_of_cons-eq e))
  state_fault q rest (unknown_kind k more e (inl h)) = absurd (omega (arith, head-eq_of_cons-eq e))
  state_fault q rest (unknown_kind k more e (inr h)) = absurd (omega (arith, head-eq_of_cons-eq e))
  state_fault q rest (cut_record k more e h) =
      let h' : length more < 1 = rw (← head-eq_of_cons-eq e) at h in absurd (omega (arith, ap length (tail-eq_of_cons-eq e)))
  state_fault q rest (head_out_of_range x n more e z h) = absurd (cons≢nil e)
  state_fault q rest (leaf_rule_out_of_range head' later' a' b' q' more e z h) = absurd (omega (arith, head-eq_of_cons-eq z))
  state_fault q rest (branch_rule_out_of_range head' later' a' b' p' q' t' more e z h) = absurd (omega (arith, head-eq_of_cons-eq z))
  state_fault q rest (state_out_of_range head' later' q' more e z h) =
      let same_head : head' ≡ head = cc in
      let same-q : q' ≡ q = cc in
      rw (same_head, same-q) at h
  state_fault q rest (many_rules k more e (inl r) h) = absurd (omega (arith, head-eq_of_cons-eq e))
  state_fault q rest (many_rules k more e (inr r) h) = absurd (omega (arith, head-eq_of_cons-eq e))

  -- where the input ends there is no fault any more
  no_fault_left : QueryFault (head ∷ later) [] → ⊥
  no_fault_left (no_head_first e h) = cons≢nil e
  no_fault_left (second_head h more e) = nil≢cons e
  no_fault_left (unknown_kind k more e h) = nil≢cons e
  no_fault_left (cut_record k more e h) = nil≢cons e
  no_fault_left (head_out_of_range x n more e z h) = nil≢cons z
  no_fault_left (leaf_rule_out_of_range head' later' a' b' q' more e z h) = nil≢cons z
  no_fault_left (branch_rule_out_of_range head' later' a' b' p' q' t' more e z h) = nil≢cons z
  no_fault_left (state_out_of_range head' later' q' more e z h) = nil≢cons z
  no_fault_left (many_rules k more e r h) = nil≢cons e

  none_twice_left : SaidTwice (head ∷ later) [] → ⊥
  none_twice_left (leaf_rule_twice r a b q q' more e m h z) = nil≢cons e
  none_twice_left (branch_rule_twice r a b p q t t' more e m h z) = nil≢cons e
  none_twice_left (state_twice r q more e m h z) = nil≢cons e

  module _ (before tree : List StreamRecord) (parts : before ≡ tree ++ (head ∷ later)) (all : AllTree tree) where
    ends_before_head : (bytes : List ℕ) → TreeEnds (written (head ∷ later) ++ bytes)
    ends_before_head bytes = tree_ends head.kind _ (rw head-kind refl)

    -- the head is no tree record
    not_all_tree : AllTree before → ⊥
    not_all_tree a = no_tree_kind head.kind (rw head-kind refl) (a head (rw parts (Memᴰ.append_right tree here)))

    later_three : {bytes : List ℕ} → QueryFault (head ∷ later) bytes → FaultAt before bytes 3
    later_three {bytes} f = inr (inr (inl (refl, cause_in_query before tree (head ∷ later) bytes parts all (ends_before_head bytes) f)))

    later_four : {bytes : List ℕ} → SaidTwice (head ∷ later) bytes → FaultAt before bytes 4
    later_four {bytes} f = inr (inr (inr (refl, cause_in_query before tree (head ∷ later) bytes parts all (ends_before_head bytes) f)))

    in_later : {Fault : List StreamRecord → List ℕ → Type 0} {bytes : List ℕ} → InQuery before bytes Fault → Fault (head ∷ later) bytes
    in_later {bytes = bytes} f = in_query_cause before tree (head ∷ later) bytes parts all (ends_before_head bytes) f

    -- causes 2 and 1 are the tree's
    after_tree : {bytes : List ℕ} {ts : List StreamTest} → Judged (FaultAt before bytes) ts (3 ∷ 4 ∷ []) → Judged (FaultAt before bytes) ts record_order
    after_tree j = judged_skip (λ f. not_all_tree (cause_two f).0) (judged_skip (λ f. not_all_tree (cause_one f).0) j)

    -- the input ends after records of the query
    pub query_end_judged : Judged (FaultAt before []) (query_end_tests (head ∷ later)) record_order
    query_end_judged =
        after_tree (judged_test (λ e. absurd (true≢false e))
        (λ e. judged_skip (λ f. no_fault_left (in_later (cause_three f))) (judged_skip (λ f. none_twice_left (in_later (cause_four f))) judged_none)))

    -- the tests after the kind and the body's length
    abbrev later_ranges : StreamRecord → List StreamTest
    later_ranges r =
        (3, in_range (query_of (head ∷ later)) r)
        ∷ (3, not (is_rule_kind r.kind) || ltb (length (rules_of later)) 1024)
        ∷ (4, is_new (query_of (head ∷ later)) r)
        ∷ []

    many : Fails (ltb (length (rules_of later)) 1024) (1024 ≤ of_kind 17 (head ∷ later) + of_kind 18 (head ∷ later))
    many = rw rules_so_far (fails_below (length (rules_of later)) 1024)

    leaf_rule_judged : (a b q : ℕ) (rest : List ℕ)
        → Judged (FaultAt before (17 ∷ a ∷ b ∷ q ∷ rest)) (later_ranges (first_record 17 (a ∷ b ∷ q ∷ rest))) (3 ∷ 4 ∷ [])
    leaf_rule_judged a b q rest =
        judged_test (λ e. later_three (leaf_rule_out_of_range head later a b q rest refl refl (range.0 e)))
        (λ r. judged_test (λ e. later_three (many_rules 17 (a ∷ b ∷ q ∷ rest) refl (inl refl) (many.0 e)))
        (λ few. judged_skip (λ f. ⊎_elim (passed_not range r) (passed_not many few) (leaf_rule_fault a b q rest (in_later (cause_three f))))
        (judged_test (λ e. later_four (said_leaf_rule a b q rest (not-false _ e)))
        (λ new. judged_skip (λ f. true≢false (sym (leaf_rule_said a b q rest (in_later (cause_four f))) ∙ not-true _ new)) judged_none))))
      where
        range : Fails (leb a 63 && (ltb b (2 ^ number head 0) && all_below (number head 1) (q ∷ []))) (LeafRuleOut a b q)
        range = fails_and (fails_at_most a 63) (fails_and (fails_below b (2 ^ number head 0)) (fails_last (fails_below q (number head 1))))

    branch_rule_judged : (a b p q t : ℕ) (rest : List ℕ)
        → Judged (FaultAt before (18 ∷ a ∷ b ∷ p ∷ q ∷ t ∷ rest)) (later_ranges (first_record 18 (a ∷ b ∷ p ∷ q ∷ t ∷ rest))) (3 ∷ 4 ∷ [])
    branch_rule_judged a b p q t rest =
        judged_test (λ e. later_three (branch_rule_out_of_range head later a b p q t rest refl refl (range.0 e)))
        (λ r. judged_test (λ e. later_three (many_rules 18 (a ∷ b ∷ p ∷ q ∷ t ∷ rest) refl (inr refl) (many.0 e)))
        (λ few. judged_skip (λ f. ⊎_elim (passed_not range r) (passed_not many few) (branch_rule_fault a b p q t rest (in_later (cause_three f))))
        (judged_test (λ e. later_four (said_branch_rule a b p q t rest (not-false _ e)))
        (λ new. judged_skip (λ f. true≢false (sym (branch_rule_said a b p q t rest (in_later (cause_four f))) ∙ not-true _ new)) judged_none))))
      where
        range : Fails (leb a 63 && (ltb b (2 ^ number head 0) && all_below (number head 1) (p ∷ q ∷ t ∷ []))) (BranchRuleOut a b p q t)
        range =
            fails_and (fails_at_most a 63) (fails_and (fails_below b (2 ^ number head 0))
            (fails_and (fails_below p (number head 1)) (fails_and (fails_below q (number head 1)) (fails_last (fails_below t (number head 1))))))

    state_judged : (q : ℕ) (rest : List ℕ) → Judged (FaultAt before (19 ∷ q ∷ rest)) (later_ranges (first_record 19 (q ∷ rest))) (3 ∷ 4 ∷ [])
    state_judged q rest =
        judged_test (λ e. later_three (state_out_of_range head later q rest refl refl (ltb-false q (number head 1) e)))
        (λ r. judged_test (λ e. absurd (true≢false e))
        (λ few. judged_skip (λ f. passed_not (fails_below q (number head 1)) r (state_fault q rest (in_later (cause_three f))))
        (judged_test (λ e. later_four (said_state q rest (not-false _ e)))
        (λ new. judged_skip (λ f. true≢false (sym (state_said q rest (in_later (cause_four f))) ∙ not-true _ new)) judged_none))))

    abbrev LaterRangesJudged : ℕ → List ℕ → Type 0
    LaterRangesJudged k more = Judged (FaultAt before (k ∷ more)) (later_ranges (first_record k more)) (3 ∷ 4 ∷ [])

    -- a rule or an accepting state with a whole body
    later_whole_judged : (k : ℕ) (more : List ℕ) → (k ≡ 17) ⊎ ((k ≡ 18) ⊎ (k ≡ 19)) → body_length k ≤ length more → LaterRangesJudged k more
    later_whole_judged k more (inl e) h =
        subst (λ j. body_length j ≤ length more → LaterRangesJudged j more) (sym e)
        (λ l. subst (LaterRangesJudged 17) (sym (begins_with 3 more l))
        (leaf_rule_judged (get_or more 0 0) (get_or more 1 0) (get_or more 2 0) (drop 3 more))) h
    later_whole_judged k more (inr (inl e)) h =
        subst (λ j. body_length j ≤ length more → LaterRangesJudged j more) (sym e)
        (λ l. subst (LaterRangesJudged 18) (sym (begins_with 5 more l))
        (branch_rule_judged (get_or more 0 0) (get_or more 1 0) (get_or more 2 0) (get_or more 3 0) (get_or more 4 0) (drop 5 more))) h
    later_whole_judged k more (inr (inr e)) h =
        subst (λ j. body_length j ≤ length more → LaterRangesJudged j more) (sym e)
        (λ l. subst (LaterRangesJudged 19) (sym (begins_with 1 more l)) (state_judged (get_or more 0 0) (drop 1 more))) h

    other_kind : (k : ℕ) (more : List ℕ) → (k < 17) ⊎ (19 < k) → QueryFault (head ∷ later) (k ∷ more)
    other_kind k more (inr h) = unknown_kind k more refl (inr h)
    other_kind k more (inl h) = go (eqb k 16) refl
      where
        go : (c : Bool) → eqb k 16 ≡ c → QueryFault (head ∷ later) (k ∷ more)
        go true e = second_head (λ z. cons≢nil z) more (ap {B = List ℕ} (λ j. j ∷ more) (eqb-true k 16 e))
        go false e = let z : k ≡ 16 → ⊥ = eqb-false k 16 e in unknown_kind k more refl (inl (omega arith))

    -- the tests of a later record judge as its causes do
    pub later_judged : (k : ℕ) (more : List ℕ)
        → Judged (FaultAt before (k ∷ more)) (later_tests (query_of (head ∷ later)) (first_record k more)) record_order
    later_judged k more =
        after_tree (judged_test (λ e. later_three (other_kind k more ((fails_between 17 19 k).0 e)))
        (λ known. judged_test (λ e. later_three (cut_record k more refl (cut k more e)))
        (λ w. later_whole_judged k more (known_kind k known) (not_cut k more w))))
