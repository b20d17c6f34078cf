-- The keys of records that fit. First digits with any radix, then the key of a record: what the record says can be read from it, so two
-- have one key exactly if they say the same. Last the records before one: it is new exactly if none of them has its key.
use mathlib.Core.Bool.{Bool, ◌||◌, and-true, cond, false, not, true, true≢false}
use mathlib.Core.List.Memᴰ
use mathlib.Core.List.{List, [], ◌∷◌, map}
use mathlib.Core.Path.{◌∙◌, ◌≡◌, ap, refl, sym}
use Prim.Native.Nat.{◌%◌, ◌*◌, ◌+◌, ◌-◌, ◌/◌, ◌<◌, ◌≤◌, suc, ℕ}
use native.Mathlib.Nat.{div-eq_of_lt, mod-eq_of_lt, mul-add-div_right, mul-add-mod_self_right, mul-le-mul_right}
use native.Mathlib.Omega.{arith}
use borrow.Author.Tests.{eq-eqb, eqb-true, le-ltb, lt-ltb, ne_eqb}
use lib.Dec.{eqb, ltb}
use lib.ListN.{length}
use Rattle.paper.specs.Lists.{◌∈◌, has, same}
use Rattle.paper.specs.Query.{Rule, accepting_of, branch_rule, is_rule_kind, leaf_rule, rule_of, rules_of, side}
use Rattle.paper.specs.Refusals.{has_side, is_new}
use Rattle.paper.specs.Stream.{StreamRecord, number}
use Rattle.laws.proofs.Lists.{here, iff_eq, not_then_false, same_refl, same_true}
use Rattle.stream.specs.Keys.{ends_of, flags_of, key_from, key_of, keys_of, pair_end, side_key}
use Rattle.stream.specs.OneRecord.{fits, query_with}
use Rattle.stream.specs.Reading.{QueryFacts}
use Rattle.stream.proofs.Fitting.{by_kind, flag_low, label_low, left_low, right_low, state_low}

-- ---- digits
module _ (a n b : ℕ) (h : b < n) where
  radix_high : (a * n + b) / n ≡ a
  radix_high = mul-add-div_right (omega arith) a b ∙ omega (arith, div-eq_of_lt h)

  radix_low : (a * n + b) % n ≡ b
  radix_low = mul-add-mod_self_right a n b ∙ mod-eq_of_lt h

  radix_below : (m : ℕ) → a < m → a * n + b < m * n
  radix_below m g = omega (arith, mul-le-mul_right {m = suc a} {n = m} n g)

-- ---- what a record says, and its key
-- its kind, and its left side or its state
abbrev words : StreamRecord → List ℕ
words r = cond (is_rule_kind r.kind) (side (rule_of r)) (r.kind ∷ number r 0 ∷ [])

-- what is said by a key
abbrev side_from : QueryFacts → ℕ → ℕ → List ℕ
side_from f marked end =
    cond (eqb end 0) (17 ∷ marked / flags_of f ∷ marked % flags_of f ∷ [])
    (18 ∷ marked / flags_of f ∷ marked % flags_of f ∷ (end - 1) / f.states ∷ (end - 1) % f.states ∷ [])

abbrev words_from : QueryFacts → ℕ → List ℕ
words_from f k = cond (ltb k 16) (19 ∷ k ∷ []) (side_from f ((k - 16) / ends_of f) ((k - 16) % ends_of f))

-- of a rule
side_read : (f : QueryFacts) (a b end : ℕ) → b < flags_of f → end < ends_of f
    → words_from f (side_key f a b end)
    ≡ cond (eqb end 0) (17 ∷ a ∷ b ∷ []) (18 ∷ a ∷ b ∷ (end - 1) / f.states ∷ (end - 1) % f.states ∷ [])
side_read f a b end hb he =
    rw (
      le-ltb (side_key f a b end) 16 (omega arith),
      above,
      radix_high (a * flags_of f + b) (ends_of f) end he,
      radix_low (a * flags_of f + b) (ends_of f) end he,
      radix_high a (flags_of f) b hb,
      radix_low a (flags_of f) b hb,
    ) refl
  where
    above : side_key f a b end - 16 ≡ (a * flags_of f + b) * ends_of f + end
    above = omega arith

-- what stands behind the label and the flag of a branch rule
end_low : (f : QueryFacts) (r : StreamRecord) → fits f r ≡ true → r.kind ≡ 18 → pair_end f (number r 2) (number r 3) < ends_of f
end_low f r fitting e =
    omega (arith, radix_below (number r 2) f.states (number r 3) (right_low f r fitting e) f.states (left_low f r fitting e))

module _ (f : QueryFacts) (few : f.states ≤ 16) (r : StreamRecord) (fitting : fits f r ≡ true) where
  -- a record's key is that of what it says
  key_words : key_from f (words r) ≡ key_of f r
  key_words =
      by_kind f r fitting
      (λ e. rw (ap (λ k. eqb k 17) e, ap (λ k. eqb k 19) e) refl)
      (λ e. rw (ap (λ k. eqb k 17) e, ap (λ k. eqb k 18) e, ap (λ k. eqb k 19) e) refl)
      (λ e. rw (ap (λ k. eqb k 17) e, ap (λ k. eqb k 18) e, ap (λ k. eqb k 19) e) refl)

  -- and what it says can be read from its key
  words_read : words_from f (key_of f r) ≡ words r
  words_read = by_kind f r fitting leaf branch state
    where
      leaf : r.kind ≡ 17 → words_from f (key_of f r) ≡ words r
      leaf e =
          rw (ap (λ k. eqb k 17) e, ap (λ k. eqb k 19) e)
          (side_read f (number r 0) (number r 1) 0 (flag_low f r fitting (ap is_rule_kind e)) (omega arith))

      branch : r.kind ≡ 18 → words_from f (key_of f r) ≡ words r
      branch e =
          rw (ap (λ k. eqb k 17) e, ap (λ k. eqb k 18) e, ap (λ k. eqb k 19) e)
          (side_read f (number r 0) (number r 1) (pair_end f (number r 2) (number r 3)) (flag_low f r fitting (ap is_rule_kind e)) (end_low f r fitting e)
          ∙ rw (ne_eqb (pair_end f (number r 2) (number r 3)) 0 (λ z. omega arith), one_less, radix_high _ _ _ right, radix_low _ _ _ right) refl)
        where
          right : number r 3 < f.states
          right = right_low f r fitting e

          one_less : pair_end f (number r 2) (number r 3) - 1 ≡ number r 2 * f.states + number r 3
          one_less = omega arith

      state : r.kind ≡ 19 → words_from f (key_of f r) ≡ words r
      state e =
          rw (ap (λ k. eqb k 17) e, ap (λ k. eqb k 18) e, ap (λ k. eqb k 19) e, lt-ltb (number r 0) 16 (omega (arith, state_low f r fitting e)))
          (ap {B = List ℕ} (λ k. k ∷ number r 0 ∷ []) (sym e))

  -- the query has as many keys
  pub key_below : key_of f r < keys_of f
  key_below = by_kind f r fitting leaf branch state
    where
      rule : (end : ℕ) → is_rule_kind r.kind ≡ true → end < ends_of f → side_key f (number r 0) (number r 1) end < keys_of f
      rule end e h =
          omega (
            arith,
            radix_below (number r 0 * flags_of f + number r 1) (ends_of f) end h (64 * flags_of f)
                (radix_below (number r 0) (flags_of f) (number r 1) (flag_low f r fitting e) 64 (label_low f r fitting e)),
          )

      leaf : r.kind ≡ 17 → key_of f r < keys_of f
      leaf e = rw (ap (λ k. eqb k 17) e, ap (λ k. eqb k 19) e) (rule 0 (ap is_rule_kind e) (omega arith))

      branch : r.kind ≡ 18 → key_of f r < keys_of f
      branch e =
          rw (ap (λ k. eqb k 17) e, ap (λ k. eqb k 19) e)
          (rule (pair_end f (number r 2) (number r 3)) (ap is_rule_kind e) (end_low f r fitting e))

      state : r.kind ≡ 19 → key_of f r < keys_of f
      state e = rw (ap (λ k. eqb k 19) e) (omega (arith, state_low f r fitting e))

-- two records have one key exactly if they say the same
same_key : (f : QueryFacts) → f.states ≤ 16 → (x r : StreamRecord) → fits f x ≡ true → fits f r ≡ true
    → eqb (key_of f x) (key_of f r) ≡ same (words x) (words r)
same_key f few x r hx hr = iff_eq (eqb (key_of f x) (key_of f r)) (same (words x) (words r)) one_said one_key
  where
    one_said : eqb (key_of f x) (key_of f r) ≡ true → same (words x) (words r) ≡ true
    one_said e =
        ap (same (words x))
        (sym (words_read f few r hr) ∙ ap (words_from f) (sym (eqb-true (key_of f x) (key_of f r) e)) ∙ words_read f few x hx)
        ∙ same_refl (words x)

    one_key : same (words x) (words r) ≡ true → eqb (key_of f x) (key_of f r) ≡ true
    one_key e =
        eq-eqb (key_of f x) (key_of f r)
        (sym (key_words f few x hx) ∙ ap (key_from f) (same_true (words x) (words r) e) ∙ key_words f few r hr)

-- ---- the records before
-- one of them says this
abbrev has_words : List StreamRecord → List ℕ → Bool
has_words [] ws = false
has_words (x ∷ xs) ws = same (words x) ws || has_words xs ws

-- lists of different lengths
unlike : (xs ys : List ℕ) → (length xs ≡ length ys → ⊥) → same xs ys ≡ false
unlike xs ys h = not_then_false (same xs ys) (λ e. h (ap length (same_true xs ys e)))

-- no rule says as few numbers as an accepting state
rule_unlike : (x : Rule) (k q : ℕ) → same (side x) (k ∷ q ∷ []) ≡ false
rule_unlike (leaf_rule a b t) k q = unlike (17 ∷ a ∷ b ∷ []) (k ∷ q ∷ []) (λ e. omega arith)
rule_unlike (branch_rule a b l r t) k q = unlike (18 ∷ a ∷ b ∷ l ∷ r ∷ []) (k ∷ q ∷ []) (λ e. omega arith)

state_unlike : (x : Rule) (k q : ℕ) → same (k ∷ q ∷ []) (side x) ≡ false
state_unlike (leaf_rule a b t) k q = unlike (k ∷ q ∷ []) (17 ∷ a ∷ b ∷ []) (λ e. omega arith)
state_unlike (branch_rule a b l r t) k q = unlike (k ∷ q ∷ []) (18 ∷ a ∷ b ∷ l ∷ r ∷ []) (λ e. omega arith)

-- a rule is said by a rule
rule_said : (xs : List StreamRecord) (rule : Rule) → has_words xs (side rule) ≡ has_side (rules_of xs) (side rule)
rule_said [] rule = refl
rule_said (x ∷ xs) rule = go (is_rule_kind x.kind) (rule_said xs rule)
  where
    go : (c : Bool) → has_words xs (side rule) ≡ has_side (rules_of xs) (side rule)
        → same (cond c (side (rule_of x)) (x.kind ∷ number x 0 ∷ [])) (side rule) || has_words xs (side rule)
        ≡ has_side (cond c (rule_of x ∷ rules_of xs) (rules_of xs)) (side rule)
    go true ih = ap (λ b. same (side (rule_of x)) (side rule) || b) ih
    go false ih = rw (state_unlike rule x.kind (number x 0)) ih

-- and an accepting state by an accepting state
state_said : (xs : List StreamRecord) (q : ℕ) → has_words xs (19 ∷ q ∷ []) ≡ has (accepting_of xs) q
state_said [] q = refl
state_said (x ∷ xs) q =
    go (is_rule_kind x.kind) (eqb x.kind 19) refl (λ e. ap is_rule_kind (eqb-true x.kind 19 e)) (state_said xs q)
  where
    go : (c d : Bool) → eqb x.kind 19 ≡ d → (d ≡ true → c ≡ false) → has_words xs (19 ∷ q ∷ []) ≡ has (accepting_of xs) q
        → same (cond c (side (rule_of x)) (x.kind ∷ number x 0 ∷ [])) (19 ∷ q ∷ []) || has_words xs (19 ∷ q ∷ [])
        ≡ has (cond d (number x 0 ∷ accepting_of xs) (accepting_of xs)) q
    go true true e one ih = absurd (true≢false (one refl))
    go true false e one ih = rw (rule_unlike (rule_of x) 19 q) ih
    go false true e one ih = rw (e, and-true (eqb (number x 0) q), ih) refl
    go false false e one ih = rw e ih

-- one of them has the key of a record that fits, exactly if one says the same
key_said : (f : QueryFacts) → f.states ≤ 16 → (xs : List StreamRecord) (r : StreamRecord) → ((x : StreamRecord) → x ∈ xs → fits f x ≡ true)
    → fits f r ≡ true → has (map (key_of f) xs) (key_of f r) ≡ has_words xs (words r)
key_said f few [] r all fitting = refl
key_said f few (x ∷ xs) r all fitting =
    ap (λ b. b || has (map (key_of f) xs) (key_of f r)) (same_key f few x r (all x here) fitting)
    ∙ ap (λ b. same (words x) (words r) || b) (key_said f few xs r (λ y m. all y (Memᴰ.tail m)) fitting)

-- a record that fits is new exactly if none of them has its key
pub new_key : (f : QueryFacts) → f.states ≤ 16 → (xs : List StreamRecord) (r : StreamRecord) → ((x : StreamRecord) → x ∈ xs → fits f x ≡ true)
    → fits f r ≡ true → is_new (query_with f xs) r ≡ not (has (map (key_of f) xs) (key_of f r))
new_key f few xs r all fitting = sym (ap not (key_said f few xs r all fitting) ∙ by_kind f r fitting leaf branch state)
  where
    rule : is_rule_kind r.kind ≡ true → not (has_words xs (words r)) ≡ is_new (query_with f xs) r
    rule e = rw e (ap not (rule_said xs (rule_of r)))

    leaf : r.kind ≡ 17 → not (has_words xs (words r)) ≡ is_new (query_with f xs) r
    leaf e = rule (ap is_rule_kind e)

    branch : r.kind ≡ 18 → not (has_words xs (words r)) ≡ is_new (query_with f xs) r
    branch e = rule (ap is_rule_kind e)

    state : r.kind ≡ 19 → not (has_words xs (words r)) ≡ is_new (query_with f xs) r
    state e = rw (ap is_rule_kind e) (ap (λ k. not (has_words xs (k ∷ number r 0 ∷ []))) e ∙ ap not (state_said xs (number r 0)))
