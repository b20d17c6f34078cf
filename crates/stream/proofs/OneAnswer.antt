-- The contracts leave no freedom: two results that are allowed for one input are equal.
-- First the readers, whose result is told by what it says, then the next rule.
use mathlib.Core.Bool.{false, true, true≢false}
use mathlib.Core.List.Memᴰ
use mathlib.Core.List.{List, [], ◌++◌, ◌∷◌, head-eq_of_cons-eq, nil≢cons, tail-eq_of_cons-eq}
use mathlib.Core.Logic.{⊎_elim}
use mathlib.Core.Path.{◌∙◌, ◌≡◌, ap, sym}
use Prim.Native.Nat.{◌<◌, ◌≤◌, ℕ}
use native.Mathlib.Omega.{arith}
use lib.ListN.{drop, length}
use Rattle.std.specs.Prelude.{Result}
use Rattle.paper.specs.declared.StreamRefusal.{StreamRefusal}
use Rattle.paper.specs.Answers.{no_of_stream}
use Rattle.paper.specs.Lists.{◌∈◌}
use Rattle.paper.specs.Stream.{StreamRecord, records_of}
use Rattle.laws.proofs.Answers.{one_result, stream_refusal_of, stream_refusal_told}
use Rattle.laws.proofs.Lists.{here}
use Rattle.stream.specs.Positions.{NextRule, is_rule_for, record_at}
use Rattle.stream.specs.Reading.{QueryFacts, TreeFacts, query_reply, says_query, says_tree, tree_reply}
use Rattle.stream.proofs.Positions.{one_rest, records_here, records_none}

-- ---- the readers
-- two results of `read_tree`
pub one_tree : (input : List ℕ) (r s : Result TreeFacts StreamRefusal) → says_tree r ≡ tree_reply input → says_tree s ≡ tree_reply input → r ≡ s
one_tree input r s a b = one_result no_of_stream stream_refusal_of stream_refusal_told r s (a ∙ sym b)

-- two results of `read_query`
pub one_query : (input : List ℕ) (at : ℕ) (r s : Result QueryFacts StreamRefusal) → says_query r ≡ query_reply input at → says_query s ≡ query_reply input at → r ≡ s
one_query input at r s a b = one_result no_of_stream stream_refusal_of stream_refusal_told r s (a ∙ sym b)

-- ---- the next rule
module _ (kind label : ℕ) where
  -- the first of the records, if there is any, is a rule that is sought
  Starts : List StreamRecord → Type 0
  Starts records = (r : StreamRecord) (rs : List StreamRecord) → records ≡ r ∷ rs → is_rule_for kind label r ≡ true

  None : List StreamRecord → Type 0
  None records = (r : StreamRecord) → r ∈ records → is_rule_for kind label r ≡ false

  -- behind those that are none it is in one place only
  one_first : (xs ys R S : List StreamRecord) → None xs → None ys → Starts R → Starts S → xs ++ R ≡ ys ++ S → R ≡ S
  unfolding Starts None
  one_first [] [] R S a b c d e = e
  one_first [] (y ∷ ys) R S a b c d e = absurd (true≢false (sym (c y (ys ++ S) e) ∙ b y here))
  one_first (x ∷ xs) [] R S a b c d e = absurd (true≢false (sym (d x (xs ++ R) (sym e)) ∙ a x here))
  one_first (x ∷ xs) (y ∷ ys) R S a b c d e =
      one_first xs ys R S (λ r m. a r (Memᴰ.tail m)) (λ r m. b r (Memᴰ.tail m)) c d (tail-eq_of_cons-eq e)

  module _ (input : List ℕ) (at : ℕ) where
    found_inside : (next : ℕ) → NextRule input at kind label next → next ≤ length input
    found_inside next k = ⊎_elim (λ e. omega arith) (λ p. omega (arith, p.0)) k.found

    starts : (next : ℕ) → NextRule input at kind label next → Starts (records_of (drop next input))
    unfolding Starts
    starts next k r rs e = ⊎_elim ended stands k.found
      where
        ended : next ≡ length input → is_rule_for kind label r ≡ true
        ended p = absurd (nil≢cons (sym (records_none input next (omega arith)) ∙ e))

        stands : (next < length input) × (is_rule_for kind label (record_at input next) ≡ true) → is_rule_for kind label r ≡ true
        stands p = ap (is_rule_for kind label) (head-eq_of_cons-eq (sym e ∙ records_here input next p.0)) ∙ p.1

    -- two positions that the lists could tell
    pub one_next_rule : (m n : ℕ) → NextRule input at kind label m → NextRule input at kind label n → m ≡ n
    unfolding None
    one_next_rule m n k l =
        omega (
          arith,
          found_inside m k,
          found_inside n l,
          one_rest input m n
              (one_first k.skipped l.skipped (records_of (drop m input)) (records_of (drop n input)) k.no_rule l.no_rule (starts m k)
              (starts n l) (sym k.records ∙ l.records)),
        )
