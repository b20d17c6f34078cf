-- A tree record, and the tree's end: the tests there against the causes that may apply there, where the records before passed theirs.
use mathlib.Core.Path.{◌≡◌, refl, ap}
use mathlib.Core.Logic.{inl, inr}
use mathlib.Core.Bool.{true, false, not, ◌||◌, true≢false, false≢true}
use mathlib.Core.List.Memᴰ
use mathlib.Core.List.{List, [], ◌∷◌, ◌++◌, head-eq_of_cons-eq, tail-eq_of_cons-eq}
use Prim.Native.Nat.{ℕ, ◌+◌, ◌≤◌, ◌<◌}
use native.Mathlib.Omega.{arith}
use borrow.Author.Tests.{eqb-true, eqb-false, leb-true, leb-false, ltb-true, ltb-false}
use lib.Dec.{eqb, leb}
use lib.ListN.{length}
use Rattle.paper.specs.Lists.{is_nil}
use Rattle.paper.specs.Stream.{body_length, StreamRecord, number}
use Rattle.paper.specs.Tree.{unjoined}
use Rattle.paper.specs.Refusals.{StreamTest, tree_tests, tree_end_tests}
use Rattle.laws.specs.StreamCauses.{written, of_kind, TreeKind, AllTree, TreeEnds, QueryFault, SaidTwice, InQuery, FaultAt, record_order}
use Rattle.laws.specs.StreamCauses.{ManyNodes, kind_met, TreeFault, cut_in_record, label_over, few_unjoined, no_node, not_one_subtree}
use Rattle.laws.proofs.Lists.{here}
use Rattle.laws.proofs.Judged.{Judged, judged_none, judged_skip, judged_test}
use Rattle.laws.proofs.StreamPlaces.{first_record, cut, not_cut, Counted}

-- ---- what each cause of a place says
pub cause_two : {before : List StreamRecord} {bytes : List ℕ} → FaultAt before bytes 2 → AllTree before × ManyNodes before bytes
cause_two (inl f) = (f.1, f.2)
cause_two (inr (inl f)) = absurd (omega arith)
cause_two (inr (inr (inl f))) = absurd (omega arith)
cause_two (inr (inr (inr f))) = absurd (omega arith)

pub cause_one : {before : List StreamRecord} {bytes : List ℕ} → FaultAt before bytes 1 → AllTree before × TreeFault before bytes
cause_one (inl f) = absurd (omega arith)
cause_one (inr (inl f)) = (f.1, f.2)
cause_one (inr (inr (inl f))) = absurd (omega arith)
cause_one (inr (inr (inr f))) = absurd (omega arith)

pub cause_three : {before : List StreamRecord} {bytes : List ℕ} → FaultAt before bytes 3 → InQuery before bytes QueryFault
cause_three (inl f) = absurd (omega arith)
cause_three (inr (inl f)) = absurd (omega arith)
cause_three (inr (inr (inl f))) = f.1
cause_three (inr (inr (inr f))) = absurd (omega arith)

pub cause_four : {before : List StreamRecord} {bytes : List ℕ} → FaultAt before bytes 4 → InQuery before bytes SaidTwice
cause_four (inl f) = absurd (omega arith)
cause_four (inr (inl f)) = absurd (omega arith)
cause_four (inr (inr (inl f))) = absurd (omega arith)
cause_four (inr (inr (inr f))) = f.1

-- ---- a tree record
tree_body : (k : ℕ) → TreeKind k → body_length k ≡ 1
tree_body k (inl e) = rw e refl
tree_body k (inr e) = rw e refl

module _ (before : List StreamRecord) (all : AllTree before) (counted : Counted before) (k : ℕ) (kind : TreeKind k) where
  label_is : (label : ℕ) (rest : List ℕ) → number (first_record k (label ∷ rest)) 0 ≡ label
  label_is label rest = rw (tree_body k kind) refl

  no_many_nodes : (more : List ℕ) → length before < 4095 → ManyNodes before (k ∷ more) → ⊥
  no_many_nodes more h (kind_met k' more' e t many) = omega arith

  no_tree_fault : (label : ℕ) (rest : List ℕ) → label ≤ 63 → eqb k 1 || leb 2 (length (unjoined before)) ≡ true
      → TreeFault before (k ∷ label ∷ rest) → ⊥
  no_tree_fault label rest l u (cut_in_record k' more e t short) = omega (arith, tree_body k' t, ap length (tail-eq_of_cons-eq e))
  no_tree_fault label rest l u (label_over k' label' more e t over) = omega (arith, head-eq_of_cons-eq (tail-eq_of_cons-eq e))
  no_tree_fault label rest l u (few_unjoined more e few) =
      let two : 2 ≤ length (unjoined before) = leb-true 2 _ (rw (head-eq_of_cons-eq e) at u) in omega (arith, counted)
  no_tree_fault label rest l u (no_node e ends) = ends k (label ∷ rest) refl kind
  no_tree_fault label rest l u (not_one_subtree e ends) = ends k (label ∷ rest) refl kind

  -- a tree kind that follows tree records only is not in the query
  not_in_query : {Fault : List StreamRecord → List ℕ → Type 0} (more : List ℕ) → InQuery before (k ∷ more) Fault → ⊥
  not_in_query more f = go f.query f.parts f.tree_ends
    where
      go : (query : List StreamRecord) → before ≡ f.tree ++ query → TreeEnds (written query ++ (k ∷ more)) → ⊥
      go [] e ends = ends k more refl kind
      go (r ∷ query) e ends = ends r.kind _ refl (all r (rw e (Memᴰ.append_right f.tree here)))

  -- a branch that does not find two subtrees
  branch_short : (more : List ℕ) → eqb k 1 || leb 2 (length (unjoined before)) ≡ false → TreeFault before (k ∷ more)
  branch_short more u = go kind
    where
      go : TreeKind k → TreeFault before (k ∷ more)
      go (inl e) = absurd (true≢false (rw e at u))
      go (inr e) =
          few_unjoined more (ap {B = List ℕ} (λ z. z ∷ more) e)
          (omega (arith, leb-false 2 (length (unjoined before)) (rw e at u), counted))

  after_whole : (more : List ℕ) → 1 ≤ length more
      → Judged (FaultAt before (k ∷ more))
      ((1, leb (number (first_record k more) 0) 63) ∷ (1, eqb k 1 || leb 2 (length (unjoined before))) ∷ []) (1 ∷ 3 ∷ 4 ∷ [])
  after_whole [] h = absurd (omega arith)
  after_whole (label ∷ rest) h =
      judged_test (λ e. inr (inl (refl, all, label_over k label rest refl kind (leb-false label 63 (rw (label_is label rest) at e)))))
      (λ l. judged_test (λ e. inr (inl (refl, all, branch_short (label ∷ rest) e)))
      (λ u. judged_skip (λ f. no_tree_fault label rest (leb-true label 63 (rw (label_is label rest) at l)) u (cause_one f).1)
      (judged_skip (λ f. not_in_query (label ∷ rest) (cause_three f)) (judged_skip (λ f. not_in_query (label ∷ rest) (cause_four f)) judged_none))))

  -- the tests of a tree record judge as its causes do
  pub tree_judged : (more : List ℕ) → Judged (FaultAt before (k ∷ more)) (tree_tests before (first_record k more)) record_order
  tree_judged more =
      judged_test (λ e. inl (refl, all, kind_met k more refl kind (ltb-false (length before) 4095 e)))
      (λ few. judged_skip (λ f. no_many_nodes more (ltb-true (length before) 4095 few) (cause_two f).1)
      (judged_test (λ e. inr (inl (refl, all, cut_in_record k more refl kind (cut k more e))))
      (λ w. after_whole more (rw (tree_body k kind) at (not_cut k more w)))))

-- ---- the tree's end
is_nil_lem : {A : Type 0} (xs : List A) → not (is_nil xs) ≡ false → xs ≡ []
is_nil_lem [] e = refl
is_nil_lem (x ∷ xs) e = absurd (true≢false e)

module _ (before : List StreamRecord) (bytes : List ℕ) (all : AllTree before) (counted : Counted before) (ends : TreeEnds bytes) where
  met_no_tree_kind : ManyNodes before bytes → ⊥
  met_no_tree_kind (kind_met k more e t many) = ends k more e t

  no_end_fault : not (is_nil before) ≡ true → length (unjoined before) ≡ 1 → TreeFault before bytes → ⊥
  no_end_fault some one (cut_in_record k more e t short) = ends k more e t
  no_end_fault some one (label_over k label more e t over) = ends k (label ∷ more) e t
  no_end_fault some one (few_unjoined more e few) = ends 2 more e (inr refl)
  no_end_fault some one (no_node e z) = false≢true (rw e at some)
  no_end_fault some one (not_one_subtree e z) = e (omega (arith, counted))

  not_one : eqb (length (unjoined before)) 1 ≡ false → of_kind 1 before ≡ of_kind 2 before + 1 → ⊥
  not_one e h = eqb-false (length (unjoined before)) 1 e (omega (arith, counted))

  -- causes 2 and 1 where the tree ends; 3 and 4 are for the query to judge
  pub end_judged : {ts : List StreamTest} → Judged (FaultAt before bytes) ts (3 ∷ 4 ∷ [])
      → Judged (FaultAt before bytes) (tree_end_tests before ++ ts) record_order
  end_judged j =
      judged_skip (λ f. met_no_tree_kind (cause_two f).1)
      (judged_test (λ e. inr (inl (refl, all, no_node (is_nil_lem before e) ends)))
      (λ some. judged_test (λ e. inr (inl (refl, all, not_one_subtree (not_one e) ends)))
      (λ one. judged_skip (λ f. no_end_fault some (eqb-true (length (unjoined before)) 1 one) (cause_one f).1) j)))
