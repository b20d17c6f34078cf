-- The image of an allowed tree passes every test of document 01's tree part: labels at most 63, at most 4,095 nodes, one subtree.
use mathlib.Core.Path.{◌≡◌, refl, sym, subst, ◌∙◌, ap}
use mathlib.Core.Bool.{true, not}
use mathlib.Core.List.{List, [], ◌∷◌, ◌++◌}
use Prim.Native.Nat.{ℕ, ◌+◌, ◌≤◌, ◌<◌}
use native.Mathlib.Omega.{arith}
use borrow.Author.Tests.{lt-ltb, le-leb}
use lib.Dec.{eqb, leb, ltb}
use lib.ListN.{length}
use Rattle.paper.specs.Lists.{through, is_nil}
use Rattle.paper.specs.Stream.{StreamRecord, behind}
use Rattle.paper.specs.Tree.{Tree, grow}
use Rattle.paper.specs.Refusals.{at_each, tests_at, tree_tests, tree_end_tests, tree_part}
use Rattle.laws.proofs.AtEach.{each_append}
use Rattle.laws.proofs.Lists.{through_append}
use Rattle.laws.proofs.Replies.{Passes, passes_append}
use Rattle.laws.proofs.ReadTree.{next_node}
use Rattle.paper.specs.WrittenTree.{Forest, nil, tree, WrittenTree, forest_of, LabelsFit, Allowed}
use Rattle.paper.specs.Image.{image_nodes, image_from, image_records}
use Rattle.writings.proofs.ImageTrees.{image_grown, image_records_length}

-- some tree records that pass, and then others
then_passes : (before xs ys : List StreamRecord) → Passes (at_each tree_tests 0 before xs) → Passes (at_each tree_tests 0 (before ++ xs) ys)
    → Passes (at_each tree_tests 0 before (xs ++ ys))
then_passes before xs ys p q =
    subst Passes (sym (each_append tree_tests 0 before xs ys)) (passes_append (at_each tree_tests 0 before xs) (at_each tree_tests 0 (before ++ xs) ys) p q)

-- ---- one record, after records that leave these subtrees unjoined
abbrev Leaves : List StreamRecord → List Tree → ℕ → Type 0
Leaves before ts k = through grow ([], 0) before ≡ (ts, k)

leaves_more : (before more : List StreamRecord) {ts us : List Tree} {k n : ℕ} → Leaves before ts k → through grow (ts, k) more ≡ (us, n)
    → Leaves (before ++ more) us n
leaves_more before more h e = through_append grow ([], 0) before more ∙ ap (λ s. through grow s more) h ∙ e

few_before : (before : List StreamRecord) {ts : List Tree} {k : ℕ} → Leaves before ts k → k < 4095 → ltb (length before) 4095 ≡ true
few_before before {ts} {k} h few =
    let z : k ≡ length before = sym (ap (λ (s : List Tree × ℕ). s.1) h) ∙ omega (arith, next_node ([], 0) before) in
    lt-ltb (length before) 4095 (omega arith)

pad_passes : (before : List StreamRecord) {ts : List Tree} {k : ℕ} → Leaves before ts k → k < 4095
    → Passes (at_each tree_tests 0 before (record { kind = 1; body = 0 ∷ [] } ∷ []))
pad_passes before h few = (few_before before h few, (refl, (refl, (refl, tt))))

branch_passes : (before : List StreamRecord) {ts : List Tree} {k : ℕ} (l : ℕ) → l ≤ 63 → Leaves before ts k → 2 ≤ length ts → k < 4095
    → Passes (at_each tree_tests 0 before (record { kind = 2; body = l ∷ [] } ∷ []))
branch_passes before {ts} l le h two few =
    (few_before before h few, (refl, (le-leb l 63 le, (ap (λ (s : List Tree × ℕ). leb 2 (length s.0)) h ∙ le-leb 2 (length ts) two, tt))))

-- ---- the records of a forest
forest_passes : (f : Forest) → LabelsFit f → (before : List StreamRecord) (ts : List Tree) (k : ℕ) → Leaves before ts k
    → k + image_nodes f ≤ 4095 → Passes (at_each tree_tests 0 before (image_records f))
forest_passes nil fit before ts k h few = pad_passes before h (omega arith)
forest_passes (tree l c s) fit before ts k h few =
    then_passes before (image_records c) (image_records s ++ last) (forest_passes c fit.1 before ts k h (omega arith))
    (then_passes (before ++ image_records c) (image_records s) last
    (forest_passes s fit.2 (before ++ image_records c) (image_from k c ∷ ts) (k + image_nodes c) h' (omega arith))
    (branch_passes ((before ++ image_records c) ++ image_records s) l fit.0 h'' (omega arith) (omega arith)))
  where
    last : List StreamRecord
    last = record { kind = 2; body = l ∷ [] } ∷ []

    h' : Leaves (before ++ image_records c) (image_from k c ∷ ts) (k + image_nodes c)
    h' = leaves_more before (image_records c) h (image_grown c ts k)

    h'' : Leaves ((before ++ image_records c) ++ image_records s) (image_from (k + image_nodes c) s ∷ image_from k c ∷ ts) (k + image_nodes c + image_nodes s)
    h'' = leaves_more (before ++ image_records c) (image_records s) h' (image_grown s (image_from k c ∷ ts) (k + image_nodes c))

-- ---- the whole part
some_record : (rs : List StreamRecord) → 1 ≤ length rs → not (is_nil rs) ≡ true
some_record [] h = absurd (omega arith)
some_record (r ∷ rs) h = refl

pub records_pass : (w : WrittenTree) → Allowed w → Passes (tree_part (image_records (forest_of w)))
records_pass w a =
    passes_append (at_each tree_tests 0 [] (image_records (forest_of w))) (tests_at (behind 0 (image_records (forest_of w))) (tree_end_tests (image_records (forest_of w))))
    (forest_passes (forest_of w) a.labels [] [] 0 refl (omega (arith, a.few))) (
      some_record (image_records (forest_of w)) (omega (arith, image_records_length (forest_of w))),
      (ap (λ (s : List Tree × ℕ). eqb (length s.0) 1) (image_grown (forest_of w) [] 0), tt),
    )
