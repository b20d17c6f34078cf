-- The image as document 01 reads it: its bytes are its records, and these make one subtree, the image tree.
use mathlib.Core.Path.{◌≡◌, refl, sym, ◌∙◌, ap}
use mathlib.Core.List.{List, [], ◌∷◌, ◌++◌, append-nil}
use Prim.Native.Nat.{ℕ, suc, ◌+◌, ◌*◌, ◌≤◌}
use native.Mathlib.Omega.{arith}
use lib.ListN.{length, length-append}
use Rattle.paper.specs.Lists.{through}
use Rattle.paper.specs.Stream.{StreamRecord, records_of, tree_records}
use Rattle.paper.specs.Tree.{Tree, grow, unjoined, size}
use Rattle.laws.proofs.Lists.{through_append}
use Rattle.laws.proofs.StreamPlaces.{records_cons}
use Rattle.writings.proofs.Images.{regrouped}
use Rattle.paper.specs.WrittenTree.{Forest, nil, tree, WrittenTree, forest_of, written_nodes, Allowed}
use Rattle.paper.specs.Image.{image_nodes, image_from, image_tree, image_records, forest_bytes, image_bytes}

-- ---- how many
pub image_size : (f : Forest) (k : ℕ) → size (image_from k f) ≡ image_nodes f
image_size nil k = refl
image_size (tree l c s) k = omega (arith, image_size c k, image_size s (k + image_nodes c))

-- 2n + 1 nodes for n written ones
pub image_nodes_lem : (w : WrittenTree) → size (image_tree w) ≡ 2 * written_nodes w + 1
image_nodes_lem w = omega (arith, image_size (forest_of w) 0)

pub image_records_length : (f : Forest) → length (image_records f) ≡ image_nodes f
image_records_length nil = refl
image_records_length (tree l c s) =
    simp length-append (omega (arith, image_records_length c, image_records_length s))

pub image_bytes_length : (f : Forest) → length (forest_bytes f) ≡ 2 * image_nodes f
image_bytes_length nil = refl
image_bytes_length (tree l c s) =
    simp length-append (omega (arith, image_bytes_length c, image_bytes_length s))

-- two bytes a node
pub image_length : (w : WrittenTree) → length (image_bytes w) ≡ 4 * written_nodes w + 2
image_length w = omega (arith, image_bytes_length (forest_of w))

-- so the image of a tree that can be written has at most 8,190
pub image_short : (w : WrittenTree) → Allowed w → length (image_bytes w) ≤ 8190
image_short w a = omega (arith, image_length w, a.few)

-- ---- the records
pub image_records_lem : (f : Forest) (t : List ℕ) → records_of (forest_bytes f ++ t) ≡ image_records f ++ records_of t
image_records_lem nil t = records_cons 1 (0 ∷ t)
image_records_lem (tree l c s) t =
    ap records_of (regrouped (forest_bytes c) (forest_bytes s) (2 ∷ l ∷ []) t)
    ∙ image_records_lem c (forest_bytes s ++ (2 ∷ l ∷ t))
    ∙ ap (λ x. image_records c ++ x) (image_records_lem s (2 ∷ l ∷ t) ∙ ap (λ x. image_records s ++ x) (records_cons 2 (l ∷ t)))
    ∙ sym (regrouped (image_records c) (image_records s) (record { kind = 2; body = l ∷ [] } ∷ []) (records_of t))

pub records_of_image : (f : Forest) → records_of (forest_bytes f) ≡ image_records f
records_of_image f = ap records_of (sym (append-nil (forest_bytes f))) ∙ image_records_lem f [] ∙ append-nil (image_records f)

-- all are the tree's
pub image_tree_records : (f : Forest) (rs : List StreamRecord) → tree_records (image_records f ++ rs) ≡ image_records f ++ tree_records rs
image_tree_records nil rs = refl
image_tree_records (tree l c s) rs =
    ap tree_records (regrouped (image_records c) (image_records s) (record { kind = 2; body = l ∷ [] } ∷ []) rs)
    ∙ image_tree_records c _ ∙ ap (λ x. image_records c ++ x) (image_tree_records s _)
    ∙ sym (regrouped (image_records c) (image_records s) (record { kind = 2; body = l ∷ [] } ∷ []) (tree_records rs))

-- ---- the tree
pub image_grown : (f : Forest) (ts : List Tree) (k : ℕ)
    → through grow (ts, k) (image_records f) ≡ (image_from k f ∷ ts, k + image_nodes f)
image_grown nil ts k = let z : k + 1 ≡ suc k = omega arith in rw z
image_grown (tree l c s) ts k =
    let z : k + image_nodes (tree l c s) ≡ suc (k + image_nodes c + image_nodes s) = omega arith in
    rw (
      through_append grow (ts, k) (image_records c),
      image_grown c ts k,
      through_append grow (image_from k c ∷ ts, k + image_nodes c) (image_records s),
      image_grown s (image_from k c ∷ ts) (k + image_nodes c),
      z,
    )

-- the bytes are one subtree, the image tree
pub one_subtree : (w : WrittenTree) → unjoined (records_of (image_bytes w)) ≡ image_tree w ∷ []
one_subtree w = ap unjoined (records_of_image (forest_of w)) ∙ ap {B = List Tree} (λ s. s.0) (image_grown (forest_of w) [] 0)
