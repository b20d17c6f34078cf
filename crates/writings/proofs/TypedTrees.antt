-- A tree that was typed is a tree that `build` reads, with any query behind it: refusals 1 and 2 never come, and the tree read is the image.
use mathlib.Core.Bool.{◌&&◌}
use mathlib.Core.List.{List, [], ◌∷◌, ◌++◌, append-nil}
use mathlib.Core.Path.{◌≡◌, sym, ◌∙◌, ap, subst}
use Prim.Native.Nat.{ℕ, ◌≤◌}
use native.Mathlib.Omega.{arith}
use lib.Dec.{leb}
use lib.ListN.{length}
use Rattle.paper.specs.Image.{image_bytes, image_records, image_tree}
use Rattle.paper.specs.Refusals.{No, Test, build, made_from, no, number_in, query_part, refused, tree_in, tree_part, work_for, tree_end}
use Rattle.paper.specs.Stream.{query_records, records_of, tree_records}
use Rattle.paper.specs.Tree.{last_of, tree_of}
use Rattle.paper.specs.WrittenTree.{Allowed, WrittenTree, forest_of}
use Rattle.laws.proofs.AtEach.{ThreeOrFour, query_says}
use Rattle.laws.proofs.Replies.{EachSays, Passes, says_append, says_refused, unless_append}
use Rattle.writings.proofs.ImageAccepted.{records_pass}
use Rattle.writings.proofs.ImageTrees.{image_grown, image_records_lem, image_tree_records}

-- ---- the tree's records are the image's, where the query begins with none of the tree's kinds
module _ (w : WrittenTree) (query : List ℕ) (begins : tree_records (records_of query) ≡ []) where
  typed_records : tree_records (records_of (image_bytes w ++ query)) ≡ image_records (forest_of w)
  typed_records =
      ap tree_records (image_records_lem (forest_of w) query)
      ∙ image_tree_records (forest_of w) (records_of query)
      ∙ ap (λ rs. image_records (forest_of w) ++ rs) begins
      ∙ append-nil (image_records (forest_of w))

  pub typed_tree : tree_in (image_bytes w ++ query) ≡ image_tree w
  typed_tree = ap tree_of typed_records ∙ ap (λ s. last_of s.0) (image_grown (forest_of w) [] 0)

  typed_passes : Allowed w → Passes (tree_part (tree_records (records_of (image_bytes w ++ query))))
  typed_passes a = subst (λ rs. Passes (tree_part rs)) (sym typed_records) (records_pass w a)

-- ---- behind the tree's tests only numbers from 3 on are given
pub typed_never_refused : (w : WrittenTree) → Allowed w → (query : List ℕ) → tree_records (records_of query) ≡ [] → (work_length table_length : ℕ) (n : No)
    → build (image_bytes w ++ query) work_length table_length ≡ refused n → 3 ≤ number_in n
typed_never_refused w a query begins work_length table_length n e =
    says_refused FromThree (of_query ++ last) _ from_three
    (sym (unless_append (tree_part (tree_records (records_of input))) _ _ (typed_passes w query begins a)) ∙ e)
  where
    input : List ℕ
    input = image_bytes w ++ query

    FromThree : No → Type 0
    FromThree m = 3 ≤ number_in m

    of_query : List Test
    of_query = query_part (tree_end input) (query_records (records_of input))

    -- 5 and 6
    last : List Test
    last =
        (no 5, leb (work_for input) work_length)
        ∷ (no 6, leb (length (made_from input)) table_length && leb (length (made_from input)) 60000)
        ∷ []

    weaker : (ts : List Test) → EachSays ThreeOrFour ts → EachSays FromThree ts
    weaker [] h = tt
    weaker (t ∷ ts) h = (h.0.0, weaker ts h.1)

    from_three : EachSays FromThree (of_query ++ last)
    from_three =
        says_append FromThree of_query last
        (weaker of_query (query_says (tree_end input) (query_records (records_of input)))) (omega arith, (omega arith, tt))
