-- Reading an image: two bytes a record, from the first to the last, with the forests that are not yet joined, the last one first.
use Rattle.std.specs.Prelude.{cond, ◌&&◌, List, [], ◌∷◌, ℕ, eqb, leb}
use Rattle.std.proofs.Math.Option.{Option, none, some}
use Rattle.paper.specs.WrittenTree.{Forest, nil, tree, WrittenTree}
use Rattle.writings.specs.ReadText.{one_root}

-- a branch takes the last two: the older is the children, the last the others
abbrev pub joined : ℕ → List Forest → Option (List Forest)
joined l [] = none
joined l (s ∷ []) = none
joined l (s ∷ c ∷ fs) = some (tree l c s ∷ fs)

abbrev pub with_record : ℕ → ℕ → List Forest → Option (List Forest)
with_record k l fs = cond (eqb k 1 && eqb l 0) (some (nil ∷ fs)) (cond (eqb k 2 && leb l 63) (joined l fs) none)

abbrev pub onward : Option (List Forest) → (List Forest → Option (List Forest)) → Option (List Forest)
onward none k = none
onward (some fs) k = k fs

abbrev pub joined_from : List Forest → List ℕ → Option (List Forest)
joined_from fs [] = some fs
joined_from fs (k ∷ []) = none
joined_from fs (k ∷ l ∷ t) = onward (with_record k l fs) (λ gs. joined_from gs t)

abbrev pub one_tree : Option (List Forest) → Option WrittenTree
one_tree none = none
one_tree (some []) = none
one_tree (some (f ∷ [])) = one_root f
one_tree (some (f ∷ g ∷ fs)) = none

abbrev pub read_image : List ℕ → Option WrittenTree
read_image t = one_tree (joined_from [] t)
