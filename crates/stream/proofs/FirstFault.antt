-- A tree that is read, known by the contract of `read_tree` alone: it is refused exactly where the first record at fault is the tree's, with
-- the number and the position of that record. So it is for every caller, whatever it goes on with.
use mathlib.Core.List.{List}
use mathlib.Core.Logic.Iff
use mathlib.Core.Logic.{◌↔◌}
use mathlib.Core.Path.{◌∙◌, ◌≡◌, sym}
use Prim.Native.Nat.{ℕ}
use Rattle.std.specs.Prelude.{Result}
use Rattle.paper.specs.declared.StreamRefusal.{StreamRefusal}
use Rattle.paper.specs.Refusals.{No, refused}
use Rattle.laws.specs.StreamCauses.{TreeRefused}
use Rattle.laws.proofs.TreeRefusals.{tree_exact}
use Rattle.stream.specs.Reading.{TreeFacts, says_tree, tree_facts, tree_reply}

pub read_tree_exact : (input : List ℕ) (r : Result TreeFacts StreamRefusal) → says_tree r ≡ tree_reply input → (w : No) → (says_tree r ≡ refused w) ↔ TreeRefused input w
read_tree_exact input r e w = Iff.trans (λ q. sym e ∙ q, λ q. e ∙ q) (tree_exact (tree_facts input) input w)
