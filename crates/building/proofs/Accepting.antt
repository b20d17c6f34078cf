-- The end of a build: the root's slots of the accepting states, states ascending.
-- First the loop over the states, then what is made.
use mathlib.Core.Bool.{false, true}
use mathlib.Core.List.{List, [], ◌∷◌}
use mathlib.Core.Path.{◌∙◌, ◌≡◌, ap, sym}
use Prim.Native.Nat.{suc, ℕ}
use lib.ListN.{get_or, length}
use Rattle.paper.specs.Building.{Sets, Slots, accept_step, all_places, made, record_sets}
use Rattle.paper.specs.Lists.{has, through, up_to}
use Rattle.paper.specs.Query.{Query}
use Rattle.paper.specs.Refusals.{tree_part}
use Rattle.paper.specs.Stream.{StreamRecord}
use Rattle.paper.specs.Tree.{root, tree_of}
use Rattle.laws.proofs.Lists.{through_up_to}
use Rattle.laws.proofs.ReadTree.{tree_read}
use Rattle.laws.proofs.Replies.{Passes}
use Rattle.laws.proofs.Runs.{root_numbered}
use Rattle.laws.specs.Plain.{Record, Set, empty}
use Rattle.building.specs.NodeOrder.{Stack, from_node}
use Rattle.building.proofs.NodeOrder.{node_order}

-- ---- the loop over the states
module _ {S E : Type 0} (A : Sets S E) (Q : Query) (n : ℕ) (f : Slots E) where
  -- one more state
  pub accept_next : (z : S × E) (q : ℕ)
      → through (accept_step A Q n f) z (up_to (suc q)) ≡ accept_step A Q n f (through (accept_step A Q n f) z (up_to q)) q
  accept_next z q = through_up_to (accept_step A Q n f) z q

  -- an accepting state's slot of all places is united on the right
  pub accept_here : (z : S × E) (q : ℕ) → has Q.accepting q ≡ true
      → accept_step A Q n f z q ≡ A.union n (all_places Q.arity) z.1 (f q (all_places Q.arity)) z.0
  accept_here z q e = rw e

  -- another state changes nothing
  pub accept_skip : (z : S × E) (q : ℕ) → has Q.accepting q ≡ false → accept_step A Q n f z q ≡ z
  accept_skip z q e = rw e

-- ---- what is made
module _ (Q : Query) (records : List StreamRecord) (p : Passes (tree_part records)) where
  -- the root is the last node
  pub root_last : suc (root (tree_of records)) ≡ length records
  root_last = root_numbered (tree_read records p).0

  -- with the records and the root's slots that the tree records in order leave
  pub made_end : (s : List Record) (f : Slots Set) → from_node Q records 0 [] [] ≡ (s, f ∷ [])
      → made Q (tree_of records) ≡ through (accept_step record_sets Q (root (tree_of records)) f) (s, empty) (up_to Q.states)
  made_end s f e = ap end (sym (node_order Q records p) ∙ e)
    where
      end : Stack → List Record × Set
      end z = through (accept_step record_sets Q (root (tree_of records)) (get_or z.1 0 (λ q b. empty))) (z.0, empty) (up_to Q.states)
