-- Demand 2 of the function `build` itself: from the bytes handed to it to the table that it leaves.
-- First that what it leaves is a built set, then the demand, which the laws show of every built set.
use mathlib.Core.List.{List}
use mathlib.Core.Path.{◌≡◌, refl, sym, ap, ◌∙◌}
use Prim.Native.Nat.{ℕ}
use lib.ListN.{length}
use Rattle.std.specs.Prelude.{Ok}
use Rattle.paper.specs.declared.Head.{Head}
use Rattle.paper.specs.Answers.{told}
use Rattle.paper.specs.Refusals.{Reply, refused, answer, build}
use Rattle.laws.specs.Built.{BuiltSet, SaysTheAnswer}
use Rattle.laws.proofs.Replies.{answer_inj, refused_not_answer}
use Rattle.laws.proofs.BuiltSets.{built_right}
use Rattle.building.specs.Batch.{Record}
use Rattle.building.specs.Face.{Builds}

module _ (input work : List ℕ) (table : List Record) (h : Head) (work' : List ℕ) (table' : List Record)
    (done : Builds input work table (Ok h) work' table') where
  -- the head that is answered, with the table as it is left, is a built set
  pub is_built : BuiltSet input h table'
  is_built = go (build input (length work) (length table)) refl done.answer
    where
      go : (reply : Reply (Head × List Record)) → build input (length work) (length table) ≡ reply
          → answer h ≡ told (λ a. a.0) (build input (length work) (length table)) → BuiltSet input h table'
      go (refused n) e says = absurd (refused_not_answer (sym (says ∙ ap (told (λ a. a.0)) e)))
      go (answer (head, records)) e says =
          let same : h ≡ head = answer_inj (says ∙ ap (told (λ a. a.0)) e) in
          record {
            work_length = length work;
            lent = table;
            records = records;
            answered = e ∙ (λ i. answer (sym same i, records));
            left = done.written;
          }

  -- a row stands in the set exactly if it is accepted, it is listed once, and the questions say the same
  pub build_right : SaysTheAnswer input h table'
  build_right = built_right input h table' is_built
