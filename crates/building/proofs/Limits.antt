-- The records of some rules against the limit: the building goes on with them, or stops since it makes more than fit.
-- First numbers that stay, then the two ways.
use mathlib.Core.List.{List, ◌++◌}
use mathlib.Core.Path.{◌∙◌, ◌≡◌, ap, refl, subst, sym}
use Prim.Native.Nat.{◌+◌, ◌<◌, ◌≤◌, ℕ}
use native.Mathlib.Omega.{arith}
use lib.ListN.{drop, length, length-append}
use Rattle.std.specs.Prelude.{Err, Ok, Result}
use Rattle.paper.specs.declared.Refusal.{Refusal}
use Rattle.paper.specs.Stream.{records_of}
use Rattle.table.proofs.Batches.{length_records}
use Rattle.building.specs.Batch.{Record, records_in}
use Rattle.building.specs.Bounds.{batch_records}
use Rattle.building.specs.Standing.{Constants, Filling, Standing, State, Stepped, Stopped, Turns}
use Rattle.building.specs.States.{Counts, more}
use Rattle.building.specs.declared.frame.Shape.{Shape}
use Rattle.building.proofs.Growing.{grows_past}
use Rattle.building.proofs.NodeEnd.{made_stay}

-- the numbers that stay, of a state that has the same
pub constants_stay : (input : List ℕ) (t t' : State) → t'.nodes ≡ t.nodes → t'.rules ≡ t.rules → t'.shape ≡ t.shape → t'.asked ≡ t.asked
    → t'.limit ≡ t.limit → Constants input t → Constants input t'
constants_stay input t t' nodes rules shape asked limit k = record {
  tree = k.tree;
  query = k.query;
  nodes = nodes ∙ k.nodes;
  rules = rules ∙ k.rules;
  arity = ap (λ (x : Shape). x.arity) shape ∙ k.arity;
  states = ap (λ (x : Shape). x.states) shape ∙ k.states;
  asked = asked ∙ k.asked;
  limit = omega (arith, k.limit);
}

pub more_records : (made : List Record) (n : ℕ) (batch : List ℕ) → length (made ++ records_in n batch) ≡ length made + n
more_records made n batch = omega (arith, length-append made (records_in n batch), length_records n batch)

-- ---- rules of a node that are done, with so many records in the batch
module _ (input : List ℕ) (t : State) (work batch : List ℕ) (base : List Record) (f : Filling input t work batch base) (count next : ℕ)
    (work' batch' : List ℕ) (s : Standing input (more t count next) work' (base ++ records_in count batch')) (few : count ≤ batch_records)
    (rest : drop t.asked work' ≡ drop t.asked work)
    (fewer : length (records_of (drop next input)) < length (records_of (drop t.rule input))) where
  -- as many as fit, or too many
  pub rules_counted : (outcome : Result (Unit {0}) Refusal) (r : State) → Counts t count next outcome r → Turns input t work base outcome r work' batch'
  rules_counted (Ok done) r (fits, e) =
      subst (λ x. Stepped input t work base x work' batch') (sym e)
      (record {
        filling = record { standing = s; start = f.start; few = omega (arith, f.few) };
        limit = refl;
        asked = refl;
        node = refl;
        rest = rest;
        count = few;
        fewer = fewer;
      })
  rules_counted (Err why) r (many, sixth, e) =
      subst (λ x. Stopped input t work why x work') (sym e)
      (record {
        past = record {
          constants = f.standing.constants;
          many = grows_past (made_stay input (more t count next) s.constants s.node next (base ++ records_in count batch', s.slots) s.rule) t.limit
              (omega (arith, s.used, f.few));
          sixth = sixth;
        };
        limit = refl;
        asked = refl;
        rest = rest;
      })
