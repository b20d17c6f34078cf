-- The loop over the rules of a node, a leaf's and a branch's: where the building stands after some of them, that one more goes on from
-- there, and what is answered where no rule or no room is left.
use mathlib.Core.List.{List, ◌++◌}
use mathlib.Core.Logic.{◌⊎◌, inl, inr, ⊎_elim}
use mathlib.Core.Path.{◌∙◌, ◌≡◌, ap, refl}
use Prim.Native.Nat.{◌<◌, ◌≤◌, ℕ}
use native.Mathlib.Omega.{arith}
use lib.ListN.{drop, length}
use Rattle.std.specs.Prelude.{Result}
use Rattle.paper.specs.declared.Refusal.{Refusal}
use Rattle.paper.specs.Stream.{records_of}
use Rattle.building.specs.Batch.{Record, records_in}
use Rattle.building.specs.Bounds.{batch_records, waiting_records}
use Rattle.building.specs.Standing.{Filling, Standing, State, Turns}
use Rattle.building.specs.States.{Counts, more}
use Rattle.building.proofs.Limits.{rules_counted}
use Rattle.building.proofs.OwnShelf.{Onward}

-- some rules are done, or none yet
pub record Ran (input : List ℕ) (t : State) (work : List ℕ) (base : List Record) (count rule : ℕ) (work' batch' : List ℕ) : Type 0 where
  pub standing : Standing input (more t count rule) work' (base ++ records_in count batch')
  pub few : count ≤ batch_records
  rest : drop t.asked work' ≡ drop t.asked work
  fewer : ((count ≡ t.count) × (rule ≡ t.rule)) ⊎ (length (records_of (drop rule input)) < length (records_of (drop t.rule input)))

module _ (input : List ℕ) (t : State) (work batch : List ℕ) (base : List Record) (f : Filling input t work batch base) (few : t.count ≤ waiting_records) where
  pub ran_starts : Ran input t work base t.count t.rule work batch
  ran_starts = record { standing = f.standing; few = omega arith; rest = refl; fewer = inl (refl, refl) }

  module _ {count rule : ℕ} {work' batch' : List ℕ} (r : Ran input t work base count rule work' batch') where
    pub ran_onward : count ≤ waiting_records → {count'' next : ℕ} {work'' batch'' : List ℕ}
        → Onward input (more t count rule) work' base count'' next work'' batch'' → Ran input t work base count'' next work'' batch''
    ran_onward room {next = next} o = record {
      standing = o.standing;
      few = omega (arith, o.few);
      rest = o.rest ∙ r.rest;
      fewer = inr (⊎_elim (λ w. omega (arith, o.fewer, ap (λ x. length (records_of (drop x input))) w.1)) (λ l. omega (arith, o.fewer)) r.fewer);
    }

    pub ran_ends : t.rule < length input → (waiting_records < count) ⊎ (length input ≤ rule) → (outcome : Result (Unit {0}) Refusal) (r' : State)
        → Counts t count rule outcome r' → Turns input t work base outcome r' work' batch'
    ran_ends h ended outcome r' e = rules_counted input t work batch base f count rule work' batch' r.standing r.few r.rest some_done outcome r' e
      where
        some_done : length (records_of (drop rule input)) < length (records_of (drop t.rule input))
        some_done = ⊎_elim (λ w. absurd (⊎_elim (λ l. omega arith) (λ l. omega arith) ended)) (λ l. l) r.fewer
