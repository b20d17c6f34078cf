-- A loop that stores. First the function that it stores by, which may be any of its signature, by what it leaves of the table (`Storer`); then what
-- the loop has in hand, and what a turn leaves of it.
-- Assumes nothing.
use Rattle.walks.proofs.Prelude.{◌<◌, ◌≡◌, ◌∙◌, ◌∷◌, [], emp, fact, length, subst, sym, u16, w16, w64, ℕ}
use Rattle.walks.proofs.Prelude.{Clauses, Contract, List, RattleType, Ura}
use Rattle.paper.specs.declared.Record.{Record}
use Rattle.walks.proofs.Contracts.{contract}
use Rattle.walks.proofs.Entries.{Entry}
use Rattle.walks.proofs.Functions.{Parameter, lends, line, read, value, written}
use Rattle.walks.proofs.States.{Field, Shape, State}
use Rattle.walks.proofs.Values.{number, unit}
use denote.Plain.{uint_row_laws}
use types.Logic.{Logic}

-- ---- the function that stores
--     fn store(table: &mut [Record], from: usize, batch: &[u16], count: usize)
-- what it leaves of the table: `put`, of the table, the entry that it begins at, the batch, and how many records of the batch are meant
pub record Storer : Type 0 where
  pub put : List Record → ℕ → List ℕ → ℕ → List Record
  pub keeps_length : (t : List Record) (from : ℕ) (batch : List ℕ) (count : ℕ) → length (put t from batch count) ≡ length t

abbrev parameters : List (Parameter 2)
parameters = lends (written 0 tt Entry) ∷ value (number w64) ∷ lends (read 1 tt u16 (uint_row_laws w16)) ∷ value (number w64) ∷ []

module _ (storer : Storer) {M : Type 1} (𝓤 : Ura M) where
  -- it has no `requires`: what it does where the records do not fit, `put` says
  abbrev clauses : Clauses 𝓤 (line parameters unit)
  clauses κs a = record {
    ghost = Unit {0};
    requires = λ _. emp 𝓤;
    ensures = λ _ r e. fact 𝓤 (e.0.now ≡ storer.put a.0.now a.1.0 a.1.1.0.now a.1.1.1.0);
  }

  abbrev pub Store : (𝓛 : Logic 𝓤) → Contract 𝓤
  Store 𝓛 = contract 𝓛 (line parameters unit) clauses

-- ---- what a loop that stores has in hand
-- `table` is the table that is stored to
pub record Hand (P : RattleType) (X : Shape) : Type 0 where
  pub table : List Record
  pub state : State X
  pub work : List P.Denot
  pub batch : List ℕ

module _ (P : RattleType) (X : Shape) where
  -- the lent slices are as long as they were
  abbrev pub Alike : Hand P X → Hand P X → Type 0
  Alike x y = (length y.table ≡ length x.table) × ((length y.work ≡ length x.work) × (length y.batch ≡ length x.batch))

  abbrev pub having : List Record → State X → List P.Denot → List ℕ → Hand P X
  having t s w b = record { table = t; state = s; work = w; batch = b }

  module _ (storer : Storer) (from_field count_field : Field X) where
    -- what a turn leaves, of the table and of the state, the work and the batch that the callee gives
    abbrev pub turned : List Record → State X → List P.Denot → List ℕ → Hand P X
    turned t s w b = having (storer.put t (from_field.value s) b (count_field.value s)) s w b

    -- and where t is the table that the function that stores has left: what is known of the one holds of the other
    pub turned_on : (x₀ x : Hand P X) (Before : Hand P X → Type 0) (falls : Hand P X → ℕ) (t : List Record) (s : State X) (w : List P.Denot) (b : List ℕ)
        → t ≡ storer.put x.table (from_field.value s) b (count_field.value s) → Alike x₀ x → length w ≡ length x₀.work → length b ≡ length x₀.batch
        → (Alike x₀ (turned x.table s w b) → Before (turned x.table s w b) × (falls (turned x.table s w b) < falls x))
        → (Alike x₀ (having t s w b) × Before (having t s w b)) × (falls (having t s w b) < falls x)
    turned_on x₀ x Before falls t s w b stored same work_long batch-long further =
        subst (λ (z : List Record). (Alike x₀ (having z s w b) × Before (having z s w b)) × (falls (having z s w b) < falls x)) (sym stored)
        ((still, (further still).0), (further still).1)
      where
        still : Alike x₀ (turned x.table s w b)
        still = (storer.keeps_length x.table (from_field.value s) b (count_field.value s) ∙ same.0, (work_long, batch-long))
