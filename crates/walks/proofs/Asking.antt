-- The law of a loop that asks: it reads the table where its state says, one entry a turn, and has numbers of its own to work with. First what the
-- law is of (`Law`), then the two signatures, the loop's MIR and the contracts, and last the loop's statement, by that of `next` (`asks_all`).
-- Assumes `Logic`.
use Rattle.walks.proofs.Prelude.{ℕ, ◌<◌, emp, id⊢, fact, fact_i, pointee, RattleType, slice_ty, Clauses, Ended, Contract, Triple}
use Rattle.walks.proofs.Prelude.{Ura, length, get_or, List, [], ◌∷◌, ◌≡◌, refl, named, w64, ty_ptr, Ty, ty_int, ◌$◌, !, and_then, no_more}
use Rattle.walks.proofs.Prelude.{tables}
unfoldable use Rattle.walks.proofs.Prelude.{tables_of}
use mathlib.Core.Bool.{true, false}
use types.Logic.{Logic}
use package.contract.Running.{Running}
use mir.Syntax.{Callee as Name, Fn, Body as Code, Lifetime, erased, imm, mut, ty_bool, ty_ref, deref, field, place, copy, int, skip as skipᴹ, seq}
use mir.Syntax.{assign, block, loop, cond, exit, return, call, rv_opd, op2, mul, unsigned, offset, addr_of, aggregate}
use prog.Model.{Model}
use prog.Routine.{Env as REnv}
use prog.Wp.{Closed}
use Rattle.paper.specs.declared.Record.{Record}
use Rattle.paper.specs.Records.{blank_entry}
use Rattle.walks.proofs.Arguments.{Lent, read, written}
use Rattle.walks.proofs.Contracts.{contract}
use Rattle.walks.proofs.Entries.{Entry, EntryTy, entry_twice}
use Rattle.walks.proofs.Functions as Functions
use Rattle.walks.proofs.Functions.{Parameter, ends, lends, line, value, walks}
use Rattle.walks.proofs.Lines.{asks, calls_over_last, local, off, on, relends, val}
use Rattle.walks.proofs.Locals.{bare, env_of, full, var}
use Rattle.walks.proofs.Reading.{entry, reads_entry}
use Rattle.walks.proofs.States.{Shape, Field, State, StateTy, field_fits, state_typed, state_value}
use Rattle.walks.proofs.Steps.{slice_typed}
use Rattle.walks.proofs.Turning.{copies_local, reads_field, turns}
use Rattle.walks.proofs.Values.{Good, bound}

-- ---- what the law is of
--     fn drive(table: &[Record], s: S, work: &mut [P]) -> S {
--         let mut t = s;
--         while t.going {
--             let k = t.at;
--             let r = table[k];
--             t = next(t, r, &mut *work);
--         }
--         t
--     }
-- what the loop has in hand
pub record Hand (P : RattleType) (X : Shape) : Type 0 where
  pub state : State X
  pub work : List P.Denot

abbrev hand : (P : RattleType) (X : Shape) → State X → List P.Denot → Hand P X
hand P X s w = record { state = s; work = w }

-- the clauses of the two contracts, and what is to be shown of them: facts on plain values
pub record Law (P : RattleType) (X : Shape) (at_field : Field X) : Type 1 where
  -- `next`'s: of the state, the record and the work, and then the state and the work that it leaves
  pub Ask : State X → Record → List P.Denot → Type 0
  pub Tell : State X → Record → List P.Denot → State X → List P.Denot → Type 0
  -- the loop's: of the table and what it has in hand, and then what it leaves
  pub Ready : List Record → Hand P X → Type 0
  pub Asked : List Record → Hand P X → Hand P X → Type 0
  -- what holds before each turn, of what was in hand at first and what is now; and what falls
  pub Before : List Record → Hand P X → Hand P X → Type 0
  pub falls : Hand P X → ℕ
  pub starts : (t : List Record) (x : Hand P X) → Ready t x → Before t x x
  -- a state that goes on reads inside the table
  pub asks : (t : List Record) (x₀ x : Hand P X) → length x.work ≡ length x₀.work → Before t x₀ x → X.going x.state ≡ true
      → (at_field.value x.state < length t) × Ask x.state (get_or t (at_field.value x.state) blank_entry) x.work
  pub onward : (t : List Record) (x₀ x y : Hand P X) → length x.work ≡ length x₀.work → length y.work ≡ length x₀.work → Before t x₀ x
      → X.going x.state ≡ true
      → Tell x.state (get_or t (at_field.value x.state) blank_entry) x.work y.state y.work → Before t x₀ y × (falls y < falls x)
  pub stops : (t : List Record) (x₀ x : Hand P X) → Before t x₀ x → X.going x.state ≡ false → Asked t x₀ x

-- ---- the two signatures
module _ (P : RattleType) (X : Shape) where
  abbrev pub next_ended : Ended
  next_ended = line {n = 1} (value (state_value X) ∷ value entry ∷ lends (Functions.written 0 tt P) ∷ []) (state_value X)

  abbrev parameters : List (Parameter 2)
  parameters = lends (Functions.read 0 tt Entry entry_twice) ∷ value (state_value X) ∷ lends (Functions.written 1 tt P) ∷ []

  abbrev pub ended : Ended
  ended = line parameters (state_value X)

-- ---- the loop's MIR, at the key of the function that it calls; π is the MIR type of the work's elements
module _ (P : RattleType) (π : Ty) (X : Shape) (at_field : Field X) (k : Name) where
  abbrev turn_code : Code
  turn_code = seq (assign (place 7 []) (rv_opd (copy (place 4 (field X.number ∷ [])))))
      (seq (cond (copy (place 7 [])) skipᴹ (exit 1))
      (seq (assign (place 5 []) (rv_opd (copy (place 4 (field at_field.number ∷ [])))))
      (seq (assign (place 8 []) (op2 (mul unsigned) (copy (place 5 [])) (int w64 10)))
      (seq (assign (place 9 []) (op2 offset (copy (place 1 (field 0 ∷ []))) (copy (place 8 []))))
      (seq (assign (place 10 []) (rv_opd (copy (place 9 (deref EntryTy ∷ [])))))
      (seq (assign (place 6 []) (rv_opd (copy (place 10 []))))
      (seq (assign (place 11 []) (addr_of (place 3 (field 0 ∷ deref π ∷ []))))
      (seq (assign (place 12 []) (aggregate (copy (place 11 []) ∷ copy (place 3 (field 1 ∷ [])) ∷ [])))
      (call k (copy (place 4 []) ∷ copy (place 6 []) ∷ copy (place 12 []) ∷ []) (place 4 []))))))))))

  -- a reference to an element of the work
  abbrev cell : Lifetime → Ty
  cell ℓ = ty_ref ℓ mut (pointee P.written)

  abbrev pub function : Fn
  function = record {
    lifetimes = 2;
    outlives = [];
    ty_params = [];
    givens = 0;
    params = 3;
    locals = var (StateTy X) ∷ var (slice_ty (ty_ref (named 0) imm (pointee Entry.written))) ∷ var (StateTy X) ∷ var (slice_ty (cell (named 1)))
        ∷ var (StateTy X) ∷ var (ty_int w64) ∷ var EntryTy ∷ var ty_bool ∷ var (ty_int w64) ∷ var ty_ptr ∷ var EntryTy ∷ var (cell erased)
        ∷ var (slice_ty (cell erased)) ∷ [];
    body = seq (assign (place 4 []) (rv_opd (copy (place 2 [])))) (seq (block (loop turn_code))
        (seq (assign (place 0 []) (rv_opd (copy (place 4 [])))) return));
  }

-- ---- the two contracts
module _ (P : RattleType) (X : Shape) (at_field : Field X) (L : Law P X at_field) {M : Type 1} (𝓤 : Ura M) where
  abbrev pub next_clauses : Clauses 𝓤 (next_ended P X)
  next_clauses κs a = record {
    ghost = Unit {0};
    requires = λ _. fact 𝓤 (L.Ask a.0 a.1.0 a.1.1.0.now);
    ensures = λ _ r e. fact 𝓤 (L.Tell a.0 a.1.0 a.1.1.0.now r e.1.1.0.now);
  }

  abbrev pub clauses : Clauses 𝓤 (ended P X)
  clauses κs a = record {
    ghost = Unit {0};
    requires = λ _. fact 𝓤 (L.Ready a.0.now (hand P X a.1.0 a.1.1.0.now));
    ensures = λ _ r e. fact 𝓤 (L.Asked a.0.now (hand P X a.1.0 a.1.1.0.now) (hand P X r e.1.1.0.now));
  }

  abbrev pub Next : (𝓛 : Logic 𝓤) → Contract 𝓤
  Next 𝓛 = contract 𝓛 (next_ended P X) next_clauses

-- ---- the loop's statement, by that of `next`. The table and the work are held throughout; a turn reads the entry, lends the work on, and calls. The
-- proof's own line says `unfolding tables_of`
module _ (P : RattleType) (X : Shape) (at_field : Field X) (L : Law P X at_field) {M : Type 1} {𝓤 : Ura M} (𝓛 : Logic 𝓤) (𝓜 : Model 𝓤 𝓛.H)
    (𝓡 : Running 𝓤 𝓛.H 𝓜) (π : Ty) (γ : REnv) (k next : Name) where
  open 𝓛 use {H}

  pub asks_all : Closed 𝓤 H (tables 𝓤 H 𝓜 𝓡 γ).C (tables 𝓤 H 𝓜 𝓡 γ).Λ k (function P π X at_field next)
      → Triple 𝓤 ((tables 𝓤 H 𝓜 𝓡 γ).C next) (Next P X at_field L 𝓤 𝓛)
      → Triple 𝓤 ((tables 𝓤 H 𝓜 𝓡 γ).C k) (contract 𝓛 (ended P X) (clauses P X at_field L 𝓤))
  unfolding tables_of
  asks_all closed knows =
      walks 𝓛 𝓜 𝓡 (parameters P X) (state_value X) (clauses P X at_field L 𝓤)
      (λ κs a. asks (L.Ready a.0.now (hand P X a.1.0 a.1.1.0.now)))
      γ k (function P π X at_field next) closed
      (λ κs a g. id⊢ 𝓤 _) (λ κs qs a are. id⊢ 𝓤 _) (λ κs qs a are. id⊢ 𝓤 _) (λ s bs shapes. shapes)
      ((next, Next P X at_field L 𝓤 𝓛) ∷ []) (knows, tt)
      (λ 𝓣 known s bs.
      let table = s.args.0.now in
      let table_room = s.known.0.0.1 in
      let work_room = s.known.1.1.0.0.1 in
      let x₀ = hand P X s.args.1.0 s.args.1.1.0.now in
      let Table : Lent = read Entry entry_twice s.lifetimes.0 s.shares.0 s.args.0 in
      let Work : (w : List P.Denot) → length w ≡ length x₀.work → Lent =
      written P s.lifetimes.1.0 s.shares.1.0 s.args.1.1.0 work_room in
      let Holds : Hand P X → Type 0 = λ x. Good (state_value X) x.state × ((length x.work ≡ length x₀.work) × L.Before table x₀ x) in
      copies_local ! refl refl (state_typed X 𝓛 x₀.state s.known.1.0) $
      turns ! 𝓣 X (λ (x : Hand P X). x.state) Holds L.falls (λ x ok. off Table ∷ off (Work x.work ok.1.0) ∷ [])
      refl (λ c. (tt, tt)) (λ v. refl) (λ v. refl) (λ v u. refl)
      (λ x ok goes q again.
      let n = at_field.value x.state in
      let r = get_or table n blank_entry in
      let long = ok.1.0 in
      let here = L.asks table x₀ x long ok.1.1 goes in
      reads_field ! X at_field x.state refl refl refl (tt, field_fits X 𝓛 x.state ok.0 at_field) $
      -- with the locals and their numbers, without which antt compares the contexts for too long
      reads_entry {E = env_of (function P π X at_field next).locals bs} {i = 1} {k = 5} {a = 8} {l = 9} {c = 10} {r = 6} !
      s.args.0 (off (Work x.work long) ∷ []) n table_room here.0
      refl refl refl refl refl refl refl refl refl refl refl refl refl refl (λ r-good.
      relends ! refl refl refl (tt, tt) refl refl refl (slice_typed work_room.0) $
      calls_over_last ! 𝓣 (off Table ∷ val (state_value X) x.state ok.0 ∷ val entry r r-good ∷ on (Work x.work long) ∷ [])
      (asks (L.Ask x.state r x.work)) (state_value X) (λ t ws. L.Tell x.state r x.work t ws.1.1.0) _
      known.0 (λ κs qs a ls. ((κs, qs, tt, a, ls), tt)) (λ ns. id⊢ 𝓤 _) (λ ns v. id⊢ 𝓤 _) here.1
      (λ ns. and_then ! (local ! refl) (and_then ! (local ! refl) (and_then ! (local ! refl) (no_more !)))) refl refl (λ t ws t-good longs told.
      let y = hand P X t ws.1.1.0 in
      let further = L.onward table x₀ x y long longs.0 ok.1.1 goes told in
      again y (t-good, (longs.0, further.0)) further.1
      (full _ ∷ full _ ∷ full _ ∷ full _ ∷ full _ ∷ full _ ∷ full _ ∷ full _ ∷ []))))
      (λ x ok over.
      copies_local ! refl refl (state_typed X 𝓛 x.state ok.0) $
      ends ! s x.state ok.0 (tt, (bound (state_value X) x₀.state, (x.work, tt))) (tt, (ok.1.0, tt))
      (fact_i 𝓤 _ (emp 𝓤) (L.stops table x₀ x ok.1.1 over)) (full _ ∷ full _ ∷ full _ ∷ full _ ∷ bare ∷ bare ∷ full _ ∷ []))
      x₀ (s.known.1.0, (refl, L.starts table x₀ s.asked_for)) refl)
