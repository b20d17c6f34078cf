-- The law of the building loop, for any state (`States.antt`), any function `step` and any function that stores (`Storing.antt`). First what
-- the law is of (`Law`), then the parameters, the loop's MIR and the contracts, and the walk: `building_meets`.
-- Assumes `Logic`.
use types.Logic.{Logic}
use denote.Plain.{uint_row_laws}
use denote.Ref.{Bor, MutBor}
use Rattle.walks.proofs.Prelude.{ !, ◌$◌, and_then, closing, emp, fact_i, fact, id⊢, length, named, no_more, pointee, refl, slice_ty}
use Rattle.walks.proofs.Prelude.{◌<◌, ◌≡◌, ◌∷◌, [], u16, u8, w16, w64, w8, ℕ, ty_int, Clauses, Contract, List, Meets, RattleType}
use Rattle.walks.proofs.Prelude.{Tables, Triple, Ty, Ura, WpFn}
use mathlib.Core.Bool.{true, false}
use mir.Syntax.{Callee as Name, Fn, Body as Code, erased, imm, mut, ty_bool, ty_unit, ty_ref, deref, field, place, copy, skip as skipᴹ, seq}
use mir.Syntax.{assign, block, loop, cond, exit, return, call, rv_opd, addr_of, aggregate}
use Rattle.paper.specs.declared.Record.{Record}
use Rattle.walks.proofs.Arguments.{Lent, read, shown, written}
use Rattle.walks.proofs.Arrays.{number_shows}
use Rattle.walks.proofs.Contracts.{contract}
use Rattle.walks.proofs.Entries.{Entry, EntryTy}
use Rattle.walks.proofs.Functions as Functions
use Rattle.walks.proofs.Functions.{Parameter, ends, lends, line, meets, value}
use Rattle.walks.proofs.Lines.{Arg, asks, calls_last, calls_over, local, none, off, on, relends, val}
use Rattle.walks.proofs.Locals.{bare, full, var}
use Rattle.walks.proofs.States.{Field, Shape, State, StateTy, field_fits, state_typed, state_value}
use Rattle.walks.proofs.Steps.{slice_typed}
pub use Rattle.walks.proofs.Storing.{Hand, turned, Store}
use Rattle.walks.proofs.Storing.{Alike, Storer, having, turned_on}
use Rattle.walks.proofs.Turning.{copies_local, reads_field, turns}
use Rattle.walks.proofs.Values.{Good, bound, number, unit}

-- ---- what the law is of
--     fn drive(table: &mut [Record], input: &[u8], lists: &[u16], s: S, work: &mut [P], batch: &mut [u16]) -> S {
--         let mut t = s;
--         while t.going {
--             t = step(t, input, lists, &mut *work, &mut *batch);
--             let from = t.from;
--             let count = t.count;
--             store(&mut *table, from, &*batch, count);
--         }
--         t
--     }
module _ (P : RattleType) (X : Shape) (storer : Storer) (from_field count_field : Field X) where
  abbrev after : List Record → State X → List P.Denot → List ℕ → Hand P X
  after = turned P X storer from_field count_field

  -- the clauses of the two contracts, and what is to be shown of them: facts on plain values
  pub record Law : Type 1 where
    -- `step`'s: of the input, the lists, the state, the work and the batch; then of all but the lists, and of the state, the work and the batch
    -- that it leaves
    pub Ask : List ℕ → List ℕ → State X → List P.Denot → List ℕ → Type 0
    pub Tell : List ℕ → State X → List P.Denot → List ℕ → State X → List P.Denot → List ℕ → Type 0
    -- the loop's: of the input, the lists and what it has in hand; then of the input, what it had in hand and what it leaves
    pub Ready : List ℕ → List ℕ → Hand P X → Type 0
    pub Built : List ℕ → Hand P X → Hand P X → Type 0
    -- what holds before each turn, of what was in hand at first and what is now; and what falls
    pub Before : List ℕ → List ℕ → Hand P X → Hand P X → Type 0
    pub falls : List ℕ → Hand P X → ℕ
    pub starts : (i ls : List ℕ) (x : Hand P X) → Ready i ls x → Before i ls x x
    pub asks : (i ls : List ℕ) (x₀ x : Hand P X) → Alike P X x₀ x → Before i ls x₀ x → X.going x.state ≡ true
        → Ask i ls x.state x.work x.batch
    pub onward : (i ls : List ℕ) (x₀ x : Hand P X) (s : State X) (w : List P.Denot) (b : List ℕ) → Alike P X x₀ x
        → Alike P X x₀ (after x.table s w b) → Before i ls x₀ x → X.going x.state ≡ true
        → Tell i x.state x.work x.batch s w b → Before i ls x₀ (after x.table s w b) × (falls i (after x.table s w b) < falls i x)
    pub stops : (i ls : List ℕ) (x₀ x : Hand P X) → Before i ls x₀ x → X.going x.state ≡ false → Built i x₀ x

-- ---- the parameters, of `step` and of the loop
module _ (P : RattleType) (X : Shape) where
  abbrev step_parameters : List (Parameter 4)
  step_parameters = value (state_value X) ∷ lends (Functions.read 0 tt u8 (uint_row_laws w8)) ∷ lends (Functions.read 1 tt u16 (uint_row_laws w16))
      ∷ lends (Functions.written 2 tt P) ∷ lends (Functions.written 3 tt u16) ∷ []

  abbrev parameters : List (Parameter 5)
  parameters = lends (Functions.written 0 tt Entry) ∷ lends (Functions.read 1 tt u8 (uint_row_laws w8))
      ∷ lends (Functions.read 2 tt u16 (uint_row_laws w16)) ∷ value (state_value X) ∷ lends (Functions.written 3 tt P) ∷ lends (Functions.written 4 tt u16) ∷ []

-- ---- the loop's MIR, at the keys of the two functions that it calls; π is the MIR type of the work's elements
module _ (P : RattleType) (π : Ty) (X : Shape) (from_field count_field : Field X) (k k' : Name) where
  abbrev turn_code : Code
  turn_code = seq (assign (place 10 []) (rv_opd (copy (place 7 (field X.number ∷ [])))))
      (seq (cond (copy (place 10 [])) skipᴹ (exit 1))
      (seq (assign (place 11 []) (addr_of (place 5 (field 0 ∷ deref π ∷ []))))
      (seq (assign (place 12 []) (aggregate (copy (place 11 []) ∷ copy (place 5 (field 1 ∷ [])) ∷ [])))
      (seq (assign (place 13 []) (addr_of (place 6 (field 0 ∷ deref (ty_int w16) ∷ []))))
      (seq (assign (place 14 []) (aggregate (copy (place 13 []) ∷ copy (place 6 (field 1 ∷ [])) ∷ [])))
      (seq (call k (copy (place 7 []) ∷ copy (place 2 []) ∷ copy (place 3 []) ∷ copy (place 12 []) ∷ copy (place 14 []) ∷ []) (place 7 []))
      (seq (assign (place 8 []) (rv_opd (copy (place 7 (field from_field.number ∷ [])))))
      (seq (assign (place 9 []) (rv_opd (copy (place 7 (field count_field.number ∷ [])))))
      (seq (assign (place 16 []) (addr_of (place 1 (field 0 ∷ deref EntryTy ∷ []))))
      (seq (assign (place 17 []) (aggregate (copy (place 16 []) ∷ copy (place 1 (field 1 ∷ [])) ∷ [])))
      (seq (assign (place 18 []) (addr_of (place 6 (field 0 ∷ deref (ty_int w16) ∷ []))))
      (seq (assign (place 19 []) (aggregate (copy (place 18 []) ∷ copy (place 6 (field 1 ∷ [])) ∷ [])))
      (call k' (copy (place 17 []) ∷ copy (place 8 []) ∷ copy (place 19 []) ∷ copy (place 9 []) ∷ []) (place 15 []))))))))))))))

  -- what lies behind a reference to an entry, and to an element of the work
  abbrev entry : Ty
  entry = pointee Entry.written

  abbrev cell : Ty
  cell = pointee P.written

  abbrev pub function : Fn
  function = record {
    lifetimes = 5;
    outlives = [];
    ty_params = [];
    givens = 0;
    params = 6;
    locals = var (StateTy X) ∷ var (slice_ty (ty_ref (named 0) mut entry)) ∷ var (slice_ty (ty_ref (named 1) imm (ty_int w8)))
        ∷ var (slice_ty (ty_ref (named 2) imm (ty_int w16))) ∷ var (StateTy X)
        ∷ var (slice_ty (ty_ref (named 3) mut cell)) ∷ var (slice_ty (ty_ref (named 4) mut (ty_int w16))) ∷ var (StateTy X)
        ∷ var (ty_int w64) ∷ var (ty_int w64) ∷ var ty_bool ∷ var (ty_ref erased mut cell) ∷ var (slice_ty (ty_ref erased mut cell)) ∷ var (ty_ref erased mut (ty_int w16))
        ∷ var (slice_ty (ty_ref erased mut (ty_int w16))) ∷ var ty_unit ∷ var (ty_ref erased mut entry) ∷ var (slice_ty (ty_ref erased mut entry))
        ∷ var (ty_ref erased imm (ty_int w16)) ∷ var (slice_ty (ty_ref erased imm (ty_int w16))) ∷ [];
    body = seq (assign (place 7 []) (rv_opd (copy (place 4 [])))) (seq (block (loop turn_code)) (seq (assign (place 0 []) (rv_opd (copy (place 7 [])))) return));
  }

-- what the loop is handed, of its six parameters
abbrev Passed : RattleType → Shape → Type 0
Passed P X = MutBor (List Record) × (Bor (List ℕ) × (Bor (List ℕ) × (State X × (MutBor (List P.Denot) × (MutBor (List ℕ) × Unit {0})))))

abbrev in_hand : {P : RattleType} {X : Shape} → Passed P X → Hand P X
in_hand {P} {X} a = having P X a.0.now a.1.1.1.0 a.1.1.1.1.0.now a.1.1.1.1.1.0.now

module _ (P : RattleType) (X : Shape) (storer : Storer) (from_field count_field : Field X) (L : Law P X storer from_field count_field) {M : Type 1}
    (𝓤 : Ura M) where
  -- ---- the two contracts
  abbrev step_clauses : Clauses 𝓤 (line (step_parameters P X) (state_value X))
  step_clauses κs a = record {
    ghost = Unit {0};
    requires = λ _. fact 𝓤 (L.Ask a.1.0.now a.1.1.0.now a.0 a.1.1.1.0.now a.1.1.1.1.0.now);
    ensures = λ _ r e. fact 𝓤 (L.Tell a.1.0.now a.0 a.1.1.1.0.now a.1.1.1.1.0.now r e.1.1.1.0.now e.1.1.1.1.0.now);
  }

  abbrev clauses : Clauses 𝓤 (line (parameters P X) (state_value X))
  clauses κs a = record {
    ghost = Unit {0};
    requires = λ _. fact 𝓤 (L.Ready a.1.0.now a.1.1.0.now (in_hand a));
    ensures = λ _ r e. fact 𝓤 (L.Built a.1.0.now (in_hand a)
        (having P X e.0.now r e.1.1.1.1.0.now e.1.1.1.1.1.0.now));
  }

  module _ (𝓛 : Logic 𝓤) where
    open 𝓛 use {H}

    abbrev pub Step : Contract 𝓤
    Step = contract 𝓛 (line (step_parameters P X) (state_value X)) step_clauses

    module _ (π : Ty) (k k' : Name) (𝓣 : Tables 𝓤 H) (known : Triple 𝓤 (𝓣.C k) Step) (known' : Triple 𝓤 (𝓣.C k') (Store storer 𝓤 𝓛)) where
      abbrev loop_code : Fn
      loop_code = function P π X from_field count_field k k'

      -- the loop's MIR meets its contract, where `step` meets its own, and the function that stores its own
      pub building_meets : Meets 𝓛 (line (parameters P X) (state_value X)).signature (WpFn 𝓤 H 𝓣.C 𝓣.Λ loop_code)
          (closing 𝓛 (line (parameters P X) (state_value X)) clauses)
      building_meets =
          meets 𝓛 𝓣 (parameters P X) (state_value X) clauses (λ κs a. asks (L.Ready a.1.0.now a.1.1.0.now (in_hand a))) loop_code
          (λ κs a g. id⊢ 𝓤 _) (λ κs qs a are. id⊢ 𝓤 _) (λ κs qs a are. id⊢ 𝓤 _) (λ s bs shapes. shapes)
          (λ s bs.
          let input = s.args.1.0.now in
          let lists = s.args.1.1.0.now in
          let x₀ : Hand P X = in_hand s.args in
          let Table : (t : List Record) → length t ≡ length x₀.table → Lent = written Entry s.lifetimes.0 s.shares.0 s.args.0 s.known.0.0.1 in
          let Input : Lent = read u8 (uint_row_laws w8) s.lifetimes.1.0 s.shares.1.0 s.args.1.0 in
          let Lists : Lent = read u16 (uint_row_laws w16) s.lifetimes.1.1.0 s.shares.1.1.0 s.args.1.1.0 in
          let Work : (w : List P.Denot) → length w ≡ length x₀.work → Lent =
          written P s.lifetimes.1.1.1.0 s.shares.1.1.1.0 s.args.1.1.1.1.0 s.known.1.1.1.1.0.0.1 in
          let Batch : (b : List ℕ) → length b ≡ length x₀.batch → Lent =
          written u16 s.lifetimes.1.1.1.1.0 s.shares.1.1.1.1.0 s.args.1.1.1.1.1.0 s.known.1.1.1.1.1.0.0.1 in
          let Shown : (b : List ℕ) → length b ≡ length x₀.batch → Lent =
          shown u16 s.lifetimes.1.1.1.1.0 s.shares.1.1.1.1.0 s.args.1.1.1.1.1.0 (number_shows w16) s.known.1.1.1.1.1.0.0.1 in
          let Holds : Hand P X → Type 0 = λ x. Good (state_value X) x.state × (Alike P X x₀ x × L.Before input lists x₀ x) in
          let Held : (x : Hand P X) → Holds x → List Arg = λ x ok. on (Table x.table ok.1.0.0) ∷ on Input ∷ on Lists
          ∷ on (Work x.work ok.1.0.1.0) ∷ on (Batch x.batch ok.1.0.1.1) ∷ [] in
          copies_local ! refl refl (state_typed X 𝓛 x₀.state s.known.1.1.1.0) $
          turns ! 𝓣 X (λ (x : Hand P X). x.state) Holds (L.falls input) Held refl (λ c. (tt, tt)) (λ v. refl) (λ v. refl) (λ v u. refl)
          (λ x ok goes q again.
          let same = ok.1.0 in
          relends ! refl refl refl (tt, tt) refl refl refl (slice_typed s.known.1.1.1.1.0.0.1.0) $
          relends ! refl refl refl (tt, tt) refl refl refl (slice_typed s.known.1.1.1.1.1.0.0.1.0) $
          calls_over ! 𝓣 (off (Table x.table same.0) ∷ val (state_value X) x.state ok.0 ∷ on Input ∷ on Lists ∷ on (Work x.work same.1.0)
          ∷ on (Batch x.batch same.1.1) ∷ []) (asks (L.Ask input lists x.state x.work x.batch)) (state_value X)
          (λ r ws. L.Tell input x.state x.work x.batch r ws.1.1.1.0 ws.1.1.1.1.0) _
          known (λ κs qs a ls. ((κs, qs, tt, a, ls), tt)) (λ ns. id⊢ 𝓤 _) (λ ns v. id⊢ 𝓤 _) (L.asks input lists x₀ x same ok.1.1 goes)
          (λ ns. and_then ! (local ! refl) (and_then ! (local ! refl) (and_then ! (local ! refl) (and_then ! (local ! refl) (and_then ! (local ! refl) (no_more !))))))
          refl refl (λ t ws t-good long told.
          let w = ws.1.1.1.0 in
          let b = ws.1.1.1.1.0 in
          let from = field_fits X 𝓛 t t-good from_field in
          let count = field_fits X 𝓛 t t-good count_field in
          reads_field ! X from_field t refl refl refl (tt, from) $ reads_field ! X count_field t refl refl refl (tt, count) $
          relends ! refl refl refl (tt, tt) refl refl refl (slice_typed s.known.0.0.1.0) $
          relends ! refl refl refl (tt, tt) refl refl refl (slice_typed s.known.1.1.1.1.1.0.0.1.0) $
          calls_last ! 𝓣 (on (Table x.table same.0) ∷ val (number w64) (from_field.value t) (refl, from.fits) ∷ off Input ∷ off Lists
          ∷ off (Work w long.1.1.0) ∷ on (Shown b long.1.1.1.0) ∷ val (number w64) (count_field.value t) (refl, count.fits) ∷ []) none unit
          (λ r us. us.0 ≡ storer.put x.table (from_field.value t) b (count_field.value t)) _
          known' (λ κs qs a ls. ((κs, qs, tt, a, ls), tt)) (λ ns. id⊢ 𝓤 _) (λ ns v. id⊢ 𝓤 _) tt
          (λ ns. and_then ! (local ! refl) (and_then ! (local ! refl) (and_then ! (local ! refl) (and_then ! (local ! refl) (no_more !)))))
          refl refl (λ r us r-good table_long stored.
          let next = turned_on P X storer from_field count_field x₀ x (L.Before input lists x₀) (L.falls input) us.0 t w b stored same
          long.1.1.0 long.1.1.1.0 (λ still. L.onward input lists x₀ x t w b same still ok.1.1 goes told) in
          again (having P X us.0 t w b) (t-good, next.0) next.1
          (full _ ∷ full _ ∷ full _ ∷ full _ ∷ full _ ∷ full _ ∷ full _ ∷ full _ ∷ full _ ∷ full _ ∷ full _ ∷ full _ ∷ []))))
          (λ x ok over.
          let same = ok.1.0 in
          copies_local ! refl refl (state_typed X 𝓛 x.state ok.0) $
          ends ! s x.state ok.0 (x.table, (tt, (tt, (bound (state_value X) x₀.state, (x.work, (x.batch, tt))))))
          (same.0, (tt, (tt, (same.1.0, (same.1.1, tt))))) (fact_i 𝓤 _ (emp 𝓤) (L.stops input lists x₀ x ok.1.1 over))
          (full _ ∷ full _ ∷ full _ ∷ full _ ∷ full _ ∷ full _ ∷ full _ ∷ bare ∷ bare ∷ full _ ∷ []))
          x₀ (s.known.1.1.1.0, ((refl, (refl, refl)), L.starts input lists x₀ s.asked_for)) refl)
