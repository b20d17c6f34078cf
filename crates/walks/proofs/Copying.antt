-- The law of a loop that copies: it reads the source where its state says, one entry a turn, and stores the records that `next` makes of it in the
-- target. First what the law is of (`Law`), then the parameters, the loop's MIR and the contracts, and the walk: `copying_meets`.
-- Assumes `Logic`.
use types.Logic.{Logic}
use denote.Ref.{Bor, MutBor}
use Rattle.walks.proofs.Prelude.{ !, ◌$◌, and_then, closing, emp, fact, fact_i, get_or, id⊢, length, named, no_more, pointee, refl, slice_ty}
use Rattle.walks.proofs.Prelude.{◌<◌, ◌≡◌, ◌∷◌, [], u16, w16, w64, ℕ, ty_int, ty_ptr, Clauses, Contract, List, Meets, RattleType}
use Rattle.walks.proofs.Prelude.{Tables, Triple, Ty, Ura, WpFn}
use mathlib.Core.Bool.{true, false}
use mir.Syntax.{Callee as Name, Fn, Body as Code, erased, imm, mut, ty_bool, ty_unit, ty_ref, deref, field, place, copy, int, skip as skipᴹ, seq}
use mir.Syntax.{assign, block, loop, cond, exit, return, call, rv_opd, op2, mul, unsigned, offset, addr_of, aggregate}
use Rattle.paper.specs.declared.Record.{Record}
use Rattle.paper.specs.Records.{blank_entry}
use Rattle.walks.proofs.Arguments as Arguments
use Rattle.walks.proofs.Arguments.{Lent, shown, written}
use Rattle.walks.proofs.Arrays.{number_shows}
use Rattle.walks.proofs.Contracts.{contract}
use Rattle.walks.proofs.Entries.{Entry, EntryTy, entry_twice}
use Rattle.walks.proofs.Functions as Functions
use Rattle.walks.proofs.Functions.{Parameter, ends, lends, line, meets, value}
use Rattle.walks.proofs.Lines.{Arg, asks, calls_last, calls_over, local, none, off, on, relends, val}
use Rattle.walks.proofs.Locals.{bare, env_of, full, var}
use Rattle.walks.proofs.Reading.{entry as entry_value, reads_entry}
use Rattle.walks.proofs.States.{Field, Shape, State, StateTy, field_fits, state_typed, state_value}
use Rattle.walks.proofs.Steps.{slice_typed}
pub use Rattle.walks.proofs.Storing.{Hand, turned, Store}
use Rattle.walks.proofs.Storing.{Alike, Storer, having, turned_on}
use Rattle.walks.proofs.Turning.{copies_local, reads_field, turns}
use Rattle.walks.proofs.Values.{Good, bound, number, unit}

-- ---- what the law is of
--     fn drive(source: &[Record], s: S, work: &mut [P], target: &mut [Record], batch: &mut [u16]) -> S {
--         let mut t = s;
--         while t.going {
--             let k = t.at;
--             let r = source[k];
--             t = next(t, r, &mut *work, &mut *batch);
--             let from = t.from;
--             let count = t.count;
--             store(&mut *target, from, &*batch, count);
--         }
--         t
--     }
-- What it has in hand is `Storing.antt`'s, where the table is the target.
module _ (P : RattleType) (X : Shape) (storer : Storer) (at_field from_field count_field : Field X) where
  abbrev after : List Record → State X → List P.Denot → List ℕ → Hand P X
  after = turned P X storer from_field count_field

  -- the entry that a turn reads
  abbrev pub entry_at : List Record → State X → Record
  entry_at source s = get_or source (at_field.value s) blank_entry

  -- the clauses of the two contracts, and what is to be shown of them: facts on plain values
  pub record Law : Type 1 where
    -- `next`'s: of the state, the record, the work and the batch, and then the state, the work and the batch that it leaves
    pub Ask : State X → Record → List P.Denot → List ℕ → Type 0
    pub Tell : State X → Record → List P.Denot → List ℕ → State X → List P.Denot → List ℕ → Type 0
    -- the loop's: of the source and what it has in hand, and then what it leaves
    pub Ready : List Record → Hand P X → Type 0
    pub Copied : List Record → Hand P X → Hand P X → Type 0
    -- what holds before each turn, of what was in hand at first and what is now; and what falls
    pub Before : List Record → Hand P X → Hand P X → Type 0
    pub falls : List Record → Hand P X → ℕ
    pub starts : (source : List Record) (x : Hand P X) → Ready source x → Before source x x
    -- a state that goes on reads inside the source
    pub asks : (source : List Record) (x₀ x : Hand P X) → Alike P X x₀ x → Before source x₀ x → X.going x.state ≡ true
        → (at_field.value x.state < length source) × Ask x.state (entry_at source x.state) x.work x.batch
    pub onward : (source : List Record) (x₀ x : Hand P X) (s : State X) (w : List P.Denot) (b : List ℕ) → Alike P X x₀ x
        → Alike P X x₀ (after x.table s w b) → Before source x₀ x → X.going x.state ≡ true
        → Tell x.state (entry_at source x.state) x.work x.batch s w b
        → Before source x₀ (after x.table s w b) × (falls source (after x.table s w b) < falls source x)
    pub stops : (source : List Record) (x₀ x : Hand P X) → Before source x₀ x → X.going x.state ≡ false → Copied source x₀ x

-- ---- the parameters, of `next` and of the loop
module _ (P : RattleType) (X : Shape) where
  abbrev next_parameters : List (Parameter 2)
  next_parameters = value (state_value X) ∷ value entry_value ∷ lends (Functions.written 0 tt P) ∷ lends (Functions.written 1 tt u16) ∷ []

  abbrev parameters : List (Parameter 4)
  parameters = lends (Functions.read 0 tt Entry entry_twice) ∷ value (state_value X) ∷ lends (Functions.written 1 tt P) ∷ lends (Functions.written 2 tt Entry)
      ∷ lends (Functions.written 3 tt u16) ∷ []

-- ---- the loop's MIR, at the keys of the two functions that it calls; π is the MIR type of the work's elements
module _ (P : RattleType) (π : Ty) (X : Shape) (at_field from_field count_field : Field X) (k k' : Name) where
  abbrev turn_code : Code
  turn_code = seq (assign (place 11 []) (rv_opd (copy (place 6 (field X.number ∷ [])))))
      (seq (cond (copy (place 11 [])) skipᴹ (exit 1))
      (seq (assign (place 7 []) (rv_opd (copy (place 6 (field at_field.number ∷ [])))))
      (seq (assign (place 12 []) (op2 (mul unsigned) (copy (place 7 [])) (int w64 10)))
      (seq (assign (place 13 []) (op2 offset (copy (place 1 (field 0 ∷ []))) (copy (place 12 []))))
      (seq (assign (place 14 []) (rv_opd (copy (place 13 (deref EntryTy ∷ [])))))
      (seq (assign (place 8 []) (rv_opd (copy (place 14 []))))
      (seq (assign (place 15 []) (addr_of (place 3 (field 0 ∷ deref π ∷ []))))
      (seq (assign (place 16 []) (aggregate (copy (place 15 []) ∷ copy (place 3 (field 1 ∷ [])) ∷ [])))
      (seq (assign (place 17 []) (addr_of (place 5 (field 0 ∷ deref (ty_int w16) ∷ []))))
      (seq (assign (place 18 []) (aggregate (copy (place 17 []) ∷ copy (place 5 (field 1 ∷ [])) ∷ [])))
      (seq (call k (copy (place 6 []) ∷ copy (place 8 []) ∷ copy (place 16 []) ∷ copy (place 18 []) ∷ []) (place 6 []))
      (seq (assign (place 9 []) (rv_opd (copy (place 6 (field from_field.number ∷ [])))))
      (seq (assign (place 10 []) (rv_opd (copy (place 6 (field count_field.number ∷ [])))))
      (seq (assign (place 20 []) (addr_of (place 4 (field 0 ∷ deref EntryTy ∷ []))))
      (seq (assign (place 21 []) (aggregate (copy (place 20 []) ∷ copy (place 4 (field 1 ∷ [])) ∷ [])))
      (seq (assign (place 22 []) (addr_of (place 5 (field 0 ∷ deref (ty_int w16) ∷ []))))
      (seq (assign (place 23 []) (aggregate (copy (place 22 []) ∷ copy (place 5 (field 1 ∷ [])) ∷ [])))
      (call k' (copy (place 21 []) ∷ copy (place 9 []) ∷ copy (place 23 []) ∷ copy (place 10 []) ∷ []) (place 19 [])))))))))))))))))))

  -- what lies behind a reference to an entry, and to an element of the work
  abbrev entry : Ty
  entry = pointee Entry.written

  abbrev cell : Ty
  cell = pointee P.written

  abbrev pub function : Fn
  function = record {
    lifetimes = 4;
    outlives = [];
    ty_params = [];
    givens = 0;
    params = 5;
    locals = var (StateTy X) ∷ var (slice_ty (ty_ref (named 0) imm entry)) ∷ var (StateTy X) ∷ var (slice_ty (ty_ref (named 1) mut cell))
        ∷ var (slice_ty (ty_ref (named 2) mut entry)) ∷ var (slice_ty (ty_ref (named 3) mut (ty_int w16))) ∷ var (StateTy X)
        ∷ var (ty_int w64) ∷ var EntryTy ∷ var (ty_int w64) ∷ var (ty_int w64) ∷ var ty_bool ∷ var (ty_int w64) ∷ var ty_ptr ∷ var EntryTy
        ∷ var (ty_ref erased mut cell) ∷ var (slice_ty (ty_ref erased mut cell)) ∷ var (ty_ref erased mut (ty_int w16))
        ∷ var (slice_ty (ty_ref erased mut (ty_int w16))) ∷ var ty_unit ∷ var (ty_ref erased mut entry) ∷ var (slice_ty (ty_ref erased mut entry))
        ∷ var (ty_ref erased imm (ty_int w16)) ∷ var (slice_ty (ty_ref erased imm (ty_int w16))) ∷ [];
    body = seq (assign (place 6 []) (rv_opd (copy (place 2 [])))) (seq (block (loop turn_code)) (seq (assign (place 0 []) (rv_opd (copy (place 6 [])))) return));
  }

-- what the loop is handed, of its five parameters
abbrev Passed : RattleType → Shape → Type 0
Passed P X = Bor (List Record) × (State X × (MutBor (List P.Denot) × (MutBor (List Record) × (MutBor (List ℕ) × Unit {0}))))

abbrev in_hand : {P : RattleType} {X : Shape} → Passed P X → Hand P X
in_hand {P} {X} a = having P X a.1.1.1.0.now a.1.0 a.1.1.0.now a.1.1.1.1.0.now

module _ (P : RattleType) (X : Shape) (storer : Storer) (at_field from_field count_field : Field X)
    (L : Law P X storer at_field from_field count_field) {M : Type 1} (𝓤 : Ura M) where
  -- ---- the two contracts
  abbrev next_clauses : Clauses 𝓤 (line (next_parameters P X) (state_value X))
  next_clauses κs a = record {
    ghost = Unit {0};
    requires = λ _. fact 𝓤 (L.Ask a.0 a.1.0 a.1.1.0.now a.1.1.1.0.now);
    ensures = λ _ r e. fact 𝓤 (L.Tell a.0 a.1.0 a.1.1.0.now a.1.1.1.0.now r e.1.1.0.now e.1.1.1.0.now);
  }

  abbrev clauses : Clauses 𝓤 (line (parameters P X) (state_value X))
  clauses κs a = record {
    ghost = Unit {0};
    requires = λ _. fact 𝓤 (L.Ready a.0.now (in_hand a));
    ensures = λ _ r e. fact 𝓤 (L.Copied a.0.now (in_hand a)
        (having P X e.1.1.1.0.now r e.1.1.0.now e.1.1.1.1.0.now));
  }

  module _ (𝓛 : Logic 𝓤) where
    open 𝓛 use {H}

    abbrev pub Next : Contract 𝓤
    Next = contract 𝓛 (line (next_parameters P X) (state_value X)) next_clauses

    module _ (π : Ty) (k k' : Name) (𝓣 : Tables 𝓤 H)
        (known : Triple 𝓤 (𝓣.C k) Next) (known' : Triple 𝓤 (𝓣.C k') (Store storer 𝓤 𝓛)) where
      abbrev loop_code : Fn
      loop_code = function P π X at_field from_field count_field k k'

      -- the loop's MIR meets its contract, where `next` meets its own, and the function that stores its own
      pub copying_meets : Meets 𝓛 (line (parameters P X) (state_value X)).signature (WpFn 𝓤 H 𝓣.C 𝓣.Λ loop_code)
          (closing 𝓛 (line (parameters P X) (state_value X)) clauses)
      copying_meets =
          meets 𝓛 𝓣 (parameters P X) (state_value X) clauses (λ κs a. asks (L.Ready a.0.now (in_hand a))) loop_code
          (λ κs a g. id⊢ 𝓤 _) (λ κs qs a are. id⊢ 𝓤 _) (λ κs qs a are. id⊢ 𝓤 _) (λ s bs shapes. shapes)
          (λ s bs.
          let source = s.args.0.now in
          let x₀ : Hand P X = in_hand s.args in
          let Source : Lent = Arguments.read Entry entry_twice s.lifetimes.0 s.shares.0 s.args.0 in
          let Work : (w : List P.Denot) → length w ≡ length x₀.work → Lent =
          written P s.lifetimes.1.0 s.shares.1.0 s.args.1.1.0 s.known.1.1.0.0.1 in
          let Target : (t : List Record) → length t ≡ length x₀.table → Lent =
          written Entry s.lifetimes.1.1.0 s.shares.1.1.0 s.args.1.1.1.0 s.known.1.1.1.0.0.1 in
          let Batch : (b : List ℕ) → length b ≡ length x₀.batch → Lent =
          written u16 s.lifetimes.1.1.1.0 s.shares.1.1.1.0 s.args.1.1.1.1.0 s.known.1.1.1.1.0.0.1 in
          let Shown : (b : List ℕ) → length b ≡ length x₀.batch → Lent =
          shown u16 s.lifetimes.1.1.1.0 s.shares.1.1.1.0 s.args.1.1.1.1.0 (number_shows w16) s.known.1.1.1.1.0.0.1 in
          let Holds : Hand P X → Type 0 = λ x. Good (state_value X) x.state × (Alike P X x₀ x × L.Before source x₀ x) in
          let Others : (x : Hand P X) → Holds x → List Arg = λ x ok. on (Work x.work ok.1.0.1.0) ∷ on (Target x.table ok.1.0.0)
          ∷ on (Batch x.batch ok.1.0.1.1) ∷ [] in
          copies_local ! refl refl (state_typed X 𝓛 x₀.state s.known.1.0) $
          turns ! 𝓣 X (λ (x : Hand P X). x.state) Holds (L.falls source) (λ x ok. on Source ∷ Others x ok)
          refl (λ c. (tt, tt)) (λ v. refl) (λ v. refl) (λ v u. refl)
          (λ x ok goes q again.
          let same = ok.1.0 in
          let n = at_field.value x.state in
          let r = entry_at P X storer at_field from_field count_field source x.state in
          let ask = L.asks source x₀ x same ok.1.1 goes in
          reads_field ! X at_field x.state refl refl refl (tt, field_fits X 𝓛 x.state ok.0 at_field) $
          -- with the locals and their numbers, as in `Asking.antt`
          reads_entry {E = env_of loop_code.locals bs} {i = 1} {k = 7} {a = 12} {l = 13} {c = 14} {r = 8} ! s.args.0
          (Others x ok) n s.known.0.0.1 ask.0 refl refl refl refl refl refl refl refl refl refl refl refl refl refl (λ r-good.
          relends ! refl refl refl (tt, tt) refl refl refl (slice_typed s.known.1.1.0.0.1.0) $
          relends ! refl refl refl (tt, tt) refl refl refl (slice_typed s.known.1.1.1.1.0.0.1.0) $
          calls_over ! 𝓣 (off Source ∷ val (state_value X) x.state ok.0 ∷ val entry_value r r-good ∷ on (Work x.work same.1.0)
          ∷ off (Target x.table same.0) ∷ on (Batch x.batch same.1.1) ∷ []) (asks (L.Ask x.state r x.work x.batch)) (state_value X)
          (λ t ws. L.Tell x.state r x.work x.batch t ws.1.1.0 ws.1.1.1.0) _
          known (λ κs qs a ls. ((κs, qs, tt, a, ls), tt)) (λ ns. id⊢ 𝓤 _) (λ ns v. id⊢ 𝓤 _) ask.1
          (λ ns. and_then ! (local ! refl) (and_then ! (local ! refl) (and_then ! (local ! refl) (and_then ! (local ! refl) (no_more !)))))
          refl refl (λ t ws t-good long told.
          let w = ws.1.1.0 in
          let b = ws.1.1.1.0 in
          let from = field_fits X 𝓛 t t-good from_field in
          let count = field_fits X 𝓛 t t-good count_field in
          reads_field ! X from_field t refl refl refl (tt, from) $ reads_field ! X count_field t refl refl refl (tt, count) $
          relends ! refl refl refl (tt, tt) refl refl refl (slice_typed s.known.1.1.1.0.0.1.0) $
          relends ! refl refl refl (tt, tt) refl refl refl (slice_typed s.known.1.1.1.1.0.0.1.0) $
          calls_last ! 𝓣 (off Source ∷ off (Work w long.0) ∷ on (Target x.table same.0) ∷ val (number w64) (from_field.value t) (refl, from.fits)
          ∷ on (Shown b long.1.0) ∷ val (number w64) (count_field.value t) (refl, count.fits) ∷ []) none unit
          (λ r us. us.0 ≡ storer.put x.table (from_field.value t) b (count_field.value t)) _
          known' (λ κs qs a ls. ((κs, qs, tt, a, ls), tt)) (λ ns. id⊢ 𝓤 _) (λ ns v. id⊢ 𝓤 _) tt
          (λ ns. and_then ! (local ! refl) (and_then ! (local ! refl) (and_then ! (local ! refl) (and_then ! (local ! refl) (no_more !)))))
          refl refl (λ r us unit-good target-long stored.
          let next = turned_on P X storer from_field count_field x₀ x (L.Before source x₀) (L.falls source) us.0 t w b stored same
          long.0 long.1.0 (λ still. L.onward source x₀ x t w b same still ok.1.1 goes told) in
          again (having P X us.0 t w b) (t-good, next.0) next.1
          (full _ ∷ full _ ∷ full _ ∷ full _ ∷ full _ ∷ full _ ∷ full _ ∷ full _ ∷ full _ ∷ full _ ∷ full _ ∷ full _ ∷ full _ ∷ full _ ∷ full _ ∷ full _ ∷ full _
          ∷ [])))))
          (λ x ok over.
          let same = ok.1.0 in
          copies_local ! refl refl (state_typed X 𝓛 x.state ok.0) $
          ends ! s x.state ok.0 (tt, (bound (state_value X) x₀.state, (x.work, (x.table, (x.batch, tt)))))
          (tt, (same.1.0, (same.0, (same.1.1, tt)))) (fact_i 𝓤 _ (emp 𝓤) (L.stops source x₀ x ok.1.1 over))
          (full _ ∷ full _ ∷ full _ ∷ full _ ∷ full _ ∷ full _ ∷ bare ∷ bare ∷ bare ∷ bare ∷ full _ ∷ []))
          x₀ (s.known.1.0, ((refl, (refl, refl)), L.starts source x₀ s.asked_for)) refl)
