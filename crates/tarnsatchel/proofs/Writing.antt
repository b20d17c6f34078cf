-- The law of a question whose answer is written into a lent output, so that only a number is told:
--     fn told(head: &[u16; 6], table: &[Record], work: &mut [u64], number: N, out: &mut [O]) -> u8 {
--         let h = head_of(head);
--         let a = ask(h, table, work, number, out);
--         tell(a)
--     }
-- First the function's MIR, then the contracts, each with one `ensures`, and the walk: `written_told`. Assumes `Logic`.
use Rattle.tarnsatchel.proofs.Prelude.{ !, ◌$◌, and_then, emp, fact_i, id⊢, no_more, refl, u16, u64, w8, List, [], ◌∷◌}
use Rattle.tarnsatchel.proofs.Prelude.{Array, Entry, Lent, Parameter, Value, calls, ends, full, given_read, given_written, head, lends, local}
use Rattle.tarnsatchel.proofs.Prelude.{mine, none, number, off, on, relends, slice_typed, spent, val, value}
use Rattle.walks.proofs.Prelude.{Clauses, RattleType, Triple, Ty, Ura, fact, named, pointee, slice_ty, tables, ty_int, ℕ, ◌≡◌}
use mir.Syntax.{Callee as Name, Fn, addr_of, aggregate, assign, call, copy, deref, erased, field, imm, mut, place, return, seq, ty_ref}
use types.Logic.{Logic}
use package.contract.Running.{Running}
use prog.Model.{Model}
use prog.Routine.{Env as REnv}
use prog.Wired.{Wired}
use prog.Wp.{Closed}
use Rattle.walks.proofs.Contracts.{contract}
use Rattle.walks.proofs.Functions.{line}
use Rattle.walks.proofs.Locals.{var}
use Rattle.walks.proofs.Values.{Of}
use Rattle.paper.specs.declared.Head.{Head}
use Rattle.paper.specs.declared.Record.{Record}
use Rattle.tarnsatchel.specs.Told.{head_of}
use Rattle.tarnsatchel.proofs.Asking.{numbers, question, thing}
use Rattle.tarnsatchel.proofs.head_of as head_of

-- the types of the number, of the output's elements and of the answer
module _ (N : Value) (O : RattleType) (R : Value) where
  -- the parameters behind the head's numbers, and those of the question and of the telling
  abbrev parameters : List (Parameter 4)
  parameters = lends (given_read 1 tt Entry) ∷ lends (given_written 2 tt u64) ∷ value N ∷ lends (given_written 3 tt O) ∷ []

  abbrev asked : List (Parameter 3)
  asked = value head ∷ lends (given_read 0 tt Entry) ∷ lends (given_written 1 tt u64) ∷ value N ∷ lends (given_written 2 tt O) ∷ []

  abbrev told : List (Parameter 0)
  told = value R ∷ []

  abbrev cell : Ty
  cell = pointee u64.written

  abbrev element : Ty
  element = pointee O.written

  abbrev function : Name → Name → Fn
  function ask tell = record {
    lifetimes = 4;
    outlives = [];
    ty_params = [];
    givens = 0;
    params = 5;
    locals = var (ty_int w8) ∷ var (ty_ref (named 0) imm (pointee (Array u16 6).written))
        ∷ var (slice_ty (ty_ref (named 1) imm (pointee Entry.written))) ∷ var (slice_ty (ty_ref (named 2) mut cell)) ∷ var N.mir
        ∷ var (slice_ty (ty_ref (named 3) mut element)) ∷ var head.mir ∷ var R.mir ∷ var (ty_ref erased mut cell)
        ∷ var (slice_ty (ty_ref erased mut cell)) ∷ var (ty_ref erased mut element) ∷ var (slice_ty (ty_ref erased mut element)) ∷ [];
    body = seq (call head_of.Symbol.name (copy (place 1 []) ∷ []) (place 6 []))
        (seq (assign (place 8 []) (addr_of (place 3 (field 0 ∷ deref cell ∷ []))))
        (seq (assign (place 9 []) (aggregate (copy (place 8 []) ∷ copy (place 3 (field 1 ∷ [])) ∷ [])))
        (seq (assign (place 10 []) (addr_of (place 5 (field 0 ∷ deref element ∷ []))))
        (seq (assign (place 11 []) (aggregate (copy (place 10 []) ∷ copy (place 5 (field 1 ∷ [])) ∷ [])))
        (seq (call ask (copy (place 6 []) ∷ copy (place 2 []) ∷ copy (place 9 []) ∷ copy (place 4 []) ∷ copy (place 11 []) ∷ []) (place 7 []))
        (seq (call tell (copy (place 7 []) ∷ []) (place 0 [])) return))))));
  }

  -- what the question answers and leaves, the number of an answer, what is told, and that it is
  module _ (Asks : Head → List Record → List ℕ → Of N → List O.Denot → Of R → List ℕ → List O.Denot → Type 0) (code : Of R → ℕ)
      (Tells : List ℕ → List Record → List ℕ → Of N → List O.Denot → ℕ → List ℕ → List O.Denot → Type 0)
      (tells : (h : List ℕ) (t : List Record) (w w' : List ℕ) (r : ℕ) (n : Of N) (o o' : List O.Denot) (a : Of R)
      → Asks (head_of h) t w n o a w' o' → r ≡ code a → Tells h t w n o r w' o')
      {M : Type 1} {𝓤 : Ura M} (𝓛 : Logic 𝓤) (𝓜 : Model 𝓤 𝓛.H) (𝓡 : Running 𝓤 𝓛.H 𝓜) (γ : REnv) (k : Name) where
    open 𝓛 use {H}

    abbrev ask_clauses : Clauses 𝓤 (line asked R)
    ask_clauses κs a = record {
      ghost = Unit {0};
      requires = λ _. emp 𝓤;
      ensures = λ _ r e.
          fact 𝓤 (Asks a.0 a.1.0.now a.1.1.0.now a.1.1.1.0 a.1.1.1.1.0.now r
          e.1.1.0.now e.1.1.1.1.0.now);
    }

    abbrev tell_clauses : Clauses 𝓤 (line told (number w8))
    tell_clauses κs a = record { ghost = Unit {0}; requires = λ _. emp 𝓤; ensures = λ _ r e. fact 𝓤 (r ≡ code a.0) }

    abbrev clauses : Clauses 𝓤 (line (numbers ∷ parameters) (number w8))
    clauses κs a = record {
      ghost = Unit {0};
      requires = λ _. emp 𝓤;
      ensures = λ _ r e.
          fact 𝓤 (Tells a.0.now a.1.0.now a.1.1.0.now a.1.1.1.0 a.1.1.1.1.0.now r
          e.1.1.0.now e.1.1.1.1.0.now);
    }

    pub written_told : {ask tell : Name} → Closed 𝓤 H (tables 𝓤 H 𝓜 𝓡 γ).C (tables 𝓤 H 𝓜 𝓡 γ).Λ k (function ask tell)
        → Wired γ head_of.Symbol.code → Triple 𝓤 ((tables 𝓤 H 𝓜 𝓡 γ).C ask) (contract 𝓛 (line asked R) ask_clauses)
        → Triple 𝓤 ((tables 𝓤 H 𝓜 𝓡 γ).C tell) (contract 𝓛 (line told (number w8)) tell_clauses)
        → Triple 𝓤 ((tables 𝓤 H 𝓜 𝓡 γ).C k) (contract 𝓛 (line (numbers ∷ parameters) (number w8)) clauses)
    written_told {ask} {tell} closed calls-head ask-meets tell-meets =
        question 𝓛 𝓜 𝓡 parameters clauses γ k (function ask tell) closed (λ κs a g. id⊢ 𝓤 _) (λ κs qs a are. (id⊢ 𝓤 _, id⊢ 𝓤 _))
        (λ s bs shapes. shapes) refl (λ s bs. (refl, refl, refl)) calls-head ask-meets tell-meets (λ 𝓣 known-ask known-tell s bs good.
        let Head : Lent = thing 0 (mine s) in let Table : Lent = thing 1 (mine s) in let Work : Lent = thing 2 (mine s) in
        let Out : Lent = thing 3 (mine s) in
        relends ! refl refl refl (tt, tt) refl refl refl (slice_typed s.known.1.1.0.0.1.0) $
        relends ! refl refl refl (tt, tt) refl refl refl (slice_typed s.known.1.1.1.1.0.0.1.0) $
        calls ! 𝓣 (off (spent Head tt) ∷ val head _ good ∷ on Table ∷ on Work ∷ val N _ s.known.1.1.1.0 ∷ on Out ∷ []) none R _ _
        known-ask (λ κs qs a ls. ((κs, qs, tt, a, ls), tt)) (λ ns. id⊢ 𝓤 _) (λ ns v. id⊢ 𝓤 _) tt
        (λ ns. and_then ! (local ! refl) (and_then ! (local ! refl) (and_then ! (local ! refl) (and_then ! (local ! refl) (and_then ! (local ! refl)
        (no_more !)))))) refl refl (λ a ws good' _ asks.
        calls ! 𝓣 (off (spent Head tt) ∷ off (spent Table tt) ∷ off (spent Work ws.1.1.0) ∷ off (spent Out ws.1.1.1.1.0) ∷ val R a good' ∷ [])
        none (number w8) _ _ known-tell (λ κs qs a ls. ((κs, qs, tt, a, ls), tt)) (λ ns. id⊢ 𝓤 _) (λ ns v. id⊢ 𝓤 _) tt
        (λ ns. and_then ! (local ! refl) (no_more !)) refl refl (λ n os good'' _ says.
        ends ! s n good'' (tt, (tt, (ws.1.1.0, (ws.1.1.1.0, (ws.1.1.1.1.0, tt))))) (tt, (tt, (tt, (tt, tt))))
        (fact_i 𝓤 _ (emp 𝓤) (tells _ _ _ _ _ _ _ _ _ asks says))
        (full _ ∷ full _ ∷ full _ ∷ full _ ∷ full _ ∷ full _ ∷ full _ ∷ full _ ∷ full _ ∷ full _ ∷ full _ ∷ []))))
