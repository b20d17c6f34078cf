-- A function whose body is a line of calls (`Lines`): its parameters as one list. From the list come its signature, what the walk holds at first, and
-- what it owes at the end. First the parameters, then how a walk begins and ends, and last the law, from the walk to the function's statement.
-- Assumes `Logic`.
use Rattle.walks.proofs.Prelude.{ℕ, ftrue, Fml, SProp, ent, sep, emp, id⊢, via, yes, RattleType, owns, slice_val}
use Rattle.walks.proofs.Prelude.{shr_slice_Tells, mut_slice_Tells, nothing, on_entry, Contract, Triple, needs, Stays, AllGo, walk_of, ends_at, Ura}
use Rattle.walks.proofs.Prelude.{length, List, [], ◌∷◌, refl, w64, Ty, Val, Heap, WpFn, Tables, ‵, ⋆, ◌$◌, ◌∵◌, !, qed, by, move, fsplit}
use Rattle.walks.proofs.Prelude.{fjoin, suffices, done, drop, Item, raw, Sq, runs, at_ret, use0, use1, join, tables, named, closing, Clauses, Ended}
use Rattle.walks.proofs.Prelude.{Meets, walk_Meets, walked, WpFn-mono}
unfoldable use Rattle.walks.proofs.Prelude.{tables_of}
use Prim.Native.Nat.{zero, suc}
use base.Fml.{Share, fsep}
use base.Logic.{fst∗, mono_r}
use types.Logic.{Logic, sem}
use contract.Lifetimes.{AllOutlive, Lfts, Shares, Within, lft_at}
use contract.Monad.{fact}
use contract.Running.{Running}
use denote.Exit.{Last, left}
use denote.Laws.{Are, Is, Ises, Spells, Tells, Tellss, valss}
use denote.RattleType.{Denots, RowLaws, flat}
use denote.Ref.{mut_Tells, shr_Tells}
use denote.Signature.{Slot, mut_ref, shr_ref, types_at}
use denote.Triple.Clauses.{Lasts as Bound, at_exit}
use denote.Triple.End.{Kepts}
use denote.Triple.Entry.{alive}
use denote.Triple.Spec.{triple_of}
use denote.Triple.Table.{entered}
use denote.Triple.Walked.{Fit, Goes, Stay, Goes-none_slice, has_of, stay_none_slice}
use mir.Syntax.{Fn, Callee as Name, return}
use mir.Val.{Fits, vptr}
use prog.Model.{Model}
use prog.Routine.{Env as REnv}
use prog.Wp.{Calls, Closed, Loops}
use types.Kit.{Go, Goal}
use Rattle.walks.proofs.Arguments as Arguments
use Rattle.walks.proofs.Arguments.{Lent}
use Rattle.walks.proofs.Lines.{Arg, Asks, Lasts, Longs, Met, asked, asks, back, held, none, off, on, val}
use Rattle.walks.proofs.Locals.{Blocks, Hold, Params, bare, both_out, enters, env_of, float_in, full, fulls, leaves, locals}
use Rattle.walks.proofs.Parameters.{by_value, goes_gone, goes_still, gone, lent, shown, still}
use Rattle.walks.proofs.Steps.{Typed}
use Rattle.walks.proofs.Values.{Good, Of, Value, owns_value, unsaid}

-- ---- a parameter that is lent
pub record Reference (n : ℕ) : Type 2 where
  pub slot : Slot n
  pub low : (κs : Lfts n) → (slot.row κs).Denot → Val
  pub tells : (κs : Lfts n) → Tells (slot.row κs) (Is (slot.row κs)) (λ x. low κs x ∷ [])
  -- what the walk holds of it
  pub arg : (κs : Lfts n) → Shares n → (x : (slot.row κs).Denot) → Is (slot.row κs) x (low κs x ∷ []) → Lent
  pub enters : {M : Type 1} {𝓤 : Ura M} (𝓛 : Logic 𝓤) (κs : Lfts n) (qs : Shares n) (x : (slot.row κs).Denot) (is : Is (slot.row κs) x (low κs x ∷ []))
      → ent 𝓤 (sem 𝓛 ((slot.row κs).own_val x (low κs x ∷ []))) (sem 𝓛 (arg κs qs x is).own)
  -- what it has of it at the end
  pub stay : Stay slot yes
  pub goes : {M : Type 1} {𝓤 : Ura M} (𝓛 : Logic 𝓤) → Goes 𝓛 n slot yes stay
  pub last : (κs : Lfts n) (qs : Shares n) (x : (slot.row κs).Denot) (is : Is (slot.row κs) x (low κs x ∷ [])) → (arg κs qs x is).Last → Last ((slot.row κs).exit yes) x
  pub fits : (κs : Lfts n) (qs : Shares n) (x : (slot.row κs).Denot) (is : Is (slot.row κs) x (low κs x ∷ [])) (w : (arg κs qs x is).Last) → (arg κs qs x is).Long w
      → stay.fit κs x (last κs qs x is w)
  pub stays : {M : Type 1} {𝓤 : Ura M} (𝓛 : Logic 𝓤) (κs : Lfts n) (qs : Shares n) (x : (slot.row κs).Denot) (is : Is (slot.row κs) x (low κs x ∷ []))
      (w : (arg κs qs x is).Last) → ent 𝓤 (sem 𝓛 ((arg κs qs x is).owned w)) (sem 𝓛 (stay.has κs x (last κs qs x is w) (low κs x ∷ [])))
  -- its machine type
  pub Shape : (κs : Lfts n) → (slot.row κs).Denot → Type 0
  pub typed : (κs : Lfts n) (x : (slot.row κs).Denot) → Is (slot.row κs) x (low κs x ∷ []) → Shape κs x

abbrev part_at : (n j : ℕ) → Within n j → Shares n → Share
part_at zero j ok qs = absurd ok
part_at (suc n) zero ok qs = qs.0
part_at (suc n) (suc j) ok qs = part_at n j ok qs.1

-- the types of a slice and of a reference, as `Typed` computes
abbrev SliceShape : ℕ → Type 0
SliceShape n = Unit {0} × (Unit {0} × (Fits w64 n × Unit {0}))

module _ {n : ℕ} (j : ℕ) (ok : Within n j) where
  -- `&'j [R]`
  abbrev pub read : (R : RattleType) → RowLaws R → Reference n
  read R laws = record {
    slot = shown j ok R;
    low = λ κs x. slice_val x.ref_ptr (length x.now);
    tells = λ κs. shr_slice_Tells (named j) (lft_at n j ok κs) R;
    arg = λ κs qs x is. Arguments.read R laws (lft_at n j ok κs) (part_at n j ok qs) x;
    enters = λ {𝓤 = 𝓤} 𝓛 κs qs x is. id⊢ 𝓤 _;
    stay = stay_none_slice (j ∷ []) ok (by_value R) yes;
    goes = λ {M} {𝓤} 𝓛. Goes-none_slice 𝓛 n (j ∷ []) ok (by_value R) yes;
    last = λ κs qs x is w. tt;
    fits = λ κs qs x is w long. tt;
    stays = λ {𝓤 = 𝓤} 𝓛 κs qs x is w. id⊢ 𝓤 _;
    Shape = λ κs x. SliceShape (length x.now);
    typed = λ κs x is. (tt, (tt, (record { fits = is.0.1.0 }, tt)));
  }

  -- `&'j mut [R]`
  abbrev pub written : RattleType → Reference n
  written R = record {
    slot = lent j ok R;
    low = λ κs x. slice_val x.ref_ptr (length x.now);
    tells = λ κs. mut_slice_Tells (named j) (lft_at n j ok κs) R;
    arg = λ κs qs x is. Arguments.written R (lft_at n j ok κs) (part_at n j ok qs) x is.0.1 x.now refl;
    enters = λ {𝓤 = 𝓤} 𝓛 κs qs x is. id⊢ 𝓤 _;
    stay = still j ok R;
    goes = λ 𝓛. goes_still 𝓛 n j ok R;
    last = λ κs qs x is w. w;
    fits = λ κs qs x is w long. long;
    stays = λ {𝓤 = 𝓤} 𝓛 κs qs x is w. id⊢ 𝓤 _;
    Shape = λ κs x. SliceShape (length x.now);
    typed = λ κs x is. (tt, (tt, (record { fits = is.0.1.0 }, tt)));
  }

  -- any of them that is passed on once and for good
  abbrev given_whole : (s : Slot n) (low : (κs : Lfts n) → (s.row κs).Denot → Val)
      → ((κs : Lfts n) → Tells (s.row κs) (Is (s.row κs)) (λ x. low κs x ∷ [])) → (Shape : (κs : Lfts n) → (s.row κs).Denot → Type 0)
      → ((κs : Lfts n) (x : (s.row κs).Denot) → Is (s.row κs) x (low κs x ∷ []) → Shape κs x) → Reference n
  given_whole s low tells Shape typed = record {
    slot = s;
    low = low;
    tells = tells;
    arg = λ κs qs x is. Arguments.given (s.row κs) (lft_at n j ok κs) (part_at n j ok qs) x (low κs x);
    enters = λ {𝓤 = 𝓤} 𝓛 κs qs x is. id⊢ 𝓤 _;
    stay = record { fit = λ κs x f. Unit {0}; has = λ κs x f vs. left ((s.row κs).exit yes) x f };
    goes = λ {M} {𝓤} 𝓛 κs x f vs fit. 𝓛.laws.⇛_intro (sem 𝓛 (left ((s.row κs).exit yes) x f));
    last = λ κs qs x is w. w;
    fits = λ κs qs x is w long. tt;
    stays = λ {𝓤 = 𝓤} 𝓛 κs qs x is w. id⊢ 𝓤 _;
    Shape = Shape;
    typed = typed;
  }

  -- `&'j [R]`, `&'j mut [R]`, `&'j R` and `&'j mut R`
  abbrev pub given_read : RattleType → Reference n
  given_read R = given_whole (shown j ok R) (λ κs x. slice_val x.ref_ptr (length x.now)) (λ κs. shr_slice_Tells (named j) (lft_at n j ok κs) R)
      (λ κs x. SliceShape (length x.now)) (λ κs x is. (tt, (tt, (record { fits = is.0.1.0 }, tt))))

  abbrev pub given_written : RattleType → Reference n
  given_written R = given_whole (lent j ok R) (λ κs x. slice_val x.ref_ptr (length x.now)) (λ κs. mut_slice_Tells (named j) (lft_at n j ok κs) R)
      (λ κs x. SliceShape (length x.now)) (λ κs x is. (tt, (tt, (record { fits = is.0.1.0 }, tt))))

  abbrev pub given_reference : RattleType → Reference n
  given_reference R = given_whole (shr_ref j ok (λ _. R)) (λ κs x. vptr x.ref_ptr.0 x.ref_ptr.1) (λ κs. shr_Tells (named j) (lft_at n j ok κs) R)
      (λ κs x. Unit {0} × Unit {0}) (λ κs x is. (tt, tt))

  abbrev pub given_output : RattleType → Reference n
  given_output R = given_whole (mut_ref j ok (λ _. R)) (λ κs x. vptr x.ref_ptr.0 x.ref_ptr.1) (λ κs. mut_Tells (named j) (lft_at n j ok κs) R)
      (λ κs x. Unit {0} × Unit {0}) (λ κs x is. (tt, tt))

-- ---- all parameters
pub data Parameter (n : ℕ) : Type 2 where
  value : Value → Parameter n
  lends : Reference n → Parameter n

module _ {n : ℕ} where
  abbrev slot_of : Parameter n → Slot n
  slot_of (value P) = by_value P.type
  slot_of (lends ρ) = ρ.slot

  abbrev slots : List (Parameter n) → List (Slot n)
  slots [] = []
  slots (p ∷ ps) = slot_of p ∷ slots ps

  abbrev kepts : (ps : List (Parameter n)) → Kepts (slots ps)
  kepts [] = tt
  kepts (p ∷ ps) = (yes, kepts ps)

  abbrev stay_of : (p : Parameter n) → Stay (slot_of p) yes
  stay_of (value P) = gone (by_value P.type)
  stay_of (lends ρ) = ρ.stay

  abbrev pub stays : (ps : List (Parameter n)) → Stays (slots ps) (kepts ps)
  stays [] = tt
  stays (p ∷ ps) = (stay_of p, stays ps)

  abbrev vals_of : (p : Parameter n) (κs : Lfts n) → ((slot_of p).row κs).Denot → List Val
  vals_of (value P) κs x = P.low x ∷ []
  vals_of (lends ρ) κs x = ρ.low κs x ∷ []

  abbrev spells : (ps : List (Parameter n)) (κs : Lfts n) → Spells (types_at (slots ps) κs)
  spells [] κs = tt
  spells (p ∷ ps) κs = (vals_of p κs, spells ps κs)

  tells_of : (p : Parameter n) (κs : Lfts n) → Tells ((slot_of p).row κs) (Is ((slot_of p).row κs)) (vals_of p κs)
  tells_of (value P) κs = P.tells
  tells_of (lends ρ) κs = ρ.tells κs

  all_tell : (ps : List (Parameter n)) (κs : Lfts n) → Tellss (types_at (slots ps) κs) (Ises (types_at (slots ps) κs)) (spells ps κs)
  all_tell [] κs = tt
  all_tell (p ∷ ps) κs = (tells_of p κs, all_tell ps κs)

  all_go : {M : Type 1} {𝓤 : Ura M} (𝓛 : Logic 𝓤) (ps : List (Parameter n)) → AllGo 𝓛 n (slots ps) (kepts ps) (stays ps)
  all_go 𝓛 [] = tt
  all_go 𝓛 (value P ∷ ps) = (goes_gone 𝓛 n (by_value P.type) (λ κs. unsaid P), all_go 𝓛 ps)
  all_go 𝓛 (lends ρ ∷ ps) = (ρ.goes 𝓛, all_go 𝓛 ps)

  -- what is known of the values passed
  abbrev pub Known : (ps : List (Parameter n)) (κs : Lfts n) → Denots (types_at (slots ps) κs) → Type 0
  Known ps κs a = Are (types_at (slots ps) κs) (Ises (types_at (slots ps) κs)) a (valss (types_at (slots ps) κs) (spells ps κs) a)

  -- what the walk begins with
  abbrev pub handed_in : (ps : List (Parameter n)) (κs : Lfts n) → Shares n → (a : Denots (types_at (slots ps) κs)) → Known ps κs a → List Arg
  handed_in [] κs qs a are = []
  handed_in (value P ∷ ps) κs qs a are = val P a.0 are.0 ∷ handed_in ps κs qs a.1 are.1
  handed_in (lends ρ ∷ ps) κs qs a are = on (ρ.arg κs qs a.0 are.0) ∷ handed_in ps κs qs a.1 are.1

  -- the machine types
  abbrev pub Shapes : (ps : List (Parameter n)) (κs : Lfts n) → Denots (types_at (slots ps) κs) → Type 0
  Shapes [] κs a = Unit {0}
  Shapes (value P ∷ ps) κs a = Typed P.mir (P.low a.0) × Shapes ps κs a.1
  Shapes (lends ρ ∷ ps) κs a = ρ.Shape κs a.0 × Shapes ps κs a.1

  shapes : {M : Type 1} {𝓤 : Ura M} (𝓛 : Logic 𝓤) (ps : List (Parameter n)) (κs : Lfts n) (a : Denots (types_at (slots ps) κs))
      → Known ps κs a → Shapes ps κs a
  shapes 𝓛 [] κs a are = tt
  shapes {𝓤 = 𝓤} 𝓛 (value P ∷ ps) κs a are = (P.typed 𝓛 a.0 are.0, shapes 𝓛 ps κs a.1 are.1)
  shapes 𝓛 (lends ρ ∷ ps) κs a are = (ρ.typed κs a.0 are.0, shapes 𝓛 ps κs a.1 are.1)

  abbrev pub line : List (Parameter n) → Value → Ended
  line ps P = record { signature = record { lifetimes = n; outlives = []; params = slots ps; result = by_value P.type }; kept = kepts ps }

-- ---- how the walk begins: the tokens, and what the parameters own, are what it holds
abbrev pub tokens : List Arg → Fml
tokens [] = ftrue
tokens (val P x g ∷ xs) = tokens xs
tokens (on a ∷ xs) = fsep a.token (tokens xs)
tokens (off a ∷ xs) = fsep a.token (tokens xs)

module _ {M : Type 1} {𝓤 : Ura M} {𝓛 : Logic 𝓤} {G : Goal 𝓤 𝓛.H} {n : ℕ} (κs : Lfts n) (qs : Shares n) where
  opened : (ps : List (Parameter n)) (a : Denots (types_at (slots ps) κs)) (are : Known ps κs a) {Γ : List (Item 𝓤)} → Sq 𝓛 (‵ (held (handed_in ps κs qs a are)) ∷ Γ) G
      → Sq 𝓛 (‵ (tokens (handed_in ps κs qs a are)) ∷ ‵ (owns (types_at (slots ps) κs) a (valss (types_at (slots ps) κs) (spells ps κs) a)) ∷ Γ) G
  opened [] a are k = drop ! $ k
  opened (value P ∷ ps) a are k = move ! (1 ∷ []) $ fsplit ! $ drop ! $ move ! (1 ∷ 0 ∷ []) $ opened ps a.1 are.1 k
  opened (lends ρ ∷ ps) a are k = fsplit ! $ move ! (2 ∷ []) $ fsplit ! $ use1 𝓛 (‵ (ρ.arg κs qs a.0 are.0).own) (ρ.enters 𝓛 κs qs a.0 are.0) $
      -- [what it owns; what the others own; its token; the others']
      move ! (3 ∷ 1 ∷ []) $ opened ps a.1 are.1 (move ! (1 ∷ 2 ∷ []) $ fjoin ! $ fjoin ! $ k)

-- ---- and how it ends: what it holds is what it owes
module _ {n : ℕ} (κs : Lfts n) (qs : Shares n) where
  abbrev pub bound_of : (ps : List (Parameter n)) (P : Value) (a : Denots (types_at (slots ps) κs)) (are : Known ps κs a) → Lasts (handed_in ps κs qs a are)
      → Bound (line ps P) κs a
  bound_of [] P a are ws = tt
  bound_of (value Q ∷ ps) P a are ws = (ws.0, bound_of ps P a.1 are.1 ws.1)
  bound_of (lends ρ ∷ ps) P a are ws = (ρ.last κs qs a.0 are.0 ws.0, bound_of ps P a.1 are.1 ws.1)

  all_fit : (ps : List (Parameter n)) (P : Value) (a : Denots (types_at (slots ps) κs)) (are : Known ps κs a) (ws : Lasts (handed_in ps κs qs a are))
      → Longs (handed_in ps κs qs a are) ws → Fit (line ps P) (stays ps) κs a (bound_of ps P a are ws)
  all_fit [] P a are ws longs = tt
  all_fit (value Q ∷ ps) P a are ws longs = (tt, all_fit ps P a.1 are.1 ws.1 longs)
  all_fit (lends ρ ∷ ps) P a are ws longs =
      (ρ.fits κs qs a.0 are.0 ws.0 longs.0, all_fit ps P a.1 are.1 ws.1 longs.1)

  module _ {M : Type 1} {𝓤 : Ura M} {𝓛 : Logic 𝓤} {G : Goal 𝓤 𝓛.H} where
    shut : (ps : List (Parameter n)) (P : Value) (a : Denots (types_at (slots ps) κs)) (are : Known ps κs a) (ws : Lasts (handed_in ps κs qs a are)) {Γ : List (Item 𝓤)}
        → Sq 𝓛 (‵ (tokens (handed_in ps κs qs a are))
        ∷ ‵ (has_of κs (slots ps) (kepts ps) (stays ps) a (bound_of ps P a are ws) (valss (types_at (slots ps) κs) (spells ps κs) a)) ∷ Γ) G
        → Sq 𝓛 (‵ (back (handed_in ps κs qs a are) ws) ∷ Γ) G
    shut [] P a are ws k = nothing ! $ k
    shut (value Q ∷ ps) P a are ws k = shut ps P a.1 are.1 ws.1 (nothing ! $ move ! (0 ∷ 2 ∷ []) $ fjoin ! $ move ! (1 ∷ 0 ∷ []) $ k)
    shut (lends ρ ∷ ps) P a are ws k = fsplit ! $ fsplit ! $
        use1 𝓛 (‵ (ρ.stay.has κs a.0 (ρ.last κs qs a.0 are.0 ws.0) (ρ.low κs a.0 ∷ []))) (ρ.stays 𝓛 κs qs a.0 are.0 ws.0) $
        move ! (2 ∷ []) $ shut ps P a.1 are.1 ws.1 (
        -- [the tokens; what is had of the others; what is had of it; its token]
        move ! (3 ∷ 0 ∷ []) $ fjoin ! $ move ! (2 ∷ 1 ∷ []) $ fjoin ! $ move ! (1 ∷ 0 ∷ []) $ k)

-- ---- the law
-- the functions that are called, each with its contract
abbrev pub Callee : {M : Type 1} → Ura M → Type 2
Callee 𝓤 = Name × Contract 𝓤

abbrev pub Meet : {M : Type 1} {𝓤 : Ura M} {H : Heap 𝓤} → Tables 𝓤 H → List (Callee 𝓤) → Type 1
Meet 𝓣 [] = Unit {1}
Meet {𝓤 = 𝓤} 𝓣 (f ∷ fs) = Triple 𝓤 (𝓣.C f.0) f.1 × Meet 𝓣 fs

-- what a function with these parameters is called with: `need` is its `requires`
pub record Start {M : Type 1} {𝓤 : Ura M} (𝓛 : Logic 𝓤) {n : ℕ} (ps : List (Parameter n)) (P : Value) (c : Clauses 𝓤 (line ps P))
    (need : (κs : Lfts n) (a : Denots (types_at (slots ps) κs)) → Asks) : Type 1 where
  pub lifetimes : Lfts n
  pub shares : Shares n
  pub bounds : AllOutlive n [] lifetimes
  pub args : Denots (types_at (slots ps) lifetimes)
  pub ghost : (c lifetimes args).ghost
  pub known : Known ps lifetimes args
  pub asked_for : Met (need lifetimes args)
  pub alive_again : ent 𝓤 (sem 𝓛 (tokens (handed_in ps lifetimes shares args known))) (alive 𝓛 (line ps P).signature lifetimes shares)

module _ {M : Type 1} {𝓤 : Ura M} {𝓛 : Logic 𝓤} {n : ℕ} {ps : List (Parameter n)} {P : Value} {c : Clauses 𝓤 (line ps P)}
    {need : (κs : Lfts n) (a : Denots (types_at (slots ps) κs)) → Asks} (s : Start 𝓛 ps P c need) where
  abbrev pub machines : List Val
  machines = flat (types_at (slots ps) s.lifetimes) (valss (types_at (slots ps) s.lifetimes) (spells ps s.lifetimes) s.args)

  abbrev pub mine : List Arg
  mine = handed_in ps s.lifetimes s.shares s.args s.known

  abbrev pub Left : Val → SProp 𝓤
  Left = (walk_of 𝓛 (line ps P) (stays ps) c).post
      ((s.lifetimes, s.shares, s.bounds, s.args, valss (types_at (slots ps) s.lifetimes) (spells ps s.lifetimes) s.args), s.ghost)

-- the walk's end, at the result r and the last values ws
pub ends : {M : Type 1} {𝓤 : Ura M} {𝓛 : Logic 𝓤} {n : ℕ} {ps : List (Parameter n)} {P : Value} {c : Clauses 𝓤 (line ps P)}
    {need : (κs : Lfts n) (a : Denots (types_at (slots ps) κs)) → Asks} → Go {0} → (s : Start 𝓛 ps P c need) (r : Of P) → Good P r
    → (ws : Lasts (mine s)) → Longs (mine s) ws
    → ent 𝓤 (emp 𝓤) ((c s.lifetimes s.args).ensures s.ghost r
    (at_exit (line ps P) s.lifetimes s.args (bound_of s.lifetimes s.shares ps P s.args s.known ws)))
    → {C : Calls 𝓤 𝓛.H} {Λ : Loops 𝓤 𝓛.H} {e : Ty × ℕ} {F : List (Ty × ℕ)} (ks : List Hold)
    → Sq 𝓛 (‵ (back (mine s) ws) ∷ locals (e ∷ F) (full (P.low r) ∷ ks) []) (runs C Λ (e ∷ F) return (at_ret (e ∷ F) (Left s)))
ends {𝓤 = 𝓤} {𝓛 = 𝓛} {ps = ps} {P = P} {c = c} t s r good ws longs holds {C = C} {Λ = Λ} {e = e} {F = F} ks =
    by ! (via 𝓤 (⋆ 𝓛 (locals (e ∷ F) (full (P.low r) ∷ ks) (‵ (back (mine s) ws) ∷ [])))
    (float_in 𝓛 (e ∷ F) (full (P.low r) ∷ ks) (‵ (back (mine s) ws)) []) last.prf)
  where
    bound : Bound (line ps P) s.lifetimes s.args
    bound = bound_of s.lifetimes s.shares ps P s.args s.known ws

    last : Sq 𝓛 (locals (e ∷ F) (full (P.low r) ∷ ks) (‵ (back (mine s) ws) ∷ [])) (runs C Λ (e ∷ F) return (at_ret (e ∷ F) (Left s)))
    last = leaves ! (P.low r) ks $
        suffices ! _ (ends_at 𝓛 (line ps P) (stays ps) c
        ((s.lifetimes, s.shares, s.bounds, s.args, valss (types_at (slots ps) s.lifetimes) (spells ps s.lifetimes) s.args), s.ghost)
        (P.low r) r bound (all_fit s.lifetimes s.shares ps P s.args s.known ws longs)) $
        shut s.lifetimes s.shares ps P s.args s.known ws (
        use1 𝓛 (raw (alive 𝓛 (line ps P).signature s.lifetimes s.shares)) s.alive_again $
        owns_value P ! r good $ move ! (1 ∷ 2 ∷ 0 ∷ []) $
        use0 𝓛 (raw ((c s.lifetimes s.args).ensures s.ghost r (at_exit (line ps P) s.lifetimes s.args bound))) holds $
        move ! (2 ∷ 3 ∷ []) $ join ! $ move ! (2 ∷ 0 ∷ []) $ join ! $ done !)

-- a `requires` is known, or there is none
asking : {M : Type 1} {𝓤 : Ura M} (𝓛 : Logic 𝓤) (a : Asks) {P Q R : SProp 𝓤} → ent 𝓤 R (asked 𝓛 a) → (Met a → ent 𝓤 P Q) → ent 𝓤 (sep 𝓤 P R) Q
asking {𝓤 = 𝓤} 𝓛 none {P} {Q} {R} h k = via 𝓤 P (fst∗ 𝓤 P R) (k tt)
asking {𝓤 = 𝓤} 𝓛 (asks φ) {P} {Q} {R} h k = via 𝓤 (sep 𝓤 P (fact 𝓤 φ)) (mono_r 𝓤 P h) (needs 𝓤 φ P k)

-- the function meets its contract, by a walk that is given what it was called with
module _ {M : Type 1} {𝓤 : Ura M} (𝓛 : Logic 𝓤) (𝓣 : Tables 𝓤 𝓛.H) {n : ℕ} (ps : List (Parameter n)) (P : Value)
    (c : Clauses 𝓤 (line ps P)) (need : (κs : Lfts n) (a : Denots (types_at (slots ps) κs)) → Asks) (e : Fn) where
  -- four things hold by computation where all is written out: what `need` is, what the tokens are, twice, and that the arguments have their types
  open 𝓛 use {H}

  pub meets : ((κs : Lfts n) (a : Denots (types_at (slots ps) κs)) (g : (c κs a).ghost) → ent 𝓤 ((c κs a).requires g) (asked 𝓛 (need κs a)))
      → ((κs : Lfts n) (qs : Shares n) (a : Denots (types_at (slots ps) κs)) (are : Known ps κs a)
      → ent 𝓤 (alive 𝓛 (line ps P).signature κs qs) (sem 𝓛 (tokens (handed_in ps κs qs a are))))
      → ((κs : Lfts n) (qs : Shares n) (a : Denots (types_at (slots ps) κs)) (are : Known ps κs a)
      → ent 𝓤 (sem 𝓛 (tokens (handed_in ps κs qs a are))) (alive 𝓛 (line ps P).signature κs qs))
      → ((s : Start 𝓛 ps P c need) (bs : Blocks e.locals) → Shapes ps s.lifetimes s.args → Params (env_of e.locals bs) (machines s))
      → ((s : Start 𝓛 ps P c need) (bs : Blocks e.locals)
      → Sq 𝓛 (‵ (held (mine s)) ∷ locals (env_of e.locals bs) (bare ∷ fulls (machines s)) [])
      (runs 𝓣.C 𝓣.Λ (env_of e.locals bs) e.body (at_ret (env_of e.locals bs) (Left s))))
      → Meets 𝓛 (line ps P).signature (WpFn 𝓤 H 𝓣.C 𝓣.Λ e) (closing 𝓛 (line ps P) c)
  meets needs-it awake asleep typed walk =
      walk_Meets 𝓛 (line ps P) (stays ps) (all_go 𝓛 ps) c (WpFn 𝓤 H 𝓣.C 𝓣.Λ e) (WpFn-mono 𝓤 H 𝓛.laws 𝓣 e)
      (walked 𝓛 (line ps P) (stays ps) c (WpFn 𝓤 H 𝓣.C 𝓣.Λ e) (spells ps) (all_tell ps) (λ κs qs bounds a g are.
      asking 𝓛 (need κs a) (needs-it κs a g) (λ met. from (record {
        lifetimes = κs;
        shares = qs;
        bounds = bounds;
        args = a;
        ghost = g;
        known = are;
        asked_for = met;
        alive_again = asleep κs qs a are;
      }))))
    where
      from : (s : Start 𝓛 ps P c need)
          → ent 𝓤 (on_entry 𝓛 (line ps P).signature s.lifetimes s.shares s.args
          (valss (types_at (slots ps) s.lifetimes) (spells ps s.lifetimes) s.args))
          (WpFn 𝓤 H 𝓣.C 𝓣.Λ e (machines s) (Left s))
      from s =
          qed 𝓛 (raw (alive 𝓛 (line ps P).signature s.lifetimes s.shares) ∷ ‵ (owned s) ∷ []) ∵
          use1 𝓛 (‵ (tokens (mine s))) (awake s.lifetimes s.shares s.args s.known) $
          enters ! 𝓣.C 𝓣.Λ e (machines s) (Left s) (λ bs. typed s bs (shapes 𝓛 ps s.lifetimes s.args s.known)) (λ bs.
          by ! (via 𝓤 (⋆ 𝓛 (‵ (tokens (mine s)) ∷ ‵ (owned s) ∷ locals (env_of e.locals bs) (bare ∷ fulls (machines s)) []))
          (both_out 𝓛 (env_of e.locals bs) (bare ∷ fulls (machines s)) (‵ (tokens (mine s))) (‵ (owned s)) [])
          (opened s.lifetimes s.shares ps s.args s.known (walk s bs)).prf))
        where
          owned : Start 𝓛 ps P c need → Fml
          owned x = owns (types_at (slots ps) x.lifetimes) x.args (valss (types_at (slots ps) x.lifetimes) (spells ps x.lifetimes) x.args)

-- the same in the tables of a program, where the walk is given the functions that it calls too
module _ {M : Type 1} {𝓤 : Ura M} (𝓛 : Logic 𝓤) (𝓜 : Model 𝓤 𝓛.H) (𝓡 : Running 𝓤 𝓛.H 𝓜) {n : ℕ} (ps : List (Parameter n)) (P : Value)
    (c : Clauses 𝓤 (line ps P)) (need : (κs : Lfts n) (a : Denots (types_at (slots ps) κs)) → Asks) (γ : REnv) (k : Name) (e : Fn) where
  open 𝓛 use {H}

  abbrev 𝓣' : Tables 𝓤 H
  𝓣' = tables_of 𝓤 H 𝓜 (tables 𝓤 H 𝓜 𝓡 γ)

  pub walks : Closed 𝓤 H (tables 𝓤 H 𝓜 𝓡 γ).C (tables 𝓤 H 𝓜 𝓡 γ).Λ k e
      → ((κs : Lfts n) (a : Denots (types_at (slots ps) κs)) (g : (c κs a).ghost) → ent 𝓤 ((c κs a).requires g) (asked 𝓛 (need κs a)))
      → ((κs : Lfts n) (qs : Shares n) (a : Denots (types_at (slots ps) κs)) (are : Known ps κs a)
      → ent 𝓤 (alive 𝓛 (line ps P).signature κs qs) (sem 𝓛 (tokens (handed_in ps κs qs a are))))
      → ((κs : Lfts n) (qs : Shares n) (a : Denots (types_at (slots ps) κs)) (are : Known ps κs a)
      → ent 𝓤 (sem 𝓛 (tokens (handed_in ps κs qs a are))) (alive 𝓛 (line ps P).signature κs qs))
      → ((s : Start 𝓛 ps P c need) (bs : Blocks e.locals) → Shapes ps s.lifetimes s.args → Params (env_of e.locals bs) (machines s))
      → (fs : List (Callee 𝓤)) → Meet 𝓣' fs
      → ((𝓣 : Tables 𝓤 H) → Meet 𝓣 fs → (s : Start 𝓛 ps P c need) (bs : Blocks e.locals)
      → Sq 𝓛 (‵ (held (mine s)) ∷ locals (env_of e.locals bs) (bare ∷ fulls (machines s)) [])
      (runs 𝓣.C 𝓣.Λ (env_of e.locals bs) e.body (at_ret (env_of e.locals bs) (Left s))))
      → Triple 𝓤 ((tables 𝓤 H 𝓜 𝓡 γ).C k) (triple_of 𝓛 (line ps P).signature (closing 𝓛 (line ps P) c))
  unfolding tables_of
  walks closed needs-it awake asleep typed fs meet walk =
      entered 𝓤 H (triple_of 𝓛 (line ps P).signature (closing 𝓛 (line ps P) c)) (tables 𝓤 H 𝓜 𝓡 γ).C (tables 𝓤 H 𝓜 𝓡 γ).Λ k e closed
      (meets 𝓛 𝓣' ps P c need e needs-it awake asleep typed (walk 𝓣' meet))
