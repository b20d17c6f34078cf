-- A straight line of calls, each lent any number of things of any kind. The walk has all that the function holds in one item (`held`), and then its
-- locals: local i stands at 2 * i behind it, so no step of a walk names a position. A call says of each thing held whether it is passed or kept back.
-- First the arguments and what stands in the context for them; then a call (`calls`, `calls_over`, `calls_over_last`, `calls_last`); then the statements
-- before a call, by which a slice is lent on, measured, or an array made; last the things held in another order.
-- Assumes `Logic`.
use Rattle.walks.proofs.Prelude.{ℕ, ◌*◌, ftrue, flft, Fml, SProp, ent, sep, emp, id⊢, via, fact, yes, slice_ty, slice_val, nothing, heard}
use Rattle.walks.proofs.Prelude.{Contract, Triple, full_share, Ura, List, [], ◌∷◌, ◌≡◌, refl, sym, ap, subst, w64, Ty, Val, vint, Heap, ‵, ⋆}
use Rattle.walks.proofs.Prelude.{◌⊛◌, ◌$◌, !, by, move, split, join, fsplit, fjoin, drop, Item, raw, Sq, runs, use0, use1, agg, init, store, stop, from}
use Rattle.walks.proofs.Prelude.{of_opd, addr, hop, look, and_then, no_more, land, land_last, Room, length, fm_of}
use Prim.Native.Nat.{suc}
use base.Fml.{fsep, fat, froom}
use base.Logic.{mono_r, snd∗, emp∗}
use types.Logic.{Logic, sem}
use contract.Lifetimes.{Lfts, Shares}
use contract.Monad.{fact_i}
use denote.Exit.{Last, left}
use denote.Laws.{Is, shows}
use denote.Steps.{facts, only}
use denote.Triple.Call.{calls_at, calls_at_last}
use mir.Syntax.{Callee as Name, Opd as Operand, Rv as RValue, Body, seq, call, assign, place, addr_of, field, deref, aggregate, copy, rv_opd, repeat}
use mir.Val.{vptr}
use prog.Wp.{Calls, Env, Loops, Tables, next, spot_of}
use types.Kit.{mean, prop, post, some, later, Go, Goal, Soaks, Post, lands, settles, await, pick, Step, step, nth, put, del, sel, sel⊢, pull, fill, push, pop}
use types.Run.{Finds, Opd, Opds, Rv}
use Rattle.walks.proofs.Arguments.{Lent, array}
use Rattle.walks.proofs.Arrays.{ArrayTy, Element, array_room, copies, length_copies, makes_array}
use Rattle.walks.proofs.Steps.{Typed, elements, part, sets, value}
use Rattle.walks.proofs.Values.{Good, Of, Value, owns_value}

-- ---- the arguments: plain data; what is lent to the call; what is kept back from it
pub data Arg : Type 2 where
  val : (P : Value) (x : Of P) → Good P x → Arg
  on : Lent → Arg
  off : Lent → Arg

-- the name of each loan
abbrev pub Names : List Arg → Type 0
Names [] = Unit {0}
Names (val P x g ∷ xs) = Names xs
Names (on a ∷ xs) = a.Name × Names xs
Names (off a ∷ xs) = Names xs

-- what is bound at exit, and what is known of it
abbrev pub Lasts : List Arg → Type 0
Lasts [] = Unit {0}
Lasts (val P x g ∷ xs) = Last (P.type.exit yes) x × Lasts xs
Lasts (on a ∷ xs) = a.Last × Lasts xs
Lasts (off a ∷ xs) = Lasts xs

abbrev pub Longs : (xs : List Arg) → Lasts xs → Type 0
Longs [] ws = Unit {0}
Longs (val P x g ∷ xs) ws = Longs xs ws.1
Longs (on a ∷ xs) ws = a.Long ws.0 × Longs xs ws.1
Longs (off a ∷ xs) ws = Longs xs ws

-- ---- the ghost value of the callee's contract, part by part
abbrev pub count : List Arg → ℕ
count [] = 0
count (val P x g ∷ xs) = count xs
count (on a ∷ xs) = suc (count xs)
count (off a ∷ xs) = count xs

abbrev lifes : (xs : List Arg) → Names xs → Lfts (count xs)
lifes [] ns = tt
lifes (val P x g ∷ xs) ns = lifes xs ns
lifes (on a ∷ xs) ns = (a.life ns.0, lifes xs ns.1)
lifes (off a ∷ xs) ns = lifes xs ns

abbrev parts : (xs : List Arg) → Shares (count xs)
parts [] = tt
parts (val P x g ∷ xs) = parts xs
parts (on a ∷ xs) = (a.share, parts xs)
parts (off a ∷ xs) = parts xs

abbrev pub Passes : List Arg → Type 0
Passes [] = Unit {0}
Passes (val P x g ∷ xs) = Of P × Passes xs
Passes (on a ∷ xs) = a.Passed × Passes xs
Passes (off a ∷ xs) = Passes xs

abbrev passed : (xs : List Arg) → Names xs → Passes xs
passed [] ns = tt
passed (val P x g ∷ xs) ns = (x, passed xs ns)
passed (on a ∷ xs) ns = (a.passed ns.0, passed xs ns.1)
passed (off a ∷ xs) ns = passed xs ns

-- the machine values, each in a list of its own
abbrev pub Lows : List Arg → Type 0
Lows [] = Unit {0}
Lows (val P x g ∷ xs) = List Val × Lows xs
Lows (on a ∷ xs) = List Val × Lows xs
Lows (off a ∷ xs) = Lows xs

abbrev pub lows : (xs : List Arg) → Lows xs
lows [] = tt
lows (val P x g ∷ xs) = (P.low x ∷ [], lows xs)
lows (on a ∷ xs) = (a.low ∷ [], lows xs)
lows (off a ∷ xs) = lows xs

-- ---- what stands in the context: what the function holds, before the call and after it
abbrev pub held : List Arg → Fml
held [] = ftrue
held (val P x g ∷ xs) = held xs
held (on a ∷ xs) = fsep (fsep a.own a.token) (held xs)
held (off a ∷ xs) = fsep (fsep a.own a.token) (held xs)

abbrev pub back : (xs : List Arg) → Lasts xs → Fml
back [] ws = ftrue
back (val P x g ∷ xs) ws = back xs ws.1
back (on a ∷ xs) ws = fsep (fsep (a.owned ws.0) a.token) (back xs ws.1)
back (off a ∷ xs) ws = fsep (fsep a.own a.token) (back xs ws)

-- the callee's tokens, what its parameters own, what the function has meanwhile, and what the callee says of the last values
abbrev tokens : (xs : List Arg) → Names xs → Fml
tokens [] ns = ftrue
tokens (val P x g ∷ xs) ns = tokens xs ns
tokens (on a ∷ xs) ns = fsep (flft (a.life ns.0) a.share) (tokens xs ns.1)
tokens (off a ∷ xs) ns = tokens xs ns

abbrev handed : (xs : List Arg) → Names xs → Fml
handed [] ns = ftrue
handed (val P x g ∷ xs) ns = fsep (P.type.own_val x (P.low x ∷ [])) (handed xs ns)
handed (on a ∷ xs) ns = fsep (a.handed ns.0) (handed xs ns.1)
handed (off a ∷ xs) ns = handed xs ns

abbrev waits : (xs : List Arg) → Names xs → Fml
waits [] ns = ftrue
waits (val P x g ∷ xs) ns = waits xs ns
waits (on a ∷ xs) ns = fsep (a.waits ns.0) (waits xs ns.1)
waits (off a ∷ xs) ns = fsep (fsep a.own a.token) (waits xs ns)

abbrev settled : (xs : List Arg) → Names xs → Lasts xs → Fml
settled [] ns ws = ftrue
settled (val P x g ∷ xs) ns ws = fsep (left (P.type.exit yes) x ws.0) (settled xs ns ws.1)
settled (on a ∷ xs) ns ws = fsep (a.settled ns.0 ws.0) (settled xs ns.1 ws.1)
settled (off a ∷ xs) ns ws = settled xs ns ws

module _ {M : Type 1} {𝓤 : Ura M} {𝓛 : Logic 𝓤} {G : Goal 𝓤 𝓛.H} where
  -- each is lent, or kept back
  lend_all : (xs : List Arg) {Γ : List (Item 𝓤)} → Soaks G → ((ns : Names xs) → Sq 𝓛 (‵ (tokens xs ns) ∷ ‵ (handed xs ns) ∷ ‵ (waits xs ns) ∷ Γ) G)
      → Sq 𝓛 (‵ (held xs) ∷ Γ) G
  lend_all [] z k = nothing ! $ nothing ! $ k tt
  lend_all (val P x g ∷ xs) z k = lend_all xs z (λ ns. owns_value P ! x g $ move ! (0 ∷ 2 ∷ []) $ fjoin ! $ move ! (1 ∷ 0 ∷ []) $ k ns)
  lend_all (on a ∷ xs) z k = fsplit ! $ a.lends ! z (λ n. move ! (3 ∷ []) $ lend_all xs z (λ ns.
      -- [the tokens; what is handed; who waits; and the three of this one]
      move ! (3 ∷ 0 ∷ []) $ fjoin ! $ move ! (3 ∷ 1 ∷ []) $ fjoin ! $ move ! (3 ∷ 2 ∷ []) $ fjoin ! $ move ! (2 ∷ 1 ∷ 0 ∷ []) $ k (n, ns)))
  lend_all (off a ∷ xs) z k = fsplit ! $ move ! (1 ∷ []) $ lend_all xs z (λ ns. move ! (3 ∷ 2 ∷ []) $ fjoin ! $ move ! (1 ∷ 2 ∷ 0 ∷ []) $ k ns)

  -- and has come back
  all_back : (xs : List Arg) {Γ : List (Item 𝓤)} → Soaks G → (ns : Names xs) (ws : Lasts xs) → (Longs xs ws → Sq 𝓛 (‵ (back xs ws) ∷ Γ) G)
      → Sq 𝓛 (‵ (tokens xs ns) ∷ ‵ (settled xs ns ws) ∷ ‵ (waits xs ns) ∷ Γ) G
  all_back [] z ns ws k = drop ! $ drop ! $ k tt
  all_back (val P x g ∷ xs) z ns ws k = move ! (1 ∷ []) $ fsplit ! $ drop ! $ move ! (1 ∷ 0 ∷ []) $ all_back xs z ns ws.1 k
  all_back (on a ∷ xs) z ns ws k = fsplit ! $ move ! (2 ∷ []) $ fsplit ! $ move ! (4 ∷ []) $ fsplit ! $
      -- [who waits for it; who else waits; what is said of it; what else is said; its token; the tokens]
      move ! (4 ∷ 2 ∷ 0 ∷ []) $ a.backs ! z ns.0 ws.0 (λ long. move ! (3 ∷ 2 ∷ 1 ∷ []) $
      all_back xs z ns.1 ws.1 (λ longs. move ! (1 ∷ 0 ∷ []) $ fjoin ! $ k (long, longs)))
  all_back (off a ∷ xs) z ns ws k = move ! (2 ∷ []) $ fsplit ! $ move ! (2 ∷ 3 ∷ 1 ∷ []) $ all_back xs z ns ws (λ longs. move ! (1 ∷ 0 ∷ []) $ fjoin ! $ k longs)

-- ---- the call
-- the one `requires` of a function, where it has one
pub data Asks : Type 1 where
  none : Asks
  asks : Type 0 → Asks

abbrev pub Met : Asks → Type 0
Met none = Unit {0}
Met (asks φ) = φ

module _ {M : Type 1} {𝓤 : Ura M} (𝓛 : Logic 𝓤) where
  abbrev pub asked : Asks → SProp 𝓤
  asked none = emp 𝓤
  asked (asks φ) = fact 𝓤 φ

  met : (a : Asks) → Met a → ent 𝓤 (emp 𝓤) (asked a)
  met none m = id⊢ 𝓤 (emp 𝓤)
  met (asks φ) m = fact_i 𝓤 φ (emp 𝓤) m

  module _ (xs : List Arg) (ns : Names xs) where
    -- the callee's `pre`, and its `post`: where its contract is written out, they are these by computation
    abbrev pub Before : Asks → SProp 𝓤
    Before a = sep 𝓤 (sep 𝓤 (sem 𝓛 (tokens xs ns)) (sem 𝓛 (handed xs ns))) (asked a)

    abbrev pub After : (P : Value) → (Of P → Lasts xs → Type 0) → Val → Item 𝓤
    After P Told v = later (some (λ (r : Of P). (‵ (tokens xs ns) ⊛ ‵ (P.type.own_val r (v ∷ [])))
        ⊛ some (λ (ws : Lasts xs). ‵ (settled xs ns ws) ⊛ raw (fact 𝓤 (Told r ws)))))

-- local i, filled or not
module _ {M : Type 1} (𝓤 : Ura M) (H : Heap 𝓤) (E : Env 𝓤 H) where
  abbrev pub filled : ℕ → Val → Item 𝓤
  filled i v = ‵ (fat full_share (spot_of 𝓤 H E i).0 (spot_of 𝓤 H E i).1 (spot_of 𝓤 H E i).2 v)

  abbrev pub empty : ℕ → Item 𝓤
  empty i = ‵ (froom (spot_of 𝓤 H E i).0 (spot_of 𝓤 H E i).1 (spot_of 𝓤 H E i).2)

module _ {M : Type 1} {𝓤 : Ura M} {𝓛 : Logic 𝓤} {Γ : List (Item 𝓤)} {E : Env 𝓤 𝓛.H} where
  -- an operand of a call: `_i`
  open 𝓛 use {H}

  pub local : Go {0} → {i : ℕ} {v : Val} {x y : Item 𝓤} → nth 𝓛 (2 * i) Γ ≡ filled 𝓤 H E i v → Opd (Go {0}) 𝓛 (x ∷ y ∷ Γ) E (copy (place i [])) v
  local t {i = i} e = value ! (suc (suc (2 * i))) e

  -- of a statement
  pub here : Go {0} → {i : ℕ} {v : Val} {x : Item 𝓤} → nth 𝓛 (2 * i) Γ ≡ filled 𝓤 H E i v → Opd (Go {0}) 𝓛 (x ∷ Γ) E (copy (place i [])) v
  here t {i = i} e = value ! (suc (2 * i)) e

-- the ghost value at the names of the loans
abbrev pub at : {M : Type 1} {𝓤 : Ura M} (c : Contract 𝓤) (xs : List Arg) → (Lfts (count xs) → Shares (count xs) → Passes xs → Lows xs → c.Ghost) → Names xs
    → c.Ghost
at c xs y ns = y (lifes xs ns) (parts xs) (passed xs ns) (lows xs)

module _ {M : Type 1} {𝓤 : Ura M} (𝓛 : Logic 𝓤) (Γ : List (Item 𝓤)) (xs : List Arg) (c : Contract 𝓤) (g : Names xs → c.Ghost) where
  -- all is lent
  open 𝓛 use {H}

  lent_out : {G : Goal 𝓤 H} → Soaks G → (need : Asks) → ((ns : Names xs) → ent 𝓤 (Before 𝓛 xs ns need) (c.pre (g ns))) → Met need
      → ((ns : Names xs) → Sq 𝓛 (raw (c.pre (g ns)) ∷ ‵ (waits xs ns) ∷ Γ) G) → Sq 𝓛 (‵ (held xs) ∷ Γ) G
  lent_out z need before m k = lend_all xs z (λ ns. join ! $ use0 𝓛 (raw (asked 𝓛 need)) (met 𝓛 need m) $ move ! (1 ∷ 0 ∷ []) $ join ! $
      use1 𝓛 (raw (c.pre (g ns))) (before ns) $ k ns)

  -- and when the callee has returned, all has come back
  returned : (P : Value) (Told : Of P → Lasts xs → Type 0)
      → ((ns : Names xs) (v : Val) → ent 𝓤 (c.post (g ns) v) (mean 𝓛 (After 𝓛 xs ns P Told v))) → (G : Val → Goal 𝓤 H) → ((v : Val) → Soaks (G v))
      → ((r : Of P) (ws : Lasts xs) → Good P r → Longs xs ws → Told r ws → Sq 𝓛 (‵ (back xs ws) ∷ Γ) (G (P.low r)))
      → (ns : Names xs) (v : Val) → Sq 𝓛 (raw (c.post (g ns) v) ∷ ‵ (waits xs ns) ∷ Γ) (G v)
  returned P Told after G z k ns v =
      use1 𝓛 (After 𝓛 xs ns P Told v) (after ns v) $ await ! (z v) $ pick ! (λ r. split ! $ move ! (1 ∷ []) $ pick ! (λ ws. split ! $ move ! (1 ∷ []) $
      heard ! (Told r ws) (λ told. move ! (1 ∷ []) $ split ! $ move ! (1 ∷ []) $
      facts ! P.type (Is P.type) (shows 𝓛 P.type) r (v ∷ []) (λ is. all_back xs (z v) ns ws (λ longs.
      subst (λ (u : Val). Sq 𝓛 (‵ (back xs ws) ∷ Γ) (G u)) (sym (ap only (P.tells r (v ∷ []) is)))
      (k r ws (subst (Is P.type r) (P.tells r (v ∷ []) is) is) longs told))))))

module _ {M : Type 1} {𝓤 : Ura M} (𝓛 : Logic 𝓤) (Γ : List (Item 𝓤)) (E : Env 𝓤 𝓛.H) (p : Post 𝓤 𝓛.H) (f : Name) (os : List Operand)
    (i : ℕ) where
  -- the law of `body`, which is `_i = f(os)` and what is behind it, `then`; local i is `old` before the call
  open 𝓛 use {H}

  abbrev Calling : Item 𝓤 → Body → (Tables 𝓤 H → Goal 𝓤 H) → Type 2
  Calling old body then = Go {0} → (𝓣 : Tables 𝓤 H) (xs : List Arg) (need : Asks) (P : Value) (Told : Of P → Lasts xs → Type 0) (c : Contract 𝓤)
      → Triple 𝓤 (𝓣.C f) c → (y : Lfts (count xs) → Shares (count xs) → Passes xs → Lows xs → c.Ghost)
      → ((ns : Names xs) → ent 𝓤 (Before 𝓛 xs ns need) (c.pre (at c xs y ns)))
      → ((ns : Names xs) (v : Val) → ent 𝓤 (c.post (at c xs y ns) v) (mean 𝓛 (After 𝓛 xs ns P Told v))) → Met need
      → ((ns : Names xs) → Opds (Go {0}) 𝓛 (raw (c.pre (at c xs y ns)) ∷ ‵ (waits xs ns) ∷ Γ) E os (c.args (at c xs y ns)))
      → nth 𝓛 (2 * i) Γ ≡ old → (spot_of 𝓤 H E i).0 ≡ P.mir
      → ((r : Of P) (ws : Lasts xs) → Good P r → Longs xs ws → Told r ws
      → Sq 𝓛 (‵ (back xs ws) ∷ put 𝓛 (2 * i) (filled 𝓤 H E i (P.low r)) Γ) (then 𝓣))
      → Sq 𝓛 (‵ (held xs) ∷ Γ) (runs 𝓣.C 𝓣.Λ E body p)

-- a result has the type of its local
result_typed : {M : Type 1} {𝓤 : Ura M} (𝓛 : Logic 𝓤) (P : Value) {τ : Ty} → τ ≡ P.mir → (r : Of P) → Good P r → Typed τ (P.low r)
result_typed {𝓤 = 𝓤} 𝓛 P is r good = subst (λ (σ : Ty). Typed σ (P.low r)) (sym is) (P.typed 𝓛 r good)

module _ {M : Type 1} {𝓤 : Ura M} {𝓛 : Logic 𝓤} {Γ : List (Item 𝓤)} {E : Env 𝓤 𝓛.H}
    {p : Post 𝓤 𝓛.H} {f : Name} {os : List Operand} {i : ℕ} where
  open 𝓛 use {H}

  module _ {rest : Body} where
    -- `_i = f(os)` with more behind it, into a local that holds nothing
    pub calls : Calling 𝓛 Γ E p f os i (empty 𝓤 H E i) (seq (call f os (place i [])) rest) (λ 𝓣. runs 𝓣.C 𝓣.Λ E rest p)
    calls t 𝓣 xs need P Told c known y before after m reads there typed k =
        lent_out 𝓛 Γ xs c (at c xs y) tt need before m (λ ns. calls_at ! (fm_of 𝓤 H 𝓛.laws 𝓣) c known (at c xs y ns) (reads ns)
        (returned 𝓛 Γ xs c (at c xs y) P Told after (λ v. lands 𝓣.C 𝓣.Λ E (place i []) v rest p) (λ v. tt) (λ r ws good longs told.
        land ! (from ! (stop !)) (init ! (suc (2 * i)) there (result_typed 𝓛 P typed r good)) $ k r ws good longs told) ns))

    -- the same, into a local that is filled
    pub calls_over : {v₀ : Val} → Calling 𝓛 Γ E p f os i (filled 𝓤 H E i v₀) (seq (call f os (place i [])) rest) (λ 𝓣. runs 𝓣.C 𝓣.Λ E rest p)
    calls_over t 𝓣 xs need P Told c known y before after m reads there typed k =
        lent_out 𝓛 Γ xs c (at c xs y) tt need before m (λ ns. calls_at ! (fm_of 𝓤 H 𝓛.laws 𝓣) c known (at c xs y ns) (reads ns)
        (returned 𝓛 Γ xs c (at c xs y) P Told after (λ v. lands 𝓣.C 𝓣.Λ E (place i []) v rest p) (λ v. tt) (λ r ws good longs told.
        land ! (from ! (stop !)) (store ! (suc (2 * i)) there (result_typed 𝓛 P typed r good)) $ k r ws good longs told) ns))

  -- as the last statement of a turn, into a local that is filled
  pub calls_over_last : {v₀ : Val} → Calling 𝓛 Γ E p f os i (filled 𝓤 H E i v₀) (call f os (place i [])) (λ 𝓣. prop (post 𝓤 H p next))
  calls_over_last t 𝓣 xs need P Told c known y before after m reads there typed k =
      lent_out 𝓛 Γ xs c (at c xs y) tt need before m (λ ns. calls_at_last ! (fm_of 𝓤 H 𝓛.laws 𝓣) c known (at c xs y ns) (reads ns)
      (returned 𝓛 Γ xs c (at c xs y) P Told after (λ v. settles E (place i []) v p) (λ v. tt) (λ r ws good longs told.
      land_last ! (from ! (stop !)) (store ! (suc (2 * i)) there (result_typed 𝓛 P typed r good)) $ k r ws good longs told) ns))

  -- as the last statement of a turn or an arm, into a local that holds nothing
  pub calls_last : Calling 𝓛 Γ E p f os i (empty 𝓤 H E i) (call f os (place i [])) (λ 𝓣. prop (post 𝓤 H p next))
  calls_last t 𝓣 xs need P Told c known y before after m reads there typed k =
      lent_out 𝓛 Γ xs c (at c xs y) tt need before m (λ ns. calls_at_last ! (fm_of 𝓤 H 𝓛.laws 𝓣) c known (at c xs y ns) (reads ns)
      (returned 𝓛 Γ xs c (at c xs y) P Told after (λ v. settles E (place i []) v p) (λ v. tt) (λ r ws good longs told.
      land_last ! (from ! (stop !)) (init ! (suc (2 * i)) there (result_typed 𝓛 P typed r good)) $ k r ws good longs told) ns))

-- ---- the statements before a call
module _ {M : Type 1} {𝓤 : Ura M} {𝓛 : Logic 𝓤} {Γ : List (Item 𝓤)} {x : Item 𝓤} {E : Env 𝓤 𝓛.H} {C : Calls 𝓤 𝓛.H} {Λ : Loops 𝓤 𝓛.H}
    {p : Post 𝓤 𝓛.H} {i : ℕ} {rv : RValue} {rest : Body} {v : Val} where
  -- `_i = rv`, of any kind, where it holds nothing yet
  open 𝓛 use {H}

  pub fills : Go {0} → nth 𝓛 (2 * i) Γ ≡ empty 𝓤 H E i → Rv (Go {0}) 𝓛 (x ∷ Γ) E rv v → Typed (spot_of 𝓤 H E i).0 v
      → Step (Go {0}) 𝓛 (x ∷ put 𝓛 (2 * i) (filled 𝓤 H E i v) Γ) (runs C Λ E rest p) (x ∷ Γ) (runs C Λ E (seq (assign (place i []) rv) rest) p)
  fills t room is typed = sets ! (suc (2 * i)) room is typed

module _ {M : Type 1} {𝓤 : Ura M} {𝓛 : Logic 𝓤} {Γ : List (Item 𝓤)} {x : Item 𝓤} {E : Env 𝓤 𝓛.H} {C : Calls 𝓤 𝓛.H} {Λ : Loops 𝓤 𝓛.H}
    {p : Post 𝓤 𝓛.H} {i r : ℕ} {rest : Body} where
  -- `_r = &(*_i.0)`, `_s = [_r, _i.1]`: a slice is lent on
  open 𝓛 use {H}

  pub relends : Go {0} → {s : ℕ} {σ ρ : Ty} {b o : ℕ} {l : ℕ × ℕ} {n : ℕ}
      → nth 𝓛 (2 * i) Γ ≡ ‵ (fat full_share (slice_ty ρ) b o (slice_val l n)) → spot_of 𝓤 H E i ≡ (slice_ty ρ, b, o)
      → nth 𝓛 (2 * r) Γ ≡ empty 𝓤 H E r → Typed (spot_of 𝓤 H E r).0 (vptr l.0 l.1)
      → nth 𝓛 (2 * i) (put 𝓛 (2 * r) (filled 𝓤 H E r (vptr l.0 l.1)) Γ) ≡ ‵ (fat full_share (slice_ty ρ) b o (slice_val l n))
      → nth 𝓛 (2 * r) (put 𝓛 (2 * r) (filled 𝓤 H E r (vptr l.0 l.1)) Γ) ≡ filled 𝓤 H E r (vptr l.0 l.1)
      → nth 𝓛 (2 * s) (put 𝓛 (2 * r) (filled 𝓤 H E r (vptr l.0 l.1)) Γ) ≡ empty 𝓤 H E s → Typed (spot_of 𝓤 H E s).0 (slice_val l n)
      → Step (Go {0}) 𝓛 (x ∷ put 𝓛 (2 * s) (filled 𝓤 H E s (slice_val l n)) (put 𝓛 (2 * r) (filled 𝓤 H E r (vptr l.0 l.1)) Γ))
      (runs C Λ E rest p) (x ∷ Γ)
      (runs C Λ E (seq (assign (place r []) (addr_of (place i (field 0 ∷ deref σ ∷ []))))
      (seq (assign (place s []) (aggregate (copy (place r []) ∷ copy (place i (field 1 ∷ [])) ∷ []))) rest)) p)
  relends t {s = s} e spot room typed still there room' typed' = step (λ z.
      sets ! (suc (2 * r)) room (elements ! (suc (2 * i)) e spot refl refl) typed $
      sets ! (suc (2 * s)) room' (agg ! (and_then ! (value ! (suc (2 * r)) there) (and_then ! (part ! (suc (2 * i)) still spot refl) (no_more !)))) typed' $ z)

  -- `_r = &*_i`: a reference is passed on
  pub repasses : Go {0} → {σ : Ty} {b o : ℕ} → nth 𝓛 (2 * i) Γ ≡ filled 𝓤 H E i (vptr b o) → nth 𝓛 (2 * r) Γ ≡ empty 𝓤 H E r
      → Typed (spot_of 𝓤 H E r).0 (vptr b o)
      → Step (Go {0}) 𝓛 (x ∷ put 𝓛 (2 * r) (filled 𝓤 H E r (vptr b o)) Γ) (runs C Λ E rest p) (x ∷ Γ)
      (runs C Λ E (seq (assign (place r []) (addr_of (place i (deref σ ∷ [])))) rest) p)
  repasses t e room typed = sets ! (suc (2 * r)) room (addr ! (from ! (hop ! (look ! (suc (2 * i)) e) (stop !)))) typed

  -- `_r = _i.1`: a slice is measured
  pub measures : Go {0} → {ρ : Ty} {b o : ℕ} {l : ℕ × ℕ} {n : ℕ} → nth 𝓛 (2 * i) Γ ≡ ‵ (fat full_share (slice_ty ρ) b o (slice_val l n))
      → spot_of 𝓤 H E i ≡ (slice_ty ρ, b, o) → nth 𝓛 (2 * r) Γ ≡ empty 𝓤 H E r → Typed (spot_of 𝓤 H E r).0 (vint w64 n)
      → Step (Go {0}) 𝓛 (x ∷ put 𝓛 (2 * r) (filled 𝓤 H E r (vint w64 n)) Γ) (runs C Λ E rest p) (x ∷ Γ)
      (runs C Λ E (seq (assign (place r []) (rv_opd (copy (place i (field 1 ∷ []))))) rest) p)
  measures t e spot room typed = sets ! (suc (2 * r)) room (of_opd ! (part ! (suc (2 * i)) e spot refl)) typed

-- ---- arrays of the function's own. While there is one, its elements are among the things held, and its local has nothing
module _ {M : Type 1} {𝓤 : Ura M} {𝓛 : Logic 𝓤} {Γ : List (Item 𝓤)} {G : Goal 𝓤 𝓛.H} where
  -- what stands at n is taken out, and put there
  takes : Go {0} → (n : ℕ) {k : Item 𝓤} → nth 𝓛 n Γ ≡ k → Step (Go {0}) 𝓛 (k ∷ put 𝓛 n (‵ ftrue) Γ) G Γ G
  takes t n {k} e = step (λ s. by ! (via 𝓤 (sep 𝓤 (mean 𝓛 k) (⋆ 𝓛 (put 𝓛 n (‵ ftrue) Γ)))
      (via 𝓤 (sep 𝓤 (mean 𝓛 k) (⋆ 𝓛 (del 𝓛 n Γ)))
      (subst (λ (j : Item 𝓤). ent 𝓤 (⋆ 𝓛 Γ) (sep 𝓤 (mean 𝓛 j) (⋆ 𝓛 (del 𝓛 n Γ)))) e (pull 𝓛 n Γ))
      (mono_r 𝓤 (mean 𝓛 k) (via 𝓤 (sep 𝓤 (emp 𝓤) (⋆ 𝓛 (del 𝓛 n Γ))) (emp∗ 𝓤 (⋆ 𝓛 (del 𝓛 n Γ))) (fill 𝓛 n (‵ ftrue) Γ))))
      (via 𝓤 (⋆ 𝓛 (k ∷ put 𝓛 n (‵ ftrue) Γ)) (push 𝓛 k (put 𝓛 n (‵ ftrue) Γ)) s.prf)))

  puts : Go {0} → (n : ℕ) {k : Item 𝓤} → Step (Go {0}) 𝓛 (put 𝓛 n k Γ) G (k ∷ Γ) G
  puts t n {k} = step (λ s. by ! (via 𝓤 (sep 𝓤 (mean 𝓛 k) (⋆ 𝓛 Γ)) (pop 𝓛 k Γ)
      (via 𝓤 (sep 𝓤 (mean 𝓛 k) (⋆ 𝓛 (del 𝓛 n Γ)))
      (mono_r 𝓤 (mean 𝓛 k) (via 𝓤 (sep 𝓤 (mean 𝓛 (nth 𝓛 n Γ)) (⋆ 𝓛 (del 𝓛 n Γ))) (pull 𝓛 n Γ)
      (snd∗ 𝓤 (mean 𝓛 (nth 𝓛 n Γ)) (⋆ 𝓛 (del 𝓛 n Γ)))))
      (via 𝓤 (⋆ 𝓛 (put 𝓛 n k Γ)) (fill 𝓛 n k Γ) s.prf))))

module _ {M : Type 1} {𝓤 : Ura M} {𝓛 : Logic 𝓤} {Γ : List (Item 𝓤)} {E : Env 𝓤 𝓛.H} {C : Calls 𝓤 𝓛.H} {Λ : Loops 𝓤 𝓛.H}
    {p : Post 𝓤 𝓛.H} {i : ℕ} {rest : Body} where
  -- `_i = [c; n]`
  open 𝓛 use {H}

  pub makes : {c : Operand} {n : ℕ} → Go {0} → (xs : List Arg) (T : Element) (b : ℕ) (x : T.type.Denot) (room : Room T.type n) → Is T.type x (T.low x ∷ [])
      → nth 𝓛 (2 * i) Γ ≡ ‵ (froom (ArrayTy T n) b 0) → spot_of 𝓤 H E i ≡ (ArrayTy T n, b, 0)
      → Opd (Go {0}) 𝓛 (‵ (froom (ArrayTy T n) b 0) ∷ ‵ (held xs) ∷ put 𝓛 (2 * i) (‵ ftrue) Γ) E c (T.low x)
      → Step (Go {0}) 𝓛 (‵ (held (off (array T b n room (copies n x) (length_copies n x)) ∷ xs)) ∷ put 𝓛 (2 * i) (‵ ftrue) Γ) (runs C Λ E rest p)
      (‵ (held xs) ∷ Γ) (runs C Λ E (seq (assign (place i []) (repeat c n)) rest) p)
  makes {c} {n} t xs T b x room good there spot o = step (λ k.
      takes ! (suc (2 * i)) there $
      makes_array ! T n b x good o (subst (Finds (Go {0}) 𝓛 _ E (place i [])) spot (from ! (stop !))) $
      nothing ! $ move ! (1 ∷ 0 ∷ []) $ fjoin ! $ fjoin ! $ k)

  -- `_r = &_i`, `_s = [_r, n]`: it is lent as a slice
  pub lends_own : {r s : ℕ} {n : Operand} {m b : ℕ} {x : Item 𝓤} → Go {0} → (spot_of 𝓤 H E i).1 ≡ b → (spot_of 𝓤 H E i).2 ≡ 0 → nth 𝓛 (2 * r) Γ ≡ empty 𝓤 H E r
      → Typed (spot_of 𝓤 H E r).0 (vptr b 0)
      → nth 𝓛 (2 * r) (put 𝓛 (2 * r) (filled 𝓤 H E r (vptr b 0)) Γ) ≡ filled 𝓤 H E r (vptr b 0)
      → nth 𝓛 (2 * s) (put 𝓛 (2 * r) (filled 𝓤 H E r (vptr b 0)) Γ) ≡ empty 𝓤 H E s
      → Typed (spot_of 𝓤 H E s).0 (slice_val (b, 0) m)
      → Opd (Go {0}) 𝓛 (x ∷ put 𝓛 (2 * r) (filled 𝓤 H E r (vptr b 0)) Γ) E n (vint w64 m)
      → Step (Go {0}) 𝓛 (x ∷ put 𝓛 (2 * s) (filled 𝓤 H E s (slice_val (b, 0) m)) (put 𝓛 (2 * r) (filled 𝓤 H E r (vptr b 0)) Γ)) (runs C Λ E rest p)
      (x ∷ Γ) (runs C Λ E (seq (assign (place r []) (addr_of (place i [])))
      (seq (assign (place s []) (aggregate (copy (place r []) ∷ n ∷ []))) rest)) p)
  lends_own {r} {s} {n} {m} {b} {x} t block start room typed there room' typed' o = step (λ z.
      sets ! (suc (2 * r)) room (subst (λ (v : Val). Rv (Go {0}) 𝓛 (x ∷ Γ) E (addr_of (place i [])) v) (rw (block, start) refl) (addr ! (from ! (stop !)))) typed $
      sets ! (suc (2 * s)) room' (agg ! (and_then ! (value ! (suc (2 * r)) there) (and_then ! o (no_more !)))) typed' $ z)

module _ {M : Type 1} {𝓤 : Ura M} {𝓛 : Logic 𝓤} {Γ : List (Item 𝓤)} {G : Goal 𝓤 𝓛.H} where
  -- it is given up, and its local is room again
  pub gives_up : Go {0} → (xs : List Arg) (T : Element) (b n : ℕ) (room : Room T.type n) (ys : List T.type.Denot) (long : length ys ≡ n) (i : ℕ)
      → Step (Go {0}) 𝓛 (‵ (held xs) ∷ put 𝓛 (2 * i) (‵ (froom (ArrayTy T n) b 0)) Γ) G (‵ (held (off (array T b n room ys long) ∷ xs)) ∷ Γ) G
  gives_up t xs T b n room ys long i = step (λ k.
      fsplit ! $ fsplit ! $ move ! (1 ∷ []) $ drop ! $ use1 𝓛 (‵ (froom (ArrayTy T n) b 0)) (array_room 𝓛 T n b ys long) $ puts ! (suc (2 * i)) $ k)

-- ---- the things held, in another order
module _ {M : Type 1} {𝓤 : Ura M} (𝓛 : Logic 𝓤) where
  abbrev pub apart : List Arg → List (Item 𝓤)
  apart [] = []
  apart (val P x g ∷ xs) = apart xs
  apart (on a ∷ xs) = ‵ (fsep a.own a.token) ∷ apart xs
  apart (off a ∷ xs) = ‵ (fsep a.own a.token) ∷ apart xs

  in_one : (i : Item 𝓤) (Δ : List (Item 𝓤)) {Q : SProp 𝓤} → ent 𝓤 (⋆ 𝓛 Δ) Q → ent 𝓤 (⋆ 𝓛 (i ∷ Δ)) (sep 𝓤 (mean 𝓛 i) Q)
  in_one i Δ h = via 𝓤 (sep 𝓤 (mean 𝓛 i) (⋆ 𝓛 Δ)) (pop 𝓛 i Δ) (mono_r 𝓤 (mean 𝓛 i) h)

  out_one : (i : Item 𝓤) (Δ : List (Item 𝓤)) {Q : SProp 𝓤} → ent 𝓤 Q (⋆ 𝓛 Δ) → ent 𝓤 (sep 𝓤 (mean 𝓛 i) Q) (⋆ 𝓛 (i ∷ Δ))
  out_one i Δ h = via 𝓤 (sep 𝓤 (mean 𝓛 i) (⋆ 𝓛 Δ)) (mono_r 𝓤 (mean 𝓛 i) h) (push 𝓛 i Δ)

  together : (xs : List Arg) → ent 𝓤 (⋆ 𝓛 (apart xs)) (sem 𝓛 (held xs))
  together [] = id⊢ 𝓤 (emp 𝓤)
  together (val P x g ∷ xs) = together xs
  together (on a ∷ xs) = in_one (‵ (fsep a.own a.token)) (apart xs) (together xs)
  together (off a ∷ xs) = in_one (‵ (fsep a.own a.token)) (apart xs) (together xs)

  taken_apart : (xs : List Arg) → ent 𝓤 (sem 𝓛 (held xs)) (⋆ 𝓛 (apart xs))
  taken_apart [] = id⊢ 𝓤 (emp 𝓤)
  taken_apart (val P x g ∷ xs) = taken_apart xs
  taken_apart (on a ∷ xs) = out_one (‵ (fsep a.own a.token)) (apart xs) (taken_apart xs)
  taken_apart (off a ∷ xs) = out_one (‵ (fsep a.own a.token)) (apart xs) (taken_apart xs)

module _ {M : Type 1} {𝓤 : Ura M} {𝓛 : Logic 𝓤} {Γ : List (Item 𝓤)} {G : Goal 𝓤 𝓛.H} where
  pub rearranges : Go {0} → (xs ys : List Arg) (π : List ℕ) → sel 𝓛 π (apart 𝓛 xs) ≡ apart 𝓛 ys
      → Step (Go {0}) 𝓛 (‵ (held ys) ∷ Γ) G (‵ (held xs) ∷ Γ) G
  rearranges t xs ys π same = use1 𝓛 (‵ (held ys)) (via 𝓤 (⋆ 𝓛 (apart 𝓛 xs)) (taken_apart 𝓛 xs)
      (via 𝓤 (⋆ 𝓛 (sel 𝓛 π (apart 𝓛 xs))) (sel⊢ 𝓛 π (apart 𝓛 xs))
      (subst (λ (Δ : List (Item 𝓤)). ent 𝓤 (⋆ 𝓛 Δ) (sem 𝓛 (held ys))) (sym same) (together 𝓛 ys))))
