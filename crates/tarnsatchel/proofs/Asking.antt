-- The law of a function for C that asks a question of a set: the head is read of its six numbers, and then the question is asked and its answer told.
-- First the things that a walk holds, by their place; then how the head is read; then the law, from the walk behind it to the function's statement.
-- Assumes `Logic`.
use Rattle.walks.proofs.Prelude.{ℕ, ◌*◌, ftrue, ent, emp, id⊢, sym, subst, Ura, Triple, Contract, Tables, Item, Sq, runs}
use Rattle.walks.proofs.Prelude.{at_ret, Clauses, tables, ‵, ◌$◌, !, move, fsplit, fjoin, drop, nothing, and_then, no_more, u16, w8}
use Rattle.walks.proofs.Prelude.{List, [], ◌∷◌, ◌≡◌}
unfoldable use Rattle.walks.proofs.Prelude.{tables_of}
use Prim.Native.Nat.{zero, suc}
use types.Logic.{Logic, sem}
use package.contract.Lifetimes.{Lfts, Shares}
use package.contract.Running.{Running, within}
use denote.Array.{Array}
use denote.Signature.{Signature}
use denote.Triple.Entry.{Args, alive}
use mir.Syntax.{Body, Callee as Name, Fn, call, copy, place, seq}
use mir.Val.{vptr}
use prog.Model.{Model}
use prog.Routine.{Env as REnv}
use prog.Wired.{Wired}
use prog.Wp.{Closed, Env, spot_of}
use types.Kit.{nth, put}
use Rattle.walks.proofs.Arguments.{Lent, aside, spent}
use Rattle.walks.proofs.Contracts.{contract}
use Rattle.walks.proofs.Functions.{Known, Left, Parameter, Shapes, Start, given_reference, handed_in, lends, line, machines, mine, tokens, walks}
use Rattle.walks.proofs.Lines.{Arg, calls, empty, filled, held, local, none, off, on, val}
use Rattle.walks.proofs.Locals.{Blocks, Params, bare, env_of, fulls, locals}
use Rattle.walks.proofs.Values.{Good, number}
use Rattle.paper.specs.declared.Head.{Head}
use Rattle.sound.proofs.Heads.{head}
use Rattle.tarnsatchel.specs.Told.{head_of}
use Rattle.tarnsatchel.specs.contracts.head_of as stated
use Rattle.tarnsatchel.proofs.head_of as head_of

-- the thing that is held at place j; past the last there is nothing
abbrev pub thing : ℕ → List Arg → Lent
thing j [] = aside ftrue ftrue
thing j (val P x g ∷ xs) = thing j xs
thing zero (on a ∷ xs) = a
thing (suc j) (on a ∷ xs) = thing j xs
thing zero (off a ∷ xs) = a
thing (suc j) (off a ∷ xs) = thing j xs

-- the first parameter of a question
abbrev pub numbers : {m : ℕ} → Parameter (suc m)
numbers = lends (given_reference 0 tt (Array u16 6))

-- ---- the function: the numbers and its other parameters, its contract, where it stands and its MIR
module _ {M : Type 1} {𝓤 : Ura M} (𝓛 : Logic 𝓤) (𝓜 : Model 𝓤 𝓛.H) (𝓡 : Running 𝓤 𝓛.H 𝓜) {m : ℕ} (ps : List (Parameter (suc m)))
    (c : Clauses 𝓤 (line (numbers ∷ ps) (number w8))) (γ : REnv) (k : Name) (e : Fn) where
  open 𝓛 use {H}

  abbrev signature : Signature
  signature = (line (numbers ∷ ps) (number w8)).signature

  abbrev Begun : Type 1
  Begun = Start 𝓛 (numbers ∷ ps) (number w8) c (λ κs a. none)

  abbrev HeadOf : Contract 𝓤
  HeadOf = contract 𝓛 stated.ended (stated.clauses 𝓛 𝓜.mem 𝓡.returns)

  -- `_i = head_of(_1)`, and then the rest
  abbrev reading : ℕ → Body → Body
  reading i rest = seq (call head_of.Symbol.name (copy (place 1 []) ∷ []) (place i [])) rest

  module _ (s : Begun) (bs : Blocks e.locals) where
    abbrev E : Env 𝓤 H
    E = env_of e.locals bs

    abbrev at_first : List (Item 𝓤)
    at_first = locals E (bare ∷ fulls (machines s)) []

    -- what holds of the locals by computation: the numbers are there, and room for the head
    abbrev Placed : ℕ → Type 2
    Placed i = (nth 𝓛 (2 * 1) at_first ≡ filled 𝓤 H E 1 (vptr s.args.0.ref_ptr.0 s.args.0.ref_ptr.1))
        × (nth 𝓛 (2 * i) at_first ≡ empty 𝓤 H E i) × ((spot_of 𝓤 H E i).0 ≡ head.mir)

    abbrev Walk : Tables 𝓤 H → Body → List (Item 𝓤) → Type 1
    Walk 𝓣 b Γ = Sq 𝓛 Γ (runs 𝓣.C 𝓣.Λ E b (at_ret E (Left s)))

    -- what is lent besides, and the walk once the head h is read
    abbrev others : List Arg
    others = handed_in ps s.lifetimes s.shares s.args.1 s.known.1

    abbrev Read : Tables 𝓤 H → ℕ → Body → Head → Type 1
    Read 𝓣 i rest h = Good head h
        → Walk 𝓣 rest (‵ (held (off (spent (thing 0 (mine s)) tt) ∷ others)) ∷ put 𝓛 (2 * i) (filled 𝓤 H E i (head.low h)) at_first)

    -- the others are kept back as one thing
    reads : (𝓣 : Tables 𝓤 H) {i : ℕ} {rest : Body} → Triple 𝓤 (𝓣.C head_of.Symbol.name) HeadOf → Placed i → Read 𝓣 i rest (head_of s.args.0.now)
        → Walk 𝓣 (reading i rest) (‵ (held (mine s)) ∷ at_first)
    reads 𝓣 {i} {rest} known placed walk =
        fsplit ! $ nothing ! $ move ! (2 ∷ 0 ∷ []) $ fjoin ! $ nothing ! $ move ! (1 ∷ 0 ∷ []) $ fjoin ! $ move ! (1 ∷ 0 ∷ []) $ fjoin ! $
        calls ! 𝓣 (on (thing 0 (mine s)) ∷ off (aside (held others) ftrue) ∷ []) none head (λ h _. h ≡ head_of s.args.0.now) HeadOf
        known (λ κs qs a ls. ((κs, qs, tt, a, ls), tt)) (λ ns. id⊢ 𝓤 _) (λ ns v. id⊢ 𝓤 _) tt
        (λ ns. and_then ! (local ! placed.0) (no_more !)) placed.1 placed.2 (λ h ws good _ is.
        fsplit ! $ move ! (1 ∷ []) $ fsplit ! $ move ! (1 ∷ []) $ drop ! $ fsplit ! $ move ! (1 ∷ []) $ drop ! $ move ! (1 ∷ 0 ∷ []) $ fjoin ! $
        subst (Read 𝓣 i rest) (sym is) walk good)

  -- the law. What holds by computation is as in `walks`; then what the body is, and where the numbers and the head are
  pub question : {i : ℕ} {rest : Body} {ask tell : Name} {asked told : Contract 𝓤} → Closed 𝓤 H (tables 𝓤 H 𝓜 𝓡 γ).C (tables 𝓤 H 𝓜 𝓡 γ).Λ k e
      → ((κs : Lfts (suc m)) (a : Args signature κs) (g : (c κs a).ghost) → ent 𝓤 ((c κs a).requires g) (emp 𝓤))
      → ((κs : Lfts (suc m)) (qs : Shares (suc m)) (a : Args signature κs) (are : Known (numbers ∷ ps) κs a)
      → ent 𝓤 (alive 𝓛 signature κs qs) (sem 𝓛 (tokens (handed_in (numbers ∷ ps) κs qs a are)))
      × ent 𝓤 (sem 𝓛 (tokens (handed_in (numbers ∷ ps) κs qs a are))) (alive 𝓛 signature κs qs))
      → ((s : Begun) (bs : Blocks e.locals) → Shapes (numbers ∷ ps) s.lifetimes s.args → Params (E s bs) (machines s))
      → e.body ≡ reading i rest → ((s : Begun) (bs : Blocks e.locals) → Placed s bs i)
      → Wired γ head_of.Symbol.code → Triple 𝓤 ((tables 𝓤 H 𝓜 𝓡 γ).C ask) asked → Triple 𝓤 ((tables 𝓤 H 𝓜 𝓡 γ).C tell) told
      → ((𝓣 : Tables 𝓤 H) → Triple 𝓤 (𝓣.C ask) asked → Triple 𝓤 (𝓣.C tell) told → (s : Begun) (bs : Blocks e.locals)
      → Read s bs 𝓣 i rest (head_of s.args.0.now))
      → Triple 𝓤 ((tables 𝓤 H 𝓜 𝓡 γ).C k) (contract 𝓛 (line (numbers ∷ ps) (number w8)) c)
  unfolding tables_of
  question {ask = ask} {tell = tell} {asked = asked} {told = told} closed free awake typed is placed calls-head ask-meets tell-meets walk =
      walks 𝓛 𝓜 𝓡 (numbers ∷ ps) (number w8) c (λ κs a. none) γ k e closed free (λ κs qs a are. (awake κs qs a are).0)
      (λ κs qs a are. (awake κs qs a are).1) typed ((head_of.Symbol.name, HeadOf) ∷ (ask, asked) ∷ (tell, told) ∷ [])
      (head_of.Met.met 𝓤 𝓛 𝓜 (within 𝓤 H 𝓜 𝓡 γ) calls-head, (ask-meets, (tell-meets, tt)))
      (λ 𝓣 known s bs. subst (λ (b : Body). Walk s bs 𝓣 b (‵ (held (mine s)) ∷ at_first s bs)) (sym is)
      (reads s bs 𝓣 known.0 (placed s bs) (walk 𝓣 known.1.0 known.1.1.0 s bs)))
