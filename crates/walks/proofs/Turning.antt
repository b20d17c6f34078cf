-- A loop `while t.going { .. }` whose turn is a line of calls (`Lines`), anywhere in a function's body. What the function holds is told by what it has
-- in hand. Before each turn its locals in front of the state's are as they were before the first, and those behind it are room. First these locals,
-- then the statements of such a body that are no calls, then the law (`turns`).
-- Assumes `Logic`.
use Rattle.walks.proofs.Prelude.{ℕ, ◌<◌, ◌*◌, ent, sep, id⊢, via, Ura, List, [], ◌∷◌, ◌≡◌, subst, w64, Ty, Val, vint, Tables, Wp, after_seq}
use Rattle.walks.proofs.Prelude.{after_block, after_turn, ‵, ⋆, ◌$◌, !, by, Item, Sq, runs, any_q, of_opd, first, blocks, exec, full_share}
use Prim.Native.Nat.{suc}
use mathlib.Core.Bool.{Bool, false, true}
use mathlib.Core.List.{◌++◌}
use base.Fml.{fat, froom, fdies}
use base.Logic.{mono_l, mono_r}
use lib.ListN.{drop, take}
use mir.Syntax.{Body, assign, block, cond, copy, exit, field, loop, place, rv_opd, seq, skip}
use mir.Val.{vbool}
use prog.Wp.{Calls, Env, Loops, next, spot_of}
use types.Logic.{Logic}
use types.Kit.{Go, Post, Step, mean, nth, pop, post, prop, push, put}
use Rattle.walks.proofs.Lines.{Arg, empty, filled, held}
use Rattle.walks.proofs.Locals.{Hold, bare, full, locals}
use Rattle.walks.proofs.Loops.{At, again, tests, whiles}
use Rattle.walks.proofs.States.{Field, Shape, State, StateTy, fails, holds, machine}
use Rattle.walks.proofs.Steps.{Typed, part, rv_is, sets, value}

-- ---- the locals: the state's is t, which has v; those behind it are as ks says
abbrev pub Locals : {M : Type 1} {𝓤 : Ura M} → List (Ty × ℕ) → List (Item 𝓤) → ℕ → Val → List Hold → List (Item 𝓤)
Locals E Γ t v ks = take (2 * t) Γ ++ locals (drop t E) (full v ∷ ks) []

module _ {M : Type 1} {𝓤 : Ura M} (𝓛 : Logic 𝓤) where
  with_first : (i j : Item 𝓤) (X Y : List (Item 𝓤)) → ent 𝓤 (mean 𝓛 i) (mean 𝓛 j) → ent 𝓤 (⋆ 𝓛 X) (⋆ 𝓛 Y)
      → ent 𝓤 (⋆ 𝓛 (i ∷ X)) (⋆ 𝓛 (j ∷ Y))
  with_first i j X Y g h =
      via 𝓤 (sep 𝓤 (mean 𝓛 i) (⋆ 𝓛 X)) (pop 𝓛 i X) (via 𝓤 (sep 𝓤 (mean 𝓛 i) (⋆ 𝓛 Y)) (mono_r 𝓤 (mean 𝓛 i) h)
      (via 𝓤 (sep 𝓤 (mean 𝓛 j) (⋆ 𝓛 Y)) (mono_l 𝓤 (⋆ 𝓛 Y) g) (push 𝓛 j Y)))

  behind : (Δ X Y : List (Item 𝓤)) → ent 𝓤 (⋆ 𝓛 X) (⋆ 𝓛 Y) → ent 𝓤 (⋆ 𝓛 (Δ ++ X)) (⋆ 𝓛 (Δ ++ Y))
  behind [] X Y h = h
  behind (i ∷ Δ) X Y h = with_first i i (Δ ++ X) (Δ ++ Y) (id⊢ 𝓤 (mean 𝓛 i)) (behind Δ X Y h)

  -- whatever they have, they are room again
  all_room : (E : List (Ty × ℕ)) (ks : List Hold) → ent 𝓤 (⋆ 𝓛 (locals E ks [])) (⋆ 𝓛 (locals E [] []))
  all_room [] ks = id⊢ 𝓤 _
  all_room (e ∷ E) [] = id⊢ 𝓤 _
  all_room (e ∷ E) (bare ∷ ks) = behind (‵ (froom e.0 e.1 0) ∷ ‵ (fdies e.0 e.1) ∷ []) (locals E ks []) (locals E [] []) (all_room E ks)
  all_room (e ∷ E) (full v ∷ ks) =
      with_first (‵ (fat full_share e.0 e.1 0 v)) (‵ (froom e.0 e.1 0)) (‵ (fdies e.0 e.1) ∷ locals E ks [])
      (‵ (fdies e.0 e.1) ∷ locals E [] [])
      (𝓛.laws.at_room e.0 e.1 0 v) (behind (‵ (fdies e.0 e.1) ∷ []) (locals E ks []) (locals E [] []) (all_room E ks))

  room_behind : (E : List (Ty × ℕ)) (v : Val) (ks : List Hold) → ent 𝓤 (⋆ 𝓛 (locals E (full v ∷ ks) [])) (⋆ 𝓛 (locals E (full v ∷ []) []))
  room_behind [] v ks = id⊢ 𝓤 _
  room_behind (e ∷ E) v ks = behind (‵ (fat full_share e.0 e.1 0 v) ∷ ‵ (fdies e.0 e.1) ∷ []) (locals E ks []) (locals E [] []) (all_room E ks)

-- ---- the statements that are no calls
module _ {M : Type 1} {𝓤 : Ura M} {𝓛 : Logic 𝓤} {Γ : List (Item 𝓤)} {x : Item 𝓤} {E : Env 𝓤 𝓛.H} {C : Calls 𝓤 𝓛.H} {Λ : Loops 𝓤 𝓛.H}
    {p : Post 𝓤 𝓛.H} {i j : ℕ} {rest : Body} where
  -- `_i = _j`
  open 𝓛 use {H}

  pub copies_local : {v : Val} → Go {0} → nth 𝓛 (2 * j) Γ ≡ filled 𝓤 H E j v → nth 𝓛 (2 * i) Γ ≡ empty 𝓤 H E i → Typed (spot_of 𝓤 H E i).0 v
      → Step (Go {0}) 𝓛 (x ∷ put 𝓛 (2 * i) (filled 𝓤 H E i v) Γ) (runs C Λ E rest p) (x ∷ Γ)
      (runs C Λ E (seq (assign (place i []) (rv_opd (copy (place j [])))) rest) p)
  copies_local t e room typed = sets ! (suc (2 * i)) room (of_opd ! (value ! (suc (2 * j)) e)) typed

  -- `_i = _j.field`, of the state s
  pub reads_field : {b o : ℕ} → Go {0} → (X : Shape) (F : Field X) (s : State X) → nth 𝓛 (2 * j) Γ ≡ ‵ (fat full_share (StateTy X) b o (machine X s))
      → spot_of 𝓤 H E j ≡ (StateTy X, b, o) → nth 𝓛 (2 * i) Γ ≡ empty 𝓤 H E i → Typed (spot_of 𝓤 H E i).0 (vint w64 (F.value s))
      → Step (Go {0}) 𝓛 (x ∷ put 𝓛 (2 * i) (filled 𝓤 H E i (vint w64 (F.value s))) Γ) (runs C Λ E rest p) (x ∷ Γ)
      (runs C Λ E (seq (assign (place i []) (rv_opd (copy (place j (field F.number ∷ []))))) rest) p)
  reads_field t X F s e spot room typed = sets ! (suc (2 * i)) room (rv_is (F.is s) (of_opd ! (part ! (suc (2 * j)) e spot F.there))) typed

-- ---- the law
-- a turn, at the state's local t and the test's local g
abbrev Turn : Shape → ℕ → ℕ → Body → Body
Turn X t g body = seq (assign (place g []) (rv_opd (copy (place t (field X.number ∷ []))))) (seq (cond (copy (place g [])) skip (exit 1)) body)

module _ {M : Type 1} {𝓤 : Ura M} {𝓛 : Logic 𝓤} {Γ : List (Item 𝓤)} {E : Env 𝓤 𝓛.H} {p : Post 𝓤 𝓛.H} {t g b o : ℕ} {body rest : Body}
    {S : Type 0} where
  -- what is in hand is an S: it has the state; Inv holds of it before each turn, a number falls, and so the things held are known. The five equations
  -- behind that hold by computation, where the context is written out: the types of the two locals, and where they stand
  open 𝓛 use {H}

  pub turns : Go {0} → (𝓣 : Tables 𝓤 H) (X : Shape) (state : S → State X) (Inv : S → Type 0) (falls : S → ℕ) (mine : (x : S) → Inv x → List Arg)
      → spot_of 𝓤 H E t ≡ (StateTy X, b, o) → ((c : Bool) → Typed (spot_of 𝓤 H E g).0 (vbool c))
      → ((v : Val) → nth 𝓛 (2 * t) (Locals E Γ t v []) ≡ ‵ (fat full_share (StateTy X) b o v))
      → ((v : Val) → nth 𝓛 (2 * g) (Locals E Γ t v []) ≡ empty 𝓤 H E g)
      → ((v u : Val) → nth 𝓛 (2 * g) (put 𝓛 (2 * g) (filled 𝓤 H E g u) (Locals E Γ t v [])) ≡ filled 𝓤 H E g u)
      -- a turn: it ends where Inv holds again and the number has fallen
      → ((x : S) (ok : Inv x) → X.going (state x) ≡ true → (q : Post 𝓤 H)
      → ((y : S) (ok' : Inv y) → falls y < falls x → (ks : List Hold)
      → Sq 𝓛 (‵ (held (mine y ok')) ∷ Locals E Γ t (machine X (state y)) ks) (prop (post 𝓤 H q next)))
      → Sq 𝓛 (‵ (held (mine x ok)) ∷ put 𝓛 (2 * g) (filled 𝓤 H E g (vbool (X.going (state x)))) (Locals E Γ t (machine X (state x)) []))
      (runs 𝓣.C 𝓣.Λ E body q))
      -- what runs behind the loop
      → ((x : S) (ok : Inv x) → X.going (state x) ≡ false
      → Sq 𝓛 (‵ (held (mine x ok)) ∷ put 𝓛 (2 * g) (filled 𝓤 H E g (vbool (X.going (state x)))) (Locals E Γ t (machine X (state x)) []))
      (runs 𝓣.C 𝓣.Λ E rest p))
      → (x : S) (ok : Inv x) → Locals E Γ t (machine X (state x)) [] ≡ Γ
      → Sq 𝓛 (‵ (held (mine x ok)) ∷ Γ) (runs 𝓣.C 𝓣.Λ E (seq (block (loop (Turn X t g body))) rest) p)
  unfolding after_turn
  turns go 𝓣 X state Inv falls mine spot typed there room here turn last x ok same =
      subst (λ (Δ : List (Item 𝓤)). Sq 𝓛 (‵ (held (mine x ok)) ∷ Δ) (runs 𝓣.C 𝓣.Λ E (seq (block (loop (Turn X t g body))) rest) p)) same
      (first ! $ blocks ! $ whiles ! 𝓣 (λ (y : At Inv). Unit {0}) (λ y. falls y.st) Context {q = Left} (λ y _.
      sets ! (suc (2 * g)) (room (v y)) (rv_is (X.is (state y.st)) (of_opd ! (part ! (suc (2 * t)) (there (v y)) spot X.there))) (typed (c y)) $
      tests ! (value ! (suc (2 * g)) (here (v y) (vbool (c y))))
      (λ goes. turn y.st y.ok (holds (c y) goes) _ (λ z ok' less ks.
      by ! (via 𝓤 (⋆ 𝓛 (Context (record { st = z; ok = ok' })))
      (behind 𝓛 (‵ (held (mine z ok')) ∷ take (2 * t) Γ) _ _ (room_behind 𝓛 (drop t E) (machine X (state z)) ks))
      (again {𝓛 = 𝓛} ! (λ (y : At Inv). Unit {0}) (λ y. falls y.st) Context y (record { st = z; ok = ok' }) tt less).prf)))
      (λ ends. exec ! 𝓣.C 𝓣.Λ E rest p $ last y.st y.ok (fails (c y) ends))) (record { st = x; ok = ok }) tt)
    where
      v : At Inv → Val
      v y = machine X (state y.st)

      c : At Inv → Bool
      c y = X.going (state y.st)

      Context : At Inv → List (Item 𝓤)
      Context y = ‵ (held (mine y.st y.ok)) ∷ Locals E Γ t (v y) []

      Left : Post 𝓤 H
      Left = any_q (after_block 𝓤 H (after_seq 𝓤 H (Wp 𝓤 H 𝓣.C 𝓣.Λ E rest (post 𝓤 H p)) (post 𝓤 H p)))
