-- A function's locals in the context of a walk, in their order: local j stands at 2 * j, and behind it that it dies with the function. First how
-- they are carried about, then how a walk begins (`enters`) and ends (`leaves`).
-- Assumes `Logic`.
use mathlib.Core.Path.{refl}
use Prim.Native.Nat.{ℕ, zero, suc, ◌+◌, ◌*◌}
use mathlib.Core.List.{List, [], ◌∷◌}
use seplogic.Ra.Ura.{Ura}
use base.Fraction.{full_share}
use mir.Syntax.{Ty, Local, local, value_local, Fn, return}
use mir.Val.{Val}
use base.Logic.{SProp, ent, sep, id⊢, via, mono_r}
use base.Fml.{Fml, fat, froom, fdies}
use prog.Wp.{Env, Calls, Loops, WpFn}
use types.Logic.{Logic}
use types.Kit.{Item, ‵, raw, mean, ⋆, push, pop, Go, !, Goal, prop, runs, allocs, params', passes, frees, at_ret}
use types.Kit.{Step, step, Sq, ◌$◌, ◌∵◌, qed, by, move, done}
use types.Run.{look, init, forget, returns, enter, alloc1, alloc0, params1, pass1, pass0, free1, free0}
use Rattle.walks.proofs.Steps.{Typed}

pub data Hold : Type 0 where
  full : Val → Hold
  bare : Hold

-- a local of MIR
abbrev pub var : Ty → Local
var τ = local τ value_local

abbrev cell : Ty → ℕ → Hold → Fml
cell τ l (full v) = fat full_share τ l 0 v
cell τ l bare = froom τ l 0

abbrev pub Blocks : List Local → Type 0
Blocks [] = Unit {0}
Blocks (l ∷ ls) = ℕ × Blocks ls

abbrev pub fulls : List Val → List Hold
fulls [] = []
fulls (v ∷ vs) = full v ∷ fulls vs

module _ {M : Type 1} {𝓤 : Ura M} where
  abbrev pub locals : List (Ty × ℕ) → List Hold → List (Item 𝓤) → List (Item 𝓤)
  locals [] ks Γ = Γ
  locals (e ∷ E) [] Γ = ‵ (froom e.0 e.1 0) ∷ ‵ (fdies e.0 e.1) ∷ locals E [] Γ
  locals (e ∷ E) (k ∷ ks) Γ = ‵ (cell e.0 e.1 k) ∷ ‵ (fdies e.0 e.1) ∷ locals E ks Γ

abbrev pub env_of : (ls : List Local) → Blocks ls → List (Ty × ℕ)
env_of [] bs = []
env_of (local τ h ∷ ls) bs = (τ, bs.0) ∷ env_of ls bs.1

-- the arguments have the parameters' types
abbrev pub AllTyped : List (Ty × ℕ) → List Val → Type 0
AllTyped E [] = Unit {0}
AllTyped [] (v ∷ vs) = ⊥
AllTyped (e ∷ E) (v ∷ vs) = Typed e.0 v × AllTyped E vs

abbrev pub Params : List (Ty × ℕ) → List Val → Type 0
Params [] vs = ⊥
Params (e ∷ E) vs = AllTyped E vs

module _ {M : Type 1} {𝓤 : Ura M} (𝓛 : Logic 𝓤) where
  open 𝓛 use {H}

  abbrev St : List (Item 𝓤) → SProp 𝓤
  St = ⋆ 𝓛

  -- an entry goes past two others, out and in
  past_out : (a d i : Item 𝓤) (X Y : List (Item 𝓤)) → ent 𝓤 (St X) (St (i ∷ Y)) → ent 𝓤 (St (a ∷ d ∷ X)) (St (i ∷ a ∷ d ∷ Y))
  past_out a d i X Y h =
      via 𝓤 (sep 𝓤 (mean 𝓛 a) (sep 𝓤 (mean 𝓛 d) (St X))) (mono_r 𝓤 (mean 𝓛 a) (pop 𝓛 d X))
      (via 𝓤 (sep 𝓤 (mean 𝓛 a) (sep 𝓤 (mean 𝓛 d) (sep 𝓤 (mean 𝓛 i) (St Y))))
      (mono_r 𝓤 (mean 𝓛 a) (mono_r 𝓤 (mean 𝓛 d) (via 𝓤 (St (i ∷ Y)) h (pop 𝓛 i Y))))
      (via 𝓤 (sep 𝓤 (mean 𝓛 i) (sep 𝓤 (mean 𝓛 a) (sep 𝓤 (mean 𝓛 d) (St Y)))) (qed 𝓛 (a ∷ d ∷ i ∷ raw (St Y) ∷ []) ∵ move ! (2 ∷ []) $
      done !)
      (mono_r 𝓤 (mean 𝓛 i) (mono_r 𝓤 (mean 𝓛 a) (push 𝓛 d Y)))))

  past_in : (a d i : Item 𝓤) (X Y : List (Item 𝓤)) → ent 𝓤 (St (i ∷ Y)) (St X) → ent 𝓤 (St (i ∷ a ∷ d ∷ Y)) (St (a ∷ d ∷ X))
  past_in a d i X Y h =
      via 𝓤 (sep 𝓤 (mean 𝓛 i) (sep 𝓤 (mean 𝓛 a) (sep 𝓤 (mean 𝓛 d) (St Y))))
      (mono_r 𝓤 (mean 𝓛 i) (mono_r 𝓤 (mean 𝓛 a) (pop 𝓛 d Y)))
      (via 𝓤 (sep 𝓤 (mean 𝓛 a) (sep 𝓤 (mean 𝓛 d) (sep 𝓤 (mean 𝓛 i) (St Y)))) (qed 𝓛 (i ∷ a ∷ d ∷ raw (St Y) ∷ []) ∵ move ! (1 ∷ 2 ∷ []) $
      done !)
      (mono_r 𝓤 (mean 𝓛 a) (via 𝓤 (sep 𝓤 (mean 𝓛 d) (St X)) (mono_r 𝓤 (mean 𝓛 d) (via 𝓤 (St (i ∷ Y)) (push 𝓛 i Y) h))
      (push 𝓛 d X))))

  float_out : (E : List (Ty × ℕ)) (ks : List Hold) (i : Item 𝓤) (Γ : List (Item 𝓤)) → ent 𝓤 (St (locals E ks (i ∷ Γ))) (St (i ∷ locals E ks Γ))
  float_out [] ks i Γ = id⊢ 𝓤 (St (i ∷ Γ))
  float_out (e ∷ E) [] i Γ =
      past_out (‵ (froom e.0 e.1 0)) (‵ (fdies e.0 e.1)) i (locals E [] (i ∷ Γ)) (locals E [] Γ) (float_out E [] i Γ)
  float_out (e ∷ E) (k ∷ ks) i Γ =
      past_out (‵ (cell e.0 e.1 k)) (‵ (fdies e.0 e.1)) i (locals E ks (i ∷ Γ)) (locals E ks Γ) (float_out E ks i Γ)

  pub float_in : (E : List (Ty × ℕ)) (ks : List Hold) (i : Item 𝓤) (Γ : List (Item 𝓤)) → ent 𝓤 (St (i ∷ locals E ks Γ)) (St (locals E ks (i ∷ Γ)))
  float_in [] ks i Γ = id⊢ 𝓤 (St (i ∷ Γ))
  float_in (e ∷ E) [] i Γ = past_in (‵ (froom e.0 e.1 0)) (‵ (fdies e.0 e.1)) i (locals E [] (i ∷ Γ)) (locals E [] Γ) (float_in E [] i Γ)
  float_in (e ∷ E) (k ∷ ks) i Γ =
      past_in (‵ (cell e.0 e.1 k)) (‵ (fdies e.0 e.1)) i (locals E ks (i ∷ Γ)) (locals E ks Γ) (float_in E ks i Γ)

  -- two entries at once
  pub both_out : (E : List (Ty × ℕ)) (ks : List Hold) (i j : Item 𝓤) (Γ : List (Item 𝓤))
      → ent 𝓤 (St (locals E ks (i ∷ j ∷ Γ))) (St (i ∷ j ∷ locals E ks Γ))
  both_out E ks i j Γ =
      via 𝓤 (St (i ∷ locals E ks (j ∷ Γ))) (float_out E ks i (j ∷ Γ))
      (via 𝓤 (sep 𝓤 (mean 𝓛 i) (St (locals E ks (j ∷ Γ)))) (pop 𝓛 i (locals E ks (j ∷ Γ))) (mono_r 𝓤 (mean 𝓛 i) (float_out E ks j Γ)))

  both_in : (E : List (Ty × ℕ)) (ks : List Hold) (i j : Item 𝓤) (Γ : List (Item 𝓤))
      → ent 𝓤 (St (i ∷ j ∷ locals E ks Γ)) (St (locals E ks (i ∷ j ∷ Γ)))
  both_in E ks i j Γ =
      via 𝓤 (sep 𝓤 (mean 𝓛 i) (St (locals E ks (j ∷ Γ)))) (mono_r 𝓤 (mean 𝓛 i) (float_in E ks j Γ))
      (via 𝓤 (St (i ∷ locals E ks (j ∷ Γ))) (push 𝓛 i (locals E ks (j ∷ Γ))) (float_in E ks i (j ∷ Γ)))

  alloc_all : (ls : List Local) (Kt : Env 𝓤 H → Goal 𝓤 H) (Γ : List (Item 𝓤))
      → ((bs : Blocks ls) → Sq 𝓛 (locals (env_of ls bs) [] Γ) (Kt (env_of ls bs))) → Sq 𝓛 Γ (allocs ls Kt)
  alloc_all [] Kt Γ k = alloc0 ! $ k tt
  alloc_all (local τ h ∷ ls) Kt Γ k =
      alloc1 ! (λ b. alloc_all ls (λ E. Kt ((τ, b) ∷ E)) (‵ (froom τ b 0) ∷ ‵ (fdies τ b) ∷ Γ)
      (λ bs. by ! (via 𝓤 (St (‵ (froom τ b 0) ∷ ‵ (fdies τ b) ∷ locals (env_of ls bs) [] Γ))
      (both_out (env_of ls bs) [] (‵ (froom τ b 0)) (‵ (fdies τ b)) Γ) (k (b, bs)).prf)))

  pass_all : (E : List (Ty × ℕ)) (vs : List Val) (g : Goal 𝓤 H) (Γ : List (Item 𝓤)) → AllTyped E vs → Sq 𝓛 (locals E (fulls vs) Γ) g
      → Sq 𝓛 (locals E [] Γ) (passes E vs g)
  pass_all [] [] g Γ ok k = pass0 ! $ k
  pass_all (e ∷ E) [] g Γ ok k = pass0 ! $ k
  pass_all [] (v ∷ vs) g Γ ok k = absurd ok
  pass_all (e ∷ E) (v ∷ vs) g Γ ok k =
      pass1 ! (init ! 0 refl ok.0) $ by ! (via 𝓤 (St (locals E [] (a ∷ d ∷ Γ))) (both_in E [] a d Γ)
      (pass_all E vs g (a ∷ d ∷ Γ) ok.1 (by ! (via 𝓤 (St (a ∷ d ∷ locals E (fulls vs) Γ)) (both_out E (fulls vs) a d Γ) k.prf))).prf)
    where
      a : Item 𝓤
      a = ‵ (fat full_share e.0 e.1 0 v)

      d : Item 𝓤
      d = ‵ (fdies e.0 e.1)

  free_all : (E : List (Ty × ℕ)) (ks : List Hold) (g : Goal 𝓤 H) (Γ : List (Item 𝓤)) → Sq 𝓛 Γ g → Sq 𝓛 (locals E ks Γ) (frees E g)
  free_all [] ks g Γ k = free0 ! $ k
  free_all (e ∷ E) [] g Γ k = free1 ! $ free_all E [] g Γ k
  free_all (e ∷ E) (bare ∷ ks) g Γ k = free1 ! $ free_all E ks g Γ k
  free_all (e ∷ E) (full v ∷ ks) g Γ k = forget ! 0 refl $ free1 ! $ free_all E ks g Γ k

module _ {M : Type 1} {𝓤 : Ura M} {𝓛 : Logic 𝓤} {Γ : List (Item 𝓤)} where
  -- a function's walk begins. The tokens and what the parameters own stand behind the locals
  open 𝓛 use {H}

  pub enters : Go {0} → (C : Calls 𝓤 H) (Λ : Loops 𝓤 H) (f : Fn) (vs : List Val) (Kf : Val → SProp 𝓤)
      → ((bs : Blocks f.locals) → Params (env_of f.locals bs) vs)
      → ((bs : Blocks f.locals)
      → Sq 𝓛 (locals (env_of f.locals bs) (bare ∷ fulls vs) Γ) (runs C Λ (env_of f.locals bs) f.body (at_ret (env_of f.locals bs) Kf)))
      → Sq 𝓛 Γ (prop (WpFn 𝓤 H C Λ f vs Kf))
  enters t C Λ f vs Kf ok k = enter ! C Λ f vs Kf $
      alloc_all 𝓛 f.locals _ Γ (λ bs. inside (env_of f.locals bs) (runs C Λ (env_of f.locals bs) f.body
      (at_ret (env_of f.locals bs) Kf)) (ok bs) (k bs))
    where
      inside : (E : List (Ty × ℕ)) (g : Goal 𝓤 H) → Params E vs → Sq 𝓛 (locals E (bare ∷ fulls vs) Γ) g → Sq 𝓛 (locals E [] Γ) (params' E vs g)
      inside [] g p s = absurd p
      inside (e ∷ E) g p s =
          params1 ! $ by ! (via 𝓤 (⋆ 𝓛 (locals E [] (a ∷ d ∷ Γ))) (both_in 𝓛 E [] a d Γ)
          (pass_all 𝓛 E vs g (a ∷ d ∷ Γ) p (by ! (via 𝓤 (⋆ 𝓛 (a ∷ d ∷ locals E (fulls vs) Γ)) (both_out 𝓛 E (fulls vs) a d Γ)
          s.prf))
          ).prf)
        where
          a : Item 𝓤
          a = ‵ (froom e.0 e.1 0)

          d : Item 𝓤
          d = ‵ (fdies e.0 e.1)

  -- it ends, with the locals first
  pub leaves : Go {0} → {C : Calls 𝓤 H} {Λ : Loops 𝓤 H} {Kf : Val → SProp 𝓤} {e : Ty × ℕ} {E : List (Ty × ℕ)} (v : Val) (ks : List Hold)
      → Step (Go {0}) 𝓛 Γ (prop (Kf v)) (locals (e ∷ E) (full v ∷ ks) Γ) (runs C Λ (e ∷ E) return (at_ret (e ∷ E) Kf))
  leaves t {e = e} {E = E} v ks = step (λ s. returns ! (look ! 0 refl) $ free_all 𝓛 (e ∷ E) (full v ∷ ks) _ Γ s)

-- k places, from n
abbrev pub span : ℕ → ℕ → List ℕ
span n zero = []
span n (suc k) = n ∷ span (suc n) k

-- where local j stands behind k entries
abbrev pub behind : ℕ → ℕ → ℕ
behind k j = k + 2 * j
