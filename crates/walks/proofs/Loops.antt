-- A loop of a walk, `while test { .. }`: its context is a function of a state, a fact holds of the state before each turn, and a number falls.
-- First the test, then the loop (`whiles`) and the end of a turn that goes on (`again`).
-- Assumes `Logic`.
use mathlib.Core.Path.{◌≡◌}
use Prim.Native.Nat.{ℕ, ◌<◌, ◌≤◌}
use native.Mathlib.Omega.{arith}
use mathlib.Core.List.{List}
use mathlib.Core.Bool.{Bool, not}
use mathlib.Core.WellFounded.InvImage
use mathlib.Core.WellFounded.{WellFounded}
use lib.Dec.{T, ltb, lt→ltb, T_not}
use lib.WfN.{lt-wf_rel}
use seplogic.Ra.Ura.{Ura}
use mir.Syntax.{Body, loop, seq, cond, skip, exit, Opd as Operand}
use mir.Val.{vbool}
use base.Logic.{SProp, ex, guard, via, ex_i, guard_i}
use prog.Wp.{Env, Calls, Loops, Tables, after_turn, exits as exitsᴼ}
use types.Logic.{Logic}
use types.Kit.{Item, ⋆, Go, !, prop, runs, any_q, Post, post, Sq, ◌$◌, by}
use types.Run.{Opd, first, branches, skips, jumps, loops}

module _ {M : Type 1} {𝓤 : Ura M} {𝓛 : Logic 𝓤} {Γ : List (Item 𝓤)} where
  -- the test: the turn goes on, or the loop is left
  open 𝓛 use {H}

  pub tests : Go {0} → {C : Calls 𝓤 H} {Λ : Loops 𝓤 H} {E : Env 𝓤 H} {q : Post 𝓤 H} {c : Operand} {n : ℕ} {b : Body} {y : Bool}
      → Opd (Go {0}) 𝓛 Γ E c (vbool y)
      → (T y → Sq 𝓛 Γ (runs C Λ E b q)) → (T (not y) → Sq 𝓛 Γ (prop (post 𝓤 H q (exitsᴼ n)))) → Sq 𝓛 Γ (runs C Λ E (seq (cond c skip (exit n)) b) q)
  tests t o held failed = first ! $ branches ! o (λ h. skips ! $ record { prf = (held h).prf }) (λ h. jumps ! $ failed h)

-- a state, and what holds of it
pub record At {S : Type 0} (Inv : S → Type 0) : Type 0 where
  pub st : S
  pub ok : Inv st

module _ {S : Type 0} {Inv : S → Type 0} (μ : S → ℕ) where
  abbrev pub Less : At Inv → At Inv → Type 0
  Less x y = μ x.st < μ y.st

  less_wf : WellFounded Less
  less_wf = record { apply = λ x. InvImage.accessible {a = x} (λ (z : At Inv). μ z.st) (lt-wf_rel.wf.apply (μ x.st)) }

-- what a turn that goes on ends in
abbrev pub Onward : {M : Type 1} {𝓤 : Ura M} (𝓛 : Logic 𝓤) {S : Type 0} (Inv : S → Type 0) (μ : S → ℕ) (I : S → List (Item 𝓤)) → S
    → SProp 𝓤
Onward {𝓤 = 𝓤} 𝓛 Inv μ I s = ex 𝓤 (λ (x : At Inv). guard 𝓤 (μ x.st < μ s) (⋆ 𝓛 (I x.st)))

module _ {M : Type 1} {𝓤 : Ura M} {𝓛 : Logic 𝓤} {S : Type 0} where
  open 𝓛 use {H}

  pub whiles : Go {0} → (𝓣 : Tables 𝓤 H) (Inv : S → Type 0) (μ : S → ℕ) (I : S → List (Item 𝓤)) {E : Env 𝓤 H} {b : Body} {q : Post 𝓤 H}
      → ((s : S) → Inv s → Sq 𝓛 (I s) (runs 𝓣.C 𝓣.Λ E b (any_q (after_turn 𝓤 H (Onward 𝓛 Inv μ I s) (post 𝓤 H q))))) → (s : S) → Inv s
      → Sq 𝓛 (I s) (runs 𝓣.C 𝓣.Λ E (loop b) q)
  whiles t 𝓣 Inv μ I turn s ok = loops ! 𝓣 (Less μ) (less_wf μ) (λ (x : At Inv). I x.st) (λ x. turn x.st x.ok) (record { st = s; ok = ok })

  pub again : Go {0} → (Inv : S → Type 0) (μ : S → ℕ) (I : S → List (Item 𝓤)) (s s' : S) → Inv s' → μ s' < μ s
      → Sq 𝓛 (I s') (prop (Onward 𝓛 Inv μ I s))
  again t Inv μ I s s' ok lt =
      by ! (via 𝓤 (guard 𝓤 (μ s' < μ s) (⋆ 𝓛 (I s'))) (guard_i 𝓤 (μ s' < μ s) (⋆ 𝓛 (I s')) lt)
      (ex_i 𝓤 (λ (x : At Inv). guard 𝓤 (μ x.st < μ s) (⋆ 𝓛 (I x.st))) (record { st = s'; ok = ok })))

-- where the test `i < n` fails, i has reached n
pub not_less : (i n : ℕ) → T (not (ltb i n)) → i ≤ n → i ≡ n
not_less i n h l = omega (arith, l, not_lt)
  where
    not_lt : i < n → ⊥
    not_lt p = T_not (ltb i n) h (lt→ltb i n p)
