-- The commonest operands and assignments of a walk. A local's cell stands at a position of the context, and an equation says so, which is `refl`
-- wherever the context is written out. First what is of the machine types that the walks hold, then the operands, the assignment, the literals.
-- Assumes `Logic`.
use mathlib.Core.Path.{◌≡◌, sym, subst}
use Prim.Native.Nat.{ℕ, zero, ◌+◌, ◌<◌, ◌^◌}
use mathlib.Core.List.{List, [], ◌∷◌}
use mathlib.Core.Option.{some}
use lib.Dec.{T}
use seplogic.Ra.Ura.{Ura}
use base.Fraction.{full_share}
use mir.Syntax.{Sym, Ty, Tys, ty_struct, copy, place, field, deref, addr_of, assign, Width, w64, int_big, Body, seq, Rv as RValue}
use mir.Val.{Val, Vals, vstruct, vptr, vint, has_ty, WT, Fits}
use mir.Fields.{get_v, set_v}
use base.Logic.{via, guard_i}
use base.Fml.{Share, fat, froom}
use prog.Memory.{field_at}
use prog.Wp.{Env, Spot, spot_of, Calls, Loops}
use types.Logic.{Logic}
use types.Kit.{nth, put, Item, ‵, Go, !, runs, Post, Step}
use types.Part.{Part, whole, sub, look_in}
use types.Run.{Opd, Rv, Reads, Walks, look, init, from, stop, fld, hop, load, addr, assigns}

abbrev pub Typed : Ty → Val → Type 0
Typed τ v = T (has_ty τ v) × WT v

-- a slice of n elements, whatever they are, and a usize, as `Typed` computes
pub slice_typed : {n : ℕ} → n < 2 ^ 64 → Unit {0} × (Unit {0} × (Fits w64 n × Unit {0}))
slice_typed small = (tt, (tt, (record { fits = small }, tt)))

pub number_typed : {n : ℕ} → n < 2 ^ 64 → Unit {0} × Fits w64 n
number_typed small = (tt, record { fits = small })

-- what lies in field k of the struct at n
inside : {M : Type 1} {𝓤 : Ura M} {𝓛 : Logic 𝓤} {Γ : List (Item 𝓤)} → Go {0}
    → (n : ℕ) {q : Share} {ν : Sym} {τs : Tys} {b o : ℕ} {vs : Vals} (k : ℕ) {τ : Ty} {d : ℕ}
    → nth 𝓛 n Γ ≡ ‵ (fat q (ty_struct ν τs) b o (vstruct vs)) → field_at zero τs k ≡ some (τ, d) → Reads (Go {0}) 𝓛 Γ τ b (o + d) (get_v vs k)
inside {𝓤 = 𝓤} {𝓛 = 𝓛} t n {q} {ν} {τs} {b} {o} {vs} k {τ} {d} e there =
    look_in ! n (subst (λ (j : Item 𝓤). Part (Go {0}) 𝓛 j q τ b (o + d) (get_v vs k) (λ u. ‵ (fat q (ty_struct ν τs) b o (vstruct (set_v vs k u)))))
    (sym e) (sub ! k there (whole !)))

module _ {M : Type 1} {𝓤 : Ura M} {𝓛 : Logic 𝓤} {Γ : List (Item 𝓤)} {E : Env 𝓤 𝓛.H} where
  -- `_i`
  open 𝓛 use {H}

  pub value : Go {0} → (n : ℕ) {i : ℕ} {q : Share} {v : Val} → nth 𝓛 n Γ ≡ ‵ (fat q (spot_of 𝓤 H E i).0 (spot_of 𝓤 H E i).1 (spot_of 𝓤 H E i).2 v)
      → Opd (Go {0}) 𝓛 Γ E (copy (place i [])) v
  value t n e = load ! (from ! (stop !)) (look ! n e)

  module _ {i : ℕ} {q : Share} {ν : Sym} {τs : Tys} {b o : ℕ} {vs : Vals} {τ : Ty} {d : ℕ} where
    -- `_i.k`
    pub part : Go {0} → (n : ℕ) {k : ℕ} → nth 𝓛 n Γ ≡ ‵ (fat q (ty_struct ν τs) b o (vstruct vs)) → spot_of 𝓤 H E i ≡ (ty_struct ν τs, b, o)
        → field_at zero τs k ≡ some (τ, d)
        → Opd (Go {0}) 𝓛 Γ E (copy (place i (field k ∷ []))) (get_v vs k)
    part t n {k} e spot there =
        load ! (from ! (subst (λ (sp : Spot 𝓤 H). Walks (Go {0}) 𝓛 Γ E sp (field k ∷ []) (τ, b, o + d)) (sym spot) (fld ! there (stop !))))
        (inside ! n k e there)

    -- `&(*_i.0)`
    pub elements : Go {0} → (n : ℕ) {σ : Ty} {b' o' : ℕ} → nth 𝓛 n Γ ≡ ‵ (fat q (ty_struct ν τs) b o (vstruct vs))
        → spot_of 𝓤 H E i ≡ (ty_struct ν τs, b, o) → field_at zero τs 0 ≡ some (τ, d) → get_v vs 0 ≡ vptr b' o'
        → Rv (Go {0}) 𝓛 Γ E (addr_of (place i (field 0 ∷ deref σ ∷ []))) (vptr b' o')
    elements t n {σ} {b'} {o'} e spot there is =
        addr ! (from ! (subst (λ (sp : Spot 𝓤 H). Walks (Go {0}) 𝓛 Γ E sp (field 0 ∷ deref σ ∷ []) (σ, b', o')) (sym spot)
        (fld ! there (hop ! (subst (Reads (Go {0}) 𝓛 Γ τ b (o + d)) is (inside ! n 0 e there)) (stop !)))))

  module _ {C : Calls 𝓤 H} {Λ : Loops 𝓤 H} {p : Post 𝓤 H} {i : ℕ} {rv : RValue} {rest : Body} {v : Val} where
    -- `_i = rv`, where it holds nothing yet
    pub sets : Go {0} → (n : ℕ) → nth 𝓛 n Γ ≡ ‵ (froom (spot_of 𝓤 H E i).0 (spot_of 𝓤 H E i).1 (spot_of 𝓤 H E i).2) → Rv (Go {0}) 𝓛 Γ E rv v
        → Typed (spot_of 𝓤 H E i).0 v
        → Step (Go {0}) 𝓛 (put 𝓛 n (‵ (fat full_share (spot_of 𝓤 H E i).0 (spot_of 𝓤 H E i).1 (spot_of 𝓤 H E i).2 v)) Γ) (runs C Λ E rest p) Γ
        (runs C Λ E (seq (assign (place i []) rv) rest) p)
    sets t n e r ty = assigns ! r (from ! (stop !)) (init ! n e ty)

-- a right side's value, written another way
pub rv_is : {M : Type 1} {𝓤 : Ura M} {𝓛 : Logic 𝓤} {Γ : List (Item 𝓤)} {E : Env 𝓤 𝓛.H} {r : RValue} {v u : Val} → v ≡ u
    → Rv (Go {0}) 𝓛 Γ E r v → Rv (Go {0}) 𝓛 Γ E r u
rv_is {𝓛 = 𝓛} {Γ = Γ} {E = E} {r = r} e x = subst (λ (w : Val). Rv (Go {0}) 𝓛 Γ E r w) e x

-- a large number that is written out, which MIR has as `int_big`: `big_lit (record { fits = lit< tt })`
pub big_lit : {M : Type 1} {𝓤 : Ura M} {𝓛 : Logic 𝓤} {Γ : List (Item 𝓤)} {E : Env 𝓤 𝓛.H} {w : Width} {n : ℕ} → Fits w n
    → Opd (Go {0}) 𝓛 Γ E (int_big w n) (vint w n)
big_lit {𝓤 = 𝓤} {w = w} {n = n} z = record { go = λ Kt h. via 𝓤 (Kt (vint w n)) h (guard_i 𝓤 (Fits w n) (Kt (vint w n)) z) }
