-- An entry of a `&[Record]` that the function holds is read, in a line of calls (`Lines`): the table is looked into for this and shut again, so it is
-- held after it as before. First the entry as the laws of lines pass it, then what is said of the locals, last the step (`reads_entry`).
-- Assumes `Logic`.
use types.Logic.{Logic}
use denote.Ref.{Bor}
use Rattle.walks.proofs.Prelude.{ℕ, ◌<◌, ◌*◌, ◌^◌, Lft, Share, Room, full_share, Ura, length, get_or, List, [], ◌∷◌, ◌≡◌, refl}
use Rattle.walks.proofs.Prelude.{sym, subst, w64, ty_int, ty_ptr, Ty, Val, vint, ‵, ◌$◌, !, move, fsplit, fjoin, Item, Sq, runs}
use Rattle.walks.proofs.Prelude.{slice_ty, slice_val, shuts_slice, of_opd, bin, lit, load, look, look_raw, from, hop, stop}
use Prim.Native.Nat.{suc}
use base.Fml.{fat}
use denote.Index.{place as place_of}
use mir.Syntax.{Body, assign, copy, deref, field, int, mul, offset, op2, place, rv_opd, seq, unsigned}
use mir.Val.{vptr}
use prog.Wp.{Calls, Env, Loops, spot_of}
use types.Kit.{Go, Post, nth, put}
use Rattle.paper.specs.declared.Record.{Record}
use Rattle.paper.specs.Records.{blank_entry}
use Rattle.paper.specs.contracts.Record as T
use Rattle.paper.proofs.Record.TheLaws as T'
use Rattle.walks.proofs.Arguments.{read}
use Rattle.walks.proofs.Entries.{Entry, EntryTy, entry_back, entry_out, entry_place, entry_twice, looks_table, lowered, place_fits, typed}
use Rattle.walks.proofs.Lines.{Arg, empty, filled, held, off}
use Rattle.walks.proofs.Steps.{Typed, number_typed, part, rv_is, sets, value}
use Rattle.walks.proofs.Values.{Good, Value, struct}

abbrev pub entry : Value
entry = struct T.the_type T'.the_laws T'.the_plain T'.the_copy

-- where entry n lies, and its machine value
abbrev address : Bor (List Record) → ℕ → Val
address x n = vptr x.ref_ptr.0 (place_of 10 x.ref_ptr.1 n)

abbrev copied : Bor (List Record) → ℕ → Val
copied x n = lowered (get_or x.now n blank_entry)

-- ---- the locals: i has v; it has nothing; it is given v
module _ {M : Type 1} {𝓤 : Ura M} (𝓛 : Logic 𝓤) (E : Env 𝓤 𝓛.H) (i : ℕ) where
  open 𝓛 use {H}

  abbrev Has : Val → List (Item 𝓤) → Type 2
  Has v Γ = nth 𝓛 (2 * i) Γ ≡ filled 𝓤 H E i v

  abbrev Free : List (Item 𝓤) → Type 2
  Free Γ = nth 𝓛 (2 * i) Γ ≡ empty 𝓤 H E i

  abbrev Set : Val → List (Item 𝓤) → List (Item 𝓤)
  Set v Γ = put 𝓛 (2 * i) (filled 𝓤 H E i v) Γ

-- a value of a local's type
typed_as : {τ σ : Ty} → τ ≡ σ → (v : Val) → Typed σ v → Typed τ v
typed_as e v good = subst (λ (ρ : Ty). Typed ρ v) (sym e) good

-- while an entry is out, they stand behind seven other things
abbrev behind_entry : ℕ → ℕ
behind_entry i = suc (suc (suc (suc (suc (suc (suc (2 * i)))))))

-- ---- the step
module _ {M : Type 1} {𝓤 : Ura M} {𝓛 : Logic 𝓤} {Γ : List (Item 𝓤)} {E : Env 𝓤 𝓛.H} {C : Calls 𝓤 𝓛.H}
    {Λ : Loops 𝓤 𝓛.H} {p : Post 𝓤 𝓛.H} {i k a l c r : ℕ} {rest : Body} where
  -- `_a = _k * 10`, `_l = _i.0 + _a`, `_c = *_l`, `_r = _c`: entry n of the table in `_i`, where `_k` has n. The equations are of the locals before
  -- each of the four, and hold by computation where the context is written out
  open 𝓛 use {H}

  pub reads_entry : {κ : Lft} {q : Share} {ρ : Ty} {b o : ℕ} → Go {0} → (x : Bor (List Record)) (xs : List Arg) (n : ℕ) → Room Entry (length x.now)
      → n < length x.now
      → Has 𝓛 E k (vint w64 n) Γ → Free 𝓛 E a Γ → (spot_of 𝓤 H E a).0 ≡ ty_int w64
      → let Γᵃ = Set 𝓛 E a (vint w64 (n * 10)) Γ in
      nth 𝓛 (2 * i) Γᵃ ≡ ‵ (fat full_share (slice_ty ρ) b o (slice_val x.ref_ptr (length x.now))) → spot_of 𝓤 H E i ≡ (slice_ty ρ, b, o)
      → Has 𝓛 E a (vint w64 (n * 10)) Γᵃ → Free 𝓛 E l Γᵃ → (spot_of 𝓤 H E l).0 ≡ ty_ptr
      → let Γˡ = Set 𝓛 E l (address x n) Γᵃ in
      Has 𝓛 E l (address x n) Γˡ → Free 𝓛 E c Γˡ → (spot_of 𝓤 H E c).0 ≡ EntryTy
      → let Γᶜ = Set 𝓛 E c (copied x n) Γˡ in
      Has 𝓛 E c (copied x n) Γᶜ → Free 𝓛 E r Γᶜ → (spot_of 𝓤 H E r).0 ≡ EntryTy
      → (Good entry (get_or x.now n blank_entry)
      → Sq 𝓛 (‵ (held (off (read Entry entry_twice κ q x) ∷ xs)) ∷ Set 𝓛 E r (copied x n) Γᶜ) (runs C Λ E rest p))
      → Sq 𝓛 (‵ (held (off (read Entry entry_twice κ q x) ∷ xs)) ∷ Γ)
      (runs C Λ E (seq (assign (place a []) (op2 (mul unsigned) (copy (place k [])) (int w64 10)))
      (seq (assign (place l []) (op2 offset (copy (place i (field 0 ∷ []))) (copy (place a []))))
      (seq (assign (place c []) (rv_opd (copy (place l (deref EntryTy ∷ []))))) (seq (assign (place r []) (rv_opd (copy (place c [])))) rest)))) p)
  reads_entry t x xs n room low at-k room-a type-a at_i spot at_a room-l type-l at-l room-c type-c at_c room-r type-r z =
      sets ! (suc (2 * a)) room-a (bin ! (value ! (suc (2 * k)) at-k) (lit ! tt) (record { fits = fits }))
      (typed_as type-a (vint w64 (n * 10)) (number_typed fits)) $
      sets ! (suc (2 * l)) room-l
      (rv_is (entry_place x.ref_ptr.0 x.ref_ptr.1 n) (bin ! (part ! (suc (2 * i)) at_i spot refl) (value ! (suc (2 * a)) at_a) tt))
      (typed_as type-l (address x n) (tt, tt)) $
      -- [what is said of the table; what it shares; its token; what else is held]
      fsplit ! $ fsplit ! $ fsplit ! $ move ! (1 ∷ 2 ∷ []) $ looks_table ! tt x.now x.ref_ptr.0 x.ref_ptr.1 (λ s.
      entry_out ! s x.now n x.ref_ptr.0 x.ref_ptr.1 low (λ good.
      sets ! (behind_entry c) room-c (of_opd ! (load ! (from ! (hop ! (look ! (behind_entry l) at-l) (stop !))) (look_raw ! 0 refl)))
      (typed_as type-c (copied x n) (typed 𝓛 (get_or x.now n blank_entry) good)) $
      entry_back ! s x.now n x.ref_ptr.0 x.ref_ptr.1 low $ shuts_slice ! tt Entry s x.now x.ref_ptr.0 x.ref_ptr.1 $
      -- [its token; what it shares; what is said of it; what else is held]
      move ! (2 ∷ 1 ∷ []) $ fjoin ! $ fjoin ! $ fjoin ! $
      sets ! (suc (2 * r)) room-r (of_opd ! (value ! (suc (2 * c)) at_c))
      (typed_as type-r (copied x n) (typed 𝓛 (get_or x.now n blank_entry) good)) $ z good))
    where
      fits : n * 10 < 2 ^ 64
      fits = place_fits (length x.now) n room low
