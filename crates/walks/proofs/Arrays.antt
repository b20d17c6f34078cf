-- An array of the function's own, `[T; n]`, that it lends to calls. While the function has it, its elements stand in the context as one run. First
-- what an array may hold, then how it is made and given up, and the loans: as in `Lending.antt`, a step before the call and a step after it.
-- Assumes `Logic`.
use mathlib.Core.Path.{◌≡◌, refl, sym, subst}
use Prim.Native.Nat.{ℕ, zero, suc}
use mathlib.Core.List.{List, [], ◌∷◌, not-mem-nil}
use lib.ListN.{length, replicate, length-replicate}
use seplogic.Ra.Ura.{Ura}
use base.Fraction.{full_share}
use mir.Syntax.{Ty, Width, erased, Opd as Operand, Place, Body, seq, assign, repeat, ty_array}
use mir.Val.{Val, vint}
use base.Logic.{ent, sep}
use base.Fml.{GName, Fml, fsep, flft, fat, froom}
use prog.Wp.{Env, Calls, Loops}
use types.Logic.{Logic, sem}
use types.Kit.{Item, ‵, ◌⊛◌, some, later, Go, !, Goal, Soaks, Post, runs, Sq, Step, step, ◌$◌, ◌∵◌, qed, done, move, drop, use1, use2, use3}
use types.Kit.{split, pick, rewrite, await, fsplit, fjoin, fpick, fpack, feq_l, feq_i}
use types.Part.{rep}
use types.Run.{Opd, Finds, init, assigns}
use types.SemTy.{cells, Arr}
use types.Share.{arr_parts}
use types.Tokens.{lft_new, lft_end, lent_back}
use denote.Copied.{uint_Copied}
use denote.RattleType.{RattleType}
use denote.Array.{Array, array_val, each, Array-repeat, Array-Lawful}
use denote.ArrayMemory.{Single, Array-apart, Array-whole}
use denote.Index.{row, whole_in, whole_out}
use denote.Laws.{Is, Lawful, Makes, Copy}
use denote.Plain.{UInt, uint_Lawful, uint_Makes, uint_copy}
use denote.Shadow.{shadow}
use denote.Struct.Laws as LL
use denote.Lend.{lends_slice, slice_back, lends_shr_slice}
use denote.Memory.{mem, shares, lone, cell_at, part_at, part_of}
use denote.Slice.{Room, finally}
use denote.Steps.{owned}
use Rattle.paper.specs.contracts.Record as R
use Rattle.paper.proofs.Record.TheLaws as R'
use Rattle.walks.proofs.Entries.{Entry, entry_shows, lowered}
use Rattle.walks.proofs.Lending.{Mine, Seen, Loan, Showable, Showing}

-- numbers may be lent as a `&[T]`
abbrev pub number_shows : (w : Width) → Showable (UInt w)
number_shows w = record { shares = λ 𝓛. (uint_Copied 𝓛 w).shares full_share [] }

-- what an array may hold here: `entries`, records; `numbers w`, unsigned numbers
pub record Element : Type 2 where
  pub type : RattleType
  pub low : type.Denot → Val
  pub single : Single type.mir
  pub lawful : {M : Type 1} {𝓤 : Ura M} (𝓛 : Logic 𝓤) → Lawful 𝓛 type
  pub copy : {M : Type 1} {𝓤 : Ura M} (𝓛 : Logic 𝓤) → Copy 𝓛 type
  pub makes : {M : Type 1} {𝓤 : Ura M} (𝓛 : Logic 𝓤) → Makes 𝓛 type (Is type)
  pub shows : Showable type

abbrev pub entries : Element
entries = record {
  type = Entry;
  low = lowered;
  single = tt;
  lawful = λ 𝓛. LL.lawful R.the_type R'.the_laws 𝓛;
  copy = λ 𝓛. LL.copy R.the_type R'.the_copy 𝓛;
  makes = λ 𝓛. LL.makes R.the_type R'.the_plain 𝓛;
  shows = entry_shows;
}

abbrev pub numbers : Width → Element
numbers w = record {
  type = UInt w;
  low = vint w;
  single = tt;
  lawful = λ 𝓛. uint_Lawful 𝓛 w;
  copy = λ 𝓛. uint_copy 𝓛 w;
  makes = λ 𝓛. uint_Makes 𝓛 w;
  shows = number_shows w;
}

abbrev pub ArrayTy : Element → ℕ → Ty
ArrayTy T n = ty_array (lone T.type.mir) n

-- the elements, in the block l of the local
abbrev pub Elements : (T : Element) → ℕ → List T.type.Denot → Fml
Elements T l xs = row T.type full_share xs l 0

-- n times x, kept shut, so that an array of thousands is not written out
pub copies : {X : Type 0} → ℕ → X → List X
copies n x = replicate n x

pub length_copies : {X : Type 0} (n : ℕ) (x : X) → length (copies n x) ≡ n
unfolding copies
length_copies n x = length-replicate n x

module _ {M : Type 1} {𝓤 : Ura M} (𝓛 : Logic 𝓤) (T : Element) (n l : ℕ) where
  -- the array's cell, with what its elements own, is the run; and the run is room for the array
  open 𝓛 use {H}

  array_in : (xs : List T.type.Denot) (us : List Val)
      → ent 𝓤 (sep 𝓤 (H.at full_share (ArrayTy T n) l 0 (array_val us)) (sem 𝓛 ((Array T.type n).own_val xs (array_val us ∷ []))))
      (sem 𝓛 (Elements T l xs))
  unfolding part_of
  array_in xs us =
      qed 𝓛 (‵ (fat full_share (ArrayTy T n) l 0 (array_val us)) ∷ ‵ ((Array T.type n).own_val xs (array_val us ∷ [])) ∷ []) ∵
      use1 𝓛 (‵ (cell_at full_share (Array T.type n).mir (array_val us ∷ []) l 0)) (𝓛.laws.at_raw full_share (ArrayTy T n) l 0 (array_val us)) $
      fjoin ! $
      fpack ! (List Val) (λ vs. fsep (cell_at full_share (Array T.type n).mir vs l 0) ((Array T.type n).own_val xs vs)) (array_val us ∷ []) $
      use1 𝓛 (‵ ((arr_parts (shares T.type) n).part full_share xs l 0)) (Array-apart 𝓛 T.type full_share T.single n xs l 0) $ fsplit ! $
      drop ! $ done !

  pub array_room : (xs : List T.type.Denot) → length xs ≡ n → ent 𝓤 (sem 𝓛 (Elements T l xs)) (H.room (ArrayTy T n) l 0)
  unfolding part_of
  array_room xs e =
      qed 𝓛 (‵ (Elements T l xs) ∷ []) ∵ feq_i ! ℕ (length xs) n e $ fjoin ! $
      use1 𝓛 (‵ (part_at (Array T.type n) full_share xs l 0)) (Array-whole 𝓛 T.type full_share n xs l 0) $
      fpick ! (λ vs. fsplit ! $ move ! (1 ∷ []) $ fpick ! (λ us. fsplit ! $ fsplit ! $ feq_l ! (λ f. drop ! $ drop ! $
      rewrite ! 0 (λ (ws : List Val). ‵ (cell_at full_share (Array T.type n).mir ws l 0)) f refl $
      use1 𝓛 (‵ (fat full_share (ArrayTy T n) l 0 (array_val us))) (𝓛.laws.raw_at full_share (ArrayTy T n) l 0 (array_val us)) $
      use1 𝓛 (‵ (froom (ArrayTy T n) l 0)) (𝓛.laws.at_room (ArrayTy T n) l 0 (array_val us)) $ done !)))

module _ {M : Type 1} {𝓤 : Ura M} {𝓛 : Logic 𝓤} {Γ : List (Item 𝓤)} {E : Env 𝓤 𝓛.H} {C : Calls 𝓤 𝓛.H} {Λ : Loops 𝓤 𝓛.H}
    {p : Post 𝓤 𝓛.H} {c : Operand} {d : Place} {rest : Body} where
  -- `_i = [x; n]`: the array's room, at the head of the context, becomes the run
  pub makes_array : Go {0} → (T : Element) (n l : ℕ) (x : T.type.Denot) → Is T.type x (T.low x ∷ [])
      → Opd (Go {0}) 𝓛 (‵ (froom (ArrayTy T n) l 0) ∷ Γ) E c (T.low x) → Finds (Go {0}) 𝓛 (‵ (froom (ArrayTy T n) l 0) ∷ Γ) E d (ArrayTy T n, l, 0)
      → Step (Go {0}) 𝓛 (‵ (Elements T l (copies n x)) ∷ Γ) (runs C Λ E rest p) (‵ (froom (ArrayTy T n) l 0) ∷ Γ)
      (runs C Λ E (seq (assign d (repeat c n)) rest) p)
  unfolding copies
  makes_array t T n l x good o f = step (λ k.
      assigns ! (rep ! n o) f (init ! 0 refl ((Array-Lawful 𝓛 T.type (T.lawful 𝓛) n).typed (replicate n x)
      (array_val (replicate n (T.low x)) ∷ []) (all_are n)).0) $
      owned ! T.type (Is T.type) (T.makes 𝓛) x (T.low x ∷ []) good $
      use1 𝓛 (‵ ((Array T.type n).own_val (replicate n x) (array_val (replicate n (T.low x)) ∷ [])))
      (Array-repeat 𝓛 T.type (T.copy 𝓛) n x (T.low x)) $
      move ! (1 ∷ 0 ∷ []) $ use2 𝓛 (‵ (Elements T l (replicate n x))) (array_in 𝓛 T n l (replicate n x) (replicate n (T.low x))) $ k)
    where
      each_is : (m : ℕ) → shadow (each T.type.Denot T.type.own_val (replicate m x) (replicate m (T.low x)))
      each_is zero = tt
      each_is (suc m) = (good, each_is m)

      all_are : (m : ℕ) → Is (Array T.type m) (replicate m x) (array_val (replicate m (T.low x)) ∷ [])
      all_are m = (replicate m (T.low x), ((refl, length-replicate m x), each_is m))

-- ---- the loans
module _ {M : Type 1} {𝓤 : Ura M} {𝓛 : Logic 𝓤} {Γ : List (Item 𝓤)} {G : Goal 𝓤 𝓛.H} where
  -- lent as a `&mut [T]`: [the call's token; what the callee is handed; the lender's part; …]
  pub lends_array : Go {0} → Soaks G → (T : Element) (l : ℕ) (xs : List T.type.Denot) (n : ℕ) → Room T.type n → length xs ≡ n
      → ((ν : ℕ) (δ : GName) → Sq 𝓛 (‵ (flft (ν ∷ []) full_share) ∷ ‵ (Mine T.type l 0 (ν ∷ []) δ n xs) ∷ ‵ (Loan T.type l 0 ν δ xs) ∷ Γ) G)
      → Sq 𝓛 (‵ (Elements T l xs) ∷ Γ) G
  lends_array t z T l xs n room long k =
      use1 𝓛 (‵ (cells (mem T.type) xs l 0)) (whole_in 𝓛 T.type xs l 0) $ lft_new ! z (λ ν. move ! (1 ∷ []) $
      use1 𝓛 (later (some (λ (δ : GName). ‵ (Mine T.type l 0 (ν ∷ []) δ (length xs) xs) ⊛ ‵ (Loan T.type l 0 ν δ xs))))
      (lends_slice 𝓛 T.type erased (ν ∷ []) xs l 0 (subst (Room T.type) (sym long) room)) $
      await ! z $ pick ! (λ δ. split ! $ rewrite ! 0 (λ (m : ℕ). ‵ (Mine T.type l 0 (ν ∷ []) δ m xs)) long refl $ move ! (2 ∷ []) $ k ν δ))

  -- it is there again, at its last list
  pub array_back : Go {0} → Soaks G → (T : Element) (l : ℕ) (xs zs : List T.type.Denot) {ν : ℕ} {δ : GName}
      → Step (Go {0}) 𝓛 (‵ (Elements T l zs) ∷ Γ) G (‵ (flft (ν ∷ []) full_share) ∷ ‵ (finally T.type δ zs) ∷ ‵ (Loan T.type l 0 ν δ xs) ∷ Γ) G
  array_back t z T l xs zs {ν} {δ} = step (λ k.
      lft_end ! z $ move ! (0 ∷ 2 ∷ 1 ∷ []) $
      use3 𝓛 (later (‵ ((Arr (mem T.type) (length xs)).own_at zs l 0))) (slice_back 𝓛 T.type (ν ∷ []) δ zs (length xs) l 0) $ await ! z $
      fsplit ! $ drop ! $
      use1 𝓛 (‵ (Elements T l zs)) (whole_out 𝓛 T.type zs l 0) $ k)

  -- lent as a `&[T]`
  pub shows_array : Go {0} → Soaks G → (T : Element) (l : ℕ) (xs : List T.type.Denot) (n : ℕ) → Room T.type n → length xs ≡ n
      → ((ν : ℕ) → Sq 𝓛 (‵ (flft (ν ∷ []) full_share) ∷ ‵ (Seen T.type l 0 (ν ∷ []) n xs) ∷ ‵ (Showing T.type l 0 ν xs) ∷ Γ) G)
      → Sq 𝓛 (‵ (Elements T l xs) ∷ Γ) G
  shows_array t z T l xs n room long k =
      feq_i ! ℕ (length xs) (length xs) refl $ fjoin ! $ lft_new ! z (λ ν. move ! (1 ∷ 0 ∷ []) $
      use2 𝓛 (later ((‵ (Seen T.type l 0 (ν ∷ []) (length xs) xs) ⊛ ‵ (Showing T.type l 0 ν xs)) ⊛ ‵ (flft (ν ∷ []) full_share)))
      (lends_shr_slice 𝓛 T.type erased (ν ∷ []) full_share xs l 0 (subst (Room T.type) (sym long) room) [] (T.shows.shares 𝓛) ((ν ∷ [], full_share) ∷ [])
      (λ a m. absurd (not-mem-nil m)) (λ a m. m)) $
      await ! z $ split ! $ split ! $ rewrite ! 0 (λ (m : ℕ). ‵ (Seen T.type l 0 (ν ∷ []) m xs)) long refl $ move ! (2 ∷ []) $ k ν)

  -- it is there again, as it was
  pub array_shown : Go {0} → Soaks G → (T : Element) (l : ℕ) (xs : List T.type.Denot) {ν : ℕ}
      → Step (Go {0}) 𝓛 (‵ (Elements T l xs) ∷ Γ) G (‵ (flft (ν ∷ []) full_share) ∷ ‵ (Showing T.type l 0 ν xs) ∷ Γ) G
  array_shown t z T l xs = step (λ k. lft_end ! z $ lent_back ! z $ fsplit ! $ drop ! $ k)
