-- What the holder of a `&mut [T]` does with it: it opens it (`opens`, `shuts`), or lends it on for the lifetime of a call, as a `&mut [T]` (`lends`,
-- `has_back`) or as a `&[T]` (`shows`, `shown_back`). Each is a step before and a step after, so a call may be lent any number of slices.
-- Assumes `Logic`.
use mathlib.Core.Path.{◌≡◌, refl, sym, ap, ◌∙◌, subst}
use Prim.Native.Nat.{ℕ}
use mathlib.Core.List.{List, [], ◌∷◌, not-mem-nil}
use lib.ListN.{length}
use seplogic.Ra.Ura.{Ura}
use base.Fraction.{full_share}
use mir.Syntax.{erased}
use base.Fml.{Lft, GName, Share, Fml, fsep, feq, flft, fobs, fauth, fbor, flent, fobor}
use types.Logic.{Logic}
use types.Kit.{Item, ‵, ◌⊛◌, some, later, Go, !, Goal, Soaks, Sq, Step, step, ◌$◌, move, drop, use1, use2, use3, split, pick, rewrite, await, fsplit}
use types.Kit.{fjoin, fsplit3, fjoin3, feq_i}
use types.SemTy.{cells, Arr}
use types.Share.{arr_parts}
use types.Tokens.{lft_new, lft_end, lent_back}
use denote.RattleType.{RattleType}
use denote.Shadow.{pure_l, pure_i}
use denote.Memory.{mem, shares}
use denote.Ref.{Bor, MutBor}
use denote.Shares.{Shares}
use denote.Slice.{slice_val, MutSlice, ShrSlice, heres, Room, finally, mut_slice_at, coded_holeys}
use denote.Lend.{Held, lends_slice, slice_back, lends_shr_slice}
use denote.Index.{row, whole_out, whole_in, opens_slice, closes_slice}

-- a T that may be lent as a `&[T]`: it holds no `&mut`, which is what its law of sharing says
pub record Showable (R : RattleType) : Type 2 where
  pub shares : {M : Type 1} {𝓤 : Ura M} (𝓛 : Logic 𝓤) → Shares 𝓛 R []

-- The head of the context is the slice and its token, at a list that has n elements; while it is lent, it is
-- [the call's token; what the callee is handed; the lender's part; Waiting; …]
module _ (R : RattleType) (b o : ℕ) where
  abbrev pub at_list : GName → List R.Denot → MutBor (List R.Denot)
  at_list γ ys = record { ref_ptr = (b, o); ghost_name = γ; now = ys }

  abbrev pub seen_list : List R.Denot → Bor (List R.Denot)
  seen_list ys = record { ref_ptr = (b, o); now = ys }

  -- what a `&mut [T]` of n elements owns, and a `&[T]`. It does not name the lifetime as MIR does
  abbrev pub Mine : Lft → GName → ℕ → List R.Denot → Fml
  Mine κ γ n ys = (MutSlice erased κ R).own_val (at_list γ ys) (slice_val (b, o) n ∷ [])

  abbrev pub Seen : Lft → ℕ → List R.Denot → Fml
  Seen κ n ys = (ShrSlice erased κ R).own_val (seen_list ys) (slice_val (b, o) n ∷ [])

  -- what the holder keeps meanwhile: its own borrow, open, at the list that it had
  abbrev pub Waiting : Lft → Share → GName → List R.Denot → Fml
  Waiting κ q γ ys = fsep (fobor κ q (Held R (length ys) b o γ)) (fsep (fobs γ ((coded_holeys R).code (heres R ys)))
      (fauth γ ((coded_holeys R).code (heres R ys))))

  -- what a callee leaves of a `&mut [T]` that it was handed at ys: its last list, which is as long, and its borrow, closed
  abbrev pub HandedBack : ℕ → GName → List R.Denot → List R.Denot → Fml
  HandedBack ν δ ys zs = fsep (fsep (finally R δ zs) (feq ℕ (length zs) (length ys))) (fbor (ν ∷ []) (Held R (length ys) b o δ))

  -- the lender's part of each loan
  abbrev pub Loan : ℕ → GName → List R.Denot → Fml
  Loan ν δ ys = flent (ν ∷ []) (Held R (length ys) b o δ)

  abbrev pub Showing : ℕ → List R.Denot → Fml
  Showing ν ys = flent (ν ∷ []) ((arr_parts (shares R) (length ys)).part full_share ys b o)

module _ {M : Type 1} {𝓤 : Ura M} {𝓛 : Logic 𝓤} {Γ : List (Item 𝓤)} {G : Goal 𝓤 𝓛.H} where
  -- the borrow is opened, and the elements are there
  pub opens : Go {0} → Soaks G → (R : RattleType) {κ : Lft} {q : Share} {γ : GName} (b o : ℕ) (ys : List R.Denot) (n : ℕ) → length ys ≡ n
      → (Room R (length ys) → Sq 𝓛 (‵ (row R full_share ys b o) ∷ ‵ (Waiting R b o κ q γ ys) ∷ Γ) G)
      → Sq 𝓛 (‵ (Mine R b o κ γ n ys) ∷ ‵ (flft κ q) ∷ Γ) G
  opens t z R {κ = κ} {γ = γ} b o ys n long k =
      rewrite ! 0 (λ (m : ℕ). ‵ (Mine R b o κ γ m ys)) (sym long) refl $ fsplit ! $
      pure_l ! (mut_slice_at R (at_list R b o γ ys) (slice_val (b, o) (length ys) ∷ [])) (λ p. fsplit ! $ opens_slice ! z R ys b o $
      move ! (1 ∷ 2 ∷ 3 ∷ []) $ fjoin3 ! $ move ! (1 ∷ 0 ∷ []) $ k p.1)

  -- it is closed, at another list
  pub shuts : Go {0} → Soaks G → (R : RattleType) {κ : Lft} {q : Share} {γ : GName} (b o : ℕ) (ys zs : List R.Denot) (n : ℕ) → Room R n
      → length ys ≡ n → length zs ≡ n
      → Step (Go {0}) 𝓛 (‵ (Mine R b o κ γ n zs) ∷ ‵ (flft κ q) ∷ Γ) G (‵ (row R full_share zs b o) ∷ ‵ (Waiting R b o κ q γ ys) ∷ Γ) G
  shuts t z R {γ = γ} b o ys zs n room long long' = step (λ k.
      move ! (1 ∷ []) $ fsplit3 ! $ move ! (3 ∷ []) $ closes_slice ! z R ys zs (long' ∙ sym long) b o $ fjoin ! $
      pure_i ! (mut_slice_at R (at_list R b o γ zs) (slice_val (b, o) n ∷ [])) (tt, (tt, tt))
      (ap (λ (m : ℕ). slice_val (b, o) m ∷ []) (sym long'), subst (Room R) (sym long') room) $ fjoin ! $ k)

module _ {M : Type 1} {𝓤 : Ura M} {𝓛 : Logic 𝓤} {Γ : List (Item 𝓤)} {G : Goal 𝓤 𝓛.H} where
  -- lent as a `&mut [T]`
  pub lends : Go {0} → Soaks G → (R : RattleType) {κ : Lft} {q : Share} {γ : GName} (b o : ℕ) (ys : List R.Denot) (n : ℕ) → length ys ≡ n
      → ((ν : ℕ) (δ : GName)
      → Sq 𝓛 (‵ (flft (ν ∷ []) full_share) ∷ ‵ (Mine R b o (ν ∷ []) δ n ys) ∷ ‵ (Loan R b o ν δ ys) ∷ ‵ (Waiting R b o κ q γ ys) ∷ Γ) G)
      → Sq 𝓛 (‵ (Mine R b o κ γ n ys) ∷ ‵ (flft κ q) ∷ Γ) G
  lends t z R b o ys n long k =
      opens ! z R b o ys n long (λ room. use1 𝓛 (‵ (cells (mem R) ys b o)) (whole_in 𝓛 R ys b o) $ lft_new ! z (λ ν. move ! (1 ∷ []) $
      use1 𝓛 (later (some (λ (δ : GName). ‵ (Mine R b o (ν ∷ []) δ (length ys) ys) ⊛ ‵ (Loan R b o ν δ ys))))
      (lends_slice 𝓛 R erased (ν ∷ []) ys b o room) $ await ! z $ pick ! (λ δ. split ! $
      rewrite ! 0 (λ (m : ℕ). ‵ (Mine R b o (ν ∷ []) δ m ys)) long refl $ move ! (2 ∷ []) $ k ν δ)))

  -- it comes back at its last list, which is as long
  pub has_back : Go {0} → Soaks G → (R : RattleType) {κ : Lft} {q : Share} {γ : GName} (b o : ℕ) (ys zs : List R.Denot) (n : ℕ) → Room R n
      → length ys ≡ n → length zs ≡ n → {ν : ℕ} {δ : GName}
      → Step (Go {0}) 𝓛 (‵ (Mine R b o κ γ n zs) ∷ ‵ (flft κ q) ∷ Γ) G (‵ (flft (ν ∷ []) full_share) ∷ ‵ (finally R δ zs) ∷ ‵ (Loan R b o ν δ ys)
      ∷ ‵ (Waiting R b o κ q γ ys) ∷ Γ) G
  has_back t z R b o ys zs n room long long' {ν} {δ} = step (λ k.
      lft_end ! z $ move ! (0 ∷ 2 ∷ 1 ∷ []) $
      use3 𝓛 (later (‵ ((Arr (mem R) (length ys)).own_at zs b o))) (slice_back 𝓛 R (ν ∷ []) δ zs (length ys) b o) $ await ! z $ fsplit ! $ drop ! $
      use1 𝓛 (‵ (row R full_share zs b o)) (whole_out 𝓛 R zs b o) $ shuts ! z R b o ys zs n room long long' $ k)

  -- lent as a `&[T]`
  pub shows : Go {0} → Soaks G → (R : RattleType) → Showable R → {κ : Lft} {q : Share} {γ : GName} (b o : ℕ) (ys : List R.Denot) (n : ℕ) → length ys ≡ n
      → ((ν : ℕ)
      → Sq 𝓛 (‵ (flft (ν ∷ []) full_share) ∷ ‵ (Seen R b o (ν ∷ []) n ys) ∷ ‵ (Showing R b o ν ys) ∷ ‵ (Waiting R b o κ q γ ys) ∷ Γ) G)
      → Sq 𝓛 (‵ (Mine R b o κ γ n ys) ∷ ‵ (flft κ q) ∷ Γ) G
  shows t z R showable b o ys n long k =
      opens ! z R b o ys n long (λ room. feq_i ! ℕ (length ys) (length ys) refl $ fjoin ! $ lft_new ! z (λ ν. move ! (1 ∷ 0 ∷ []) $
      use2 𝓛 (later ((‵ (Seen R b o (ν ∷ []) (length ys) ys) ⊛ ‵ (Showing R b o ν ys)) ⊛ ‵ (flft (ν ∷ []) full_share)))
      (lends_shr_slice 𝓛 R erased (ν ∷ []) full_share ys b o room [] (showable.shares 𝓛) ((ν ∷ [], full_share) ∷ []) (λ a m. absurd (not-mem-nil m)) (λ a m. m)) $
      await ! z $ split ! $ split ! $
      rewrite ! 0 (λ (m : ℕ). ‵ (Seen R b o (ν ∷ []) m ys)) long refl $ move ! (2 ∷ []) $ k ν))

  -- it comes back as it was
  pub shown_back : Go {0} → Soaks G → (R : RattleType) {κ : Lft} {q : Share} {γ : GName} (b o : ℕ) (ys : List R.Denot) (n : ℕ) → Room R n
      → length ys ≡ n → {ν : ℕ}
      → Step (Go {0}) 𝓛 (‵ (Mine R b o κ γ n ys) ∷ ‵ (flft κ q) ∷ Γ) G (‵ (flft (ν ∷ []) full_share) ∷ ‵ (Showing R b o ν ys)
      ∷ ‵ (Waiting R b o κ q γ ys) ∷ Γ) G
  shown_back t z R b o ys n room long = step (λ k. lft_end ! z $ lent_back ! z $ fsplit ! $ drop ! $ shuts ! z R b o ys ys n room long long $ k)
