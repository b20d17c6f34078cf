-- The entries of the lent table, ten bytes each, as steps of a walk: `Denote/Index.antt`'s, at `paper::Record`. First a record's types and values,
-- then where an entry lies, and how it is taken out of the run of entries and put back, as it was or as another.
-- Assumes `Logic`.
use mathlib.Core.Path.{◌≡◌, refl, sym, ap}
use Prim.Native.Nat.{ℕ, ◌<◌, ◌+◌, ◌*◌, ◌^◌}
use native.Mathlib.Omega.{arith}
use mathlib.Core.List.{List, [], ◌∷◌}
use lib.Dec.{lit<}
use lib.ListN.{length, get_or, set}
use seplogic.Ra.Ura.{Ura}
use base.Fraction.{full_share}
use mir.Syntax.{Ty}
use mir.Val.{Val, vptr}
use base.Fml.{Lft, Share, flft, fhide}
use types.Logic.{Logic}
use types.Kit.{Item, ‵, Go, !, Goal, Soaks, Sq, Step, step, ◌$◌, move, drop}
use denote.RattleType.{RattleType, RowLaws}
use denote.Memory.{mem, shares, cell_at}
use denote.Laws.{Is, Tells, shows}
use denote.Opens.{Shut}
use denote.Slice.{Room, elements_shared}
use denote.Index.{row, others, place, place_is, elem_out, elem_back, elem_put, looks_slice}
use denote.Steps.{owned}
use denote.Struct.Laws as LL
use Rattle.paper.specs.declared.Record.{Record}
use Rattle.paper.specs.Records.{blank_entry}
use Rattle.paper.specs.contracts.Record as T
use Rattle.paper.proofs.Record.TheLaws as T'
use Rattle.walks.proofs.Lending.{Showable}
use Rattle.walks.proofs.Steps.{Typed}

abbrev pub Entry : RattleType
Entry = T.the_row

abbrev pub EntryTy : Ty
EntryTy = T'.mir

abbrev pub lowered : Record → Val
lowered = T'.lowered

abbrev pub vals : Record → List Val
vals = LL.vals T.the_type T'.the_laws

pub entry_tells : Tells Entry (Is Entry) vals
entry_tells = LL.tells T.the_type T'.the_laws

-- entries may be lent as a `&[Record]`, and what a `&` to one holds can be had twice
abbrev pub entry_shows : Showable Entry
entry_shows = record { shares = λ 𝓛. (LL.copied T.the_type T'.the_copy 𝓛).shares full_share [] }

abbrev pub entry_twice : RowLaws Entry
entry_twice = T'.the_row_laws.shr_laws

-- the place of an entry that is there, in bytes, is a usize; and as the code computes it
pub place_fits : (n i : ℕ) → Room Entry n → i < n → i * 10 < 2 ^ 64
place_fits n i g l = omega (arith, bytes, l)
  where
    bytes : n * 10 < 2 ^ 63
    bytes = g.1

pub entry_place : (b o i : ℕ) → vptr b (i * 10 + o) ≡ vptr b (place 10 o i)
entry_place b o i = ap (vptr b) (sym (place_is 10 o i))

pub blank_good : Is Entry blank_entry (vals blank_entry)
blank_good = LL.owes T.the_type T'.the_laws blank_entry ((refl, lit< tt), ((refl, lit< tt), ((refl, lit< tt), ((refl, lit< tt), ((refl, lit< tt), tt)))))

module _ {M : Type 1} {𝓤 : Ura M} (𝓛 : Logic 𝓤) where
  pub typed : (r : Record) → Is Entry r (vals r) → Typed EntryTy (lowered r)
  typed r g = ((LL.lawful T.the_type T'.the_laws 𝓛).typed r (vals r) g).0

module _ {M : Type 1} {𝓤 : Ura M} {𝓛 : Logic 𝓤} {Γ : List (Item 𝓤)} {G : Goal 𝓤 𝓛.H} where
  -- what a record owns is had for nothing
  pub owns_entry : Go {0} → (r : Record) → Is Entry r (vals r) → Step (Go {0}) 𝓛 (‵ (Entry.own_val r (vals r)) ∷ Γ) G Γ G
  owns_entry t r g = owned ! Entry (Is Entry) (LL.makes T.the_type T'.the_plain 𝓛) r (vals r) g

  -- a `&[Record]` is looked into, which takes its token
  pub looks_table : Go {0} → Soaks G → {κ : Lft} {q : Share} (ys : List Record) (b o : ℕ)
      → ((p : Share) → Sq 𝓛 (‵ (row Entry p ys b o) ∷ Shut 𝓛 κ q (row Entry p ys b o) ∷ ‵ (fhide (elements_shared Entry ys b o κ)) ∷ Γ) G)
      → Sq 𝓛 (‵ (fhide (elements_shared Entry ys b o κ)) ∷ ‵ (flft κ q) ∷ Γ) G
  looks_table t z ys b o k = looks_slice ! z Entry (LL.copied T.the_type T'.the_copy 𝓛) ys b o k

  -- an entry is taken out: [its cell; what it owns; the other entries; …]
  pub entry_out : Go {0} → (p : Share) (ys : List Record) (i : ℕ) (b o : ℕ) → i < length ys
      → (Is Entry (get_or ys i blank_entry) (vals (get_or ys i blank_entry))
      → Sq 𝓛 (‵ (cell_at p Entry.mir (vals (get_or ys i blank_entry)) b (place (mem Entry).size o i))
      ∷ ‵ (Entry.own_val (get_or ys i blank_entry) (vals (get_or ys i blank_entry))) ∷ ‵ (others (shares Entry) p ys i b o) ∷ Γ) G)
      → Sq 𝓛 (‵ (row Entry p ys b o) ∷ Γ) G
  entry_out t p ys i b o l k = elem_out ! Entry (Is Entry) (shows 𝓛 Entry) vals entry_tells p ys i blank_entry b o l k

  -- it is put back as it was
  pub entry_back : Go {0} → (p : Share) (ys : List Record) (i : ℕ) (b o : ℕ) → i < length ys
      → Step (Go {0}) 𝓛 (‵ (row Entry p ys b o) ∷ Γ) G
      (‵ (cell_at p Entry.mir (vals (get_or ys i blank_entry)) b (place (mem Entry).size o i))
      ∷ ‵ (Entry.own_val (get_or ys i blank_entry) (vals (get_or ys i blank_entry))) ∷ ‵ (others (shares Entry) p ys i b o) ∷ Γ) G
  entry_back t p ys i b o l = elem_back ! Entry p ys i blank_entry (vals (get_or ys i blank_entry)) b o l

module _ {M : Type 1} {𝓤 : Ura M} {𝓛 : Logic 𝓤} {Γ : List (Item 𝓤)} {G : Goal 𝓤 𝓛.H} where
  -- it is put back as r: its cell has been overwritten by r, what the old record owned is let go
  pub entry_put : Go {0} → (p : Share) (ys : List Record) (i : ℕ) (r : Record) (b o : ℕ) → i < length ys → Is Entry r (vals r)
      → {old : Record} → Step (Go {0}) 𝓛 (‵ (row Entry p (set ys i r) b o) ∷ Γ) G
      (‵ (cell_at p Entry.mir (vals r) b (place (mem Entry).size o i)) ∷ ‵ (Entry.own_val old (vals old)) ∷ ‵ (others (shares Entry) p ys i b o) ∷ Γ)
      G
  entry_put t p ys i r b o l g =
      step (λ s. move ! (1 ∷ []) $ drop ! $ owns_entry ! r g $ move ! (1 ∷ 0 ∷ []) $ elem_put ! Entry p ys i r (vals r) b o l $ s)
