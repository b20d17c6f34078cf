-- The parameters of a function that is walked, what its walk has of each at the end, and the law that each owes: a `&mut [T]` is still held, at
-- its last list; of any other parameter nothing has to be had.
-- Assumes `Logic`.
use Prim.Native.Nat.{ℕ}
use mathlib.Core.List.{[], ◌∷◌}
use seplogic.Ra.Ura.{Ura}
use types.Logic.{Logic}
use contract.Lifetimes.{Within}
use denote.RattleType.{RattleType}
use denote.Exit.{yes}
use denote.Signature.{Slot, plain, mut_slice_of, shr_slice_of}
use denote.Triple.Walked.{Stay, Goes, Silent, stay_slice, stay_dropped, Goes-slice, Goes-dropped}

module _ {n : ℕ} where
  abbrev pub by_value : RattleType → Slot n
  by_value R = plain (λ _. R)

  abbrev pub lent : (j : ℕ) → Within n j → RattleType → Slot n
  lent j ok R = mut_slice_of (j ∷ []) ok (by_value R)

  abbrev pub shown : (j : ℕ) → Within n j → RattleType → Slot n
  shown j ok R = shr_slice_of (j ∷ []) ok (by_value R)

  abbrev pub still : (j : ℕ) (ok : Within n j) (R : RattleType) → Stay (lent j ok R) yes
  still j ok R = stay_slice (j ∷ []) ok (by_value R)

  abbrev pub gone : (s : Slot n) → Stay s yes
  gone s = stay_dropped s yes

module _ {M : Type 1} {𝓤 : Ura M} (𝓛 : Logic 𝓤) (n : ℕ) where
  pub goes_still : (j : ℕ) (ok : Within n j) (R : RattleType) → Goes 𝓛 n (lent j ok R) yes (still j ok R)
  goes_still j ok R = Goes-slice 𝓛 n j ok (by_value R)

  pub goes_gone : (s : Slot n) → Silent 𝓛 n s yes → Goes 𝓛 n s yes (gone s)
  goes_gone s silent = Goes-dropped 𝓛 n s yes silent
