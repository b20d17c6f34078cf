-- The table of lengths: its rule is one test over all of its entries, carried to each of them. Behind its end no kind has a body.
use mathlib.Core.Bool.{Bool, false, true}
use mathlib.Core.List.{List, [], ◌∷◌}
use mathlib.Core.Logic.{⊎_elim}
use mathlib.Core.Path.{◌≡◌, refl, subst, sym}
use Prim.Native.Nat.{◌<◌, ◌≤◌, ℕ}
use native.Mathlib.Omega.{arith}
use borrow.Author.Tests.{eqb-true, leb-true, ltb-false, ltb-true, ne_eqb}
use lib.Dec.{eqb, leb, ltb}
use lib.ListN.{get_or}
use Rattle.paper.specs.Stream.{body_length}
use Rattle.laws.proofs.Lists.{which}
use Rattle.stream.proofs.Table.{at_entry}

-- the table, as the source has it
abbrev pub lengths : List ℕ
lengths = 0 ∷ 1 ∷ 1 ∷ 0 ∷ 0 ∷ 0 ∷ 0 ∷ 0 ∷ 0 ∷ 0 ∷ 0 ∷ 0 ∷ 0 ∷ 0 ∷ 0 ∷ 0 ∷ 2 ∷ 3 ∷ 5 ∷ 1 ∷ []

-- its rule at one entry
right : ℕ → ℕ → Bool
right k x = eqb x (body_length k)

-- an entry is the length of its kind's body
pub length_at : (k : ℕ) → k < 20 → get_or lengths k 0 ≡ body_length k
unfolding right
length_at k h = eqb-true (get_or lengths k 0) (body_length k) (at_entry right lengths refl k h)

-- behind the table no kind has a body
pub no_length : (k : ℕ) → 20 ≤ k → body_length k ≡ 0
no_length k h =
    rw (
      ne_eqb 1 k (omega arith),
      ne_eqb 2 k (omega arith),
      ne_eqb 16 k (omega arith),
      ne_eqb 17 k (omega arith),
      ne_eqb 18 k (omega arith),
      ne_eqb 19 k (omega arith),
    )

-- no body is longer than a branch rule's
pub short : (k : ℕ) → body_length k ≤ 5
short k = ⊎_elim listed unlisted (which (ltb k 20))
  where
    listed : ltb k 20 ≡ true → body_length k ≤ 5
    listed e =
        let h : k < 20 = ltb-true k 20 e in
        subst (λ n. n ≤ 5) (length_at k h) (leb-true (get_or lengths k 0) 5 (at_entry (λ i x. leb x 5) lengths refl k h))

    unlisted : ltb k 20 ≡ false → body_length k ≤ 5
    unlisted e = subst (λ n. n ≤ 5) (sym (no_length k (ltb-false k 20 e))) (omega arith)
