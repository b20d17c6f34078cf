-- A rule of a table, proved at all of its entries by one test that antt computes, one entry after the other.
use mathlib.Core.Bool.{Bool, true, ◌&&◌}
use mathlib.Core.List.{List, [], ◌∷◌}
use mathlib.Core.Path.{◌∙◌, ◌≡◌, ap, sym}
use Prim.Native.Nat.{◌+◌, ◌<◌, suc, zero, ℕ}
use native.Mathlib.Nat.{le_of_suc-le-suc, not-suc-le-zero, zero-add}
use native.Mathlib.Omega.{arith}
use lib.ListN.{get_or, length}
use Rattle.laws.proofs.Lists.{both_true}

-- the test passes at each entry of the list and its place, counted from i
abbrev pub every_from : (ℕ → ℕ → Bool) → ℕ → List ℕ → Bool
every_from right i [] = true
every_from right i (x ∷ xs) = right i x && every_from right (suc i) xs

entry_from : (right : ℕ → ℕ → Bool) (table : List ℕ) (i : ℕ) → every_from right i table ≡ true → (k : ℕ) → k < length table
    → right (i + k) (get_or table k 0) ≡ true
entry_from right [] i e k h = absurd (not-suc-le-zero h)
entry_from right (x ∷ xs) i e zero h =
    ap (λ n. right n x) (let z : i + 0 ≡ i = omega arith in z) ∙ (both_true (right i x) (every_from right (suc i) xs) e).0
entry_from right (x ∷ xs) i e (suc k) h =
    ap (λ n. right n (get_or xs k 0)) (let z : i + suc k ≡ suc i + k = omega arith in z)
    ∙ entry_from right xs (suc i) (both_true (right i x) (every_from right (suc i) xs) e).1 k (le_of_suc-le-suc h)

-- a test that passes over the whole table passes at each entry
pub at_entry : (right : ℕ → ℕ → Bool) (table : List ℕ) → every_from right 0 table ≡ true → (k : ℕ) → k < length table
    → right k (get_or table k 0) ≡ true
at_entry right table e k h = ap (λ n. right n (get_or table k 0)) (sym (zero-add k)) ∙ entry_from right table 0 e k h
