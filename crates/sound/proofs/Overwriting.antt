-- A list written over the first entries of another: its length, its entries, and lists that are equal to it.
use mathlib.Core.Bool.{Bool, false, true}
use mathlib.Core.List.{List, ◌++◌}
use mathlib.Core.Path.{◌∙◌, ◌≡◌, ap, refl, sym}
use Prim.Native.Nat.{◌+◌, ◌-◌, ◌<◌, ◌≤◌, min, ℕ}
use native.Mathlib.Omega.{arith}
use borrow.Author.Tests.{ltb-false, ltb-true}
use lib.Dec.{ltb}
use lib.ListN.{get_or-append, drop, get_or, length, length-append, length-drop, length-replicate, replicate}
use lib.Seq.{ext_get_or, get_or-append_right, get_or-drop}
use Rattle.paper.specs.Refusals.{over}

module _ (new old : List ℕ) where
  pub over_length : length new ≤ length old → length (over new old) ≡ length old
  over_length h = omega (arith, length-append new (drop (length new) old), length-drop (length new) old)

  pub over_within : (k : ℕ) → k < length new → get_or (over new old) k 0 ≡ get_or new k 0
  over_within k h = get_or-append new (drop (length new) old) 0 k h

  pub over_behind : (k : ℕ) → length new ≤ k → get_or (over new old) k 0 ≡ get_or old k 0
  over_behind k h =
      get_or-append_right new (drop (length new) old) k 0 h
      ∙ get_or-drop (length new) old (k - length new) 0
      ∙ ap (λ (i : ℕ). get_or old i 0) (omega arith)

  -- a list with these entries is it
  pub over_is : (list : List ℕ) → length new ≤ length old → length list ≡ length old
      → ((k : ℕ) → k < length new → get_or list k 0 ≡ get_or new k 0) → ((k : ℕ) → length new ≤ k → get_or list k 0 ≡ get_or old k 0)
      → list ≡ over new old
  over_is list h long within behind = ext_get_or 0 list (over new old) (long ∙ sym (over_length h)) (λ k l. go k (ltb k (length new)) refl)
    where
      go : (k : ℕ) (c : Bool) → ltb k (length new) ≡ c → get_or list k 0 ≡ get_or (over new old) k 0
      go k true e = let l : k < length new = ltb-true k (length new) e in within k l ∙ sym (over_within k l)
      go k false e = let l : length new ≤ k = ltb-false k (length new) e in behind k l ∙ sym (over_behind k l)

-- ---- zeros
-- works that are the same behind the zeros are the same with them
pub cleared_same : (n : ℕ) (work other : List ℕ) → drop n other ≡ drop n work → over (replicate n 0) other ≡ over (replicate n 0) work
cleared_same n work other e = rw length-replicate (ap (λ (rest : List ℕ). replicate n 0 ++ rest) e)

-- so are works with the same numbers behind them
pub zeros_agree : (work : List ℕ) (n : ℕ) (other : List ℕ) → length other ≡ length work
    → ((k : ℕ) → n ≤ k → get_or other k 0 ≡ get_or work k 0) → over (replicate n 0) other ≡ over (replicate n 0) work
zeros_agree work n other long behind =
    cleared_same n work other
    (ext_get_or 0 (drop n other) (drop n work) (omega (arith, length-drop n other, length-drop n work, long))
    (λ k l. get_or-drop n other k 0 ∙ behind (n + k) (omega arith) ∙ sym (get_or-drop n work k 0)))

-- as many as `clear` writes, where the work is long enough
pub cleared_all : (n : ℕ) (work : List ℕ) → n ≤ length work → over (replicate (min n (length work)) 0) work ≡ over (replicate n 0) work
cleared_all n work h = ap (λ (m : ℕ). over (replicate m 0) work) (let all : min n (length work) ≡ n = omega arith in all)
