-- A list whose first numbers are 0: its length, its numbers and what is behind them.
use mathlib.Core.List.{List}
use mathlib.Core.Path.{◌∙◌, ◌≡◌, ap}
use Prim.Native.Nat.{◌<◌, ◌≤◌, ℕ}
use native.Mathlib.Omega.{arith}
use lib.ListN.{drop, get_or, get_or-replicate, length, length-replicate, replicate}
use lib.Seq.{drop_at}
use Rattle.paper.specs.Refusals.{over}
use Rattle.sound.proofs.Overwriting.{over_length, over_within}

module _ (l : List ℕ) (i : ℕ) where
  -- the first i are 0
  abbrev pub zeroed : List ℕ
  zeroed = over (replicate i 0) l

  long : length {A = ℕ} (replicate i 0) ≡ i
  long = length-replicate i 0

  pub zeroed_length : i ≤ length l → length zeroed ≡ length l
  zeroed_length h = over_length (replicate i 0) l (omega (arith, long))

  pub zeroed_within : (k : ℕ) → k < i → get_or zeroed k 0 ≡ 0
  zeroed_within k h = over_within (replicate i 0) l k (omega (arith, long)) ∙ get_or-replicate i k 0 0 h

  pub zeroed_rest : drop i zeroed ≡ drop i l
  zeroed_rest = drop_at (replicate i 0) (drop (length {A = ℕ} (replicate i 0)) l) i long ∙ ap (λ (n : ℕ). drop n l) long
