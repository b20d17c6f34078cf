-- A weight, taken apart: its rows and its flag, which is below 16.
use mathlib.Core.Path.{◌≡◌}
use Prim.Native.Nat.{◌*◌, ◌+◌, ◌<◌, ◌^◌, ◌≤◌, ℕ}
use native.Mathlib.Nat.{pow-le-pow_right}
use native.Mathlib.Omega.{arith}
use Rattle.sound.specs.Weights.{flag_in, rows_in}

-- a flag of an arity up to 4
pub below_sixteen : {flag arity : ℕ} → arity ≤ 4 → flag < 2 ^ arity → flag < 16
below_sixteen {arity = arity} few below =
    let most : 2 ^ arity ≤ 2 ^ 4 = pow-le-pow_right {n = 2} (omega arith) few in
    omega arith

module _ (rows flag : ℕ) (low : flag < 16) where
  pub rows_in_lem : rows_in (16 * rows + flag) ≡ rows
  rows_in_lem = omega arith

  pub flag_in_lem : flag_in (16 * rows + flag) ≡ flag
  flag_in_lem = omega arith
