-- A label that waits for its branch, and the byte that it waits in: its number, and 64 more while its brackets are open.
use Rattle.std.specs.Prelude.{Bool, true, false, cond, ℕ, ◌≡◌, ◌+◌, ◌%◌, ◌<◌, leb, refl}
use Rattle.std.proofs.Common.{arith}
use borrow.Author.Tests.{leb-true, leb-false}

-- its number, and whether its brackets are open
pub record Label : Type 0 where
  pub number : ℕ
  pub is_open : Bool

abbrev pub label_in : ℕ → Label
label_in b = record { number = b % 64; is_open = leb 64 b }

abbrev pub HoldsLabel : ℕ → Type 0
HoldsLabel b = b < 128

-- the way back
abbrev pub byte_of_label : Label → ℕ
byte_of_label l = l.number + cond l.is_open 64 0

-- (here, since an `impl Model` cites its own crate's specs alone)
pub label_kept : (b : ℕ) → HoldsLabel b → byte_of_label (label_in b) ≡ b
label_kept b small = go (leb 64 b) refl
  where
    go : (p : Bool) → leb 64 b ≡ p → b % 64 + cond p 64 0 ≡ b
    go true e = omega (arith, leb-true 64 b e)
    go false e = omega (arith, leb-false 64 b e)
