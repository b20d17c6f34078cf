-- A node of which something is still to come, and the byte that it waits in: its label, and 64 for each case before its own.
use Rattle.std.specs.Prelude.{Bool, true, false, cond, ℕ, ◌≡◌, ◌+◌, ◌%◌, ◌<◌, ltb, refl}
use Rattle.std.proofs.Common.{arith}
use borrow.Author.Tests.{ltb-true, ltb-false}
pub use Rattle.text.specs.declared.node.Waiting.{Waiting}
use Rattle.text.specs.declared.node.Waiting.TheVariants.{Others, LastChildren, Children, Inside}

abbrev pub node_in : ℕ → Waiting
node_in b =
    cond (ltb b 64) (Others (b % 64))
    (cond (ltb b 128) (LastChildren (b % 64)) (cond (ltb b 192) (Children (b % 64)) (Inside (b % 64))))

abbrev pub HoldsNode : ℕ → Type 0
HoldsNode b = b < 256

-- the way back
abbrev pub byte_of_node : Waiting → ℕ
byte_of_node (Others l) = l
byte_of_node (LastChildren l) = 64 + l
byte_of_node (Children l) = 128 + l
byte_of_node (Inside l) = 192 + l

-- (here, since an `impl Model` cites its own crate's specs alone)
pub node_kept : (b : ℕ) → HoldsNode b → byte_of_node (node_in b) ≡ b
node_kept b small = go (ltb b 64) (ltb b 128) (ltb b 192) refl refl refl
  where
    go : (p q r : Bool) → ltb b 64 ≡ p → ltb b 128 ≡ q → ltb b 192 ≡ r
        → byte_of_node (cond p (Others (b % 64)) (cond q (LastChildren (b % 64)) (cond r (Children (b % 64)) (Inside (b % 64))))) ≡ b
    go true q r e f g = omega (arith, ltb-true b 64 e)
    go false true r e f g = omega (arith, ltb-false b 64 e, ltb-true b 128 f)
    go false false true e f g = omega (arith, ltb-false b 128 f, ltb-true b 192 g)
    go false false false e f g = omega (arith, ltb-false b 192 g)
