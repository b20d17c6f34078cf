-- The bit of the key is looked up and put in.
use Rattle.std.proofs.Common.{◌≡◌, ℕ, ◌*◌, ◌/◌, ◌%◌, ◌^◌, ◌<◌, length, ◌∙◌, refl, arith}
use Rattle.std.proofs.Math.Pow.{shl_exact}
use Rattle.stream.proofs.KeyTable.{key_put}
use Rattle.stream.proofs.keys.say.Goals as goal

-- of 1 shifted by the key's place in its word nothing is lost
one : (key : ℕ) → (1 * 2 ^ (key % 64)) % 2 ^ 64 ≡ 2 ^ (key % 64)
one key = shl_exact {a = 1} 1 (key % 64) 64 (omega arith) (omega arith) ∙ omega arith

pub returns : goal.returns
returns c =
    let a = c.args in
    let word : a.key / 64 < length a.said.now = omega arith in
    record { told = refl; adds = key_put a.said.now a.key _ word (one a.key) }
