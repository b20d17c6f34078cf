-- 1 shifted by the arity, which is at most 4, is 2 to its power: nothing is shifted out.
use Rattle.std.proofs.Common.{◌≡◌, ◌*◌, ◌^◌, ◌%◌, ◌∙◌, arith}
use Rattle.std.proofs.Math.Pow.{pow_mono, shl_exact}
use Rattle.stream.proofs.head.QueryHead.flags.Goals as goal

pub returns : goal.returns
returns c =
    let arity = c.args.self.facts.arity in
    let two_to : (1 * 2 ^ arity) % 2 ^ 64 ≡ 2 ^ arity = shl_exact 1 arity 64 (omega arith) (omega arith) ∙ omega arith in
    (two_to, omega (arith, two_to, pow_mono c.args.self.few_places))
