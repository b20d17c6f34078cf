-- With room the byte stands there; without, nothing is written.
use Rattle.std.proofs.Common.{List, [], ◌∷◌, ◌++◌, ℕ, ◌+◌, ap, sym, ◌∙◌, append_assoc, add-one, arith, take, drop}
use Rattle.std.proofs.Math.Seq.{set_split}
use Rattle.lines.proofs.PuttingAt.{put_fits_at, put_left_out_at}
use Rattle.lines.proofs.put_byte.Goals as goal

pub returns-then-text-at : goal.returns-then-text-at
returns-then-text-at c = put_left_out_at _ _ _ (omega arith)

pub returns : goal.returns
returns c =
    let a = c.args in
    put_fits_at (a.byte ∷ []) a.at a.text.now (omega arith)
    ∙ ap (λ (t : List ℕ). (a.at + 1, t))
    (append_assoc (take a.at a.text.now) (a.byte ∷ []) (drop (a.at + 1) a.text.now)
    ∙ ap (λ (n : ℕ). take a.at a.text.now ++ a.byte ∷ drop n a.text.now) (add-one a.at)
    ∙ sym (set_split a.text.now a.at a.byte (omega arith)))
