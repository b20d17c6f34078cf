-- With room the word stands there; without, nothing is written.
use Rattle.std.proofs.Common.{List, ◌++◌, ℕ, ◌+◌, ap, sym, ◌∙◌, arith, length, take, drop}
use Rattle.std.proofs.Math.Seq.{take-length}
use Rattle.std.proofs.lemmas.Slice.{put_mid-paste}
use Rattle.lines.proofs.PuttingAt.{put_fits_at, put_left_out_at}
use Rattle.lines.proofs.put_word.Goals as goal

pub returns-then-text-at : goal.returns-then-text-at
returns-then-text-at c = put_left_out_at _ _ _ (omega arith)

pub returns-then-text-at-2 : goal.returns-then-text-at-2
returns-then-text-at-2 c = put_left_out_at _ _ _ (omega arith)

pub returns : goal.returns
returns c =
    let a = c.args in
    let word = c.copy_from_slice.ensures.after in
    put_fits_at a.word.now a.at a.text.now (omega arith)
    ∙ ap (λ (t : List ℕ). (a.at + length a.word.now, t))
    (sym (put_mid-paste a.at _ a.text.now _ a.word.now (length a.word.now) word (omega arith) (omega arith)
    ∙ ap (λ (w : List ℕ). take a.at a.text.now ++ w ++ drop (a.at + length a.word.now) a.text.now) (take-length a.word.now)))
