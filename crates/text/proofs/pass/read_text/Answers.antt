-- A fault is refused, whatever follows; and behind a comment the pass goes on as outside.
use Rattle.std.proofs.Common.{◌∙◌, ap, arith, sym}
use Rattle.std.proofs.lemmas.Result.{err_from_is_err_and}
use Rattle.text.specs.Pass.{image_behind}
use Rattle.text.specs.Reading.{state_in}
use Rattle.text.specs.Told.{told}
use Rattle.text.proofs.BytePass.{refused_from}
use Rattle.text.proofs.Comments.{behind, byte_read, in_comment_lem, no_longer}
use Rattle.text.proofs.pass.read_text.Goals as goal

pub returns-in_err-mode : goal.returns-in_err-mode
returns-in_err-mode c =
    let l = c.loop-rest in
    let one = c.in-len1-up.len_at_least in
    let left = behind l.rest.now one in
    let refusal = err_from_is_err_and c.from_residual.result c.from_residual.ensures.1 in
    rw (refusal.1, refusal.2) (ap (λ image. told image c.args.out.now) (sym (refused_from left)
    ∙ ap (λ s. image_behind s left) c.in_err-mode.ensures
    ∙ sym (byte_read l.rest.now one (state_in l.mode l.kept))
    ∙ l.invariant))

pub loop-rest-smaller-in-Comment : goal.loop-rest-smaller-in-Comment
loop-rest-smaller-in-Comment c = omega (arith, no_longer c.comment_end-rest.ensures)

pub loop-rest-preserved-in-Comment : goal.loop-rest-preserved-in-Comment
loop-rest-preserved-in-Comment c =
    let l = c.loop-rest in
    let one = c.in-len1-up.len_at_least in
    let left = behind l.rest.now one in
    sym (in_comment_lem c.comment_end-rest.ensures c.read_byte.new.kept)
    ∙ ap (λ m. image_behind (state_in m c.read_byte.new.kept) left) (sym c.in-Comment.is)
    ∙ ap (λ s. image_behind s left) c.in_ok-mode.ensures
    ∙ sym (byte_read l.rest.now one (state_in l.mode l.kept))
    ∙ l.invariant
