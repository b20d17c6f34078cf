-- A turn puts one entry more, with a space before it unless it is the first.
use Rattle.std.proofs.Common.{List, [], ◌∷◌, ◌++◌, ◌≡◌, ℕ, ap, arith, ◌∙◌, get_or, take}
use Rattle.std.proofs.lemmas.List.{take_all}
use Rattle.lines.specs.Put.{put}
use Rattle.lines.specs.Text.{number_text}
use Rattle.list.specs.Text.{entry_text, row_text}
use Rattle.list.proofs.Putting.{entry_more, puts_end, puts_first, puts_later, room_for_entry}
use Rattle.list.proofs.text.put_row.Goals as goal
use Rattle.list.proofs.text.put_row.Goals.{then-place-gt0, else-place-gt0}

pub loop-place-preserved : goal.loop-place-preserved
loop-place-preserved g c =
    let l = c.loop-place in
    let row = c.args.row.now in
    let before = c.args.text.now ++ row_text (take l.place row) in
    let entry = get_or row l.place 0 in
    let room = room_for_entry g.row.SIZE row c.args.text.now l.place c.requires.places c.loop-place-test.true c.requires.room in
    let entry_put : put g.row.SIZE (number_text entry) c.if-place-gt0.text ≡ before ++ entry_text l.place entry = elim c.if-place-gt0.branch [
      | then-place-gt0 w ↦ ap (put g.row.SIZE (number_text entry)) (w.text-is ∙ w.put_byte.ensures ∙ ap (put g.row.SIZE (32 ∷ [])) l.invariant)
          ∙ puts_later g.row.SIZE l.place entry before room w.if-place-gt0.true
      | else-place-gt0 w ↦ ap (put g.row.SIZE (number_text entry)) (w.text-is ∙ l.invariant)
          ∙ puts_first g.row.SIZE l.place entry before room (omega arith)
    ] in
    c.put_number.ensures ∙ ap (λ (n : ℕ). put g.row.SIZE (number_text n) c.if-place-gt0.text) c.from.ensures ∙ entry_put
    ∙ entry_more g.row.SIZE row c.args.text.now l.place c.requires.places c.loop-place-test.true c.requires.room

pub returns : goal.returns
returns g c =
    let row = c.args.row.now in
    c.put_byte-2.ensures
    ∙ ap (put g.row.SIZE (10 ∷ []))
    (c.loop-place.invariant ∙ ap (λ (some : List ℕ). c.args.text.now ++ row_text some) (take_all c.loop-place.place row c.loop-place-test.false))
    ∙ puts_end g.row.SIZE row c.args.text.now c.requires.places c.requires.room
