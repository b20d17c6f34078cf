-- `row_numbered`: an open place has its node, a fixed one is blank (`Filling`), and the row where the ways part is the one asked for.
use Rattle.std.proofs.Common.{◌∙◌, ◌≡◌, ap, arith, sym, ℕ}
use Rattle.paper.specs.Questions.{has_place}
use Rattle.row.specs.Listed.{Record}
use Rattle.row.proofs.Filling.{all_filled, filled_fixed, filled_open}
use Rattle.row.proofs.Leading.{blank_at, row_long}
use Rattle.row.proofs.SoundSets.{is_sound, root_flag}
use Rattle.row.proofs.set.SoundSet.row_numbered.Goals as goal
use Rattle.row.proofs.set.SoundSet.row_numbered.Goals.{then-has_place, else-has_place}

pub loop-place-preserved : goal.loop-place-preserved
loop-place-preserved c =
    let i = c.loop-place.invariant in
    let start = c.below_unions-start.ensures in
    elim c.if-has_place.branch [
      | then-has_place w ↦
          rw w.row-is
          (filled_open i w.record_at.result.node (omega arith) (ap (λ (r : Record). r.node) w.record_at.ensures ∙ w.single_at-single.ensures.node))
      | else-has_place w ↦
          rw w.row-is
          (filled_fixed i
          (λ inside. blank_at start.listed c.loop-place.place inside
          (ap (λ (flag : ℕ). has_place flag c.loop-place.place) (start.flag ∙ root_flag c.args.self.now c.in-Record.root c.in-Record.is)
          ∙ sym c.has_place.ensures ∙ w.if-has_place.false)))
    ]

pub returns : goal.returns
returns c =
    let start = c.below_unions-start.ensures in
    let all : c.loop-place.place ≡ 4 = omega arith in
    rw c.in-Record.is
    (all_filled (rw all at c.loop-place.invariant) (is_sound c.args.self.now).few_places (row_long start.listed) ∙ start.entries)
