-- A turn takes the first mark that is left, whose flag shares no bit: its split is united with its slot, unless the right slot is empty.
use Rattle.std.proofs.Common.{◌≡◌, ◌∙◌, ℕ, List, ◌+◌, ◌<◌, ◌^◌, length, arith, sym}
use mathlib.Core.Path.{subst₃}
use lib.Bits.{bit_and}
use Rattle.building.specs.Rules.{Branch, Room, Runs, flags_at}
use Rattle.building.specs.Slots.{marks_at}
use Rattle.building.specs.Splits.{Free, Noted}
use Rattle.building.proofs.Marks.{first_mark}
use Rattle.building.proofs.Running.{skipped_left}
use Rattle.building.proofs.Turns.{right_apart, right_ends, right_onward, right_starts, right_turn, size_small}
use Rattle.building.proofs.Turns.{split_room, sum_flag, with_empty, with_split}
use Rattle.building.proofs.rule.beside.Goals as goal
use Rattle.building.proofs.rule.beside.Goals.{then-right-ne-EMPTY, else-right-ne-EMPTY}

-- the marks that are walked
free_of : {rule : Branch} {k : ℕ} {B W notes : List ℕ} {b₁ walked : ℕ} → Room rule k B W → Noted rule.size notes → b₁ < rule.size
    → bit_and rule.own b₁ ≡ 0
    → ((size : ℕ) → Noted size notes → rule.own + b₁ < size → marks_at W rule.right < 2 ^ size → Free size (rule.own + b₁) (marks_at W rule.right) walked)
    → Free rule.size (rule.own + b₁) (marks_at W rule.right) walked
free_of {rule = rule} {b₁ = b₁} room noted h e told = told rule.size noted (sum_flag room b₁ h e) room.right_marked.few

-- the splits after a turn
abbrev Next : Branch → ℕ → List ℕ → List ℕ → ℕ → ℕ → List ℕ → List ℕ → ℕ → Type 0
Next rule k B W b₁ marks batch work count =
    (length batch ≡ length B) × (length work ≡ length W) × Runs (flags_at rule.own (first_mark marks + 1) b₁) rule k B W count batch work

pub returns-then-left-eq-EMPTY : goal.returns-then-left-eq-EMPTY
returns-then-left-eq-EMPTY c =
    let a = c.args in
    skipped_left a.k a.batch.now a.work.now c.requires.room.0.low a.left_flag a.rule.size c.requires.left_flag_lt_size.0 c.if-left-eq-EMPTY.true

pub free_beside-marks-requires : goal.free_beside-marks-requires
free_beside-marks-requires c =
    let r = c.requires.room.0 in
    (omega (arith, sum_flag r c.args.left_flag c.requires.left_flag_lt_size.0 c.requires.left_flag_lt_size.1, size_small _ r.flags), c.requires.room.1.room)

pub loop-marks-init : goal.loop-marks-init
loop-marks-init c =
    let r = c.requires.room.0 in
    let (h, e) = c.requires.left_flag_lt_size in
    right_starts r h e (free_of r c.requires.room.1 h e c.free_beside-marks.ensures)

pub bounds-work-rule-in-loop-marks : goal.bounds-work-rule-in-loop-marks
bounds-work-rule-in-loop-marks c =
    let r = c.requires.room.0 in
    let (h, e) = c.requires.left_flag_lt_size in
    let s = right_turn r h e (free_of r c.requires.room.1 h e c.free_beside-marks.ensures) c.loop-marks.invariant c.loop-marks-test.true in
    omega (arith, s.right_flag, r.right_before, r.within, s.work_kept)

pub split-count-requires : goal.split-count-requires
split-count-requires c =
    let r = c.requires.room.0 in
    let (h, e) = c.requires.left_flag_lt_size in
    let free = free_of r c.requires.room.1 h e c.free_beside-marks.ensures in
    let s = right_turn r h e free c.loop-marks.invariant c.loop-marks-test.true in
    let room = split_room s (right_apart r h e free c.loop-marks.invariant c.loop-marks-test.true) c.requires.left_flag_bound in
    record { room_for = room.0; flag_bound = room.1.0; left_bound = room.1.1.0; flag_in_bounds = room.1.1.1 }

pub loop-marks-preserved : goal.loop-marks-preserved
loop-marks-preserved c =
    let a = c.args in
    let l = c.loop-marks in
    let some = c.loop-marks-test.true in
    let r = c.requires.room.0 in
    let (h, e) = c.requires.left_flag_lt_size in
    let free = free_of r c.requires.room.1 h e c.free_beside-marks.ensures in
    let s = right_turn r h e free l.invariant some in
    let apart = right_apart r h e free l.invariant some in
    let next : Next a.rule a.k a.batch.now a.work.now a.left_flag l.marks c.if-right-ne-EMPTY.batch c.if-right-ne-EMPTY.work c.if-right-ne-EMPTY.count =
    elim c.if-right-ne-EMPTY.branch [
      | then-right-ne-EMPTY w ↦
          subst₃ (Next a.rule a.k a.batch.now a.work.now a.left_flag l.marks) (sym w.batch-is) (sym w.work-is) (sym w.count-is) (
            w.split-count.auto.batch ∙ s.batch_kept,
            w.split-count.auto.work ∙ s.work_kept,
            with_split s apart c.if-left-eq-EMPTY.false w.if-right-ne-EMPTY.true _ _ _ w.split-count.ensures,
          )
      | else-right-ne-EMPTY w ↦
          subst₃ (Next a.rule a.k a.batch.now a.work.now a.left_flag l.marks) (sym w.batch-is) (sym w.work-is) (sym w.count-is)
          (s.batch_kept, s.work_kept, with_empty s apart w.if-right-ne-EMPTY.false)
    ] in
    right_onward r h e free l.invariant some next.0 next.1 next.2

pub returns : goal.returns
returns c =
    let r = c.requires.room.0 in
    let (h, e) = c.requires.left_flag_lt_size in
    right_ends r h e (free_of r c.requires.room.1 h e c.free_beside-marks.ensures) c.loop-marks.invariant c.loop-marks-test.false
