-- A turn marks the right flag in one of the two masks: it shares no bit where its triple is at hand, and shares one where it is not.
use Rattle.std.proofs.Common.{◌≡◌, ◌∙◌, ℕ, ◌+◌, ◌*◌, ◌<◌, ap, arith, sym}
use mathlib.Core.Path.{subst₃}
use lib.Bits.{bit_or}
use lib.Pow.{shl_exact}
use Rattle.building.specs.Bounds.{most_flags}
use Rattle.building.specs.Splits.{packed, triple_count}
use Rattle.building.proofs.TripleTable.{Masking, masking_apart, masking_shared, not_shown, place_small, shown}
use Rattle.building.proofs.splits.masks_of.Goals as goal
use Rattle.building.proofs.splits.masks_of.Goals.{then-triples-i, else-triples-i}

-- the place at hand is within the table
within : (flag b free shared i : ℕ) → flag < most_flags → b < most_flags → Masking flag b free shared i → i < triple_count
within flag b free shared i t l m = omega (arith, m.place, place_small flag b t (omega arith))

pub offset_bounds-triples-i : goal.offset_bounds-triples-i
offset_bounds-triples-i c = omega (arith, within _ _ _ _ _ c.requires.flag_lt_most_flags.0 (omega arith) c.loop-b.invariant)

pub bounds-triples-i : goal.bounds-triples-i
bounds-triples-i c = within _ _ _ _ _ c.requires.flag_lt_most_flags.0 (omega arith) c.loop-b.invariant

pub loop-b-preserved : goal.loop-b-preserved
loop-b-preserved c =
    let a = c.args in
    let l = c.loop-b in
    let m = l.invariant in
    let t = c.requires.flag_lt_most_flags.0 in
    let inside : l.b < most_flags = omega arith in
    let i_inside : l.i < triple_count = within _ _ _ _ _ t inside m in
    let bit = shl_exact {a = 1} 1 l.b 16 (omega arith) (omega arith) in
    let number : most_flags * a.flag + l.b ≡ packed 0 (a.flag, l.b) = omega arith in
    let whole = c.requires.triples_value in
    elim c.if-triples-i.branch [
      | then-triples-i w ↦
          subst₃ (Masking a.flag (l.b + 1)) (sym (w.free-is ∙ ap (bit_or l.free) bit)) (sym w.shared-is) (sym w.i-is)
          (masking_apart m (shown a.flag l.b t inside a.triples.now whole l.i i_inside (w.if-triples-i.true ∙ number)))
      | else-triples-i w ↦
          subst₃ (Masking a.flag (l.b + 1)) (sym w.free-is) (sym (w.shared-is ∙ ap (bit_or l.shared) bit)) (sym w.i-is)
          (masking_shared m (not_shown a.flag l.b t inside a.triples.now whole l.i m.place (λ e. w.if-triples-i.false (e ∙ sym number))))
    ]
