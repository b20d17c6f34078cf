-- `slot::put_set` marks the flag and puts the set into its slot: beside the marks, or as the whole number.
use Rattle.std.proofs.Common.{ℕ, ◌≡◌, ◌<◌, ◌*◌, ◌%◌, ◌^◌, ◌∙◌, arith}
use native.Mathlib.Nat.{mul_comm}
use lib.Pow.{shl_exact}
use Rattle.building.specs.Bounds.{most_flags, slot_sets}
use Rattle.building.proofs.Slots.{first_put, other_put}
use Rattle.building.proofs.slot.put_set.Goals as goal

-- the mark of the flag fits
mark : (flag : ℕ) → flag < most_flags → (slot_sets * 2 ^ flag) % 2 ^ 64 ≡ 2 ^ flag * 2 ^ 16
mark flag small = shl_exact {a = slot_sets} 17 flag 64 (omega arith) (omega arith) ∙ mul_comm slot_sets (2 ^ flag)

pub returns-then-flag-eq0 : goal.returns-then-flag-eq0
returns-then-flag-eq0 c =
    let a = c.args in
    first_put a.work.now a.shelf a.flag _ (mark a.flag c.requires.flag_in_bounds.1) c.requires.flag_in_bounds.0 a.set c.requires.set_lt_slot_sets
    c.if-flag-eq0.true

pub returns : goal.returns
returns c =
    let a = c.args in
    other_put a.work.now a.shelf a.flag _ (mark a.flag c.requires.flag_in_bounds.1) c.requires.flag_in_bounds.0 a.set c.requires.set_lt_slot_sets
    c.if-flag-eq0.false
