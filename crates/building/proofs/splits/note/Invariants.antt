-- `splits::note` notes the masks of each flag: those of the flags passed are right.
use Rattle.std.proofs.Common.{ℕ, ◌<◌}
use Rattle.building.specs.Splits.{Masked, free_at, shared_at}
use Rattle.building.proofs.splits.note.Given as goal

abbrev pub invariant-loop-flag : goal.invariant-loop-flag
invariant-loop-flag l = (n : ℕ) → n < l.flag → Masked l.size n (free_at l.notes n) (shared_at l.notes n)
