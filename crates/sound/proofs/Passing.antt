-- The pass over the used records: a turn asks for no more than holds before it, and keeps that; where the pass stops early, not all are sound.
use mathlib.Core.List.{List}
use mathlib.Core.Path.{◌≡◌, ap, refl}
use Prim.Native.Nat.{◌*◌, ◌+◌, ◌<◌, ◌≤◌, ℕ}
use native.Mathlib.Omega.{arith}
use lib.ListN.{length, set}
use Rattle.std.specs.Prelude.{Option, Some, None}
use Rattle.paper.specs.declared.Head.{Head}
use Rattle.paper.specs.declared.Record.{Record}
use Rattle.paper.specs.Records.{used_of}
use Rattle.paper.specs.Sound.{entry}
use Rattle.sound.specs.Passing.{AllSound, Weighing}
use Rattle.sound.specs.OneRecord.{Weighable, rows_found, weight_for}
use Rattle.sound.proofs.Cells.{used_length}
use Rattle.sound.proofs.OneMore.{weighs_more}
use Rattle.sound.proofs.Testing.{passes_sound, rows_of_lem, sound_passes}

-- a record with a weight has rows
some_weight : (flag x : ℕ) (found : Option ℕ) → weight_for flag found ≡ Some x → (rows : ℕ) × (found ≡ Some rows) × (x ≡ 16 * rows + flag)
some_weight flag x (Some rows) e = (rows, refl, (cc))
some_weight flag x None e = cc

module _ (h : Head) (table : List Record) (few_places : h.arity ≤ 4) (there : h.used ≤ length table) {at : ℕ} {work weights : List ℕ}
    (W : Weighing h.arity h.nodes (used_of h table) at work weights) (in_used : at < length (used_of h table)) where
  abbrev used : List Record
  used = used_of h table

  abbrev weight_at : Option ℕ
  weight_at = weight_for (entry used at).flag (rows_found h (entry used at) at weights)

  low : at < h.used
  low = omega (arith, used_length h table there, in_used)

  pub weighable : h.used ≤ length weights → Weighable at weights
  weighable room = record {
    there = omega (arith, low);
    few = λ k l. omega (arith, (W.sound k l).few, rows_of_lem h used at work weights few_places in_used W k l);
  }

  pub onward : (x : ℕ) → h.used ≤ length weights → weight_at ≡ Some x → Weighing h.arity h.nodes used (at + 1) work (set weights at x)
  onward x room weighed =
      let (rows, found, is) = some_weight _ _ _ weighed in
      let (sound, listed) = passes_sound h used at work weights few_places in_used W rows found in
      rw (is, listed) (weighs_more h.arity h.nodes used at work weights W (omega (arith, low)) sound)

  pub stopped : weight_at ≡ None → AllSound h table → ⊥
  stopped none all =
      let found = sound_passes h used at work weights few_places in_used W (all at low) in
      let some = ap (weight_for (entry used at).flag) found in
      cc
