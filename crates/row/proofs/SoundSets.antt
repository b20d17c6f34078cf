-- What a sound set and its weights tell: what is read of the table is a used record, and what is read of the work is how many rows a record lists,
-- and its flag.
use mathlib.Core.List.{List}
use mathlib.Core.Logic.{⊎_elim}
use mathlib.Core.Path.{◌∙◌, ◌≡◌, ap, refl, subst, sym}
use Prim.Native.Nat.{◌*◌, ◌+◌, ◌<◌, ◌≤◌, ℕ}
use native.Mathlib.Omega.{arith}
use lib.ListN.{drop, get_or, length, length-take, take}
use lib.Seq.{get_or-take, take_at}
use Rattle.std.specs.Prelude.{Result, Ok, Err}
use Rattle.std.specs.Result.{IsOk}
use Rattle.paper.specs.declared.kinds.RecordKind.{RecordKind}
use Rattle.paper.specs.declared.kinds.RecordKind.TheVariants.{Single, Union, Product}
use Rattle.paper.specs.declared.kinds.UnknownKind.{UnknownKind}
use Rattle.paper.specs.Kinds.{Decodes}
use Rattle.paper.specs.declared.Head.{Head}
use Rattle.paper.specs.declared.Record.{Record}
use Rattle.paper.specs.declared.Set.{Set}
use Rattle.paper.specs.declared.Set.TheVariants as SetIs
use Rattle.paper.specs.Questions.{count_of}
use Rattle.paper.specs.Records.{listings, set_rows}
use Rattle.laws.specs.QuestionCauses.{SetFits, Sound}
use Rattle.laws.proofs.SoundTest.{sound_is}
use Rattle.sound.specs.Counting.{rows_in_set}
use Rattle.sound.specs.Face.{Weighs}
use Rattle.sound.specs.Weights.{flag_in, rows_in, weights}
use Rattle.sound.proofs.Answered.{sound_set, sound_work}
use Rattle.sound.proofs.Cells.{flag_low, used_length, weights_at, weights_length}
use Rattle.sound.proofs.WeightParts.{flag_in_lem, rows_in_lem}
use Rattle.row.specs.declared.set.SoundSet.{SoundSet}
use Rattle.row.specs.Listed.{record_at, rows_at, used_in}

module _ (s : SoundSet) where
  pub is_sound : Sound s.head s.table.now
  is_sound = sound_is s.head s.table.now s.sound

  pub used_long : length (used_in s) ≡ s.head.used
  used_long = used_length s.head s.table.now is_sound.used_there

  pub work_long : s.head.used ≤ length s.work.now
  work_long = omega (arith, length-take s.head.used s.work.now, ap length s.weighed, weights_length s.head s.table.now is_sound.used_there)

  -- a root has the open places as its flag
  pub root_flag : (root : ℕ) → s.head.set ≡ SetIs.Record root → (record_at s root).flag ≡ s.head.open_places
  root_flag root is = let fits : SetFits s.head (used_in s) (SetIs.Record root) = subst (SetFits s.head (used_in s)) is is_sound.set in fits.1

  module _ (i : ℕ) (below : i < s.head.used) where
    cell : get_or s.work.now i 0 ≡ 16 * length (rows_at s i) + (record_at s i).flag
    cell =
        sym (get_or-take s.head.used s.work.now i 0 below)
        ∙ ap (λ (cells : List ℕ). get_or cells i 0) s.weighed
        ∙ weights_at s.head s.table.now is_sound.used_there i below

    pub rows_are : rows_in (get_or s.work.now i 0) ≡ length (rows_at s i)
    rows_are = ap rows_in cell ∙ rows_in_lem (length (rows_at s i)) (record_at s i).flag (flag_low s.head s.table.now is_sound i below)

    pub flag_is : flag_in (get_or s.work.now i 0) ≡ (record_at s i).flag
    flag_is = ap flag_in cell ∙ flag_in_lem (length (rows_at s i)) (record_at s i).flag (flag_low s.head s.table.now is_sound i below)

    -- its kind is one of the three
    pub decodes : (r : Result RecordKind UnknownKind) → Decodes (record_at s i).kind r → IsOk r
    decodes (Ok kind) d = refl
    decodes (Err e) d =
        absurd (⊎_elim (λ k. d Single k.0) (⊎_elim (λ k. d Union k.0) (λ k. d Product k.0)) (is_sound.records i below).kind)

-- the rows of the set, by its root's weight
pub rows_counted : (s : SoundSet) → rows_in_set s.work.now s.head.set ≡ count_of s.head s.table.now
rows_counted s = go s.head.set (is_sound s).set
  where
    go : (set : Set) → SetFits s.head (used_in s) set
        → rows_in_set s.work.now set ≡ length (set_rows s.head.arity (listings s.head.arity (used_in s)) set)
    go SetIs.Empty fits = refl
    go SetIs.Unit fits = refl
    go (SetIs.Record root) fits = rows_are s root fits.0

-- what `weigh` leaves of a sound set
pub weights_left : {h : Head} {table : List Record} {work work₁ : List ℕ} → Weighs h table work (Ok tt) work₁ → take h.used work₁ ≡ weights h table
weights_left {h} {table} {work} W =
    ap (take h.used) (sound_work W refl)
    ∙ take_at (weights h table) (drop (length (weights h table)) work) h.used (weights_length h table (sound_set W refl).used_there)
