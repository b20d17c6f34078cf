-- The bytes that a read puts behind those that stand there are the next ones of the reader.
use Rattle.std.proofs.Common.{rules, ◌≡◌, ℕ, ◌+◌, ◌-◌, ◌≤◌, List, ◌++◌, length, take, ap, ap₂, ◌∙◌, subst, sym, le_refl, drop_at, length-take-le}
use Rattle.std.proofs.lemmas.Slice.{take-put_mid_below}
use Rattle.std.proofs.KnownBytes.{Consumes-trans}
use Rattle.std.specs.Io.KnownBytes.{Consumes}
use borrow.Rule.Slice.PartMut.{put_mid, post_of}
use lib.Seq.{take-add, take-append-le}
use Rattle.lines.proofs.read_full.Goals as goal

-- of a part that was written over, the first bytes stand behind those before it
part_taken : (at k n : ℕ) (text part : List ℕ) → at ≤ length text → n ≤ length part
    → take at text ++ take n part ≡ take (at + n) (put_mid at k text part)
part_taken at k n text part within few =
    sym (take-add at n (put_mid at k text part)
    ∙ ap₂ (λ (a b : List ℕ). a ++ take n b) (take-put_mid_below at k text part at (le_refl at) within)
    (drop_at (take at text) (part ++ post_of at k text) at (length-take-le at text within))
    ∙ ap (λ (b : List ℕ). take at text ++ b) (take-append-le n part (post_of at k text) few))

pub loop-done-preserved : goal.loop-done-preserved
loop-done-preserved g c =
    let l = c.loop-done in
    let within = l.invariant.within in
    let got = c.in-Ok.ensures in record {
      within = search rules;
      bytes = subst (Consumes _ _) (part_taken l.done (length l.buffer - l.done) c.in-Ok.n l.buffer c.read.new.buf within got.bound.0)
          (Consumes-trans _ _ _ _ _ l.invariant.bytes got.bytes.0);
    }
