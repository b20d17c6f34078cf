-- The rows of a sound set: each has an entry for each place, and they are no more than a record may list.
use mathlib.Core.List.{List}
use mathlib.Core.Path.{◌≡◌}
use Prim.Native.Nat.{◌≤◌}
use native.Mathlib.Omega.{arith}
use lib.ListN.{length}
use Rattle.paper.specs.declared.Head.{Head}
use Rattle.paper.specs.declared.Record.{Record}
use Rattle.paper.specs.Lists.{◌∈◌}
use Rattle.paper.specs.declared.Set.{Set}
use Rattle.paper.specs.declared.Set.TheVariants.{Empty, Record as At, Unit as One}
use Rattle.paper.specs.Records.{listing, listings, set_rows, used_of}
use Rattle.paper.specs.Row.{Row}
use Rattle.paper.specs.Sound.{most_rows}
use Rattle.laws.specs.QuestionCauses.{SetFits, Sound}
use Rattle.laws.proofs.SoundAnswers.{listing_shaped}

module _ (h : Head) (table : List Record) (S : Sound h table) where
  pub rows_long : (row : Row) → row ∈ listing h table → length row ≡ h.arity
  rows_long row m = (listing_shaped h table S row m).0

  pub rows_few : length (listing h table) ≤ most_rows
  rows_few = go h.set S.set
    where
      go : (e : Set) → SetFits h (used_of h table) e → length (set_rows h.arity (listings h.arity (used_of h table)) e) ≤ most_rows
      go Empty fits = omega arith
      go One fits = omega arith
      go (At i) fits = S.rows_within i fits.0
