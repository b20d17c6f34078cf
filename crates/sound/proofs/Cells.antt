-- What the work holds of a sound set once it is weighed: in cell k 16 times the rows of record k and its flag, for each used record, and
-- behind them what it held before. First the list of weights, then the cells, then what a cell divided by 16 and its rest are.
use mathlib.Core.List.{List, [], ◌∷◌}
use mathlib.Core.Path.{◌∙◌, ◌≡◌, ap, refl}
use Prim.Native.Nat.{◌*◌, ◌+◌, ◌<◌, ◌≤◌, suc, zero, ℕ}
use native.Mathlib.Omega.{arith}
use lib.ListN.{drop, get_or, length}
use lib.Seq.{drop_at, length-take-le}
use Rattle.paper.specs.declared.Head.{Head}
use Rattle.paper.specs.declared.Record.{Record}
use Rattle.paper.specs.Records.{listings, used_of}
use Rattle.paper.specs.Refusals.{over}
use Rattle.paper.specs.Row.{Row}
use Rattle.paper.specs.Sound.{entry}
use Rattle.laws.specs.QuestionCauses.{Sound}
use Rattle.laws.proofs.Listings.{length_listings}
use Rattle.sound.specs.Weights.{rows_in, weight, weights, weights_for}
use Rattle.sound.proofs.Overwriting.{over_length, over_within}
use Rattle.sound.proofs.RowCounts.{some_rows}
use Rattle.sound.proofs.WeightParts.{below_sixteen, rows_in_lem}

-- ---- the list of weights
weights_for_length : (lists : List (List Row)) (records : List Record) → length lists ≡ length records
    → length (weights_for lists records) ≡ length records
unfolding weights_for
weights_for_length [] records e = e
weights_for_length (rows ∷ lists) [] e = refl
weights_for_length (rows ∷ lists) (r ∷ records) e = omega (arith, weights_for_length lists records (omega arith))

weights_for_at : (lists : List (List Row)) (records : List Record) → length lists ≡ length records → (k : ℕ) → k < length records
    → get_or (weights_for lists records) k 0 ≡ weight (get_or lists k []) (entry records k)
unfolding weights_for
weights_for_at [] records e k l = absurd (omega arith)
weights_for_at (rows ∷ lists) [] e k l = absurd (omega arith)
weights_for_at (rows ∷ lists) (r ∷ records) e zero l = refl
weights_for_at (rows ∷ lists) (r ∷ records) e (suc k) l = weights_for_at lists records (omega arith) k (omega arith)

-- of a head whose used records stand in the table
module _ (h : Head) (table : List Record) (there : h.used ≤ length table) where
  pub used_length : length (used_of h table) ≡ h.used
  used_length = length-take-le h.used table there

  lists_length : length (listings h.arity (used_of h table)) ≡ length (used_of h table)
  lists_length = length_listings h.arity (used_of h table)

  pub weights_length : length (weights h table) ≡ h.used
  weights_length = weights_for_length (listings h.arity (used_of h table)) (used_of h table) lists_length ∙ used_length

  pub weights_at : (k : ℕ) → k < h.used
      → get_or (weights h table) k 0 ≡ weight (get_or (listings h.arity (used_of h table)) k []) (entry (used_of h table) k)
  weights_at k l =
      weights_for_at (listings h.arity (used_of h table)) (used_of h table) lists_length k (omega (arith, used_length))

-- ---- the cells of a sound set
module _ (h : Head) (table : List Record) (S : Sound h table) where
  -- the rows and the flag of record k
  abbrev pub rows_of : ℕ → List Row
  rows_of k = get_or (listings h.arity (used_of h table)) k []

  abbrev pub flag_of : ℕ → ℕ
  flag_of k = (entry (used_of h table) k).flag

  module _ (k : ℕ) (l : k < h.used) where
    pub flag_low : flag_of k < 16
    flag_low = below_sixteen S.few_places (S.records k l).flag_below

    pub lists_some : 0 < length (rows_of k)
    lists_some =
        some_rows h.arity (used_of h table) h.nodes h.used (omega (arith, used_length h table S.used_there)) S.records k l

  module _ (work : List ℕ) where
    -- the weighed work is as long as it was
    pub weighed_length : h.used ≤ length work → length (over (weights h table) work) ≡ length work
    weighed_length room = over_length (weights h table) work (omega (arith, weights_length h table S.used_there))

    -- behind the cells it is as it was
    pub behind_cells : drop h.used (over (weights h table) work) ≡ drop h.used work
    behind_cells =
        drop_at (weights h table) (drop (length (weights h table)) work) h.used (weights_length h table S.used_there)
        ∙ ap (λ (n : ℕ). drop n work) (weights_length h table S.used_there)

    module _ (k : ℕ) (l : k < h.used) where
      pub cell : get_or (over (weights h table) work) k 0 ≡ 16 * length (rows_of k) + flag_of k
      cell =
          over_within (weights h table) work k (omega (arith, weights_length h table S.used_there))
          ∙ weights_at h table S.used_there k l

      pub cell_rows : rows_in (get_or (over (weights h table) work) k 0) ≡ length (rows_of k)
      cell_rows = ap rows_in cell ∙ rows_in_lem (length (rows_of k)) (flag_of k) (flag_low k l)
