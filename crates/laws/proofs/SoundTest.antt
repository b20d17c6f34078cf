-- The test `sound` says what the statement `Sound` says.
-- First the tests on rows and on the set, then all of them at once.
use mathlib.Core.Bool.{true}
use mathlib.Core.List.{List, [], ◌∷◌}
use mathlib.Core.Logic.Iff
use mathlib.Core.Path.{◌∙◌, ◌≡◌, refl, sym}
use Prim.Native.Nat.{◌<◌, ◌^◌, ◌≤◌, suc, zero, ℕ}
use native.Mathlib.Omega.{arith}
use lib.ListN.{get_or, length, set}
use lib.Seq.{length-take-le}
use Rattle.paper.specs.Records.{listings, used_of}
use Rattle.paper.specs.Row.{Row}
use Rattle.paper.specs.Sound.{entry, few_rows, most_rows, sound, sound_records, sound_set}
use Rattle.laws.specs.Plain.{Head, Record, Set, at, empty, unit}
use Rattle.laws.specs.QuestionCauses.{SetFits, Sound, SoundAt}
use Rattle.laws.proofs.Listings.{length_listings}
use Rattle.laws.proofs.SoundRecords.{sound_from_all, sound_records_true, true_sound_records}
use Rattle.laws.proofs.Tests.{Says, says_and, says_at_most, says_below, says_equal, says_nothing}

-- ---- the tests
-- every listing has few rows
says_few_rows : (n : ℕ) (lists : List (List Row)) → Says (few_rows n lists) ((i : ℕ) → i < length lists → length (get_or lists i []) ≤ n)
says_few_rows n [] = (λ e i h. absurd (omega arith), λ w. refl)
says_few_rows n (rows ∷ more) =
    Iff.trans (says_and (says_at_most (length rows) n) (says_few_rows n more)) (by_number, λ w. (w 0 (omega arith), λ i h. w (suc i) (omega arith)))
  where
    by_number : (length rows ≤ n) × ((i : ℕ) → i < length more → length (get_or more i []) ≤ n)
        → (i : ℕ) → i < length (rows ∷ more) → length (get_or (rows ∷ more) i []) ≤ n
    by_number w zero h = w.0
    by_number w (suc i) h = w.1 i (omega arith)

-- ---- the records and the set
-- each used record is sound at its number
says_records : (arity nodes : ℕ) (records : List Record)
    → Says (sound_records arity nodes [] records) ((i : ℕ) → i < length records → SoundAt arity nodes records i (entry records i))
says_records arity nodes records =
    Iff.trans (sound_records_true arity nodes [] records, true_sound_records arity nodes [] records) (sound_from_all arity nodes records)

-- the set fits its records
says_set : (h : Head) (used : List Record) (s : Set) → Says (sound_set h used s) (SetFits h used s)
says_set h used empty = says_nothing
says_set h used unit = says_equal h.open_places 0
says_set h used (at i) = says_and (says_below i h.used) (says_equal (entry used i).flag h.open_places)

-- ---- all the tests
-- of the same numbers
as_many : {P : ℕ → Type 0} {m n : ℕ} → m ≡ n → ((i : ℕ) → i < m → P i) → (i : ℕ) → i < n → P i
as_many e f i l = f i (omega arith)

module _ (h : Head) (table : List Record) where
  -- a table that has the used records has one record and one listing for each number below
  used_length : h.used ≤ length table → length (used_of h table) ≡ h.used
  used_length there = length-take-le h.used table there

  listed_length : h.used ≤ length table → length (listings h.arity (used_of h table)) ≡ h.used
  listed_length there = length_listings h.arity (used_of h table) ∙ used_length there

  says_sound : Says (sound h table) (Sound h table)
  says_sound =
      Iff.trans
      (says_and (says_at_most 1 h.nodes)
      (says_and (says_at_most h.nodes 4095)
      (says_and (says_at_most 1 h.arity)
      (says_and (says_at_most h.arity 4)
      (says_and (says_below h.open_places (2 ^ h.arity))
      (says_and (says_at_most h.used 60000)
      (says_and (says_at_most h.used (length table))
      (says_and (says_records h.arity h.nodes (used_of h table))
      (says_and (says_few_rows most_rows (listings h.arity (used_of h table)))
      (says_and (says_set h (used_of h table) h.set) says_nothing)))))))))) (
        λ (a, (b, (c, (d, (e, (f, (there, (records, (rows, (set, u)))))))))). record {
          some_nodes = a;
          few_nodes = b;
          some_places = c;
          few_places = d;
          open_below = e;
          few_used = f;
          used_there = there;
          records = as_many (used_length there) records;
          rows_within = as_many (listed_length there) rows;
          set = set;
        },
        λ record {
          some_nodes = a;
          few_nodes = b;
          some_places = c;
          few_places = d;
          open_below = e;
          few_used = f;
          used_there = there;
          records = records;
          rows_within = rows;
          set = set;
        }. (a, (b, (c, (d, (e, (f, (there, (as_many (sym (used_length there)) records, (as_many (sym (listed_length there)) rows, (set, tt)))))))))),
      )

  -- a set that passes the test is sound, and a sound set passes it
  pub sound_is : sound h table ≡ true → Sound h table
  sound_is = says_sound.0

  pub is_sound : Sound h table → sound h table ≡ true
  is_sound = says_sound.1
