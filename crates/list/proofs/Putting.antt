-- The entries of a row put one after the other, and how many bytes they take.
use mathlib.Core.List.{List, [], ◌++◌, ◌∷◌, append_assoc, append-nil}
use mathlib.Core.Path.{◌∙◌, ◌≡◌, ap, refl, sym}
use Prim.Native.Nat.{◌*◌, ◌+◌, ◌<◌, ◌≤◌, suc, zero, ℕ}
use native.Mathlib.Numerals.{add-one}
use native.Mathlib.Omega.{arith}
use lib.ListN.{get_or, length, length-append, length-take, take}
use Rattle.list.specs.Bounds.{longest_entry, longest_line}
use Rattle.list.specs.Text.{entries_from, entry_text, line_text, row_text}
use Rattle.lines.specs.Put.{put}
use Rattle.lines.specs.Text.{number_text}
use Rattle.lines.proofs.Numbers.{number_short}
use Rattle.lines.proofs.Putting.{puts}

-- one entry more
more_entries : (row : List ℕ) (place k : ℕ) → k < length row
    → entries_from place (take (suc k) row) ≡ entries_from place (take k row) ++ entry_text (place + k) (get_or row k 0)
more_entries [] place k h = absurd (omega (arith, h))
more_entries (x ∷ row) place zero h =
    append-nil (entry_text place x) ∙ ap (λ (p : ℕ). entry_text p x) (let z : place ≡ place + 0 = omega arith in z)
more_entries (x ∷ row) place (suc k) h =
    ap (λ (bytes : List ℕ). entry_text place x ++ bytes) (more_entries row (suc place) k (omega (arith, h)))
    ∙ sym (append_assoc (entry_text place x) (entries_from (suc place) (take k row)) (entry_text (suc place + k) (get_or row k 0)))
    ∙ ap (λ (p : ℕ). entry_text place x ++ entries_from (suc place) (take k row) ++ entry_text p (get_or row k 0))
    (let z : suc place + k ≡ place + suc k = omega arith in z)

-- an entry behind a text that has room for it
module _ (size place n : ℕ) (text : List ℕ) (room : length text + longest_entry ≤ size) where
  pub puts_first : place ≡ 0 → put size (number_text n) text ≡ text ++ entry_text place n
  puts_first first = puts size (number_text n) text (omega (arith, room, number_short n)) ∙ ap (λ (k : ℕ). text ++ entry_text k n) (sym first)

  pub puts_later : 0 < place → put size (number_text n) (put size (32 ∷ []) text) ≡ text ++ entry_text place n
  puts_later later =
      ap (put size (number_text n)) (puts size (32 ∷ []) text (omega (arith, room)))
      ∙ puts size (number_text n) (text ++ (32 ∷ [])) (omega (arith, room, number_short n, length-append text (32 ∷ [])))
      ∙ append_assoc text (32 ∷ []) (number_text n)
      ∙ ap (λ (bytes : List ℕ). text ++ bytes) (as_entry place later)
    where
      as_entry : (k : ℕ) → 0 < k → 32 ∷ number_text n ≡ entry_text k n
      as_entry zero none = absurd (omega (arith, none))
      as_entry (suc k) some = refl

-- an entry has at most 21 bytes
pub entry_short : (place n : ℕ) → length (entry_text place n) ≤ longest_entry
entry_short zero n = omega (arith, number_short n)
entry_short (suc place) n = omega (arith, number_short n)

-- a row has at most 21 bytes an entry
entries_short : (row : List ℕ) (place : ℕ) → length (entries_from place row) ≤ longest_entry * length row
entries_short [] place = omega arith
entries_short (x ∷ row) place =
    omega (arith, length-append (entry_text place x) (entries_from (suc place) row), entry_short place x, entries_short row (suc place))

pub row_short : (row : List ℕ) → length (row_text row) ≤ longest_entry * length row
row_short row = entries_short row 0

-- an entry more in a row of at most four, behind what is put of it
module _ (size : ℕ) (row text : List ℕ) (place : ℕ) (places : length row ≤ 4) (below : place < length row) (room : length text + longest_line ≤ size) where
  abbrev so_far : List ℕ
  so_far = text ++ row_text (take place row)

  pub room_for_entry : length so_far + longest_entry ≤ size
  room_for_entry =
      omega (arith, room, places, below, length-append text (row_text (take place row)), row_short (take place row), length-take place row)

  pub entry_more : so_far ++ entry_text place (get_or row place 0) ≡ text ++ row_text (take (place + 1) row)
  entry_more =
      append_assoc text (row_text (take place row)) (entry_text place (get_or row place 0))
      ∙ ap (λ (bytes : List ℕ). text ++ bytes) (sym (ap (λ (k : ℕ). row_text (take k row)) (add-one place) ∙ more_entries row 0 place below ∙ z))
    where
      z : row_text (take place row) ++ entry_text (0 + place) (get_or row place 0) ≡ row_text (take place row) ++ entry_text place (get_or row place 0)
      z = ap (λ (k : ℕ). row_text (take place row) ++ entry_text k (get_or row place 0)) (omega arith)

-- the end of the line behind all entries
pub puts_end : (size : ℕ) (row text : List ℕ) → length row ≤ 4 → length text + longest_line ≤ size
    → put size (10 ∷ []) (text ++ row_text row) ≡ text ++ line_text row
puts_end size row text places room =
    puts size (10 ∷ []) (text ++ row_text row) (omega (arith, room, places, row_short row, length-append text (row_text row)))
    ∙ append_assoc text (row_text row) (10 ∷ [])
