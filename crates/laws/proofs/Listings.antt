-- The rows of a table's records: those of a new record, that the others' stay, and those of record i.
use mathlib.Core.List.{List, [], ◌++◌, ◌∷◌, append_assoc, append-nil}
use mathlib.Core.Path.{◌∙◌, ◌≡◌, ap, sym}
use Prim.Native.Nat.{◌+◌, ◌<◌, ◌≤◌, suc, ℕ}
use native.Mathlib.Omega.{arith}
use lib.ListN.{get_or-append, drop, get_or, length, length-append, take, take-append-drop}
use lib.Seq.{append_snoc, get_or_at, length-take-le, split_at}
use Rattle.paper.specs.Lists.{through}
use Rattle.paper.specs.Records.{blank_entry, listings, record_rows}
use Rattle.paper.specs.Row.{Row}
use Rattle.paper.specs.Sound.{entry}
use Rattle.laws.specs.Plain.{Record}
use Rattle.laws.proofs.Lists.{through_append}

module _ (k : ℕ) where
  -- ---- one more record
  -- the lists of the records so far, and that of the next
  abbrev with_next : List (List Row) → Record → List (List Row)
  with_next before r = before ++ (record_rows k before r ∷ [])

  -- a table with one more record has one more list
  pub listings_push : (table : List Record) (r : Record)
      → listings k (table ++ (r ∷ [])) ≡ listings k table ++ (record_rows k (listings k table) r ∷ [])
  listings_push table r = through_append with_next [] table (r ∷ [])

  length_through : (records : List Record) (before : List (List Row)) → length (through with_next before records) ≡ length before + length records
  length_through [] before = omega arith
  length_through (r ∷ rs) before = omega (arith, length_through rs (with_next before r), length-append before (record_rows k before r ∷ []))

  -- each record has one list
  pub length_listings : (table : List Record) → length (listings k table) ≡ length table
  length_listings table = omega (arith, length_through table [])

  -- the new record's is its rows
  pub get_d_pushed : (table : List Record) (r : Record)
      → get_or (listings k (table ++ (r ∷ []))) (length table) [] ≡ record_rows k (listings k table) r
  get_d_pushed table r =
      ap (λ (lists : List (List Row)). get_or lists (length table) []) (listings_push table r)
      ∙ get_or_at (listings k table) (record_rows k (listings k table) r) [] [] (length table) (length_listings table)

  -- ---- the others' stay
  grows : (records : List Record) (before : List (List Row)) → (new : List (List Row)) × (through with_next before records ≡ before ++ new)
  grows [] before = ([], sym (append-nil before))
  grows (r ∷ rs) before =
      let (new, e) = grows rs (with_next before r) in
      (record_rows k before r ∷ new, e ∙ append_assoc before (record_rows k before r ∷ []) new)

  -- a record's rows stay when records are added
  pub get_d_listings : (table more : List Record) (i : ℕ) → i < length table
      → get_or (listings k (table ++ more)) i [] ≡ get_or (listings k table) i []
  get_d_listings table more i h =
      let (new, e) = grows more (listings k table) in
      ap (λ (lists : List (List Row)). get_or lists i []) (through_append with_next [] table more ∙ e)
      ∙ get_or-append (listings k table) new [] i (omega (arith, length_listings table))

  -- ---- record i of a table
  -- its rows, from those of the first i
  pub listings_at : (table : List Record) (i : ℕ) → i < length table
      → get_or (listings k table) i [] ≡ record_rows k (listings k (take i table)) (entry table i)
  listings_at table i h =
      let before = take i table in
      let first = before ++ (entry table i ∷ []) in
      let after = drop (suc i) table in
      let n : length before ≡ i = length-take-le i table (omega arith) in
      let e : table ≡ first ++ after = split_at table i blank_entry h ∙ sym (append_snoc before (entry table i) after) in
      ap (λ (t : List Record). get_or (listings k t) i []) e
      ∙ get_d_listings first after i (omega (arith, n, length-append before (entry table i ∷ [])))
      ∙ ap (λ (j : ℕ). get_or (listings k first) j []) (sym n)
      ∙ get_d_pushed before (entry table i)

  -- the first i list what they list in the whole table
  pub listings_first : (table : List Record) (i j : ℕ) → i ≤ length table → j < i
      → get_or (listings k (take i table)) j [] ≡ get_or (listings k table) j []
  listings_first table i j h w =
      sym (get_d_listings (take i table) (drop i table) j (omega (arith, length-take-le i table h)))
      ∙ ap (λ (t : List Record). get_or (listings k t) j []) (take-append-drop i table)
