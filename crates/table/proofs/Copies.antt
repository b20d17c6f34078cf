-- What a loop that writes entry after entry has written so far: `lib.Seq`'s `paste`, of a list of records over the entries of a table.
-- One more record, and all of them.
use mathlib.Core.Path.{◌≡◌, sym, ap, ◌∙◌}
use Prim.Native.Nat.{ℕ, ◌+◌, ◌<◌}
use native.Mathlib.Omega.{arith}
use native.Mathlib.Numerals.{add-one}
use mathlib.Core.List.{List, ◌++◌, append_assoc}
use lib.ListN.{length, get_or, set, take, drop}
use lib.Seq.{paste, paste-suc, take_all}

module _ {A : Type 0} (table records : List A) (from : ℕ) where
  -- one more record
  pub paste_next : (i : ℕ) (r other : A) (entries : List A) → from + i < length table → i < length records → get_or records i other ≡ r
      → entries ≡ paste table from records i
      → set entries (from + i) r ≡ paste table from records (i + 1)
  paste_next i r other entries inside more is so_far =
      (λ k. set (so_far k) (from + i) (sym is k)) ∙ paste-suc table from records i other inside more ∙ ap (λ (n : ℕ). paste table from records n)
      (sym (add-one i))

  -- all of them, as the contract of `store` says it
  pub pasted : (n : ℕ) → length records ≡ n → paste table from records n ≡ take from table ++ (records ++ drop (from + n) table)
  pasted n long =
      append_assoc (take from table) (take n records) (drop (from + n) table) ∙ ap (λ (l : List A). take from table ++ (l ++ drop (from + n) table))
      (take_all n records (omega (arith, long)))
