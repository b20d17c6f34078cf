-- The pass over the records of a sound set: what holds before each turn, that a turn keeps it, and what the root's cell says at the end.
use mathlib.Core.Bool.{Bool, false, or-false, true}
use mathlib.Core.List.{List, []}
use mathlib.Core.Logic.{⊎_elim}
use mathlib.Core.Path.{◌∙◌, ◌≡◌, ap, refl, subst, sym}
use Prim.Native.Nat.{◌+◌, ◌<◌, ◌≤◌, ℕ}
use native.Mathlib.Omega.{arith}
use borrow.Author.Tests.{eqb-false, eqb-true}
use lib.Dec.{eqb}
use lib.ListN.{drop, get_or, length, replicate, set, take}
use lib.Seq.{drop-set-lt, get_or-set_other, get_or-set_same, get_or-take, length-take-le}
use Rattle.std.specs.Int.{from_bool}
use Rattle.paper.specs.declared.Head.{Head}
use Rattle.paper.specs.declared.Record.{Record}
use Rattle.paper.specs.declared.Set.TheVariants.{Record as at, Unit as unit}
use Rattle.paper.specs.declared.kinds.RecordKind.{RecordKind}
use Rattle.paper.specs.declared.kinds.RecordKind.TheVariants.{Single, Union, Product}
use Rattle.paper.specs.Kinds.{kind_number}
use Rattle.paper.specs.Lists.{same}
use Rattle.paper.specs.Questions.{is_listed}
use Rattle.paper.specs.Records.{blank_entry, listing, listings, set_rows, used_of}
use Rattle.paper.specs.Row.{Row, blank}
use Rattle.paper.specs.Sound.{entry}
use Rattle.laws.specs.QuestionCauses.{SetFits, SoundAt}
use Rattle.laws.proofs.Lists.{same_refl}
use Rattle.sound.proofs.Cells.{used_length}
use Rattle.member.specs.Pass.{Finds, Fitting}
use Rattle.member.specs.Rows.{Reads, lists}
use Rattle.member.proofs.Cells.{cell_one, listed_at, turn_lists}
use Rattle.member.proofs.Restricted.{fits_restricted, restricted, restricted_none}

-- record i lists the row restricted to its flag
abbrev pub lists_at : Head → List Record → Row → ℕ → Bool
lists_at h table row = listed_at h.arity (used_of h table) row

-- before the turn of record i the cells of those below it are right, and what stands behind the cells is as it was
pub record Passing (h : Head) (table : List Record) (row : Row) (before : List ℕ) (i : ℕ) (work : List ℕ) : Type 0 where
  pub cells : (j : ℕ) → j < i → get_or work j 0 ≡ from_bool (lists_at h table row j)
  pub rest : drop h.used work ≡ drop h.used before

module _ {h : Head} {table : List Record} {work : List ℕ} {row : Row} (F : Fitting h table work row) where
  used_long : length (used_of h table) ≡ h.used
  used_long = used_length h table F.sound.used_there

  sounds : (i : ℕ) → i < length (used_of h table) → SoundAt h.arity h.nodes (used_of h table) i (entry (used_of h table) i)
  sounds i l = F.sound.records i (omega (arith, used_long))

  module _ {root : ℕ} (is : h.set ≡ at root) where
    -- the root is a used record, with the open places as its flag
    root_fits : SetFits h (used_of h table) (at root)
    root_fits = subst (SetFits h (used_of h table)) is F.sound.set

    root_inside : root < h.used
    root_inside = root_fits.0

    -- the records of the pass
    abbrev passed : List Record
    passed = take (root + 1) table

    passed_long : root + 1 ≡ length passed
    passed_long = sym (length-take-le (root + 1) table (omega (arith, root_inside, F.sound.used_there)))

    -- ---- a turn
    module _ (i : ℕ) (within : i < length passed) where
      inside : i < h.used
      inside = omega (arith, passed_long, root_inside)

      read : entry (used_of h table) i ≡ entry passed i
      read =
          get_or-take h.used table i blank_entry inside
          ∙ sym (get_or-take (root + 1) table i blank_entry (omega (arith, passed_long)))

      -- the record has a kind, and its operands do not stand behind it
      pub reads : (now : List ℕ) → length now ≡ length work → Reads (entry passed i) now
      reads now long = subst (λ (r : Record). Reads r now) read (
          ⊎_elim (λ e. kept Single e.0 (omega (arith, e.1)) (omega (arith, e.2)))
          (⊎_elim (λ e. kept Union e.0 (omega (arith, e.1)) (omega (arith, e.2))) (λ e. kept Product e.0 (omega (arith, e.1)) (omega (arith, e.2))))
          (sounds i (omega (arith, used_long, inside))).kind
          )
        where
          kept : (k : RecordKind) → (entry (used_of h table) i).kind ≡ kind_number k → (entry (used_of h table) i).left ≤ i
              → (entry (used_of h table) i).right ≤ i → Reads (entry (used_of h table) i) now
          kept k is left right = record { kind = (k, is); left = omega (arith, F.room, inside); right = omega (arith, F.room, inside) }

      pub onward : {now : List ℕ} → length now ≡ length work → Passing h table row work i now
          → Passing h table row work (i + 1) (set now i (from_bool (lists row now (entry passed i))))
      onward {now} long P = rw found (record {
        cells = λ j l. go j l (eqb j i) refl;
        rest = drop-set-lt h.used now i (from_bool (lists_at h table row i)) inside ∙ P.rest;
      })
        where
          found : lists row now (entry passed i) ≡ lists_at h table row i
          found =
              ap (lists row now) (sym read)
              ∙ turn_lists h.arity h.nodes F.sound.few_nodes (used_of h table) sounds row F.long i (omega (arith, used_long, inside)) now P.cells

          go : (j : ℕ) → j < i + 1 → (c : Bool) → eqb j i ≡ c
              → get_or (set now i (from_bool (lists_at h table row i))) j 0 ≡ from_bool (lists_at h table row j)
          go j l true e =
              rw (eqb-true j i e) (get_or-set_same now i (from_bool (lists_at h table row i)) 0 (omega (arith, F.room, inside)))
          go j l false e =
              get_or-set_other now i j (from_bool (lists_at h table row i)) 0 (eqb-false j i e) ∙ P.cells j (omega (arith, eqb-false j i e))

    -- ---- the end
    -- the root lists the row exactly where the set does
    root_lists : lists_at h table row root ≡ is_listed (listing h table) row
    root_lists =
        (λ k. is_listed (get_or (listings h.arity (used_of h table)) root []) (restricted (root_fits.1 k) row))
        ∙ (let e = sym is in
        λ k. is_listed (set_rows h.arity (listings h.arity (used_of h table)) (e k)) (fits_restricted h row F.fits k))

    pub finds : {i : ℕ} {now : List ℕ} → length passed ≤ i → Passing h table row work i now → Finds h table work row (eqb (get_or now root 0) 1) now
    finds all P = record {
      listed =
          ap (λ (n : ℕ). eqb n 1) (P.cells root (omega (arith, passed_long)))
          ∙ cell_one (lists_at h table row root) ∙ root_lists;
      rest = P.rest;
    }

  -- unit has no open place, so a row that fits is all blank
  pub finds_unit : h.set ≡ unit → Finds h table work row true work
  finds_unit is = record {
    listed =
        let none : h.open_places ≡ 0 = subst (SetFits h (used_of h table)) is F.sound.set in
        let all : row ≡ replicate h.arity blank =
        sym (fits_restricted h row F.fits) ∙ ap (λ (b : ℕ). restricted b row) none ∙ restricted_none row
        ∙ ap (λ (n : ℕ). replicate n blank) F.long in
        rw (is, all) (sym (or-false (same (replicate h.arity blank) (replicate h.arity blank)) ∙ same_refl (replicate h.arity blank)));
    rest = refl;
  }
