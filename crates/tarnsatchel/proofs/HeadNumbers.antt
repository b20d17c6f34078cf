-- The six numbers of a head: a head that is written and read again is the same, and a set of an unknown kind is never sound.
use mathlib.Core.Bool.{Bool, false, true}
use mathlib.Core.List.{List}
use mathlib.Core.Path.{◌≡◌, ap, refl, subst}
use Prim.Native.Nat.{ℕ, ◌<◌}
use native.Mathlib.Omega.{arith}
use lib.ListN.{get_or}
use Rattle.paper.specs.declared.Head.{Head}
use Rattle.paper.specs.declared.Record.{Record}
use Rattle.paper.specs.declared.Set.{Set}
use Rattle.paper.specs.declared.Set.TheVariants.{Empty, Unit, Record as At}
use Rattle.paper.specs.Records.{used_of}
use Rattle.paper.specs.Sound.{sound}
use Rattle.laws.specs.QuestionCauses.{SetFits}
use Rattle.laws.proofs.SoundTest.{sound_is}
use Rattle.laws.proofs.Tests.{fails_equal}
use Rattle.tarnsatchel.specs.Told.{head_numbers, head_of, no_record, set_kind, set_of, set_record}

set_again : (s : Set) → set_of (set_kind s) (set_record s) ≡ s
set_again Empty = refl
set_again Unit = refl
set_again (At i) = refl

pub head_again : (h : Head) → head_of (head_numbers h) ≡ h
head_again h =
    ap (λ (s : Set). record { nodes = h.nodes; arity = h.arity; open_places = h.open_places; used = h.used; set = s }) (set_again h.set)

pub other_kind : (kind i : ℕ) → (kind ≡ 0 → ⊥) → (kind ≡ 1 → ⊥) → (kind ≡ 2 → ⊥) → set_of kind i ≡ At no_record
other_kind kind i a b c = rw ((fails_equal kind 0).1 a, (fails_equal kind 1).1 b, (fails_equal kind 2).1 c)

pub unknown_set : (numbers : List ℕ) (table : List Record) → 2 < get_or numbers 4 0 → sound (head_of numbers) table ≡ false
unknown_set numbers table other = go (sound (head_of numbers) table) refl
  where
    h : Head
    h = head_of numbers

    names_no_record : h.set ≡ At no_record
    names_no_record = other_kind (get_or numbers 4 0) (get_or numbers 5 0) (λ e. omega arith) (λ e. omega arith) (λ e. omega arith)

    go : (c : Bool) → sound h table ≡ c → c ≡ false
    go false e = refl
    go true e =
        let s = sound_is h table e in
        let root = subst (SetFits h (used_of h table)) names_no_record s.set in
        absurd (omega (arith, s.few_used, root.0))
