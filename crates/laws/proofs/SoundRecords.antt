-- The test of the used records, `sound_records`, says what `SoundAt` says of each of them.
-- First one record after those before it; then the records in order, and by number.
use mathlib.Core.Bool.{Bool, ◌&&◌, true}
use mathlib.Core.List.{List, [], ◌++◌, ◌∷◌}
use mathlib.Core.Logic.Iff
use mathlib.Core.Logic.{◌↔◌, ◌⊎◌, inl, inr, ⊎_elim}
use mathlib.Core.Path.{◌≡◌, sym}
use Prim.Native.Nat.{◌+◌, ◌<◌, ◌^◌, suc, zero, ℕ}
use native.Mathlib.Nat.{zero-add}
use native.Mathlib.Omega.{arith}
use lib.Dec.{eqb}
use lib.ListN.{get_or-append, length, length-append}
use lib.Seq.{append_snoc}
use Rattle.paper.specs.Records.{blank_entry}
use Rattle.paper.specs.Sound.{entry, operands, sound_kind, sound_record, sound_records}
use Rattle.laws.specs.Plain.{Record}
use Rattle.laws.specs.QuestionCauses.{IsProduct, IsSingle, IsUnion, SoundAt}
use Rattle.laws.proofs.Tests.{Says, says_and, says_below, says_equal, says_nothing, says_or}

-- each record of the rest is sound after those before it
abbrev pub SoundFrom : (arity nodes : ℕ) → List Record → List Record → Type 0
SoundFrom arity nodes before [] = Unit {0}
SoundFrom arity nodes before (r ∷ rest) = SoundAt arity nodes before (length before) r × SoundFrom arity nodes (before ++ (r ∷ [])) rest

-- ---- one record after those before it
module _ (before : List Record) (r : Record) where
  says_single : Says (eqb r.kind 1 && (eqb r.left 0 && eqb r.right 0)) (IsSingle r)
  says_single =
      Iff.trans (says_and (says_equal r.kind 1) (says_and (says_equal r.left 0) (says_equal r.right 0)))
      (λ (kind, (left, right)). (kind, left, right), λ (kind, left, right). (kind, (left, right)))

  -- what unions and products share: the kind, operands with lower numbers, and two facts on the operands' flags
  says_operands : (kind : ℕ) {c : Bool} {P Q : Type 0} → Says c (P × Q)
      → Says (eqb r.kind kind && operands before r (λ a b. c)) ((r.kind ≡ kind) × (r.left < length before) × (r.right < length before) × P × Q)
  says_operands kind f =
      Iff.trans
      (says_and (says_equal r.kind kind)
      (says_and (says_below r.left (length before)) (says_and (says_below r.right (length before)) (says_and f says_nothing))))
      (λ (k, (left, (right, ((p, q), u)))). (k, left, right, p, q), λ (k, left, right, p, q). (k, (left, (right, ((p, q), tt)))))

  -- a record is a single, a union or a product
  says_kind : Says (sound_kind before r) (IsSingle r ⊎ (IsUnion before (length before) r ⊎ IsProduct before (length before) r))
  says_kind =
      says_or says_single
      (says_or (says_operands 2 (says_and (says_equal _ _) (says_equal _ _))) (says_operands 3 (says_and (says_equal _ _) (says_equal _ _))))

module _ (arity nodes : ℕ) where
  module _ (before : List Record) (r : Record) where
    -- the test of one record is the statement for the number after those before it
    says_sound_record : Says (sound_record arity nodes before r) (SoundAt arity nodes before (length before) r)
    says_sound_record =
        Iff.trans
        (says_and (says_below r.node nodes)
        (says_and (says_below 0 r.flag) (says_and (says_below r.flag (2 ^ arity)) (says_and (says_kind before r) says_nothing)))) (
          λ (node, (above, (below, (kind, u)))). record { node = node; flag_above = above; flag_below = below; kind = kind },
          λ s. (s.node, (s.flag_above, (s.flag_below, (s.kind, tt)))),
        )

  -- ---- the records in order
  says_sound_records : (before rest : List Record) → Says (sound_records arity nodes before rest) (SoundFrom arity nodes before rest)
  says_sound_records before [] = says_nothing
  says_sound_records before (r ∷ rest) = says_and (says_sound_record before r) (says_sound_records (before ++ (r ∷ [])) rest)

  -- the test of the rest is the statement for each in order
  pub sound_records_true : (before rest : List Record) → sound_records arity nodes before rest ≡ true → SoundFrom arity nodes before rest
  sound_records_true before rest = (says_sound_records before rest).0

  pub true_sound_records : (before rest : List Record) → SoundFrom arity nodes before rest → sound_records arity nodes before rest ≡ true
  true_sound_records before rest = (says_sound_records before rest).1

  -- ---- the records by number
  -- whether record i is sound depends only on the entries with lower numbers
  pub sound_at_agree : (xs ys : List Record) (i : ℕ) (r : Record) → ((j : ℕ) → j < i → entry xs j ≡ entry ys j)
      → SoundAt arity nodes xs i r → SoundAt arity nodes ys i r
  sound_at_agree xs ys i r agree s =
      record {
        node = s.node;
        flag_above = s.flag_above;
        flag_below = s.flag_below;
        kind = ⊎_elim inl (λ k. inr (⊎_elim (λ u. inl (union u)) (λ p. inr (product p)) k)) s.kind;
      }
    where
      union : IsUnion xs i r → IsUnion ys i r
      union u = (u.0, u.1, u.2, (rw (agree r.left u.1) at u).3, (rw (agree r.right u.2) at u).4)

      product : IsProduct xs i r → IsProduct ys i r
      product p =
          let l = agree r.left p.1 in
          let m = agree r.right p.2 in
          (p.0, p.1, p.2, (rw (l, m) at p).3, (rw (l, m) at p).4)

  -- a record after those before it, and at its number in the whole list
  module _ (before : List Record) (r : Record) (rest : List Record) where
    in_whole : SoundAt arity nodes before (length before) r ↔ SoundAt arity nodes (before ++ r ∷ rest) (length before + 0) r
    in_whole =
        let z : length before + 0 ≡ length before = omega arith in
        rw z (
          sound_at_agree before (before ++ r ∷ rest) (length before) r (λ j h. sym (agree j h)),
          sound_at_agree (before ++ r ∷ rest) before (length before) r agree,
        )
      where
        agree : (j : ℕ) → j < length before → entry (before ++ r ∷ rest) j ≡ entry before j
        agree j h = get_or-append before (r ∷ rest) blank_entry j h

    -- number j of the rest after r is number j + 1 with r in front
    one_further : (j : ℕ) (s : Record)
        → SoundAt arity nodes (before ++ (r ∷ []) ++ rest) (length (before ++ (r ∷ [])) + j) s
        ≡ SoundAt arity nodes (before ++ r ∷ rest) (length before + suc j) s
    one_further j s =
        let z : length (before ++ (r ∷ [])) + j ≡ length before + suc j = omega (arith, length-append before (r ∷ [])) in
        rw (append_snoc before r rest, z)

  from_each : (before rest : List Record) → SoundFrom arity nodes before rest → (j : ℕ) → j < length rest
      → SoundAt arity nodes (before ++ rest) (length before + j) (entry rest j)
  from_each before [] s j h = absurd (omega arith)
  from_each before (r ∷ rest) s zero h = (in_whole before r rest).0 s.0
  from_each before (r ∷ rest) s (suc j) h =
      rw (← one_further before r rest j (entry rest j)) (from_each (before ++ (r ∷ [])) rest s.1 j (omega arith))

  each_from : (before rest : List Record) → ((j : ℕ) → j < length rest → SoundAt arity nodes (before ++ rest) (length before + j) (entry rest j))
      → SoundFrom arity nodes before rest
  each_from before [] s = tt
  each_from before (r ∷ rest) s = (
    (in_whole before r rest).1 (s 0 (omega arith)),
    each_from (before ++ (r ∷ [])) rest (λ j h. rw (one_further before r rest j (entry rest j)) (s (suc j) (omega arith))),
  )

  -- each record is sound after those before it exactly where each is at its number
  pub sound_from_all : (records : List Record)
      → SoundFrom arity nodes [] records ↔ ((i : ℕ) → i < length records → SoundAt arity nodes records i (entry records i))
  sound_from_all records = (λ s i h. rw (zero-add i) at (from_each [] records s i h), λ s. each_from [] records (λ i h. rw (zero-add i) (s i h)))
