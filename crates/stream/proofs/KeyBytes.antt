-- The key of the record at a position as the code makes it of the bytes. First that the bytes are there, then the key for each kind.
use mathlib.Core.Bool.{true}
use mathlib.Core.List.{List}
use mathlib.Core.Logic.{◌⊎◌, inl, inr, ⊎_elim}
use mathlib.Core.Path.{◌≡◌, ap}
use Prim.Native.Nat.{◌*◌, ◌+◌, ◌<◌, ◌≤◌, ℕ}
use native.Mathlib.Omega.{arith}
use borrow.Author.Tests.{eqb-true}
use lib.Dec.{eqb}
use lib.ListN.{get_or, length}
use Rattle.paper.specs.Query.{is_rule_kind}
use Rattle.paper.specs.Stream.{StreamRecord, body_length, number}
use Rattle.laws.proofs.Lists.{or_cases}
use Rattle.stream.specs.Keys.{ends_of, flags_of, key_of}
use Rattle.stream.specs.Positions.{after, record_at}
use Rattle.stream.specs.Reading.{QueryFacts}
use Rattle.stream.proofs.Positions.{number_byte}

-- ---- the bytes
module _ (input : List ℕ) (at : ℕ) (inside : after input at ≤ length input) where
  module _ (rule : is_rule_kind (get_or input at 0) ≡ true) where
    kinds : (get_or input at 0 ≡ 17) ⊎ (get_or input at 0 ≡ 18)
    kinds =
        ⊎_elim (λ e. inl (eqb-true (get_or input at 0) 17 e)) (λ e. inr (eqb-true (get_or input at 0) 18 e))
        (or_cases (eqb (get_or input at 0) 17) (eqb (get_or input at 0) 18) rule)

    pub branch_long : (get_or input at 0 ≡ 17 → ⊥) → (get_or input at 0 ≡ 18) × (at + 6 ≤ length input)
    branch_long n = ⊎_elim (λ e. absurd (n e)) (λ e. (e, omega (arith, inside, ap body_length e))) kinds

-- ---- the key
module _ (input : List ℕ) (f : QueryFacts) (at : ℕ) where
  abbrev r : StreamRecord
  r = record_at input at

  -- of a rule: numbers that are its label and its flag, and those of the query's flags and ends
  module _ (label flag flags ends : ℕ) (a : label ≡ get_or input (at + 1) 0) (b : flag ≡ get_or input (at + 2) 0) (x : flags ≡ flags_of f)
      (y : ends ≡ ends_of f) where
    label_and_flag : (n : ℕ) → get_or input at 0 ≡ n → 1 < body_length n
        → (label * flags + flag) * ends ≡ (number r 0 * flags_of f + number r 1) * ends_of f
    label_and_flag n e h =
        cc (number_byte input at n 0 (at + 1) e (omega arith) (omega arith), number_byte input at n 1 (at + 2) e (omega arith) (omega arith))

    pub branch_bytes : (left right : ℕ) → left ≡ get_or input (at + 3) 0 → right ≡ get_or input (at + 4) 0 → get_or input at 0 ≡ 18
        → 16 + (label * flags + flag) * ends + 1 + left * f.states + right ≡ key_of f r
    branch_bytes left right p q e = rw (ap (λ n. eqb n 17) e, ap (λ n. eqb n 19) e) (omega (arith, label_and_flag 18 e (omega arith), product, last))
      where
        product : left * f.states ≡ number r 2 * f.states
        product = cc (number_byte input at 18 2 (at + 3) e (omega arith) (omega arith))

        last : right ≡ number r 3
        last = cc (number_byte input at 18 3 (at + 4) e (omega arith) (omega arith))
