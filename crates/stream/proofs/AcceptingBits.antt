-- The accepting states as bits of a number. First a bit put in, then the states of the records passed, one
-- record more, and all of them.
use mathlib.Core.Bool.{Bool, ◌||◌, cond, false, or_assoc, or-false, true}
use mathlib.Core.List.{List, [], ◌∷◌}
use mathlib.Core.Path.{◌∙◌, ◌≡◌, ap, refl, sym}
use Prim.Native.Nat.{◌%◌, ◌*◌, ◌+◌, ◌<◌, ◌^◌, ◌≤◌, ℕ}
use native.Mathlib.Omega.{arith}
use borrow.Author.Tests.{eq-eqb}
use lib.Bits.{bit_or}
use lib.Dec.{eqb}
use lib.ListN.{drop, get_or, length}
use lib.Pow.{shl_exact}
use Rattle.paper.specs.Lists.{has}
use Rattle.paper.specs.Query.{accepting_of}
use Rattle.paper.specs.Questions.{has_place}
use Rattle.paper.specs.Stream.{StreamRecord, number, records_of}
use Rattle.laws.proofs.Bits.{no_places, shifted}
use Rattle.stream.specs.Positions.{after, record_at}
use Rattle.stream.specs.RuleLists.{AddsState}
use Rattle.stream.proofs.KeyTable.{digit_put}
use Rattle.stream.proofs.Positions.{number_byte, records_here, records_none}

-- ---- bits
-- a bit put in is there, and every other one stays as it is
bit_put : (j i a : ℕ) → has_place (bit_or a (2 ^ j)) i ≡ has_place a i || eqb j i
bit_put j i a = sym (shifted (bit_or a (2 ^ j)) i) ∙ digit_put a j i ∙ ap (λ c. c || eqb j i) (shifted a i)

-- ---- one record
module _ (input : List ℕ) (at old : ℕ) where
  module _ (kind : get_or input at 0 ≡ 19) where
    -- an accepting state has its own number and no other
    own_state : (q : ℕ) → has (accepting_of (record_at input at ∷ [])) q ≡ eqb (get_or input (at + 1) 0) q
    own_state q =
        rw (eq-eqb (get_or input at 0) 19 kind, number_byte input at 19 0 (at + 1) kind (omega arith) (omega arith))
        (or-false (eqb (get_or input (at + 1) 0) q))

    -- any other: its bit is 1 shifted, of which nothing is lost
    pub state_put : get_or input (at + 1) 0 < 16 → AddsState input at old (bit_or old (1 * 2 ^ get_or input (at + 1) 0 % 65536))
    state_put low q h =
        ap (λ b. has_place (bit_or old b) q) bit ∙ bit_put (get_or input (at + 1) 0) q old ∙ ap (λ c. has_place old q || c) (sym (own_state q))
      where
        bit : 1 * 2 ^ get_or input (at + 1) 0 % 65536 ≡ 2 ^ get_or input (at + 1) 0
        bit = shl_exact {a = 1} 1 (get_or input (at + 1) 0) 16 (omega arith) (omega arith) ∙ omega arith

-- ---- all records: a state is accepting from the start on if it has a bit, or is accepting from the position on
pub record StatesSoFar (input : List ℕ) (from at bits : ℕ) : Type 0 where
  pub states : (q : ℕ) → q < 16
      → has_place bits q || has (accepting_of (records_of (drop at input))) q ≡ has (accepting_of (records_of (drop from input))) q

-- no record passed
pub accepted_none : (input : List ℕ) (from : ℕ) → StatesSoFar input from from 0
accepted_none input from = record { states = λ q h. rw (no_places q) refl }

-- the states of a record, then those of the others
first_states : (r : StreamRecord) (rs : List StreamRecord) (q : ℕ)
    → has (accepting_of (r ∷ rs)) q ≡ has (accepting_of (r ∷ [])) q || has (accepting_of rs) q
first_states r rs q = go (eqb r.kind 19)
  where
    go : (c : Bool) → has (cond c (number r 0 ∷ accepting_of rs) (accepting_of rs)) q ≡ has (cond c (number r 0 ∷ []) []) q || has (accepting_of rs) q
    go true = ap (λ b. b || has (accepting_of rs) q) (sym (or-false (eqb (number r 0) q)))
    go false = refl

module _ (input : List ℕ) (from at bits : ℕ) (k : StatesSoFar input from at bits) where
  -- one more
  pub accepted_more : (to bits' : ℕ) → at < length input → to ≡ after input at → AddsState input at bits bits' → StatesSoFar input from to bits'
  accepted_more to bits' inside ends adds = record { states = after_it }
    where
      own : ℕ → Bool
      own q = has (accepting_of (record_at input at ∷ [])) q

      later : ℕ → Bool
      later q = has (accepting_of (records_of (drop (after input at) input))) q

      all : (q : ℕ) → own q || later q ≡ has (accepting_of (records_of (drop at input))) q
      all q =
          sym (first_states (record_at input at) (records_of (drop (after input at) input)) q)
          ∙ ap (λ rs. has (accepting_of rs) q) (sym (records_here input at inside))

      after_it : (q : ℕ) → q < 16
          → has_place bits' q || has (accepting_of (records_of (drop to input))) q ≡ has (accepting_of (records_of (drop from input))) q
      after_it q h =
          ap (λ p. has_place bits' q || has (accepting_of (records_of (drop p input))) q) ends ∙ ap (λ c. c || later q) (adds q h)
          ∙ or_assoc (has_place bits q) (own q) (later q) ∙ ap (λ c. has_place bits q || c) (all q) ∙ k.states q h

  -- none left
  pub accepted_all : length input ≤ at → (q : ℕ) → q < 16 → has_place bits q ≡ has (accepting_of (records_of (drop from input))) q
  accepted_all ended q h =
      sym (or-false (has_place bits q)) ∙ ap (λ rs. has_place bits q || has (accepting_of rs) q) (sym (records_none input at ended)) ∙ k.states q h
