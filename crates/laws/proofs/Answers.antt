-- An answer is told by what it says: two results that say the same are the same. So a contract that fixes what is said fixes the answer.
-- First refusals, by what they say, then the results.
use mathlib.Core.Bool.{Bool}
use mathlib.Core.List.{[], ◌∷◌}
use mathlib.Core.Path.{◌∙◌, ◌≡◌, ap, refl, sym}
use Prim.Native.Nat.{◌-◌, ℕ}
use lib.ListN.{get_or}
use Rattle.std.specs.Prelude.{Err, Ok, Result}
use Rattle.paper.specs.declared.Head.{Head}
use Rattle.paper.specs.declared.Refusal.{Refusal}
use Rattle.paper.specs.declared.Refusal.TheVariants.{LongInput, Node, NotSound, Place, RowLength, RowNumber, ShortOutput, ShortTable, ShortWork, Text, UnitTwice}
use Rattle.paper.specs.declared.StreamRefusal.{StreamRefusal}
use Rattle.paper.specs.declared.StreamRefusal.TheVariants.{ManyNodes, Other, Query, Tree, Twice}
use Rattle.paper.specs.Answers.{no_of, no_of_stream, says, says_built}
use Rattle.paper.specs.Refusals.{No, Reply, answer, no, no_at, number_in, refused}

-- what is said, read back, is the answer: so two answers that say the same are one
pub told_apart : {A S : Type 0} (says : A → S) (back : S → A) → ((a : A) → back (says a) ≡ a) → (a b : A) → says a ≡ says b → a ≡ b
told_apart says back reads a b e = sym (reads a) ∙ ap back e ∙ reads b

-- ---- refusals
-- the refusal of a number
abbrev numbered : ℕ → Refusal
numbered n =
    get_or (ShortWork ∷ ShortTable ∷ Place ∷ Node ∷ RowNumber ∷ ShortOutput ∷ NotSound ∷ UnitTwice ∷ RowLength ∷ LongInput ∷ Text ∷ []) (n - 5)
    ShortWork

-- the refusal that says this, of those from 5 on
abbrev pub refusal_of : No → Refusal
refusal_of w = numbered (number_in w)

-- and of a stream, 1 to 4 with a position and the others alone
abbrev pub stream_refusal_of : No → StreamRefusal
stream_refusal_of (no_at n p) = get_or (Tree p ∷ ManyNodes p ∷ Query p ∷ Twice p ∷ []) (n - 1) (Tree p)
stream_refusal_of (no n) = Other (numbered n)

pub refusal_told : (r : Refusal) → refusal_of (no_of r) ≡ r
refusal_told ShortWork = refl
refusal_told ShortTable = refl
refusal_told Place = refl
refusal_told Node = refl
refusal_told RowNumber = refl
refusal_told ShortOutput = refl
refusal_told NotSound = refl
refusal_told UnitTwice = refl
refusal_told RowLength = refl
refusal_told LongInput = refl
refusal_told Text = refl

pub stream_refusal_told : (r : StreamRefusal) → stream_refusal_of (no_of_stream r) ≡ r
stream_refusal_told (Tree p) = refl
stream_refusal_told (ManyNodes p) = refl
stream_refusal_told (Query p) = refl
stream_refusal_told (Twice p) = refl
stream_refusal_told (Other r) = ap Other (refusal_told r)

-- ---- the answers
-- a result says its answer, or what its refusal says
module _ {A E : Type 0} (said : E → No) (back : No → E) (reads : (e : E) → back (said e) ≡ e) where
  abbrev result_of : Reply A → Result A E
  result_of (refused n) = Err (back n)
  result_of (answer a) = Ok a

  result_told : (r : Result A E) → result_of (says said r) ≡ r
  result_told (Ok a) = refl
  result_told (Err e) = ap Err (reads e)

  pub one_result : (a b : Result A E) → says said a ≡ says said b → a ≡ b
  one_result = told_apart (says said) result_of result_told

-- of a question or a conversion
pub one_answer : {A : Type 0} (a b : Result A Refusal) → says no_of a ≡ says no_of b → a ≡ b
one_answer = one_result no_of refusal_of refusal_told

-- of a build
pub one_built : (a b : Result Head StreamRefusal) → says_built a ≡ says_built b → a ≡ b
one_built = one_result no_of_stream stream_refusal_of stream_refusal_told
