-- What a call returned: a refusal, which is a number or a number with a position, or an answer. Said of any type of results by its case for
-- a refusal; of the library's `Result`, which the calls return, that is `Err`.
use Rattle.std.specs.Prelude.{◌↔◌, ◌≡◌, ℕ}
use Rattle.paper.specs.Refusals.{No}
use Rattle.laws.specs.First.{Alone, FirstOf, NoneOf}
use Rattle.laws.specs.QuestionCauses.{question_order}

-- over the refusals of the type, and what each says
module _ {Why Result : Type 0} (says : Why → No) (Refused : Why → Result) where
  -- the result is a refusal that says this
  abbrev pub Returns : Result → No → Type 0
  Returns r w = (why : Why) × (r ≡ Refused why) × (says why ≡ w)

  -- the result is no refusal
  abbrev pub Answered : Result → Type 0
  Answered r = (why : Why) → r ≡ Refused why → ⊥

  -- the call returned a refusal exactly if it is that of the first cause that applies, and an answer exactly if no cause does
  pub record Exact (r : Result) (First : No → Type 0) (None : Type 0) : Type 0 where
    pub returns : (w : No) → Returns r w ↔ First w
    pub answers : Answered r ↔ None

  -- the same of a question, whose causes are given: it says a number alone
  abbrev pub ExactQuestion : Result → (ℕ → Type 0) → Type 0
  ExactQuestion r Cause = Exact r (Alone (FirstOf question_order Cause)) (NoneOf question_order Cause)
