-- Calls of `fix`, one after another, as a program makes them: each with the buffers lent to it and with what it gave, which is known
-- only by its contract.
use Rattle.std.specs.Prelude.{Err, Ok, Result, List, [], ◌∷◌, map, ◌≡◌, ℕ, ◌≤◌, length}
use Rattle.paper.specs.declared.Head.{Head}
use Rattle.paper.specs.declared.Record.{Record}
use Rattle.paper.specs.declared.Refusal.{Refusal}
use Rattle.paper.specs.Answers.{no_of}
use Rattle.paper.specs.Questions.{question_work}
use Rattle.paper.specs.Records.{listing}
use Rattle.paper.specs.Refusals.{No, Reply, refused, answer}
use Rattle.laws.specs.Fixings.{Entries, FixedFrom, Fixing, GoodSet, narrowed}
use Rattle.fix.specs.Face.{Fixes}

pub record Call : Type 0 where
  pub fixing : Fixing
  -- lent to it
  pub work : List ℕ
  pub target : List Record
  -- what it gave
  pub result : Result Head Refusal
  pub work' : List ℕ
  pub target' : List Record

abbrev pub fixings_in : List Call → List Fixing
fixings_in cs = map (λ c. c.fixing) cs

-- what follows a result: of what says no, if it was refused, or of the head
abbrev pub following {ℓ} : {A : Type ℓ} → Result Head Refusal → (No → A) → (Head → A) → A
following (Err r) stop go = stop (no_of r)
following (Ok h) stop go = go h

-- each call is made on the set that the one before it answered and left in its target; its target has so many entries, and its work
-- is what the paper asks for. Behind a refusal nothing is said
abbrev pub Made : Entries → List Call → Head → List Record → Type 0
Made entries [] h table = Unit {0}
Made entries (c ∷ cs) h table =
    (entries h ≤ length c.target) × (question_work h ≤ length c.work)
    × Fixes h table c.work c.fixing.place c.fixing.node c.target c.result c.work' c.target'
    × following c.result (λ no. Unit {0}) (λ head. Made entries cs head c.target')

-- the set behind the last call, or what the first that was refused says
abbrev pub last_set : List Call → Head → List Record → Reply (Head × List Record)
last_set [] h table = answer (h, table)
last_set (c ∷ cs) h table = following c.result refused (λ head. last_set cs head c.target')

-- every call is accepted, and the last set lists only the rows that have those nodes there, in the old order, the fixed places blank.
-- It is sound, no used record of it lists a row twice, and the other places are open as they were
pub record Narrows (cs : List Call) (h : Head) (table : List Record) : Type 0 where
  pub head : Head
  pub left : List Record
  pub accepted : last_set cs h table ≡ answer (head, left)
  pub lists : listing head left ≡ narrowed (fixings_in cs) (listing h table)
  pub good : GoodSet head left
  pub fixed : FixedFrom h (fixings_in cs) head
