-- The theorems speak of something: P7 of the paper, with the buffers of a program. B followed by Q is built, place 1 is fixed at 0 and
-- place 2 at 3, each call as its contract has it, and by the theorem, not by a run, a count of what is left answers one row.
use mathlib.Core.Bool.{true}
use mathlib.Core.List.Memᴰ
use mathlib.Core.List.{List, [], ◌++◌, ◌∷◌}
use mathlib.Core.Logic.{⊎_elim}
use mathlib.Core.Path.{◌≡◌, ap, refl, subst, sym}
use Prim.Native.Nat.{◌<◌, ◌≤◌, ℕ}
use native.Mathlib.Omega.{arith}
use lib.ListN.{replicate}
use Rattle.std.specs.Prelude.{Ok, Result}
use Rattle.paper.specs.declared.Refusal.{Refusal}
use Rattle.paper.specs.declared.Head.{Head}
use Rattle.paper.specs.declared.Record.{Record}
use Rattle.paper.specs.Answers.{told}
use Rattle.paper.specs.Cases.{query_q, tree_b}
use Rattle.paper.specs.Lists.{◌∈◌}
use Rattle.paper.specs.Questions.{fixed_set, question_work}
use Rattle.paper.specs.Records.{blank_entry}
use Rattle.paper.specs.Refusals.{Reply, head_from, is_open, made_from, over, target_after, work_after}
use Rattle.laws.specs.Fixings.{DifferentPlaces, Fixing, GoodSet, as_used}
use Rattle.laws.proofs.BuiltSets.{built_good}
use Rattle.laws.proofs.FixGood.{fix_accepted, fix_good}
use Rattle.laws.proofs.Lists.{only}
use Rattle.building.specs.Face.{Builds}
use Rattle.building.proofs.BuildRight.{is_built}
use Rattle.fix.specs.Face.{Fixes}
use Rattle.sound.specs.Face.{Counts}
use Rattle.demands.specs.Calls.{Call, Made, fixings_in}
use Rattle.demands.proofs.Narrowed.{count_narrowed}

-- ---- the build
abbrev input : List ℕ
input = tree_b ++ query_q

abbrev blanks : List Record
blanks = replicate 13 blank_entry

abbrev head : Head
head = head_from input

abbrev table : List Record
table = over (made_from input) blanks

built : Builds input (replicate 48 7) blanks (Ok head) (replicate 48 0) table
built = record { answer = refl; worked = refl; written = refl }

-- ---- the two calls
-- a call that fixes a place of this set at a node
abbrev call_on : Head → List Record → Fixing → Call
call_on h source f = record {
  fixing = f;
  work = replicate 13 7;
  target = blanks;
  result = Ok (fixed_set h source f.place f.node).0;
  work' = over (replicate h.used 0) (replicate 13 7);
  target' = over (fixed_set h source f.place f.node).1 blanks;
}

-- on a good set with 13 records at most the call is as its contract has it
meets : (h : Head) (source : List Record) (f : Fixing) → GoodSet h source → is_open h f.place ≡ true → f.node < h.nodes → h.used ≤ 13
    → Fixes h source (replicate 13 7) f.place f.node blanks (call_on h source f).result (call_on h source f).work' (call_on h source f).target'
meets h source f G stands_open node few =
    let accepted = sym (fix_accepted h source G f.place f.node stands_open node 13 13 few few) in
    record {
      answer = ap (told (λ a. a.0)) accepted;
      worked = ap (λ (r : Reply (Head × List Record)). work_after r (question_work h) (replicate 13 7)) accepted;
      written = ap (λ (r : Reply (Head × List Record)). target_after r blanks) accepted;
    }

abbrev one : Call
one = call_on head table (record { place = 1; node = 0 })

abbrev left : Head
left = (fixed_set head table 1 0).0

abbrev two : Call
two = call_on left one.target' (record { place = 2; node = 3 })

abbrev last : Head
last = (fixed_set left one.target' 2 3).0

different : DifferentPlaces head (fixings_in (one ∷ two ∷ []))
different = record {
  different = (λ m. let z : ◌≡◌ {A = ℕ} 1 2 = only m in omega arith, (λ m. Memᴰ.not-nil m, tt));
  places = λ f m. (of_two f m).0;
  nodes = λ f m. (of_two f m).1;
}
  where
    InTree : Fixing → Type 0
    InTree f = ((1 ≤ f.place) × (f.place ≤ 2)) × (f.node < 5)

    of_two : (f : Fixing) → f ∈ fixings_in (one ∷ two ∷ []) → InTree f
    of_two f m =
        ⊎_elim (λ e. subst InTree (sym e) ((omega arith, omega arith), omega arith))
        (λ n. subst InTree (sym (only n)) ((omega arith, omega arith), omega arith)) (Memᴰ.cases_cons m)

good : GoodSet head table
good = built_good input head table (is_built input (replicate 48 7) blanks head (replicate 48 0) table built)

made : Made as_used (one ∷ two ∷ []) head table
made = (
  omega arith,
  omega arith,
  meets head table one.fixing good refl (omega arith) (omega arith),
  (
    omega arith,
    omega arith,
    meets left one.target' two.fixing (fix_good head table good 1 0 refl (omega arith) blanks) refl (omega arith) (omega arith),
    tt,
  ),
)

-- ---- a count of what is left
pub counted_one : (w w' : List ℕ) (r : Result ℕ Refusal) → Counts last two.target' w r w' → r ≡ Ok 1
counted_one w w' r c =
    count_narrowed input (replicate 48 7) blanks head (replicate 48 0) table built (one ∷ two ∷ []) different made last two.target' refl w w' r
    (omega arith) c
