-- Demand 3 of the function `fix`: different places of a built set, each fixed at a node by a call with its real buffers, one after
-- another. First one call on a good set, then the calls after one another, which are the laws' own; then a built set; then any order.
use mathlib.Core.Bool.{true}
use mathlib.Core.List.{List, [], ◌∷◌, map}
use mathlib.Core.Logic.{◌↔◌}
use mathlib.Core.Path.{◌∙◌, ◌≡◌, ap, ap₂, refl, subst, subst₂, sym}
use Prim.Native.Nat.{◌<◌, ◌≤◌, ℕ}
use native.Mathlib.Omega.{arith}
use lib.ListN.{length}
use Rattle.std.specs.Prelude.{Ok, Result}
use Rattle.paper.specs.declared.Refusal.{Refusal}
use Rattle.paper.specs.declared.Head.{Head}
use Rattle.paper.specs.declared.Record.{Record}
use Rattle.paper.specs.Answers.{told}
use Rattle.paper.specs.Questions.{fixed_set, question_work}
use Rattle.paper.specs.Records.{listing}
use Rattle.paper.specs.Refusals.{Reply, answer, fix, is_open, over, refused, target_after}
use Rattle.laws.specs.Built.{BuiltSet}
use Rattle.laws.specs.Fixings.{Allowed, DifferentPlaces, Enough, Entries, FixedAll, FixedFrom, Fixing, GoodSet, Lent, SameFixings, Suffices, as_used, as_used_first, call_fixes, fixings_of, narrowed, next}
use Rattle.laws.proofs.Answers.{one_answer}
use Rattle.laws.proofs.BuiltSets.{built_good}
use Rattle.laws.proofs.FixGood.{fix_accepted, fix_good, fix_shrinks}
use Rattle.laws.proofs.FixingsRight.{built_allowed, first_enough, fixings_right, used_enough}
use Rattle.laws.proofs.Lists.{here}
use Rattle.laws.proofs.Narrowing.{narrowed_order}
use Rattle.laws.proofs.OpenPlaces.{allowed_rest}
use Rattle.building.specs.Face.{Builds}
use Rattle.building.proofs.BuildRight.{is_built}
use Rattle.fix.specs.Face.{Fixes}
use Rattle.demands.specs.Calls.{Call, Made, Narrows, fixings_in, following, last_set}

-- ---- one call on a good set
-- the head that the paper's fix answers, and the target as it leaves it
abbrev head_after : Head → List Record → Call → Head
head_after h table c = (fixed_set h table c.fixing.place c.fixing.node).0

abbrev left_after : Head → List Record → Call → List Record
left_after h table c = over (fixed_set h table c.fixing.place c.fixing.node).1 c.target

-- the call gives that set, which is good again, has no more records, and allows the other fixings
record Gives (h : Head) (table : List Record) (c : Call) (fs : List Fixing) : Type 0 where
  accepted : fix h table (length c.work) c.fixing.place c.fixing.node (length c.target)
      ≡ answer (fixed_set h table c.fixing.place c.fixing.node)
  answers : c.result ≡ Ok (head_after h table c)
  leaves : c.target' ≡ left_after h table c
  good : GoodSet (head_after h table c) (left_after h table c)
  few : (head_after h table c).used ≤ h.used
  allowed : Allowed (head_after h table c) fs

gives : (h : Head) (table : List Record) (c : Call) (fs : List Fixing) → GoodSet h table → Allowed h (c.fixing ∷ fs)
    → h.used ≤ length c.target → question_work h ≤ length c.work
    → Fixes h table c.work c.fixing.place c.fixing.node c.target c.result c.work' c.target'
    → Gives h table c fs
gives h table c fs G ok long enough f = record {
  accepted = accepted;
  answers = one_answer c.result _ (f.answer ∙ ap (told (λ a. a.0)) accepted);
  leaves = f.written ∙ ap (λ (r : Reply (Head × List Record)). target_after r c.target) accepted;
  good = fix_good h table G c.fixing.place c.fixing.node stands_open there c.target;
  few = fix_shrinks h table G c.fixing.place c.fixing.node stands_open there;
  allowed = allowed_rest h c.fixing fs table ok;
}
  where
    stands_open : is_open h c.fixing.place ≡ true
    stands_open = ok.all_open c.fixing here

    there : c.fixing.node < h.nodes
    there = ok.all_nodes c.fixing here

    accepted : fix h table (length c.work) c.fixing.place c.fixing.node (length c.target)
        ≡ answer (fixed_set h table c.fixing.place c.fixing.node)
    accepted = fix_accepted h table G c.fixing.place c.fixing.node stands_open there (length c.work) (length c.target) enough long

-- so what follows the result is said of that set
follows : {h : Head} {table : List Record} {c : Call} {fs : List Fixing} → Gives h table c fs → (P : Head → List Record → Type 0)
    → following c.result (λ number. Unit {0}) (λ head. P head c.target') ↔ P (head_after h table c) (left_after h table c)
follows g P = (subst₂ Said g.answers g.leaves, subst₂ Said (sym g.answers) (sym g.leaves))
  where
    Said : Result Head Refusal → List Record → Type 0
    Said r t = following r (λ number. Unit {0}) (λ head. P head t)

-- ---- one call after another
-- targets that are long enough for every set with no more records than the first are as long as the set at hand has records
pub made_used : (entries : Entries) (first : Head) → Enough entries first → (cs : List Call) (h : Head) (table : List Record) → GoodSet h table
    → h.used ≤ first.used → Allowed h (fixings_in cs) → Made entries cs h table → Made as_used cs h table
made_used entries first room [] h table G few ok made = tt
made_used entries first room (c ∷ cs) h table G few ok (target, enough, f, rest) =
    let long : h.used ≤ length c.target = omega (arith, room h few, target) in
    let g = gives h table c (fixings_in cs) G ok long enough f in
    let others = made_used entries first room cs (head_after h table c) (left_after h table c) g.good (omega (arith, few, g.few)) g.allowed
    ((follows g (Made entries cs)).0 rest) in
    (long, enough, f, (follows g (Made as_used cs)).1 others)

-- what the laws take a call to be
abbrev lent_to : Call → Lent
lent_to c = record { fixing = c.fixing; work = length c.work; target = c.target }

abbrev lent_in : List Call → List Lent
lent_in cs = map lent_to cs

fixings_lent : (cs : List Call) → fixings_of (lent_in cs) ≡ fixings_in cs
fixings_lent [] = refl
fixings_lent (c ∷ cs) = ap {B = List Fixing} (λ fs. c.fixing ∷ fs) (fixings_lent cs)

-- a run of calls is what the laws take it to be
calls_are : (cs : List Call) (h : Head) (table : List Record) → GoodSet h table → Allowed h (fixings_in cs) → Made as_used cs h table
    → Suffices as_used (lent_in cs) h table × (last_set cs h table ≡ call_fixes (lent_in cs) h table)
calls_are [] h table G ok made = (tt, refl)
calls_are (c ∷ cs) h table G ok (long, enough, f, rest) =
    let g = gives h table c (fixings_in cs) G ok long enough f in
    let others = calls_are cs (head_after h table c) (left_after h table c) g.good g.allowed ((follows g (Made as_used cs)).0 rest) in (
      (long, enough, others.0),
      ap₂ (λ (r : Result Head Refusal) (t : List Record). following r refused (λ head. last_set cs head t)) g.answers g.leaves
          ∙ others.1
          ∙ ap (λ (r : Reply (Head × List Record)). next r c.target (call_fixes (lent_in cs))) (sym g.accepted),
    )

-- ---- a good set, so also one that calls of `fix` left
pub fixes_good : (cs : List Call) (h : Head) (table : List Record) → GoodSet h table → Allowed h (fixings_in cs) → Made as_used cs h table
    → Narrows cs h table
fixes_good cs h table G ok made =
    let are = calls_are cs h table G ok made in
    let all : FixedAll (lent_in cs) h table =
    fixings_right as_used (lent_in cs) h table (used_enough h) G (subst (Allowed h) (sym (fixings_lent cs)) ok) are.0 in
    record {
      head = all.head;
      left = all.left;
      accepted = are.1 ∙ all.accepted;
      lists = all.lists ∙ ap (λ (fs : List Fixing). narrowed fs (listing h table)) (fixings_lent cs);
      good = all.good;
      fixed = subst (λ (fs : List Fixing). FixedFrom h fs all.head) (fixings_lent cs) all.fixed;
    }

-- ---- a set that `build` left
module _ (input work : List ℕ) (table : List Record) (h : Head) (work' : List ℕ) (table' : List Record)
    (done : Builds input work table (Ok h) work' table') (cs : List Call) (different : DifferentPlaces h (fixings_in cs)) where
  B : BuiltSet input h table'
  B = is_built input work table h work' table' done

  good : GoodSet h table'
  good = built_good input h table' B

  -- different places from 1 to the arity, each at a node of the tree, are allowed
  pub build_allowed : Allowed h (fixings_in cs)
  build_allowed = built_allowed input h table' B (fixings_in cs) different

  -- targets as long as the built set has records are long enough at each call
  pub as_long_as_built : Made (as_used_first h) cs h table' → Made as_used cs h table'
  as_long_as_built made = made_used (as_used_first h) h (first_enough h) cs h table' good (omega arith) build_allowed made

  -- every call is accepted, and the listing is the full listing with only the rows that have those nodes there, in the old order, the
  -- fixed places blank
  pub fixes_right : Made as_used cs h table' → Narrows cs h table'
  fixes_right made = fixes_good cs h table' good build_allowed made

-- any order of the same fixings lists the same
pub fixes_any_order : (cs ds : List Call) (h : Head) (table : List Record) → SameFixings (fixings_in cs) (fixings_in ds)
    → (a : Narrows cs h table) (b : Narrows ds h table) → listing a.head a.left ≡ listing b.head b.left
fixes_any_order cs ds h table same a b =
    a.lists ∙ narrowed_order (fixings_in cs) (fixings_in ds) (listing h table) same ∙ sym b.lists
