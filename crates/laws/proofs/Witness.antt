-- The theorems speak of something: B followed by Q is built, and demand 3 applies to the fixings of P7.
use mathlib.Core.Bool.{Bool, ◌&&◌, true}
use mathlib.Core.List.Memᴰ
use mathlib.Core.List.{List, [], ◌++◌, ◌∷◌}
use mathlib.Core.Logic.{⊎_elim}
use mathlib.Core.Path.{◌≡◌, ap, refl, subst, sym}
use Prim.Native.Nat.{◌<◌, ◌≤◌, ℕ}
use native.Mathlib.Omega.{arith}
use lib.ListN.{replicate}
use Rattle.paper.specs.Lists.{◌∈◌}
use Rattle.paper.specs.Records.{blank_entry}
use Rattle.paper.specs.Refusals.{Reply, Test, answer, build, build_tests, head_from, made_from, over, table_after}
use Rattle.laws.specs.Built.{BuiltSet}
use Rattle.laws.specs.Fixings.{DifferentPlaces, FixedAll, Fixing, Lent, as_used}
use Rattle.paper.specs.Cases.{query_q, tree_b}
use Rattle.laws.specs.Plain.{Head, Record}
use Rattle.laws.proofs.FixingsRight.{built_fixings, used_enough}
use Rattle.laws.proofs.Lists.{both_true, only}
use Rattle.laws.proofs.Replies.{Passes, answers}

-- B followed by Q, and a lent table with three entries more than are needed
abbrev input : List ℕ
input = tree_b ++ query_q

abbrev lent : List Record
lent = replicate 16 blank_entry

-- tests that hold by computing
all_hold : List Test → Bool
all_hold [] = true
all_hold (t ∷ ts) = t.1 && all_hold ts

all_hold_lem : (ts : List Test) → all_hold ts ≡ true → Passes ts
unfolding all_hold
all_hold_lem [] e = tt
all_hold_lem (t ∷ ts) e = let h = both_true t.1 (all_hold ts) e in (h.0, all_hold_lem ts h.1)

passes : Passes (build_tests input 48 16)
unfolding all_hold
passes = all_hold_lem (build_tests input 48 16) refl

given : build input 48 16 ≡ answer (head_from input, made_from input)
given = answers (build_tests input 48 16) (head_from input, made_from input) passes

pub built_B : BuiltSet input (head_from input) (over (made_from input) lent)
built_B = record {
  work_length = 48;
  lent = lent;
  records = made_from input;
  answered = given;
  left = ap (λ (r : Reply (Head × List Record)). table_after r lent) (sym given);
}

-- ---- P7
abbrev first : Fixing
first = record { place = 1; node = 0 }

abbrev second : Fixing
second = record { place = 2; node = 3 }

-- with work of 13 and into a table of 13 entries
abbrev calls : Fixing → Lent
calls f = record { fixing = f; work = 13; target = replicate 13 blank_entry }

-- a place from 1 to 2, and a node below 5
abbrev InTree : Fixing → Type 0
InTree f = ((1 ≤ f.place) × (f.place ≤ 2)) × (f.node < 5)

two_different : (f g : Fixing) → (g.place ≡ f.place → ⊥) → InTree f → InTree g → DifferentPlaces (head_from input) (f ∷ g ∷ [])
two_different f g apart in_f in_g = record {
  different = (λ m. apart (sym (only m)), (λ m. Memᴰ.not-nil m, tt));
  places = λ x m. (of_two x m).0;
  nodes = λ x m. (of_two x m).1;
}
  where
    of_two : (x : Fixing) → x ∈ f ∷ g ∷ [] → InTree x
    of_two x m = ⊎_elim (λ e. subst InTree (sym e) in_f) (λ n. subst InTree (sym (only n)) in_g) (Memᴰ.cases_cons m)

pub fixed_B : FixedAll (calls first ∷ calls second ∷ []) (head_from input) (over (made_from input) lent)
fixed_B =
    built_fixings input (head_from input) (over (made_from input) lent) built_B as_used (calls first ∷ calls second ∷ []) (used_enough (head_from input))
    (two_different first second (λ e. let z : ◌≡◌ {A = ℕ} 2 1 = e in omega arith) ((omega arith, omega arith), omega arith)
    ((omega arith, omega arith), omega arith))
    (omega arith, omega arith, (omega arith, omega arith, tt))
