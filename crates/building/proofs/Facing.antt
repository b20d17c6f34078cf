-- From the first state to the answer: what `begin` and `drive` say makes what the paper says of a build that has begun. Last the two ways
-- in which it ends.
use mathlib.Core.List.{List, ◌++◌}
use mathlib.Core.Path.{◌≡◌, sym, ap, ◌∙◌, subst}
use Prim.Native.Nat.{ℕ, ◌≤◌, min}
use native.Mathlib.Omega.{arith}
use lib.ListN.{length, drop, replicate}
use Rattle.std.specs.Prelude.{Err, Ok, Result}
use Rattle.paper.specs.Answers.{no_of, told}
use Rattle.paper.specs.Records.{blank_entry}
use Rattle.paper.specs.Refusals.{Reply, answer, no, refused, build, head_from, made_from, over, table_after, work_for}
use Rattle.paper.specs.declared.Head.{Head}
use Rattle.paper.specs.declared.Refusal.{Refusal}
use Rattle.paper.specs.declared.StreamRefusal.TheVariants.{Other}
use Rattle.building.specs.Batch.{Record, Set}
use Rattle.building.specs.Bounds.{most_records}
use Rattle.building.specs.Driving.{Ready, Driven}
use Rattle.building.specs.Face.{Builds}
use Rattle.building.specs.Roots.{HeadFits, head_of}
use Rattle.building.specs.Standing.{Constants, Done, State}
use Rattle.building.specs.Start.{Started}
use Rattle.building.proofs.Finishing.{built_answer, built_refused, cleared, head_fits, head_is}

module _ (input work : List ℕ) (table : List Record) (s : State) (work₁ lists : List ℕ) (b : Started input work (length table) s work₁ lists) where
  pub ready : Ready input lists table s work₁
  ready = record { standing = b.standing; listed = b.listed; entries = omega (arith, b.limit) }

  module _ {answer : Result ℕ Refusal} {e : State} {table₂ : List Record} {work₂ : List ℕ} (d : Driven input table s work₁ answer table₂ e work₂)
      (long₁ : length work₁ ≡ length work) where
    limit : e.limit ≡ min (length table) most_records
    limit = d.limit ∙ b.limit

    pub enough : e.asked ≤ length work
    enough = omega (arith, d.asked, b.standing.frames.room, long₁)

    rest : drop e.asked work₂ ≡ drop e.asked work
    rest = subst (λ (n : ℕ). drop n work₂ ≡ drop n work) (sym d.asked) (d.kept ∙ b.rest)

    -- the part of the work that is asked for is cleared
    cleared_work : Constants input e → replicate e.asked 0 ++ drop e.asked work₂ ≡ over (replicate (work_for input) 0) work
    cleared_work k = cleared input e k work (length table) limit enough work₂ rest

  -- all records fit
  pub whole_face : {set : ℕ} {e : State} {table₂ : List Record} {work₂ : List ℕ} → Driven input table s work₁ (Ok set) table₂ e work₂
      → length work₁ ≡ length work → HeadFits e × Builds input work table (Ok (head_of e set)) (replicate e.asked 0 ++ drop e.asked work₂) table₂
  whole_face {set} {e} {table₂} d long₁ = (
    head_fits input e done.constants work (length table) (limit d long₁) (enough d long₁) set all done,
    record {
      answer = rw built (ap answer (head_is input e done.constants work (length table) (limit d long₁) (enough d long₁) set all done));
      worked = rw built (cleared_work d long₁ done.constants);
      written = d.stopped.2 ∙ rw built (ap (λ (l : List Record). over l table) (sym made));
    },
  )
    where
      all : List Record
      all = d.stopped.0

      done : Done input e set all
      done = d.stopped.1

      built : build input (length work) (length table) ≡ answer (head_from input, made_from input)
      built = built_answer input e done.constants work (length table) (limit d long₁) (enough d long₁) set all done

      made : made_from input ≡ all
      made = ap (λ (z : List Record × Set). z.0) done.made

  -- they do not, and the table is made blank
  pub over_face : {why : Refusal} {e : State} {table₂ : List Record} {work₂ : List ℕ} → Driven input table s work₁ (Err why) table₂ e work₂
      → length work₁ ≡ length work → {table₃ : List Record} → length table₂ ≡ length table → table₃ ≡ replicate (length table₂) blank_entry
      → Builds input work table (Err (Other why)) (replicate e.asked 0 ++ drop e.asked work₂) table₃
  over_face {e = e} d long₁ long blank = record {
    answer = ap (λ w. refused (no_of w)) d.stopped.sixth ∙ sym (ap (told (λ a. a.0)) built);
    worked = rw built (cleared_work d long₁ d.stopped.constants);
    written = blank ∙ ap (λ (n : ℕ). replicate n blank_entry) long ∙ ap (λ (x : Reply (Head × List Record)). table_after x table) (sym built);
  }
    where
      built : build input (length work) (length table) ≡ refused (no 6)
      built = built_refused input e d.stopped.constants work (length table) (limit d long₁) (enough d long₁) d.stopped.many
