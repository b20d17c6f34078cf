-- The end of a build: what the paper's build says of an input that the building has stopped of, and what is left of the work.
use mathlib.Core.List.{List, ◌++◌}
use mathlib.Core.Path.{◌∙◌, ◌≡◌, ap, refl, sym}
use Prim.Native.Nat.{◌+◌, ◌-◌, ◌<◌, ◌^◌, ◌≤◌, min, ℕ}
use native.Mathlib.Omega.{arith}
use borrow.Author.Tests.{le-leb}
use lib.ListN.{drop, length, length-replicate, replicate}
use Rattle.paper.specs.Refusals.{answer, build, head_from, made_from, over, query_part, refused, tree_part, work_for, no, tree_end}
use Rattle.paper.specs.Stream.{query_records, records_of, tree_records}
use Rattle.laws.proofs.ReadTree.{tree_read}
use Rattle.laws.proofs.Replies.{Passes, unless_append}
use Rattle.building.specs.Batch.{Record, Set}
use Rattle.building.specs.Bounds.{most_records}
use Rattle.building.specs.Roots.{HeadFits, head_of}
use Rattle.building.specs.Standing.{Constants, Done, State}
use Rattle.building.proofs.Growing.{grows_none, grows_refused}
use Rattle.building.proofs.ReadInput.{query_part_passes, tree_passes}

module _ (input : List ℕ) (t : State) (k : Constants input t) (first : List ℕ) (entries : ℕ) (limit : t.limit ≡ min entries most_records)
    (enough : t.asked ≤ length first) where
  tree : Passes (tree_part (tree_records (records_of input)))
  tree = tree_passes input k.tree

  query : Passes (query_part (tree_end input) (query_records (records_of input)))
  query = query_part_passes input k.query tree

  -- past the limit
  pub built_refused : t.limit < length (made_from input) → build input (length first) entries ≡ refused (no 6)
  built_refused many =
      grows_refused input (length first) entries tree query (omega (arith, k.asked)) (grows_none (made_from input)) (omega (arith, many))

  -- the work: the part that is asked for is zero, and the rest as it was at first
  pub cleared : (work : List ℕ) → drop t.asked work ≡ drop t.asked first
      → replicate t.asked 0 ++ drop t.asked work ≡ over (replicate (work_for input) 0) first
  cleared work rest =
      let n : ℕ = t.asked in
      ap (λ more. replicate n 0 ++ more) rest
      ∙ ap (λ m. replicate n 0 ++ drop m first) (sym (length-replicate n 0))
      ∙ ap (λ m. over (replicate m 0) first) k.asked

  -- within it
  module _ (set : ℕ) (all : List Record) (d : Done input t set all) where
    pub head_fits : HeadFits t
    head_fits = record {
      nodes = omega (arith, k.nodes, (tree_read (tree_records (records_of input)) tree).2);
      used = omega (arith, d.few, k.limit);
    }

    pub built_answer : build input (length first) entries ≡ answer (head_from input, made_from input)
    built_answer =
        let used : length (made_from input) ≡ t.from + t.count = ap (λ z. length z.0) d.made ∙ d.used in
        unless_append (tree_part (tree_records (records_of input))) _ (head_from input, made_from input) tree
        ∙ unless_append (query_part (tree_end input) (query_records (records_of input))) _ (head_from input, made_from input) query
        ∙ rw (
          le-leb (work_for input) (length first) (omega (arith, k.asked)),
          le-leb (length (made_from input)) entries (omega (arith, d.few)),
          le-leb (length (made_from input)) most_records (omega (arith, d.few)),
        ) refl

    -- the head
    pub head_is : head_of t set ≡ head_from input
    head_is = λ i. record {
      nodes = k.nodes i;
      arity = k.arity i;
      open_places = ap (λ a. 2 ^ a - 1) k.arity i;
      used = (sym (ap (λ z. length z.0) d.made ∙ d.used)) i;
      set = (sym (ap (λ (z : List Record × Set). z.1) d.made)) i;
    }
