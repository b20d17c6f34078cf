-- The pass from the root, from beginning to end: the cells keep exactly the nodes that stand at the place in some row of the set, so the
-- bytes that they give are the paper's marks.
use mathlib.Core.Bool.{Bool, ◌&&◌, cond, false≢true, true}
use mathlib.Core.List.Memᴰ
use mathlib.Core.List.{List, [], ◌∷◌, map}
use mathlib.Core.Logic.Iff
use mathlib.Core.Logic.{◌↔◌, ⊎_elim}
use mathlib.Core.Path.{◌∙◌, ◌≡◌, ap, refl, sym}
use Prim.Native.Nat.{◌+◌, ◌-◌, ◌<◌, ◌≤◌, suc, zero, ℕ}
use native.Mathlib.Omega.{arith}
use borrow.Author.Tests.{eqb-false, eqb-true, leb-true}
use lib.Dec.{eqb, leb}
use lib.ListN.{drop, get_or, length, length-set, set, take}
use lib.Seq.{drop-set-lt, get_or-set_other, get_or-set_same, get_or-take, length-take-le}
use Rattle.paper.specs.declared.Head.{Head}
use Rattle.paper.specs.declared.Record.{Record}
use Rattle.paper.specs.declared.Set.{Set}
use Rattle.paper.specs.declared.Set.TheVariants.{Empty as empty, Unit as unit, Record as at}
use Rattle.paper.specs.Lists.{count_from, has}
use Rattle.paper.specs.Questions.{has_place, marks_of, stands_at}
use Rattle.paper.specs.Records.{blank_entry, listing, listings, set_rows, used_of}
use Rattle.paper.specs.Refusals.{is_open}
use Rattle.paper.specs.Sound.{entry}
use Rattle.laws.specs.QuestionCauses.{SetFits, Sound}
use Rattle.laws.specs.Said.{StandsIn}
use Rattle.laws.proofs.Listed.{row_stands, stands_row}
use Rattle.laws.proofs.Bits.{no_places}
use Rattle.laws.proofs.Lists.{both_true, iff_eq, in_at, or_cases, true_has, which}
use Rattle.sound.proofs.Overwriting.{cleared_all}
use Rattle.project.specs.Marks.{Kept, marks_in}
use Rattle.project.specs.Passing.{InWork, Ready, nodes_kept, passed, root_marked, turns}
use Rattle.project.proofs.Zeros.{zeroed, zeroed_length, zeroed_rest, zeroed_within}
use Rattle.project.proofs.Operands.{known_kind, operands_low, rows}
use Rattle.project.proofs.Passing.{Cells, Down, Found, above, below, passes}

-- ---- the numbers of a list, by index
has_index : (xs : List ℕ) (x : ℕ) → has xs x ≡ true → (k : ℕ) × (k < length xs) × (get_or xs k 0 ≡ x)
has_index [] x e = absurd (false≢true e)
has_index (y ∷ ys) x e =
    ⊎_elim (λ w. (0, omega arith, eqb-true y x w)) (λ w. let (k, l, is) = has_index ys x w in (suc k, omega arith, is)) (or_cases (eqb y x) (has ys x) e)

index_has : (xs : List ℕ) (k x : ℕ) → k < length xs → get_or xs k 0 ≡ x → has xs x ≡ true
index_has xs k x l e = true_has xs x (Memᴰ.cast (sym e) (in_at 0 xs k l))

-- tests that agree on the numbers from k up give the same bytes
same_bytes : (p q : ℕ → Bool) (n k : ℕ) → ((m : ℕ) → m < k + n → p m ≡ q m)
    → map {B = ℕ} (λ m. cond (p m) 1 0) (count_from k n) ≡ map (λ m. cond (q m) 1 0) (count_from k n)
same_bytes p q zero k agree = refl
same_bytes p q (suc n) k agree = rw (agree k (omega arith), same_bytes p q n (suc k) (λ m w. agree m (omega arith)))

-- what the pass leaves: each cell keeps a node or none, behind the cells the work is as it was, and the bytes are the paper's
pub record Ends (h : Head) (table : List Record) (place : ℕ) (work now : List ℕ) : Type 0 where
  pub kept : Kept (take h.used now) h.nodes
  pub behind : drop h.used now ≡ drop h.used work
  pub marks : marks_in (take h.used now) h.nodes ≡ marks_of h table place

-- each record that is looked at is in the table, and its cells are in the work
pub pass_ready : {h : Head} {table : List Record} → Sound h table → (work : List ℕ) → h.used ≤ length work → Ready h table work
pass_ready {h} {table} S work room = record {
  there = omega (arith, few h.set S.set, S.used_there);
  cells = λ k w. in_work k (omega (arith, few h.set S.set));
}
  where
    few : (set : Set) → SetFits h (used_of h table) set → turns set ≤ h.used
    few empty fits = omega arith
    few unit fits = omega arith
    few (at r) fits = fits.0

    in_work : (k : ℕ) → k < h.used → InWork k (entry table k) work
    in_work k l =
        let same : entry (used_of h table) k ≡ entry table k = get_or-take h.used table k blank_entry l in
        let (left, right) = operands_low h table S k l in
        rw (← same) (record { kind = known_kind h table S k l; own = omega arith; left = omega (arith, left); right = omega (arith, right) })

module _ (h : Head) (table : List Record) (S : Sound h table) (place : ℕ) (opened : is_open h place ≡ true) where
  abbrev i : ℕ
  i = place - 1

  from_one : (leb 1 place ≡ true) × (leb place h.arity && has_place h.open_places i ≡ true)
  from_one = both_true (leb 1 place) (leb place h.arity && has_place h.open_places i) opened

  there : (leb place h.arity ≡ true) × (has_place h.open_places i ≡ true)
  there = both_true (leb place h.arity) (has_place h.open_places i) from_one.1

  inside : i < h.arity
  inside = omega (arith, leb-true 1 place from_one.0, leb-true place h.arity there.0, S.some_places)

  module _ (work : List ℕ) (room : h.used ≤ length work) where
    -- ---- the beginning
    abbrev zeros : List ℕ
    zeros = zeroed work h.used

    abbrev first : Set → List ℕ
    first set = root_marked set zeros

    -- all cells are 0, but for the root's
    root_cell : (r : ℕ) → r < h.used → get_or (set zeros r 1) r 0 ≡ 1
    root_cell r l = get_or-set_same zeros r 1 0 (omega (arith, zeroed_length work h.used room))

    other_cell : (r k : ℕ) → k < h.used → (k ≡ r → ⊥) → get_or (set zeros r 1) k 0 ≡ 0
    other_cell r k w other = get_or-set_other zeros r k 1 0 other ∙ zeroed_within work h.used k w

    no_root : Cells h table S i inside 0 zeros
    no_root = record {
      there = omega (arith, room, zeroed_length work h.used room);
      marks = λ k w. absurd (omega arith);
      nodes = λ k w l. omega (arith, zeroed_within work h.used k l);
    }

    nothing : (n : ℕ) → Found h table S i inside 0 zeros n → ⊥
    nothing n (above k w l e) = omega (arith, zeroed_within work h.used k l, e)
    nothing n (below k w e m) = omega arith

    root_fits : (r : ℕ) → r < h.used → Cells h table S i inside (suc r) (set zeros r 1)
    root_fits r l = record {
      there = omega (arith, room, length-set zeros r 1, zeroed_length work h.used room);
      marks = λ k w.
          ⊎_elim (λ e. omega (arith, ap (λ (z : ℕ). get_or (set zeros r 1) z 0) (eqb-true k r e), root_cell r l))
          (λ e. omega (arith, other_cell r k (omega arith) (eqb-false k r e))) (which (eqb k r));
      nodes = λ k w u. omega (arith, other_cell r k u (λ e. omega arith));
    }

    root_found : (r : ℕ) → r < h.used → (n : ℕ) → Found h table S i inside (suc r) (set zeros r 1) n → StandsIn i n (rows h table r)
    root_found r l n (above k w u e) = absurd (omega (arith, e, other_cell r k u (λ z. omega arith)))
    root_found r l n (below k w e m) =
        ⊎_elim (λ is. rw (eqb-true k r is) at m) (λ other. absurd (omega (arith, e, other_cell r k (omega arith) (eqb-false k r other)))) (which (eqb k r))

    begins : (set : Set) → SetFits h (used_of h table) set → (turns set ≤ h.used) × Cells h table S i inside (turns set) (first set)
    begins empty fits = (omega arith, no_root)
    begins unit fits = (omega arith, no_root)
    begins (at r) fits = (fits.0, root_fits r fits.0)

    -- the root's nodes are to be found
    begins_found : (set : Set) → SetFits h (used_of h table) set → (n : ℕ)
        → Found h table S i inside (turns set) (first set) n ↔ StandsIn i n (set_rows h.arity (listings h.arity (used_of h table)) set)
    begins_found empty fits n = (λ f. absurd (nothing n f), λ (row, m, e). absurd (Memᴰ.not-nil m))
    begins_found unit fits n =
        absurd (false≢true (sym (no_places i) ∙ ap (λ (b : ℕ). has_place b i) (sym fits) ∙ there.1))
    begins_found (at r) fits n = (root_found r fits.0 n, λ m. below r (omega arith) (root_cell r fits.0) m)

    -- ---- the end
    abbrev last : List ℕ
    last = passed i table (turns h.set) (first h.set)

    down : Down h table S i inside (turns h.set) 0 (first h.set) last
    down = let (few, cells) = begins h.set S.set in passes h table S i inside (turns h.set) few (first h.set) cells

    first_behind : (set : Set) → SetFits h (used_of h table) set → drop h.used (first set) ≡ drop h.used work
    first_behind empty fits = zeroed_rest work h.used
    first_behind unit fits = zeroed_rest work h.used
    first_behind (at r) fits = drop-set-lt h.used zeros r 1 fits.0 ∙ zeroed_rest work h.used

    -- a node is kept exactly if it stands at the place in some row
    kept_stands : (n : ℕ) → n < h.nodes → has (take h.used last) (suc n) ≡ stands_at i n (listing h table)
    kept_stands n small = iff_eq (has (take h.used last) (suc n)) (stands_at i n (listing h table)) onward back
      where
        found : Found h table S i inside 0 last n ↔ StandsIn i n (listing h table)
        found = Iff.trans (Iff.symm (down.found n small)) (begins_found h.set S.set n)

        long : length (take h.used last) ≡ h.used
        long = length-take-le h.used last down.still.there

        onward : has (take h.used last) (suc n) ≡ true → stands_at i n (listing h table) ≡ true
        onward e =
            let (k, w, is) = has_index (take h.used last) (suc n) e in
            let below-used : k < h.used = omega (arith, long) in
            let (row, m, at_place) = found.0 (above k (omega arith) below-used (sym (get_or-take h.used last k 0 below-used) ∙ is)) in
            row_stands (listing h table) i n row m at_place

        kept_at : Found h table S i inside 0 last n → has (take h.used last) (suc n) ≡ true
        kept_at (above k w l e) = index_has (take h.used last) k (suc n) (omega (arith, long)) (get_or-take h.used last k 0 l ∙ e)
        kept_at (below k w e m) = absurd (omega arith)

        back : stands_at i n (listing h table) ≡ true → has (take h.used last) (suc n) ≡ true
        back e = kept_at (found.1 (stands_row (listing h table) i n e))

    pub pass_ends : Ends h table place work (nodes_kept i h table work)
    pass_ends = rw (cleared_all h.used work room) (record {
      kept = λ k w. let below-used : k < h.used = omega (arith, length-take-le h.used last down.still.there) in
          rw (get_or-take h.used last k 0 below-used) (down.still.nodes k (omega arith) below-used);
      behind = down.rest ∙ first_behind h.set S.set;
      marks = same_bytes (λ n. has (take h.used last) (suc n)) (λ n. stands_at i n (listing h table)) h.nodes 0 (λ n w. kept_stands n (omega arith));
    })
