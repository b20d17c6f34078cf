-- The answer's rows are the accepted rows, each once.
-- First flags with all places, then the answer as one list, then that the list is right.
use mathlib.Core.Bool.{Bool, cond, false, true}
use mathlib.Core.List.Memᴰ
use mathlib.Core.List.{List, [], ◌++◌, ◌∷◌, append_assoc, append-nil}
use mathlib.Core.Logic.{◌↔◌, ◌⊎◌, inl, inr}
use mathlib.Core.Option.{some}
use mathlib.Core.Path.{◌∙◌, ◌≡◌, ap, refl, sym}
use Prim.Native.Nat.{◌*◌, ◌+◌, ◌≤◌, suc, ℕ}
use native.Mathlib.Nat.{pow-suc}
use native.Mathlib.Omega.{arith}
use lib.ListN.{length}
use lib.Pow.{pow_pos}
use Rattle.paper.specs.Building.{Slots, accept_step, all_places}
use Rattle.paper.specs.Lists.{Once, ◌∈◌, each, has, through, up_to}
use Rattle.paper.specs.Query.{Query}
use Rattle.paper.specs.Row.{Accepted, Row, flag_of, run}
use Rattle.paper.specs.Tree.{Tree, root}
use Rattle.laws.specs.Numbered.{Deterministic, InRange, Numbered}
use Rattle.laws.specs.RowSets.{answer_rows, row_sets}
use Rattle.laws.proofs.Correct.{right}
use Rattle.laws.proofs.Held.{Holds, Right, in_within, slot_rows, within, within_true}
use Rattle.laws.proofs.Lists.{has_true, here, in_cond, in_each, in_up_to, mem_cond, mem_each, once_cond, once_count_from, once_each}
use Rattle.laws.proofs.Lists.{true_has}
use Rattle.laws.proofs.Pads.{named_marked, unnamed_unmarked}
use Rattle.laws.proofs.Rows.{bit, keep}
use Rattle.laws.proofs.Runs.{size_numbered}

-- ---- the flag with all places: every entry passes the test
all_pass : (p : ℕ → Bool) (row : Row) → flag_of p row ≡ all_places (length row) → (x : ℕ) → x ∈ row → p x ≡ true
all_pass p [] full x m = absurd (Memᴰ.not-nil m)
all_pass p (y ∷ ys) full x m = go (p y) refl full (Memᴰ.cases_cons m) (all_pass p ys)
  where
    go : (b : Bool) → p y ≡ b → bit b + 2 * flag_of p ys ≡ all_places (suc (length ys)) → (x ≡ y) ⊎ (x ∈ ys)
        → (flag_of p ys ≡ all_places (length ys) → (z : ℕ) → z ∈ ys → p z ≡ true) → p x ≡ true
    go true e f (inl w) ih = ap p w ∙ e
    go true e f (inr w) ih = ih (omega (arith, pow-suc 2 (length ys), pow_pos (length ys))) x w
    go false e f w ih = absurd (omega (arith, pow-suc 2 (length ys), pow_pos (length ys)))

pass_all : (p : ℕ → Bool) (row : Row) → ((x : ℕ) → x ∈ row → p x ≡ true) → (keep p row ≡ row) × (flag_of p row ≡ all_places (length row))
pass_all p [] h = (refl, refl)
pass_all p (y ∷ ys) h =
    let (kept, flag) = pass_all p ys (λ x m. h x (Memᴰ.tail m)) in
    rw (h y here, kept) (refl, omega (arith, pow-suc 2 (length ys), pow_pos (length ys)))

module _ (Q : Query) (t : Tree) where
  -- ---- the answer as one list
  abbrev full : ℕ
  full = all_places Q.arity

  abbrev slots : Slots (List Row)
  slots = slot_rows Q.arity Q.rules t

  abbrev steps : Unit {0} × List Row → List ℕ → Unit {0} × List Row
  steps = through (accept_step (row_sets Q.arity) Q (root t) slots)

  -- what a state adds to the answer
  abbrev chosen : ℕ → List Row
  chosen q = cond (has Q.accepting q) (slots q full) []

  accept_each : (qs : List ℕ) (rows : List Row) → (steps (tt, rows) qs).1 ≡ rows ++ each qs chosen
  accept_each [] rows = sym (append-nil rows)
  accept_each (q ∷ qs) rows = go (has Q.accepting q) (accept_each qs)
    where
      go : (b : Bool) → ((more : List Row) → (steps (tt, more) qs).1 ≡ more ++ each qs chosen)
          → (steps (cond {A = Unit {0} × List Row} b (tt, rows ++ slots q full) (tt, rows)) qs).1
          ≡ rows ++ (cond b (slots q full) [] ++ each qs chosen)
      go true ih = ih (rows ++ slots q full) ∙ append_assoc rows (slots q full) (each qs chosen)
      go false ih = ih rows

  -- the answer has the rows of the root's slots (accepting state, all places), states ascending
  answer_each : answer_rows Q t ≡ each (up_to Q.states) chosen
  answer_each = accept_each (up_to Q.states) []

  -- ---- the list is right
  module _ (deterministic : Deterministic Q) (numbers_fit : InRange Q) (nodes : ℕ) (numbered : Numbered 0 t nodes) (few : nodes ≤ 4095) where
    slots_right : Right Q.arity Q.rules 0 t nodes
    slots_right = right Q.arity Q.rules deterministic numbers_fit.flags numbered (omega arith)

    -- a listed row is accepted
    listed_accepted : (row : Row) → row ∈ answer_rows Q t → Accepted t Q row
    listed_accepted row m =
        let (q, mq, mc) = mem_each (up_to Q.states) chosen (rw answer_each at m) in
        let (accepting, ms) = mem_cond (has Q.accepting q) (slots q full) mc in
        let h = slots_right.sound q full row ms in
        let inside = all_pass (within 0 nodes) row (h.flag ∙ ap all_places (sym h.places)) in
        record {
          places = h.places;
          nodes = λ x w. omega (arith, within_true 0 nodes x (inside x w), size_numbered numbered);
          no_pads = λ x w m. named_marked x row w (h.unmarked x m);
          state = q;
          runs = h.runs;
          accepts = has_true Q.accepting q accepting;
        }

    -- an accepted row is listed
    accepted_listed : (row : Row) → Accepted t Q row → row ∈ answer_rows Q t
    accepted_listed row h =
        let q = h.state in
        let inside : (x : ℕ) → x ∈ row → within 0 nodes x ≡ true =
        λ x w. in_within 0 nodes x (omega arith) (omega (arith, h.nodes x w, size_numbered numbered)) in
        let (kept, flag) = pass_all (within 0 nodes) row inside in
        let held : Holds Q.arity Q.rules 0 t nodes q full row =
        record {
          places = h.places;
          kept = kept;
          flag = flag ∙ ap all_places h.places;
          unmarked = λ x m. unnamed_unmarked x row (λ w. h.no_pads x w m);
          runs = h.runs;
        } in
        rw answer_each
        (in_each (up_to Q.states) chosen (in_up_to Q.states (numbers_fit.accepts q h.accepts))
        (in_cond (has Q.accepting q) (true_has Q.accepting q h.accepts) (slots_right.complete q full row held)))

    -- the rows of the answer are the accepted rows
    pub answer_right : (row : Row) → (row ∈ answer_rows Q t) ↔ Accepted t Q row
    answer_right row = (listed_accepted row, accepted_listed row)

    -- no row is listed twice: its run shows the state from whose slot it comes
    pub answer_once : Once (answer_rows Q t)
    answer_once =
        rw answer_each
        (once_each (up_to Q.states) chosen (once_count_from Q.states 0)
        (λ q m. once_cond (has Q.accepting q) (slots q full) (slots_right.once q full))
        (λ q q' row m m' w w'. cc (runs q row w, runs q' row w')))
      where
        runs : (q : ℕ) (row : Row) → row ∈ chosen q → run Q.rules row t ≡ some q
        runs q row w = (slots_right.sound q full row (mem_cond (has Q.accepting q) (slots q full) w).1).runs
