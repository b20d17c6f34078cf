-- The lists while they are made, between two records. A cell is a symbol's own, or that of a rule passed. The last one of a symbol tells the
-- end, and no rule of the symbol was passed since; every other one tells the next rule. So no chain of cells is ever spoken of.
-- First cells, then the lists before the first record, after one more, and behind the last, then the loop over the records.
use mathlib.Core.Bool.{false, false≢true, true}
use mathlib.Core.List.{List}
use mathlib.Core.Logic.{◌⊎◌, inl, inr, ⊎_elim}
use mathlib.Core.Path.{◌∙◌, ◌≡◌, ap, refl, subst, sym}
use Prim.Native.Nat.{◌<◌, ◌≤◌, suc, ℕ}
use native.Mathlib.Omega.{arith}
use borrow.Author.Tests.{eq-eqb, eqb-false, eqb-true, ltb-false, ltb-true, ne_eqb}
use lib.Dec.{eqb, ltb}
use lib.ListN.{drop, get_or, length, length-set, set}
use lib.Seq.{get_or-set_other, get_or-set_same}
use Rattle.std.specs.Prelude.{None, Some}
use Rattle.paper.specs.Lists.{has}
use Rattle.paper.specs.Query.{accepting_of}
use Rattle.paper.specs.Questions.{has_place}
use Rattle.paper.specs.Stream.{records_of}
use Rattle.laws.proofs.Lists.{which}
use Rattle.stream.specs.Positions.{NextRule, after, record_at}
use Rattle.stream.specs.RuleLists.{Room, RuleLists, SymbolAt, accepting_cell, cell_of, is_for, kind_for, label_for, place, symbols}
use Rattle.stream.proofs.RuleSearch.{Skipped, all_skipped, none_skipped, one_skipped, rule_found}
use Rattle.stream.proofs.Symbols.{cell_behind, one_symbol, place_from, place_up}

-- the next rule of a symbol from a position on, and a part of the search for it
abbrev Seeks : List ℕ → ℕ → ℕ → ℕ → Type 0
Seeks input start s next = NextRule input start (kind_for s) (label_for s) next

abbrev SkippedTo : List ℕ → ℕ → ℕ → ℕ → Type 0
SkippedTo input start s next = Skipped input start (kind_for s) (label_for s) next

-- ---- cells: after n records, c is a cell of symbol s, and the rule that it tells is sought from `start` on
pub data Cell (input : List ℕ) (from n : ℕ) : (c s start : ℕ) → Type 0 where
  head : (s : ℕ) → Cell input from n s s from
  rule : (s i : ℕ) → i < n → place input from i < length input → is_for s (record_at input (place input from i)) ≡ true
      → Cell input from n (cell_of from (place input from i)) s (after input (place input from i))

-- a cell is of one symbol only, and from one position on: the cells of two rules are apart, by their length
one_cell : {input : List ℕ} {from n c d s t a b : ℕ} → s < symbols → t < symbols → Cell input from n c s a → Cell input from n d t b → c ≡ d
    → (s ≡ t) × (a ≡ b)
one_cell h g (head s) (head t) e = (e, refl)
one_cell {from = from} h g (head s) (rule t j m q y) e = absurd (omega arith)
one_cell {from = from} h g (rule s i l p x) (head t) e = absurd (omega arith)
one_cell {input} {from} h g (rule s i l p x) (rule t j m q y) e =
    ⊎_elim (λ w. absurd (less (ltb-true i j w)))
    (λ w. ⊎_elim (λ v. absurd (more (ltb-true j i v))) (λ v. equal (omega (arith, ltb-false i j w, ltb-false j i v))) (which (ltb j i)))
    (which (ltb i j))
  where
    less : i < j → ⊥
    less w = omega (arith, cell_behind input from s i j h x w)

    more : j < i → ⊥
    more w = omega (arith, cell_behind input from t j i g y w)

    equal : i ≡ j → (s ≡ t) × (after input (place input from i) ≡ after input (place input from j))
    equal w = (
      one_symbol s t (record_at input (place input from i)) x (subst (λ k. is_for t (record_at input (place input from k)) ≡ true) (sym w) y),
      ap (λ k. after input (place input from k)) w,
    )

-- a cell stays one
later : {input : List ℕ} {from n c s a : ℕ} → Cell input from n c s a → Cell input from (suc n) c s a
later (head s) = head s
later (rule s i l p x) = rule s i (omega arith) p x

-- and lies before that of the next record
before : {input : List ℕ} {from n c s a : ℕ} → s < symbols → Cell input from n c s a → c < cell_of from (place input from n)
before h (head s) = omega arith
before {input} {from} {n} h (rule s i l p x) = cell_behind input from s i n h x l

-- the cells after one more record: those before, and that of the record
pub record Newest (input : List ℕ) (from n c s start : ℕ) : Type 0 where
  pub its_cell : c ≡ cell_of from (place input from n)
  pub behind_it : start ≡ after input (place input from n)
  pub its_symbol : is_for s (record_at input (place input from n)) ≡ true

newest : {input : List ℕ} {from n c s a : ℕ} → Cell input from (suc n) c s a → Cell input from n c s a ⊎ Newest input from n c s a
newest (head s) = inl (head s)
newest {input} {from} {n} (rule s i l p x) =
    ⊎_elim (λ w. inl (rule s i (ltb-true i n w) p x)) (λ w. inr (same (omega (arith, ltb-false i n w)))) (which (ltb i n))
  where
    same : i ≡ n → Newest input from n (cell_of from (place input from i)) s (after input (place input from i))
    same w = record {
      its_cell = ap (λ k. cell_of from (place input from k)) w;
      behind_it = ap (λ k. after input (place input from k)) w;
      its_symbol = subst (λ k. is_for s (record_at input (place input from k)) ≡ true) w x;
    }

-- ---- the lists after n records
-- the last cell of a symbol
pub record Last (input : List ℕ) (from n : ℕ) (lists : List ℕ) (s c : ℕ) : Type 0 where
  pub start : ℕ
  pub cell : Cell input from n c s start
  pub ends : get_or lists c 0 ≡ length input
  pub passed : SkippedTo input start s (place input from n)

pub record Linked (input : List ℕ) (from n : ℕ) (lists last : List ℕ) : Type 0 where
  pub lasts : (s : ℕ) → s < symbols → Last input from n lists s (get_or last s 0)
  pub cells : (c s start : ℕ) → s < symbols → Cell input from n c s start → (c ≡ get_or last s 0) ⊎ Seeks input start s (get_or lists c 0)

-- ---- no record passed: no symbol has a rule
abbrev Unlinked : ℕ → List ℕ → List ℕ → Type 0
Unlinked end lists last = (s : ℕ) → s < symbols → (get_or lists s 0 ≡ end) × (get_or last s 0 ≡ s)

linked_none : (input : List ℕ) (from : ℕ) (lists last : List ℕ) → Unlinked (length input) lists last → Linked input from 0 lists last
linked_none input from lists last h = record {
  lasts = λ s b.
      subst (Last input from 0 lists s) (sym (h s b).1)
      (record { start = from; cell = head s; ends = (h s b).0; passed = none_skipped _ _ _ _ });
  cells = λ c s a b w. inl (first c s a b w);
}
  where
    first : (c s a : ℕ) → s < symbols → Cell input from 0 c s a → c ≡ get_or last s 0
    first c s a b (head t) = sym (h s b).1
    first c s a b (rule t i l p x) = absurd (omega arith)

-- ---- one more record
module _ (input : List ℕ) (from n : ℕ) (lists last : List ℕ) (k : Linked input from n lists last) (inside : place input from n < length input) where
  abbrev at : ℕ
  at = place input from n

  -- the last cell of each symbol lies before that of the record
  last_low : (s : ℕ) → s < symbols → get_or last s 0 < cell_of from at
  last_low s b = before b (k.lasts s b).cell

  -- no rule that is listed: the search for the next one of each symbol goes on
  linked_on : ((s : ℕ) → s < symbols → is_for s (record_at input at) ≡ false) → Linked input from (suc n) lists last
  linked_on un = record {
    lasts = λ s b.
        let z = k.lasts s b in
        record { start = z.start; cell = later z.cell; ends = z.ends; passed = one_skipped _ _ _ _ _ z.passed inside (un s b) };
    cells = λ c s a b w. ⊎_elim (k.cells c s a b) (λ v. absurd (false≢true (sym (un s b) ∙ v.its_symbol))) (newest w);
  }

  -- a rule of symbol x: the last cell of x tells it, and its own cell is the last one
  module _ (x : ℕ) (it : SymbolAt input at (Some x)) (long : length last ≡ symbols) (room : cell_of from at < length lists) where
    low : x < symbols
    low = it.0

    is : (s : ℕ) → s < symbols → is_for s (record_at input at) ≡ eqb x s
    is = it.1

    abbrev old : ℕ
    old = get_or last x 0

    abbrev lists' : List ℕ
    lists' = set (set lists old at) (cell_of from at) (get_or lists old 0)

    abbrev last' : List ℕ
    last' = set last x (cell_of from at)

    this : is_for x (record_at input at) ≡ true
    this = is x low ∙ eq-eqb x x refl

    -- what the new lists hold
    at_new : get_or lists' (cell_of from at) 0 ≡ length input
    at_new =
        get_or-set_same (set lists old at) (cell_of from at) (get_or lists old 0) 0 (omega (arith, length-set lists old at)) ∙ (k.lasts x low).ends

    at_old : get_or lists' old 0 ≡ at
    at_old =
        get_or-set_other (set lists old at) (cell_of from at) old (get_or lists old 0) 0 (λ e. omega (arith, last_low x low))
        ∙ get_or-set_same lists old at 0 (omega (arith, last_low x low))

    elsewhere : (c : ℕ) → c < cell_of from at → (c ≡ old → ⊥) → get_or lists' c 0 ≡ get_or lists c 0
    elsewhere c l un =
        get_or-set_other (set lists old at) (cell_of from at) c (get_or lists old 0) 0 (λ e. omega arith) ∙ get_or-set_other lists old c at 0 un

    last_new : get_or last' x 0 ≡ cell_of from at
    last_new = get_or-set_same last x (cell_of from at) 0 (omega arith)

    last_other : (s : ℕ) → (s ≡ x → ⊥) → get_or last' s 0 ≡ get_or last s 0
    last_other s un = get_or-set_other last x s (cell_of from at) 0 un

    -- the last cells
    lasts' : (s : ℕ) → s < symbols → Last input from (suc n) lists' s (get_or last' s 0)
    lasts' s b = ⊎_elim (λ e. its_own (eqb-true s x e)) (λ e. another (eqb-false s x e)) (which (eqb s x))
      where
        its_own : s ≡ x → Last input from (suc n) lists' s (get_or last' s 0)
        its_own e =
            rw (e, last_new)
            (record { start = after input at; cell = rule x n (omega arith) inside this; ends = at_new; passed = none_skipped _ _ _ _ })

        another : (s ≡ x → ⊥) → Last input from (suc n) lists' s (get_or last' s 0)
        another un =
            let z = k.lasts s b in
            rw (last_other s un)
            (record {
              start = z.start;
              cell = later z.cell;
              ends = elsewhere (get_or last s 0) (last_low s b) (λ e. un (one_cell b low z.cell (k.lasts x low).cell e).0) ∙ z.ends;
              passed = one_skipped _ _ _ _ _ z.passed inside (is s b ∙ ne_eqb x s (λ e. un (sym e)));
            })

    -- the cells that were there: what told the end tells this rule, and every other one tells what it told
    earlier : (c s a : ℕ) → s < symbols → Cell input from n c s a → (c ≡ get_or last' s 0) ⊎ Seeks input a s (get_or lists' c 0)
    earlier c s a b w = ⊎_elim (λ e. inr (linked (eqb-true c old e))) (λ e. kept (eqb-false c old e)) (which (eqb c old))
      where
        linked : c ≡ old → Seeks input a s (get_or lists' c 0)
        linked e =
            let z = one_cell b low w (k.lasts x low).cell e in
            rw (e, at_old, z.0, z.1) (rule_found _ _ _ _ _ (k.lasts x low).passed inside this)

        kept : (c ≡ old → ⊥) → (c ≡ get_or last' s 0) ⊎ Seeks input a s (get_or lists' c 0)
        kept un =
            ⊎_elim (λ e. inl (e ∙ sym (last_other s (λ q. un (e ∙ ap (λ t. get_or last t 0) q)))))
            (λ e. inr (subst (Seeks input a s) (sym (elsewhere c (before b w) un)) e)) (k.cells c s a b w)

    -- and its own
    own : (c s a : ℕ) → Newest input from n c s a → c ≡ get_or last' s 0
    own c s a v =
        let same : s ≡ x = one_symbol s x (record_at input at) v.its_symbol this in
        v.its_cell ∙ sym (ap (λ t. get_or last' t 0) same ∙ last_new)

    linked_more : Linked input from (suc n) lists' last'
    linked_more = record { lasts = lasts'; cells = λ c s a b w. ⊎_elim (earlier c s a b) (λ v. inl (own c s a v)) (newest w) }

-- ---- all records passed
module _ (input : List ℕ) (from n : ℕ) (lists last : List ℕ) (k : Linked input from n lists last) (ended : length input ≤ place input from n) where
  -- each cell tells the next rule: the last one of a symbol tells the end, and there is none
  told : (c s start : ℕ) → s < symbols → Cell input from n c s start → Seeks input start s (get_or lists c 0)
  told c s start b w = ⊎_elim at_last (λ e. e) (k.cells c s start b w)
    where
      at_last : c ≡ get_or last s 0 → Seeks input start s (get_or lists c 0)
      at_last e =
          let z = k.lasts s b in
          let one = one_cell b b w z.cell e in
          rw (one.1, e, z.ends) (all_skipped _ _ _ _ _ z.passed ended)

  -- a record inside is passed
  passed : (i : ℕ) → place input from i < length input → i < n
  passed i h = ⊎_elim (ltb-true i n) (λ e. absurd (beyond (ltb-false i n e))) (which (ltb i n))
    where
      beyond : n ≤ i → ⊥
      beyond g = omega (arith, place_up input from n i g)

  -- so the lists are right, once the accepting states are put in
  module _ (bits : ℕ) (room : accepting_cell < length lists)
      (right : (q : ℕ) → q < 16 → has_place bits q ≡ has (accepting_of (records_of (drop from input))) q) where
    kept : (c : ℕ) → (c ≡ accepting_cell → ⊥) → get_or lists c 0 ≡ get_or (set lists accepting_cell bits) c 0
    kept c un = sym (get_or-set_other lists accepting_cell c bits 0 un)

    linked_all : RuleLists input from (set lists accepting_cell bits)
    linked_all = record {
      first = λ s b. subst (Seeks input from s) (kept s (λ e. omega arith)) (told s s from b (head s));
      next = λ s i b h e.
          subst (Seeks input (after input (place input from i)) s) (kept (cell_of from (place input from i)) (λ w. omega arith))
          (told (cell_of from (place input from i)) s (after input (place input from i)) b (rule s i (passed i h) h e));
      accepting = λ q h. ap (λ b. has_place b q) (get_or-set_same lists accepting_cell bits 0 room) ∙ right q h;
    }

-- ---- the loop over the records: the position is that of a record or the end, and the lists keep their size
pub record Going (input : List ℕ) (from size at : ℕ) (lists last : List ℕ) : Type 0 where
  pub n : ℕ
  pub here : at ≡ place input from n
  pub sized : length lists ≡ size
  pub long : length last ≡ symbols
  pub linked : Linked input from n lists last

pub going_starts : (input : List ℕ) (from : ℕ) (lists last : List ℕ) → length last ≡ symbols → Unlinked (length input) lists last
    → Going input from (length lists) from lists last
going_starts input from lists last long h =
    record { n = 0; here = refl; sized = refl; long = long; linked = linked_none input from lists last h }

module _ (input : List ℕ) (from size at : ℕ) (lists last : List ℕ) (k : Going input from size at lists last) where
  pub going_behind : from ≤ at
  going_behind = omega (arith, k.here, place_from input from k.n)

  module _ (inside : at < length input) where
    reached : place input from k.n < length input
    reached = omega (arith, k.here)

    -- there is a cell for the record
    pub cell_room : Room input from size → cell_of from at < length lists
    cell_room r = omega (arith, going_behind, k.sized)

    -- and the last one of a symbol lies before it
    pub last_before : (s : ℕ) → s < symbols → get_or last s 0 < cell_of from at
    last_before s b =
        subst (λ p. get_or last s 0 < cell_of from p) (sym k.here) (last_low input from k.n lists last k.linked reached s b)

    module _ (to : ℕ) (ends : to ≡ after input at) where
      next_place : to ≡ place input from (suc k.n)
      next_place = ends ∙ ap (after input) k.here

      -- one more record, which is no rule that is listed
      pub goes_past : SymbolAt input at None → Going input from size to lists last
      goes_past is = record {
        n = suc k.n;
        here = next_place;
        sized = k.sized;
        long = k.long;
        linked = linked_on input from k.n lists last k.linked reached (subst (λ p. SymbolAt input p None) k.here is);
      }

      -- or is one
      pub goes_on : Room input from size → (x : ℕ) → SymbolAt input at (Some x) → (cell : ℕ) (lists' last' : List ℕ) → cell ≡ cell_of from at
          → lists' ≡ set (set lists (get_or last x 0) at) cell (get_or lists (get_or last x 0) 0) → last' ≡ set last x cell
          → Going input from size to lists' last'
      goes_on r x is cell lists' last' c e f = record {
        n = suc k.n;
        here = next_place;
        sized = rw e (length-set (set lists (get_or last x 0) at) cell _ ∙ length-set lists (get_or last x 0) at ∙ k.sized);
        long = rw f (length-set last x cell ∙ k.long);
        linked =
            rw (e, f, c, k.here)
            (linked_more input from k.n lists last k.linked reached x (subst (λ p. SymbolAt input p (Some x)) k.here is) k.long
            (subst (λ p. cell_of from p < length lists) k.here (cell_room r)));
      }

  -- all records passed
  pub going_ends : length input ≤ at → Room input from size → (bits : ℕ)
      → ((q : ℕ) → q < 16 → has_place bits q ≡ has (accepting_of (records_of (drop from input))) q) → RuleLists input from (set lists accepting_cell bits)
  going_ends ended r bits right =
      linked_all input from k.n lists last k.linked (omega (arith, k.here)) bits (omega (arith, k.sized, r)) right
