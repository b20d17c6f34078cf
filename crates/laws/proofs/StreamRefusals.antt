-- Refusals 1 to 6 of a build are exact. First what the tests from one place of the input on come to, then the walk through its records,
-- then that a stream is refused with one number only and at one position, then where that can be, then the two theorems.
use mathlib.Core.Path.{◌≡◌, refl, sym, ap, ap₂, ◌∙◌, subst}
use mathlib.Core.Logic.{◌⊎◌, inl, inr, ⊎_elim, ◌↔◌}
use mathlib.Core.Bool.{Bool, true, false, ◌&&◌}
use mathlib.Core.List.Memᴰ
use mathlib.Core.List.{List, [], ◌∷◌, ◌++◌, append-nil, append_assoc, tail-eq_of_cons-eq, head-eq_of_cons-eq, nil≢cons, cons≢nil}
use Prim.Native.Nat.{ℕ, zero, suc, ◌≤◌, ◌<◌}
use native.Mathlib.Nat.{zero-add}
use native.Mathlib.Omega.{arith}
use borrow.Author.Tests.{eqb-true}
use lib.Dec.{leb}
use lib.ListN.{length, length-append, drop, length-drop}
use lib.Seq.{append_snoc}
use Rattle.paper.specs.Lists.{◌∈◌}
use Rattle.paper.specs.Stream.{body_length, StreamRecord, records_of, behind, is_tree_kind, tree_records, query_records}
use Rattle.paper.specs.Refusals.{No, no, no_at, refused, answer, Test, unless, StreamTest, tests_at, at_each, tree_tests, tree_end_tests, head_tests, query_tests, query_end_tests, tree_part, query_part, work_for, made_from, head_from, build, tree_end}
use Rattle.laws.specs.Plain.{Record, Head}
use Rattle.laws.specs.First.{Alone, FirstOf, NoneOf}
use Rattle.laws.specs.StreamCauses.{written, Begins, AllTree, FaultAt, record_order, StreamRefused, StreamFine, build_order, BuildCause, BuildRefused}
use Rattle.laws.proofs.Lists.{only}
use Rattle.laws.proofs.Replies.{alone_not_at, refused_inj, refused_not_answer, Passes, passes_append, answered, answers, unless_append, Fits, ends, tests, refused_first, passes_none, none_passes}
use Rattle.laws.proofs.StreamPlaces.{behind_append, behind_written, first_record, first_whole, not_cut, place_here, place_first, place_after, written_first, records_cons, Further, places_ordered, tree_kind, all_tree_snoc, Counted, counted_snoc}
use Rattle.laws.proofs.AtEach.{passes_at}
use Rattle.laws.proofs.Judged.{FailsFirst, fails_refused, fails_append, fails_after, fails_at, Judged, fine, faulty, first_same, first_not_none}
use Rattle.laws.proofs.Tests.{Fails, fails_at_most, fails_and}
use Rattle.laws.proofs.TreeFaults.{tree_judged}
use Rattle.laws.proofs.QueryFaults.{no_query_judged, head_judged, query_end_judged, later_judged}

-- ---- what the tests come to
-- no place from this one on has a fault
abbrev FineFrom : List StreamRecord → List ℕ → Type 0
FineFrom before bytes = (later : List StreamRecord) (rest : List ℕ) → Begins bytes later rest → NoneOf record_order (FaultAt (before ++ later) rest)

-- n is the first number whose cause applies at the first place with a fault from this one on, and this is where it stands
pub record RefusedFrom (before : List StreamRecord) (bytes : List ℕ) (n position : ℕ) : Type 0 where
  pub later : List StreamRecord
  pub rest : List ℕ
  pub place : Begins bytes later rest
  pub position_is : position ≡ behind 0 (before ++ later)
  pub first : FirstOf record_order (FaultAt (before ++ later) rest) n
  pub none_earlier : (earlier middle : List StreamRecord) → later ≡ earlier ++ middle → (middle ≡ [] → ⊥)
      → NoneOf record_order (FaultAt (before ++ earlier) (written middle ++ rest))

-- from this place on every test passes and no cause applies, or both give n first, at one position
pub data Outcome (before : List StreamRecord) (bytes : List ℕ) (ts : List Test) : Type 0 where
  all_fine : Passes ts → FineFrom before bytes → Outcome before bytes ts
  first_refused : (n position : ℕ) → FailsFirst ts (no_at n position) → RefusedFrom before bytes n position → Outcome before bytes ts

append_nil_right : {A : Type 0} (xs ys : List A) → [] ≡ xs ++ ys → ys ≡ []
append_nil_right [] ys e = sym e
append_nil_right (x ∷ xs) ys e = absurd (nil≢cons e)

refused_here : (before : List StreamRecord) (bytes : List ℕ) (position : ℕ) → position ≡ behind 0 before → (n : ℕ)
    → FirstOf record_order (FaultAt before bytes) n → RefusedFrom before bytes n position
refused_here before bytes position is n f = record {
  later = [];
  rest = bytes;
  place = place_here bytes;
  position_is = is ∙ ap (behind 0) (sym (append-nil before));
  first = rw append-nil f;
  none_earlier = λ earlier middle e h. absurd (h (append_nil_right earlier middle e));
}

-- the input ends
fine_end : (before : List StreamRecord) → NoneOf record_order (FaultAt before []) → FineFrom before []
fine_end before w [] rest b = rw (append-nil, ← b.split) w
fine_end before w (r ∷ later) rest b = absurd (nil≢cons b.split)

outcome_end : (before : List StreamRecord) (position : ℕ) → position ≡ behind 0 before → {ts : List StreamTest}
    → Judged (FaultAt before []) ts record_order → Outcome before [] (tests_at position ts)
outcome_end before position is {ts} (fine p w) = all_fine (passes_at position ts p) (fine_end before w)
outcome_end before position is {ts} (faulty n p w) = first_refused n position (fails_at position ts n p) (refused_here before [] position is n w)

-- a record stands next
module _ (before : List StreamRecord) (k : ℕ) (more : List ℕ) where
  fine_first : NoneOf record_order (FaultAt before (k ∷ more)) → FineFrom (before ++ (first_record k more ∷ [])) (drop (body_length k) more)
      → FineFrom before (k ∷ more)
  fine_first w f [] rest b = rw (append-nil, ← b.split) w
  fine_first w f (r ∷ later) rest b =
      let p = place_first b in
      rw (p.0, ← append_snoc before (first_record k more) later) (f later rest p.1)

  refused_later : (n position : ℕ) → body_length k ≤ length more → NoneOf record_order (FaultAt before (k ∷ more))
      → RefusedFrom (before ++ (first_record k more ∷ [])) (drop (body_length k) more) n position → RefusedFrom before (k ∷ more) n position
  refused_later n position h w f = record {
    later = first_record k more ∷ f.later;
    rest = f.rest;
    place = place_after h f.place;
    position_is = rw (← append_snoc before (first_record k more) f.later) f.position_is;
    first = rw (← append_snoc before (first_record k more) f.later) f.first;
    none_earlier = none;
  }
    where
      none : (earlier middle : List StreamRecord) → first_record k more ∷ f.later ≡ earlier ++ middle → (middle ≡ [] → ⊥)
          → NoneOf record_order (FaultAt (before ++ earlier) (written middle ++ f.rest))
      none [] middle e some = rw (append-nil, ← e, ← written_first k more f.later f.rest f.place.split) w
      none (r ∷ earlier) middle e some =
          rw (← head-eq_of_cons-eq e, ← append_snoc before (first_record k more) earlier) (f.none_earlier earlier middle (tail-eq_of_cons-eq e) some)

  -- the tests of this record, and if they pass those from the next one on
  outcome_next : (position : ℕ) → position ≡ behind 0 before → {ts : List StreamTest} {us : List Test}
      → Judged (FaultAt before (k ∷ more)) ts record_order → (Passes ts → body_length k ≤ length more)
      → (Passes ts → Outcome (before ++ (first_record k more ∷ [])) (drop (body_length k) more) us)
      → Outcome before (k ∷ more) (tests_at position ts ++ us)
  outcome_next position is {ts} {us} (faulty n p w) long next =
      first_refused n position (fails_append (tests_at position ts) us (no_at n position) (fails_at position ts n p))
      (refused_here before (k ∷ more) position is n w)
  outcome_next position is {ts} {us} (fine p w) long next = go (next p)
    where
      here : Passes (tests_at position ts)
      here = passes_at position ts p

      go : Outcome (before ++ (first_record k more ∷ [])) (drop (body_length k) more) us → Outcome before (k ∷ more) (tests_at position ts ++ us)
      go (all_fine q f) = all_fine (passes_append (tests_at position ts) us here q) (fine_first w f)
      go (first_refused n later q f) =
          first_refused n later (fails_after (tests_at position ts) us (no_at n later) here q) (refused_later n later (long p) w f)

-- ---- the walk through the records
-- the tests of the query from a record on, and those of the tree and then the query
abbrev query_tests_from : ℕ → List StreamRecord → List StreamRecord → List Test
query_tests_from from query rs = at_each query_tests from query rs ++ tests_at (behind from (query ++ rs)) (query_end_tests (query ++ rs))

abbrev tree_tests_from : List StreamRecord → List StreamRecord → List Test
tree_tests_from before rs =
    (at_each tree_tests 0 before (tree_records rs) ++ tests_at (behind 0 (before ++ tree_records rs)) (tree_end_tests (before ++ tree_records rs)))
    ++ query_part (behind 0 (before ++ tree_records rs)) (query_records rs)

-- they begin with those of the record that stands next
query_from_next : (from : ℕ) (head : StreamRecord) (later : List StreamRecord) (r : StreamRecord) (rs : List StreamRecord)
    → query_tests_from from (head ∷ later) (r ∷ rs)
    ≡ tests_at (behind from (head ∷ later)) (query_tests (head ∷ later) r) ++ query_tests_from from (head ∷ (later ++ (r ∷ []))) rs
query_from_next from head later r rs = rw (← append_snoc later r rs) refl

tree_from_next : (before : List StreamRecord) (r : StreamRecord) (rs : List StreamRecord) → is_tree_kind r.kind ≡ true
    → tree_tests_from before (r ∷ rs) ≡ tests_at (behind 0 before) (tree_tests before r) ++ tree_tests_from (before ++ (r ∷ [])) rs
tree_from_next before r rs e = rw (e, ← append_snoc before r (tree_records rs)) refl

-- the tree's end is where the head stands
tree_from_end : (before : List StreamRecord) (r : StreamRecord) (rs : List StreamRecord) → is_tree_kind r.kind ≡ false
    → tree_tests_from before (r ∷ rs) ≡ tests_at (behind 0 before) (tree_end_tests before ++ head_tests r) ++ query_tests_from (behind 0 before) (r ∷ []) rs
tree_from_end before r rs e =
    rw e
    (ap (λ (xs : List StreamRecord). tests_at (behind 0 xs) (tree_end_tests xs) ++ query_part (behind 0 xs) (r ∷ rs)) (append-nil before))

whole_snoc : (later : List StreamRecord) (k : ℕ) (more : List ℕ) → ((r : StreamRecord) → r ∈ later → length r.body ≡ body_length r.kind)
    → body_length k ≤ length more → (r : StreamRecord) → r ∈ later ++ (first_record k more ∷ []) → length r.body ≡ body_length r.kind
whole_snoc later k more w h r m = ⊎_elim (w r) (λ n. last (only n)) (Memᴰ.append_cases later m)
  where
    last : r ≡ first_record k more → length r.body ≡ body_length r.kind
    last e = rw e (first_whole k more h)

-- where a record of the query stands
in_query : (before tree query : List StreamRecord) → before ≡ tree ++ query → behind (behind 0 tree) query ≡ behind 0 before
in_query before tree query e = sym (ap (behind 0) e ∙ behind_append 0 tree query)

-- where the input ends after records of the query, the head among them
query_outcome_end : (head : StreamRecord) (later : List StreamRecord) → head.kind ≡ 16
    → ((r : StreamRecord) → r ∈ later → length r.body ≡ body_length r.kind) → (before tree : List StreamRecord)
    → before ≡ tree ++ (head ∷ later) → AllTree tree → Outcome before [] (query_tests_from (behind 0 tree) (head ∷ later) [])
query_outcome_end head later h w before tree e a =
    rw (append-nil later) (outcome_end before _ (in_query before tree (head ∷ later) e) (query_end_judged head later h w before tree e a))

-- from a place in the query, the head among the records before
query_outcome : (n : ℕ) (bytes : List ℕ) → length bytes ≤ n → (head : StreamRecord) (later : List StreamRecord) → head.kind ≡ 16
    → ((r : StreamRecord) → r ∈ later → length r.body ≡ body_length r.kind) → (before tree : List StreamRecord)
    → before ≡ tree ++ (head ∷ later) → AllTree tree → Outcome before bytes (query_tests_from (behind 0 tree) (head ∷ later) (records_of bytes))
query_outcome zero [] short head later h w before tree e a = query_outcome_end head later h w before tree e a
query_outcome (suc n) [] short head later h w before tree e a = query_outcome_end head later h w before tree e a
query_outcome zero (k ∷ more) short head later h w before tree e a = absurd (omega arith)
query_outcome (suc n) (k ∷ more) short head later h w before tree e a =
    subst (Outcome before (k ∷ more))
    (sym (ap (query_tests_from (behind 0 tree) (head ∷ later)) (records_cons k more)
    ∙ query_from_next (behind 0 tree) head later (first_record k more) (records_of (drop (body_length k) more))))
    (outcome_next before k more _ (in_query before tree (head ∷ later) e) (later_judged head later h w before tree e a k more)
    (λ p. not_cut k more p.1.0)
    (λ p. query_outcome n (drop (body_length k) more) (simp length-drop (omega arith)) head (later ++ (first_record k more ∷ [])) h
    (whole_snoc later k more w (not_cut k more p.1.0)) (before ++ (first_record k more ∷ [])) tree
    (rw (e, append_assoc) refl) a))

-- where the input ends after tree records
no_query_outcome : (before : List StreamRecord) → AllTree before → Counted before → Outcome before [] (tree_tests_from before [])
no_query_outcome before a c = rw append-nil (outcome_end before (behind 0 before) refl (no_query_judged before a c))

-- from a place in the tree
tree_outcome : (n : ℕ) (bytes : List ℕ) → length bytes ≤ n → (before : List StreamRecord) → AllTree before → Counted before
    → Outcome before bytes (tree_tests_from before (records_of bytes))
tree_outcome zero [] short before a c = no_query_outcome before a c
tree_outcome (suc n) [] short before a c = no_query_outcome before a c
tree_outcome zero (k ∷ more) short before a c = absurd (omega arith)
tree_outcome (suc n) (k ∷ more) short before a c =
    subst (λ rs. Outcome before (k ∷ more) (tree_tests_from before rs)) (sym (records_cons k more))
    (go (is_tree_kind k) refl (tree_outcome n rest fewer (before ++ (r ∷ []))))
  where
    r : StreamRecord
    r = first_record k more

    rest : List ℕ
    rest = drop (body_length k) more

    fewer : length rest ≤ n
    fewer = simp length-drop (omega arith)

    go : (t : Bool) → is_tree_kind k ≡ t
        → (AllTree (before ++ (r ∷ [])) → Counted (before ++ (r ∷ []))
        → Outcome (before ++ (r ∷ [])) rest (tree_tests_from (before ++ (r ∷ [])) (records_of rest)))
        → Outcome before (k ∷ more) (tree_tests_from before (r ∷ records_of rest))
    go true e next =
        subst (Outcome before (k ∷ more)) (sym (tree_from_next before r (records_of rest) e))
        (outcome_next before k more (behind 0 before) refl (tree_judged before a c k (tree_kind k e) more) (λ p. not_cut k more p.1.0)
        (λ p. next (all_tree_snoc before r a (tree_kind k e)) (counted_snoc before r (tree_kind k e) p.1.1.1.0 c)))
    go false e next =
        subst (Outcome before (k ∷ more)) (sym (tree_from_end before r (records_of rest) e))
        (outcome_next before k more (behind 0 before) refl (head_judged before a c k more e) (λ p. not_cut k more p.1.1.1.0)
        (λ p. query_outcome n rest fewer r [] (eqb-true k 16 p.1.1.0) (λ s m. absurd (Memᴰ.not-nil m)) (before ++ (r ∷ [])) before refl a))

-- the whole stream
abbrev pub stream_tests : List ℕ → List Test
stream_tests input =
    tree_part (tree_records (records_of input)) ++ query_part (tree_end input) (query_records (records_of input))

pub stream_outcome : (input : List ℕ) → Outcome [] input (stream_tests input)
stream_outcome input = tree_outcome (length input) input (omega arith) [] (λ r m. absurd (Memᴰ.not-nil m)) refl

-- ---- one number is given, at one position
-- two first records at fault in one input stand at the same place
further_same : {input : List ℕ} {m n p q : ℕ} (s : StreamRefused input m p) (t : StreamRefused input n q)
    → Further s.before s.bytes t.before t.bytes → no_at m p ≡ no_at n q
further_same {m = m} {n} {p} {q} s t f = go f.between f.records f.follows
  where
    go : (between : List StreamRecord) → t.before ≡ s.before ++ between → s.bytes ≡ written between ++ t.bytes → no_at m p ≡ no_at n q
    go [] e b =
        ap₂ no_at (first_same record_order (FaultAt s.before s.bytes) m n s.first (rw (b, ← append-nil s.before, ← e) t.first))
        (s.position_is ∙ ap (λ rs. length (written rs)) (sym (e ∙ append-nil s.before)) ∙ sym t.position_is)
    go (r ∷ between) e b =
        absurd (first_not_none record_order (FaultAt s.before s.bytes) m s.first
        (rw b (t.none_earlier s.before (r ∷ between) e (λ z. cons≢nil z))))

pub refused_same : {input : List ℕ} {m n p q : ℕ} → StreamRefused input m p → StreamRefused input n q → no_at m p ≡ no_at n q
refused_same {input} s t =
    ⊎_elim (further_same s t) (λ f. sym (further_same t s f))
    (places_ordered input s.before t.before s.bytes t.bytes s.place t.place)

pub refused_not_fine : {input : List ℕ} {n p : ℕ} → StreamRefused input n p → StreamFine input → ⊥
refused_not_fine {n = n} s f = first_not_none record_order (FaultAt s.before s.bytes) n s.first (f s.before s.bytes s.place)

-- ---- where it can be
-- a position is never behind the end
pub position_inside : {input : List ℕ} {n p : ℕ} → StreamRefused input n p → p ≤ length input
position_inside s = omega (arith, s.position_is, ap length s.place.split, length-append (written s.before) s.bytes)

-- and where nothing stands it is the input's length
pub position_at_end : {input : List ℕ} {n p : ℕ} (s : StreamRefused input n p) → s.bytes ≡ [] → p ≡ length input
position_at_end s none =
    omega (arith, s.position_is, ap length s.place.split, length-append (written s.before) s.bytes, ap length none)

-- ---- the build
pub stream_refused : {input : List ℕ} {n p : ℕ} → RefusedFrom [] input n p → StreamRefused input n p
stream_refused s = record {
  before = s.later;
  bytes = s.rest;
  place = s.place;
  position_is = s.position_is ∙ (behind_written 0 s.later ∙ zero-add _);
  first = s.first;
  none_earlier = s.none_earlier;
}

module _ (input : List ℕ) (work_length table_length : ℕ) where
  abbrev given : Head × List Record
  given = (head_from input, made_from input)

  -- after the stream, causes 5 and 6
  abbrev space_tests : List Test
  space_tests =
      (no 5, leb (work_for input) work_length)
      ∷ (no 6, leb (length (made_from input)) table_length && leb (length (made_from input)) 60000)
      ∷ []

  build_tests : build input work_length table_length ≡ unless (stream_tests input ++ space_tests) given
  build_tests =
      ap (λ ts. unless ts given)
      (sym (append_assoc (tree_part (tree_records (records_of input)))
      (query_part (tree_end input) (query_records (records_of input))) space_tests))

  build_passes : Passes (stream_tests input) → build input work_length table_length ≡ unless space_tests given
  build_passes p = build_tests ∙ unless_append (stream_tests input) space_tests given p

  build_fails : (n : No) → FailsFirst (stream_tests input) n → build input work_length table_length ≡ refused n
  build_fails n f = build_tests ∙ fails_refused (stream_tests input ++ space_tests) n given (fails_append (stream_tests input) space_tests n f)

  space_fits : Fits (BuildCause input work_length table_length) space_tests build_order
  space_fits = tests (λ e. inl (refl, work.0 e)) cause_five (tests (λ e. inr (refl, table.0 e)) cause_six ends)
    where
      work : Fails (leb (work_for input) work_length) (work_length < work_for input)
      work = fails_at_most (work_for input) work_length

      table : Fails (leb (length (made_from input)) table_length && leb (length (made_from input)) 60000)
          ((table_length < length (made_from input)) ⊎ (60000 < length (made_from input)))
      table = fails_and (fails_at_most (length (made_from input)) table_length) (fails_at_most (length (made_from input)) 60000)

      cause_five : BuildCause input work_length table_length 5 → leb (work_for input) work_length ≡ false
      cause_five (inl f) = work.1 f.1
      cause_five (inr f) = absurd (omega (arith, f.0))

      cause_six : BuildCause input work_length table_length 6 → leb (length (made_from input)) table_length && leb (length (made_from input)) 60000 ≡ false
      cause_six (inl f) = absurd (omega (arith, f.0))
      cause_six (inr f) = table.1 f.1

  -- the number that a build gives is the first in the paper's order whose cause applies, and its position that of the record at fault
  pub build_refused : (w : No) → (build input work_length table_length ≡ refused w) ↔ BuildRefused input work_length table_length w
  build_refused w = by_stream (stream_outcome input) w
    where
      space : (v : No) → (unless space_tests given ≡ refused v) ↔ Alone (FirstOf build_order (BuildCause input work_length table_length)) v
      space = refused_first given space_fits

      by_stream : Outcome [] input (stream_tests input) → (v : No)
          → (build input work_length table_length ≡ refused v) ↔ BuildRefused input work_length table_length v
      by_stream (all_fine p f) (no n) = (λ e. (f, (space (no n)).0 (sym (build_passes p) ∙ e)), λ g. build_passes p ∙ (space (no n)).1 g.1)
      by_stream (all_fine p f) (no_at n q) = (
        λ e. absurd ((space (no_at n q)).0 (sym (build_passes p) ∙ e)),
        λ s. absurd (refused_not_fine s f),
      )
      by_stream (first_refused m r p s) (no n) = (
        λ e. absurd (alone_not_at (sym (refused_inj (sym (build_fails (no_at m r) p) ∙ e)))),
        λ g. absurd (refused_not_fine (stream_refused s) g.0),
      )
      by_stream (first_refused m r p s) (no_at n q) = (
        λ e. subst (BuildRefused input work_length table_length) (refused_inj (sym (build_fails (no_at m r) p) ∙ e)) (stream_refused s),
        λ t. build_fails (no_at m r) p ∙ ap refused (refused_same (stream_refused s) t),
      )

  -- it answers exactly where no cause applies
  pub build_answers : (build input work_length table_length ≡ answer (head_from input, made_from input))
      ↔ (StreamFine input × NoneOf build_order (BuildCause input work_length table_length))
  build_answers = by_stream (stream_outcome input)
    where
      by_stream : Outcome [] input (stream_tests input)
          → (build input work_length table_length ≡ answer (head_from input, made_from input))
          ↔ (StreamFine input × NoneOf build_order (BuildCause input work_length table_length))
      by_stream (all_fine p f) = (
        λ e. (f, passes_none space_fits (answered space_tests (sym (build_passes p) ∙ e)).0),
        λ g. build_passes p ∙ answers space_tests given (none_passes space_fits g.1),
      )
      by_stream (first_refused m r p s) = (
        λ e. absurd (refused_not_answer (sym (build_fails (no_at m r) p) ∙ e)),
        λ g. absurd (refused_not_fine (stream_refused s) g.0),
      )
