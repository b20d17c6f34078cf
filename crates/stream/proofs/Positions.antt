-- Records by their position. First the record that stands at a position and its numbers, then whole records from one position up to
-- another, and one more behind them.
use mathlib.Core.Bool.{true, false}
use mathlib.Core.List.Memᴰ
use mathlib.Core.List.{List, [], ◌++◌, ◌∷◌, append_assoc, append-nil}
use mathlib.Core.Logic.{⊎_elim}
use mathlib.Core.Path.{◌∙◌, ◌≡◌, ap, refl, sym}
use Prim.Native.Nat.{◌+◌, ◌-◌, ◌<◌, ◌≤◌, suc, zero, ℕ}
use native.Mathlib.Numerals.{add-one}
use native.Mathlib.Omega.{arith}
use borrow.Author.Tests.{eq-eqb, eqb-true, ne_eqb}
use lib.ListN.{drop, drop_of_length-le, get_or, length, length-append, length-drop, length-take, take, take-append-drop}
use lib.Seq.{drop-append-le, drop-cons, drop_at, drop-drop, get_or-drop, get_or-take, length-slice, length-take-le, take_at}
use Rattle.paper.specs.Lists.{◌∈◌}
use Rattle.paper.specs.Stream.{StreamRecord, behind, body_length, number, records_of, records_within, whole}
use Rattle.laws.specs.StreamCauses.{Begins, written}
use Rattle.laws.proofs.Lists.{here}
use Rattle.laws.proofs.StreamPlaces.{behind_written, place_after, place_here, records_cons}
use Rattle.stream.specs.Positions.{WholeBetween, after, record_at, records_between}

-- ---- one record
module _ (input : List ℕ) (at : ℕ) where
  -- behind the end there is none
  pub records_none : length input ≤ at → records_of (drop at input) ≡ []
  records_none h = ap records_of (drop_of_length-le input h)

  -- its kind, then its body and all behind it
  bytes_here : at < length input → drop at input ≡ get_or input at 0 ∷ drop (at + 1) input
  bytes_here h = drop-cons input at 0 h ∙ ap {B = List ℕ} (λ n. get_or input at 0 ∷ drop n input) (sym (add-one at))

  -- the record that stands there, then those after it
  pub records_here : at < length input → records_of (drop at input) ≡ record_at input at ∷ records_of (drop (after input at) input)
  records_here h =
      ap records_of (bytes_here h) ∙ records_cons (get_or input at 0) (drop (at + 1) input)
      ∙ ap {B = List StreamRecord} (λ bytes. record_at input at ∷ records_of bytes) (drop-drop (body_length (get_or input at 0)) (at + 1) input)

  -- its numbers are bytes of the input
  number_here : (i : ℕ) → i < body_length (get_or input at 0) → number (record_at input at) i ≡ get_or input (at + 1 + i) 0
  number_here i h = get_or-take (body_length (get_or input at 0)) (drop (at + 1) input) i 0 h ∙ get_or-drop (at + 1) input i 0

  -- the same by its kind and the position of the byte
  pub number_byte : (k i j : ℕ) → get_or input at 0 ≡ k → i < body_length k → at + 1 + i ≡ j → number (record_at input at) i ≡ get_or input j 0
  number_byte k i j kind h e = number_here i (omega (arith, ap body_length kind)) ∙ ap (λ n. get_or input n 0) e

  -- it is whole where the input reaches to its end, and cut where not
  pub whole_here : after input at ≤ length input → whole (record_at input at) ≡ true
  whole_here h =
      eq-eqb _ _ (length-take-le (body_length (get_or input at 0)) (drop (at + 1) input) (omega (arith, length-drop (at + 1) input)))

  pub cut_here : at < length input → length input < after input at → whole (record_at input at) ≡ false
  cut_here g h =
      ne_eqb (length (take (body_length (get_or input at 0)) (drop (at + 1) input))) (body_length (get_or input at 0))
      (λ e. omega (arith, length-take (body_length (get_or input at 0)) (drop (at + 1) input), length-drop (at + 1) input))

  pub whole_inside : at < length input → whole (record_at input at) ≡ true → after input at ≤ length input
  whole_inside h e =
      omega (
        arith,
        eqb-true (length (record_at input at).body) (body_length (get_or input at 0)) e,
        length-take (body_length (get_or input at 0)) (drop (at + 1) input),
        length-drop (at + 1) input,
      )

-- ---- written records
-- the records that bytes make are all of these bytes, in their order
written_within : (n : ℕ) (bytes : List ℕ) → length bytes ≤ n → written (records_within n bytes) ≡ bytes
written_within zero [] h = refl
written_within zero (k ∷ bytes) h = absurd (omega arith)
written_within (suc n) [] h = refl
written_within (suc n) (k ∷ bytes) h =
    rw (written_within n (drop (body_length k) bytes) (omega (arith, length-drop (body_length k) bytes)), take-append-drop (body_length k) bytes) refl

pub written_records : (bytes : List ℕ) → written (records_of bytes) ≡ bytes
written_records bytes = written_within (length bytes) bytes (omega arith)

-- so the same records from two positions on are as many bytes
pub one_rest : (input : List ℕ) (m n : ℕ) → records_of (drop m input) ≡ records_of (drop n input) → length input - m ≡ length input - n
one_rest input m n e =
    sym (length-drop m input)
    ∙ ap length (sym (written_records (drop m input)) ∙ ap written e ∙ written_records (drop n input))
    ∙ length-drop n input

-- bytes that begin with whole records make these records and then those of the rest
records_begin : (records : List StreamRecord) (rest : List ℕ) → ((r : StreamRecord) → r ∈ records → length r.body ≡ body_length r.kind)
    → records_of (written records ++ rest) ≡ records ++ records_of rest
records_begin [] rest w = refl
records_begin (r ∷ rs) rest w =
    ap (λ bytes. records_of (r.kind ∷ bytes)) (append_assoc r.body (written rs) rest)
    ∙ records_cons r.kind (r.body ++ (written rs ++ rest))
    ∙ rw (body, behind) (ap {B = List StreamRecord} (λ z. r ∷ z) (records_begin rs rest (λ s m. w s (Memᴰ.tail m))))
  where
    body : take (body_length r.kind) (r.body ++ (written rs ++ rest)) ≡ r.body
    body = take_at r.body (written rs ++ rest) (body_length r.kind) (w r here)

    behind : drop (body_length r.kind) (r.body ++ (written rs ++ rest)) ≡ written rs ++ rest
    behind = drop_at r.body (written rs ++ rest) (body_length r.kind) (w r here)

written_append : (xs ys : List StreamRecord) → written (xs ++ ys) ≡ written xs ++ written ys
written_append [] ys = refl
written_append (x ∷ xs) ys =
    ap {B = List ℕ} (λ z. x.kind ∷ (x.body ++ z)) (written_append xs ys)
    ∙ ap {B = List ℕ} (λ z. x.kind ∷ z) (sym (append_assoc x.body (written xs) (written ys)))

-- a place behind a place
place_append : {input bytes rest : List ℕ} {xs ys : List StreamRecord} → Begins input xs bytes → Begins bytes ys rest → Begins input (xs ++ ys) rest
place_append {rest = rest} {xs} {ys} p q = record {
  split = p.split ∙ ap (λ z. written xs ++ z) q.split ∙ sym (append_assoc (written xs) (written ys) rest)
      ∙ ap {B = List ℕ} (λ z. z ++ rest) (sym (written_append xs ys));
  whole = λ r m. ⊎_elim (p.whole r) (q.whole r) (Memᴰ.append_cases xs m);
}

-- ---- whole records from one position up to another
module _ (input : List ℕ) (from to : ℕ) where
  -- between the two stand these records, if the input from the first on begins with them and goes on from the second
  between : (records : List StreamRecord) → from ≤ to → to ≤ length input → Begins (drop from input) records (drop to input)
      → records_between input from to ≡ records
  between records a b h = ap records_of (bytes ∙ sym (append-nil (written records))) ∙ records_begin records [] h.whole ∙ append-nil records
    where
      part : List ℕ
      part = drop from (take to input)

      joined : part ++ drop to input ≡ written records ++ drop to input
      joined =
          sym (drop-append-le from (take to input) (drop to input) (omega (arith, length-take to input)))
          ∙ ap (drop from) (take-append-drop to input) ∙ h.split

      long : length (written records) ≡ to - from
      long = omega (arith, simp length-append at (ap length h.split), length-drop from input, length-drop to input)

      bytes : part ≡ written records
      bytes =
          sym (take_at part (drop to input) (to - from) (length-slice from to input b))
          ∙ ap (take (to - from)) joined ∙ take_at (written records) (drop to input) (to - from) long

  -- the records from the first position on are those between and those from the second on
  pub records_between_lem : WholeBetween input from to → records_of (drop from input) ≡ records_between input from to ++ records_of (drop to input)
  records_between_lem h = ap records_of h.begins.split ∙ records_begin (records_between input from to) (drop to input) h.begins.whole

  -- they are as many bytes as the positions are apart
  pub bytes_between : WholeBetween input from to → from + length (written (records_between input from to)) ≡ to
  bytes_between h =
      omega (arith, h.ordered, h.inside, simp length-append at (ap length h.begins.split), length-drop from input, length-drop to input)

  -- so the next one stands where they end
  pub behind_between : WholeBetween input from to → behind from (records_between input from to) ≡ to
  behind_between h = behind_written from (records_between input from to) ∙ bytes_between h

-- ---- one more whole record
module _ (input : List ℕ) (from at : ℕ) (before : WholeBetween input from at) (h : after input at ≤ length input) where
  -- it stands behind those between
  one_begins : Begins (drop at input) (record_at input at ∷ []) (drop (after input at) input)
  one_begins =
      rw (bytes_here input at (omega arith), ← drop-drop (body_length (get_or input at 0)) (at + 1) input)
      (place_after (omega (arith, length-drop (at + 1) input)) (place_here (drop (body_length (get_or input at 0)) (drop (at + 1) input))))

  more_begins : Begins (drop from input) (records_between input from at ++ (record_at input at ∷ [])) (drop (after input at) input)
  more_begins = place_append before.begins one_begins

  -- those between, and then this one
  pub between_more : records_between input from (after input at) ≡ records_between input from at ++ (record_at input at ∷ [])
  between_more = between input from (after input at) _ (omega (arith, before.ordered)) h more_begins

  -- and all of them are whole
  pub whole_more : WholeBetween input from (after input at)
  whole_more = record { ordered = omega (arith, before.ordered); inside = h; begins = rw between_more more_begins }
