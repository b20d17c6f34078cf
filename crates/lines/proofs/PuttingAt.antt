-- What is put behind the first bytes of a buffer: where there is room all of it stands there, and what is put behind it stands behind it.
-- Of a buffer of fixed size it is what is put behind the text that its first bytes are.
use mathlib.Core.Bool.{Bool, false, true}
use mathlib.Core.List.{List, [], ◌++◌, ◌∷◌, append_assoc}
use mathlib.Core.Path.{◌∙◌, ◌≡◌, ap, ap₂, refl, subst, sym}
use Prim.Native.Nat.{◌+◌, ◌<◌, ◌≤◌, ℕ}
use native.Mathlib.Omega.{arith}
use borrow.Author.Tests.{le-leb, leb-false, leb-true, lt-leb}
use lib.Dec.{leb}
use lib.ListN.{drop, length, length-append, length-drop, take}
use lib.Seq.{length-take-le, take_at}
use Rattle.std.specs.Prelude.{None, Some}
use Rattle.paper.specs.Refusals.{No, no, no_at, number_in, position_in}
use Rattle.lines.specs.Put.{put, put_fact, put_refusal}
use Rattle.lines.specs.PutAt.{Puts, put_at, put_fact_at, put_refusal_at}
use Rattle.lines.specs.Text.{at_word, fact_text, number_text, refusal_text, refused_word}
use Rattle.lines.proofs.Putting.{length_fact, put_left_out, puts}

-- a part of the buffer is as long as it is asked for
pub count_taken : (n : ℕ) (text : List ℕ) → n ≤ length text → n ≡ length (take n text)
count_taken n text h = sym (length-take-le n text h)

-- ---- with room, and without
module _ (bytes : List ℕ) (at : ℕ) (text : List ℕ) where
  pub put_fits_at : at + length bytes ≤ length text
      → put_at bytes (at, text) ≡ (at + length bytes, take at text ++ bytes ++ drop (at + length bytes) text)
  unfolding put_at
  put_fits_at room = rw (le-leb (at + length bytes) (length text) room)

  pub put_left_out_at : length text < at + length bytes → put_at bytes (at, text) ≡ (at, text)
  unfolding put_at
  put_left_out_at full = rw (lt-leb (at + length bytes) (length text) full)

  -- the buffer stays as long as it was
  length_put_at : length (put_at bytes (at, text)).1 ≡ length text
  unfolding put_at
  length_put_at = go (leb (at + length bytes) (length text)) refl
    where
      go : (c : Bool) → leb (at + length bytes) (length text) ≡ c → length (put_at bytes (at, text)).1 ≡ length text
      go true e =
          let room = leb-true (at + length bytes) (length text) e in
          rw e
          (omega (
            arith,
            room,
            length-append (take at text ++ bytes) (drop (at + length bytes) text),
            length-append (take at text) bytes,
            length-take-le at text (omega (arith, room)),
            length-drop (at + length bytes) text,
          ))
      go false e = rw e

  pub puts_at : {end : ℕ} {text' : List ℕ} → at + length bytes ≤ length text → put_at bytes (at, text) ≡ (end, text')
      → Puts bytes at text end text'
  puts_at {end} {text'} room e =
      let same = sym e ∙ put_fits_at room in
      let ends : end ≡ at + length bytes = ap (λ (s : ℕ × List ℕ). s.0) same in record {
        ends = ends;
        stands =
            ap₂ take ends (ap (λ (s : ℕ × List ℕ). s.1) same)
            ∙ take_at (take at text ++ bytes) (drop (at + length bytes) text) (at + length bytes)
            (omega (arith, length-append (take at text) bytes, length-take-le at text (omega (arith, room))));
      }

pub puts_then_at : {first second : List ℕ} {at middle end : ℕ} {text text₁ text₂ : List ℕ} → Puts first at text middle text₁
    → Puts second middle text₁ end text₂ → Puts (first ++ second) at text end text₂
puts_then_at {first} {second} {at = at} {text = text} p q = record {
  ends = omega (arith, p.ends, q.ends, length-append first second);
  stands = q.stands ∙ ap (λ (bytes : List ℕ). bytes ++ second) p.stands ∙ append_assoc (take at text) first second;
}

-- ---- a line
pub puts_fact_at : (word : List ℕ) (n at : ℕ) (text : List ℕ) {end : ℕ} {text' : List ℕ} → at + length (fact_text word n) ≤ length text
    → put_fact_at word n (at, text) ≡ (end, text') → Puts (fact_text word n) at text end text'
puts_fact_at word n at text room e =
    puts_then_at first (puts_then_at second (puts_at (10 ∷ []) s₂.0 s₂.1 (omega (arith, parts, room, first.ends, second.ends, long₁, long₂)) e))
  where
    s₁ : ℕ × List ℕ
    s₁ = put_at word (at, text)

    s₂ : ℕ × List ℕ
    s₂ = put_at (number_text n) s₁

    parts : length (fact_text word n) ≡ length word + length (number_text n) + 1
    parts = length_fact word n

    long₁ : length s₁.1 ≡ length text
    long₁ = length_put_at word at text

    first : Puts word at text s₁.0 s₁.1
    first = puts_at word at text (omega (arith, parts, room)) refl

    long₂ : length s₂.1 ≡ length s₁.1
    long₂ = length_put_at (number_text n) s₁.0 s₁.1

    second : Puts (number_text n) s₁.0 s₁.1 s₂.0 s₂.1
    second = puts_at (number_text n) s₁.0 s₁.1 (omega (arith, parts, room, first.ends, long₁)) refl

-- ---- the line of a refusal
pub puts_refusal_at : (w : No) (at : ℕ) (text : List ℕ) {end : ℕ} {text' : List ℕ} → at + length (refusal_text w) ≤ length text
    → put_refusal_at w (at, text) ≡ (end, text') → Puts (refusal_text w) at text end text'
puts_refusal_at (no n) at text room e = puts_fact_at refused_word n at text room e
puts_refusal_at (no_at n p) at text room e =
    puts_then_at first
    (puts_then_at second (puts_fact_at at_word p s₂.0 s₂.1 (omega (arith, parts, room, first.ends, second.ends, long₁, long₂)) e))
  where
    s₁ : ℕ × List ℕ
    s₁ = put_at refused_word (at, text)

    s₂ : ℕ × List ℕ
    s₂ = put_at (number_text n) s₁

    parts : length (refusal_text (no_at n p)) ≡ length refused_word + length (number_text n) + length (fact_text at_word p)
    parts = omega (arith, length-append refused_word (number_text n ++ fact_text at_word p), length-append (number_text n) (fact_text at_word p))

    long₁ : length s₁.1 ≡ length text
    long₁ = length_put_at refused_word at text

    first : Puts refused_word at text s₁.0 s₁.1
    first = puts_at refused_word at text (omega (arith, parts, room)) refl

    long₂ : length s₂.1 ≡ length s₁.1
    long₂ = length_put_at (number_text n) s₁.0 s₁.1

    second : Puts (number_text n) s₁.0 s₁.1 s₂.0 s₂.1
    second = puts_at (number_text n) s₁.0 s₁.1 (omega (arith, parts, room, first.ends, long₁)) refl

-- what is put one after the other, by whether there is a position
pub positioned_at : (w : No) (p : ℕ) (s : ℕ × List ℕ) → Some p ≡ position_in w
    → put_refusal_at w s ≡ put_fact_at at_word p (put_at (number_text (number_in w)) (put_at refused_word s))
positioned_at (no n) p s e = cc
positioned_at (no_at n q) p s e = cc

pub alone_at : (w : No) (s : ℕ × List ℕ) → None ≡ position_in w
    → put_refusal_at w s ≡ put_at (10 ∷ []) (put_at (number_text (number_in w)) (put_at refused_word s))
alone_at (no n) s e = refl
alone_at (no_at n q) s e = cc

-- ---- the text that the first bytes of a buffer of fixed size are
pub record Shows (size : ℕ) (s : ℕ × List ℕ) (text : List ℕ) : Type 0 where
  pub long : length s.1 ≡ size
  pub within : s.0 ≤ size
  pub shown : take s.0 s.1 ≡ text

module _ (size : ℕ) where
  -- what is put behind them is put behind the text
  pub shows_put : (bytes : List ℕ) (s : ℕ × List ℕ) (text : List ℕ) {s' : ℕ × List ℕ} → Shows size s text → put_at bytes s ≡ s'
      → Shows size s' (put size bytes text)
  shows_put bytes s text h e = subst (λ (t : ℕ × List ℕ). Shows size t (put size bytes text)) e (go (leb (s.0 + length bytes) (length s.1)) refl)
    where
      counted : s.0 ≡ length text
      counted = count_taken s.0 s.1 (omega (arith, h.long, h.within)) ∙ ap length h.shown

      go : (c : Bool) → leb (s.0 + length bytes) (length s.1) ≡ c → Shows size (put_at bytes s) (put size bytes text)
      go true t =
          let room = leb-true (s.0 + length bytes) (length s.1) t in
          let p = puts_at bytes s.0 s.1 room refl in record {
            long = length_put_at bytes s.0 s.1 ∙ h.long;
            within = omega (arith, p.ends, room, h.long);
            shown = p.stands ∙ ap (λ (u : List ℕ). u ++ bytes) h.shown ∙ sym (puts size bytes text (omega (arith, counted, room, h.long)));
          }
      go false t =
          let full = leb-false (s.0 + length bytes) (length s.1) t in
          let same = put_left_out_at bytes s.0 s.1 (omega (arith, full)) in record {
            long = length_put_at bytes s.0 s.1 ∙ h.long;
            within = rw same h.within;
            shown =
                ap (λ (u : ℕ × List ℕ). take u.0 u.1) same ∙ h.shown
                ∙ sym (put_left_out size bytes text (omega (arith, counted, full, h.long)));
          }

  pub shows_fact : (word : List ℕ) (n : ℕ) (s : ℕ × List ℕ) (text : List ℕ) {s' : ℕ × List ℕ} → Shows size s text
      → put_fact_at word n s ≡ s' → Shows size s' (put_fact size word n text)
  shows_fact word n s text h e = shows_put _ _ _ (shows_put _ _ _ (shows_put word s text h refl) refl) e

  pub shows_refusal : (w : No) (s : ℕ × List ℕ) (text : List ℕ) {s' : ℕ × List ℕ} → Shows size s text → put_refusal_at w s ≡ s'
      → Shows size s' (put_refusal size w text)
  shows_refusal (no n) s text h e = shows_fact refused_word n s text h e
  shows_refusal (no_at n p) s text h e = shows_fact at_word p _ _ (shows_put _ _ _ (shows_put refused_word s text h refl) refl) e
