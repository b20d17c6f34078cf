-- What is put: where there is room all of it stands behind the text.
use mathlib.Core.List.{List, [], ◌++◌, ◌∷◌, append_assoc}
use mathlib.Core.Path.{◌∙◌, ◌≡◌, ap}
use Prim.Native.Nat.{◌+◌, ◌<◌, ◌≤◌, ℕ}
use native.Mathlib.Omega.{arith}
use borrow.Author.Tests.{le-leb, lt-leb}
use lib.ListN.{length, length-append}
use Rattle.std.specs.Prelude.{Some}
use Rattle.paper.specs.Refusals.{No, no, no_at, number_in, position_in}
use Rattle.lines.specs.Bounds.{longest_number, longest_refusal}
use Rattle.lines.specs.Put.{put, put_fact, put_refusal}
use Rattle.lines.specs.Text.{at_word, fact_text, number_text, refusal_text, refused_word}
use Rattle.lines.proofs.Numbers.{number_short}

-- ---- with room, and without
module _ (size : ℕ) (bytes text : List ℕ) where
  pub puts : length text + length bytes ≤ size → put size bytes text ≡ text ++ bytes
  unfolding put
  puts room = rw (le-leb (length text + length bytes) size room)

  pub put_left_out : size < length text + length bytes → put size bytes text ≡ text
  unfolding put
  put_left_out full = rw (lt-leb (length text + length bytes) size full)

-- ---- a line
pub length_fact : (word : List ℕ) (n : ℕ) → length (fact_text word n) ≡ length word + length (number_text n) + 1
length_fact word n = omega (arith, length-append word (number_text n ++ (10 ∷ [])), length-append (number_text n) (10 ∷ []))

pub fact_short : (word : List ℕ) (n : ℕ) → length (fact_text word n) ≤ length word + longest_number + 1
fact_short word n = omega (arith, length_fact word n, number_short n)

pub puts_fact : (size : ℕ) (word : List ℕ) (n : ℕ) (text : List ℕ) → length text + length (fact_text word n) ≤ size
    → put_fact size word n text ≡ text ++ fact_text word n
puts_fact size word n text room =
    ap (λ (t : List ℕ). put size (10 ∷ []) (put size (number_text n) t)) (puts size word text (omega (arith, long)))
    ∙ ap (put size (10 ∷ [])) (puts size (number_text n) (text ++ word) (omega (arith, long, length-append text word)))
    ∙ puts size (10 ∷ []) ((text ++ word) ++ number_text n)
    (omega (arith, long, length-append text word, length-append (text ++ word) (number_text n)))
    ∙ append_assoc (text ++ word) (number_text n) (10 ∷ [])
    ∙ append_assoc text word (number_text n ++ (10 ∷ []))
  where
    long : length (fact_text word n) ≡ length word + length (number_text n) + 1
    long = length_fact word n

-- ---- the line of a refusal
pub refusal_short : (w : No) → length (refusal_text w) ≤ longest_refusal
refusal_short (no n) = omega (arith, fact_short refused_word n)
refusal_short (no_at n p) =
    omega (
      arith,
      fact_short at_word p,
      number_short n,
      length-append refused_word (number_text n ++ fact_text at_word p),
      length-append (number_text n) (fact_text at_word p),
    )

pub puts_refusal : (size : ℕ) (w : No) (text : List ℕ) → length text + length (refusal_text w) ≤ size
    → put_refusal size w text ≡ text ++ refusal_text w
puts_refusal size (no n) text room = puts_fact size refused_word n text room
puts_refusal size (no_at n p) text room =
    ap (λ (t : List ℕ). put_fact size at_word p (put size (number_text n) t)) (puts size refused_word text (omega (arith, long)))
    ∙ ap (put_fact size at_word p) (puts size (number_text n) (text ++ refused_word) (omega (arith, long, length-append text refused_word)))
    ∙ puts_fact size at_word p ((text ++ refused_word) ++ number_text n)
    (omega (arith, long, length-append text refused_word, length-append (text ++ refused_word) (number_text n)))
    ∙ append_assoc (text ++ refused_word) (number_text n) (fact_text at_word p)
    ∙ append_assoc text refused_word (number_text n ++ fact_text at_word p)
  where
    long : length (refusal_text (no_at n p)) ≡ length refused_word + length (number_text n) + length (fact_text at_word p)
    long = omega (arith, length-append refused_word (number_text n ++ fact_text at_word p), length-append (number_text n) (fact_text at_word p))

-- of one with a position
pub put_positioned : (size : ℕ) (w : No) (p : ℕ) (text : List ℕ) → Some p ≡ position_in w
    → put_refusal size w text ≡ put_fact size at_word p (put size (number_text (number_in w)) (put size refused_word text))
put_positioned size (no n) p text e = cc
put_positioned size (no_at n q) p text e = cc
