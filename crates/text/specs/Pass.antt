-- What the one pass over a text keeps, from its first byte to its last, and the image that it comes to.
-- First the labels that wait for their branches, then what a token changes, then what a byte does.
use Rattle.std.specs.Prelude.{Bool, true, false, cond, ◌&&◌, ◌||◌, List, [], ◌∷◌, ◌++◌, ℕ, ◌+◌, ◌*◌, ◌-◌, eqb, leb, ltb}
use Rattle.std.proofs.Math.Option.{Option, none, some}
use Rattle.paper.specs.BracketedText.{Token, number, opening, closing}
use Rattle.writings.specs.ReadText.{Symbol, is_blank, is_line_end, is_mark, is_opening, is_closing, is_wrong, Sign, digit, symbol, sign_of, Mode, outside, in_number, in_comment}
use Rattle.text.specs.Bounds.{most_written}
pub use Rattle.text.specs.Labels.{Label}

-- ---- the labels that wait
-- They stand in one list, the last label first, each with whether its own brackets are open. A branch is written when its children and its
-- later siblings are, so at the end of the brackets that it stands in.

-- the branches of labels, one after the other
abbrev pub branches : List ℕ → List ℕ
branches [] = []
branches (l ∷ ls) = 2 ∷ l ∷ branches ls

abbrev pub with_brackets : Bool → ℕ → Label
with_brackets is_open l = record { number = l; is_open = is_open }

-- the first label's brackets are opened
abbrev pub opened : List Label → List Label
opened [] = []
opened (l ∷ ls) = with_brackets true l.number ∷ ls

-- the labels inside the innermost open brackets, and those from the label of these brackets on
abbrev pub inner : List Label → List ℕ
inner [] = []
inner (l ∷ ls) = cond l.is_open [] (l.number ∷ inner ls)

abbrev pub outer : List Label → List Label
outer [] = []
outer (l ∷ ls) = cond l.is_open (l ∷ ls) (outer ls)

-- the first label's brackets are closed
abbrev pub closed : List Label → List Label
closed [] = []
closed (l ∷ ls) = with_brackets false l.number ∷ ls

-- ---- tokens
-- a number stands just before, which may have brackets; the open brackets; the written nodes; the labels that wait; the image so far
pub record Kept : Type 0 where
  pub may : Bool
  pub depth : ℕ
  pub nodes : ℕ
  pub waiting : List Label
  pub image : List ℕ

abbrev pub nothing_kept : Kept
nothing_kept = record { may = false; depth = 0; nodes = 0; waiting = []; image = [] }

-- a fault, or what is kept
pub data Step : Type 0 where
  faulty : Step
  going : Kept → Step

-- the number just before turns out to have no brackets: a pad, since its first child is missing
abbrev pub pad_if : Bool → List ℕ
pad_if may = cond may (1 ∷ 0 ∷ []) []

-- no number may follow: there is a root already, or there are 2,047 written nodes
abbrev pub is_full : Kept → Bool
is_full k = (eqb k.depth 0 && ltb 0 k.nodes) || leb most_written k.nodes

abbrev pub with_number : ℕ → Kept → Kept
with_number l k = record {
  may = true;
  depth = k.depth;
  nodes = k.nodes + 1;
  waiting = with_brackets false l ∷ k.waiting;
  image = k.image ++ pad_if k.may;
}

abbrev pub with_opening : Kept → Kept
with_opening k = record { may = false; depth = k.depth + 1; nodes = k.nodes; waiting = opened k.waiting; image = k.image }

-- siblings with these labels end: the last has no next one, which is a pad, and then come their branches
abbrev pub siblings_end : Bool → List ℕ → List ℕ
siblings_end may ls = pad_if may ++ (1 ∷ 0 ∷ branches ls)

abbrev pub siblings_ended : Kept → List ℕ
siblings_ended k = k.image ++ siblings_end k.may (inner k.waiting)

abbrev pub with_closing : Kept → Kept
with_closing k = record {
  may = false;
  depth = k.depth - 1;
  nodes = k.nodes;
  waiting = closed (outer k.waiting);
  image = siblings_ended k;
}

abbrev pub step : Kept → Token → Step
step k (number l) = cond (is_full k) faulty (going (with_number l k))
step k opening = cond k.may (going (with_opening k)) faulty
step k closing = cond (eqb k.depth 0) faulty (going (with_closing k))

-- the image at the end: all brackets are closed, and there is a root
abbrev pub is_whole : Kept → Bool
is_whole k = eqb k.depth 0 && ltb 0 k.nodes

abbrev pub whole_image : Kept → Option (List ℕ)
whole_image k = cond (is_whole k) (some (siblings_ended k)) none

abbrev pub image_at : Step → Option (List ℕ)
image_at faulty = none
image_at (going k) = whole_image k

-- ---- bytes
pub data State : Type 0 where
  refused : State
  reading : Mode → Kept → State

abbrev pub within : Mode → Step → State
within m faulty = refused
within m (going k) = reading m k

-- a byte between tokens that is no digit
abbrev pub after_symbol : Symbol → Kept → State
after_symbol is_blank k = reading outside k
after_symbol is_line_end k = reading outside k
after_symbol is_mark k = reading in_comment k
after_symbol is_opening k = within outside (step k opening)
after_symbol is_closing k = within outside (step k closing)
after_symbol is_wrong k = refused

abbrev pub after_fresh : Sign → Kept → State
after_fresh (digit d) k = reading (in_number d) k
after_fresh (symbol x) k = after_symbol x k

-- the same where a number ends before it
abbrev pub behind : Symbol → Step → State
behind x faulty = refused
behind x (going k) = after_symbol x k

-- one more digit makes no leading zero, and no label above 63
abbrev pub one_more : ℕ → ℕ → Bool
one_more n d = leb 1 n && leb (10 * n + d) 63

abbrev pub after_number : ℕ → Sign → Kept → State
after_number n (digit d) k = cond (one_more n d) (reading (in_number (10 * n + d)) k) refused
after_number n (symbol x) k = behind x (step k (number n))

abbrev pub after_byte : State → ℕ → State
after_byte refused b = refused
after_byte (reading outside k) b = after_fresh (sign_of b) k
after_byte (reading (in_number n) k) b = after_number n (sign_of b) k
after_byte (reading in_comment k) b = reading (cond (eqb b 10) outside in_comment) k

abbrev pub at_end : State → Option (List ℕ)
at_end refused = none
at_end (reading outside k) = whole_image k
at_end (reading (in_number n) k) = image_at (step k (number n))
at_end (reading in_comment k) = whole_image k

-- the image of a text, of which these bytes are still to come
abbrev pub image_behind : State → List ℕ → Option (List ℕ)
image_behind s [] = at_end s
image_behind s (b ∷ t) = image_behind (after_byte s b) t

abbrev pub image_of_text : List ℕ → Option (List ℕ)
image_of_text text = image_behind (reading outside nothing_kept) text
