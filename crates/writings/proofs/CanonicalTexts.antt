-- The canonical text of a tree is a text of it, and how long it can be.
use mathlib.Core.Path.{◌≡◌}
use mathlib.Core.Bool.{Bool, true, false, cond}
use mathlib.Core.Logic.{inl}
use mathlib.Core.List.{List, [], ◌∷◌, ◌++◌, append_assoc, append-nil}
use Prim.Native.Nat.{ℕ, ◌+◌, ◌*◌, ◌/◌, ◌%◌, ◌≤◌}
use native.Mathlib.Omega.{arith}
use lib.Dec.{ltb}
use lib.ListN.{length, length-append}
use Rattle.paper.specs.WrittenTree.{Forest, nil, tree, WrittenTree, forest_of, forest_nodes, LabelsFit, Allowed}
use Rattle.paper.specs.BracketedText.{Token, number, opening, decimal, NoDigitFirst, Cut, end, blank, opens, closes, label}
use Rattle.paper.specs.BracketedText.{Siblings, no_more, without_brackets, with_brackets, Writes}
use Rattle.paper.specs.CanonicalText.{bracketed, between, forest_text, text_of}

-- the forest's text before bytes that are tokens and begin with no digit
record Before (f : Forest) (t : List ℕ) (rest : List Token) : Type 0 where
  tokens : List Token
  cut : Cut (forest_text f ++ t) tokens
  siblings : Siblings tokens f rest

-- what follows a label: nothing, a blank, or brackets
pub alone : (d t : List ℕ) → (d ++ []) ++ t ≡ d ++ t
alone d t = rw append-nil

pub blank_follows : (d y t : List ℕ) → (d ++ (32 ∷ y)) ++ t ≡ d ++ (32 ∷ (y ++ t))
blank_follows d y t = simp append_assoc

pub brackets_follow : (d x y t : List ℕ) → (d ++ ((40 ∷ (x ++ (41 ∷ []))) ++ y)) ++ t ≡ d ++ (40 ∷ (x ++ (41 ∷ (y ++ t))))
brackets_follow d x y t = simp append_assoc

before : (f : Forest) → LabelsFit f → {t : List ℕ} {ts : List Token} → Cut t ts → NoDigitFirst t → Before f t ts
before nil h {t} {ts} g n = record { tokens = ts; cut = g; siblings = no_more }
before (tree l nil nil) h {t} {ts} g n =
    record { tokens = number l ∷ ts; cut = rw (alone (decimal l) t) (label h.0 n g); siblings = without_brackets no_more }
before (tree l nil (tree l' c' s')) h {t} {ts} g n =
    let r = before (tree l' c' s') h.2 g n in
    record {
      tokens = number l ∷ r.tokens;
      cut = rw (blank_follows (decimal l) (forest_text (tree l' c' s')) t)
          (label {t = 32 ∷ (forest_text (tree l' c' s') ++ t)} h.0 (inl (omega arith)) (blank r.cut));
      siblings = without_brackets r.siblings;
    }
before (tree l (tree l' c' s') s) h {t} {ts} g n =
    let r = before s h.2 g n in
    let q = before (tree l' c' s') h.1 (closes r.cut) (inl (omega arith)) in
    record {
      tokens = number l ∷ opening ∷ q.tokens;
      cut = rw (brackets_follow (decimal l) (forest_text (tree l' c' s')) (forest_text s) t)
          (label {t = 40 ∷ (forest_text (tree l' c' s') ++ (41 ∷ (forest_text s ++ t)))} h.0 (inl (omega arith)) (opens q.cut));
      siblings = with_brackets q.siblings r.siblings;
    }

pub canonical_writes : (w : WrittenTree) → Allowed w → Writes (text_of w) w
canonical_writes w a =
    let r = before (forest_of w) a.labels end tt in
    record { tokens = r.tokens; cut = rw (append-nil (text_of w)) at r.cut; one_root = r.siblings; few = a.few }

-- ---- how long it is
decimal_length : (l : ℕ) → length (decimal l) ≤ 2
decimal_length l = go (ltb l 10)
  where
    go : (c : Bool) → length (cond c ((48 + l) ∷ []) ((48 + l / 10) ∷ (48 + l % 10) ∷ [])) ≤ 2
    go true = omega arith
    go false = omega arith

behind_length : (c s : Forest) (x : List ℕ) → length (bracketed c x) + length (between c s) ≤ length x + 2
behind_length nil nil x = omega arith
behind_length nil (tree l c s) x = omega arith
behind_length (tree l c s) s' x = omega (arith, length-append x (41 ∷ []))

-- at most four bytes a node
pub text_length : (f : Forest) → length (forest_text f) ≤ 4 * forest_nodes f
text_length nil = omega arith
text_length (tree l c s) =
    simp length-append (omega (arith, decimal_length l, behind_length c s (forest_text c), text_length c, text_length s))

-- so the canonical text of a tree that can be written has at most 8,188
pub text_short : (w : WrittenTree) → Allowed w → length (text_of w) ≤ 8188
text_short w a = omega (arith, text_length (forest_of w), a.few)
