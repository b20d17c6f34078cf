-- Tokens to trees: the reading from the last token to the first finds the forests that the grammar gives, and no other.
-- First what each ending says in the grammar's words, then the reading finds only such, then it finds each.
use mathlib.Core.Path.{◌≡◌, refl, ap}
use mathlib.Core.List.{List, [], ◌∷◌}
use Prim.Native.Nat.{ℕ}
use Rattle.paper.specs.WrittenTree.{Forest, nil, tree}
use Rattle.paper.specs.BracketedText.{Token, number, opening, closing, Siblings, no_more, without_brackets, with_brackets}
use Rattle.writings.specs.ReadText.{Ending, forests, bracket, refused, number_before, opening_before, closing_before, ending_of}

-- ---- what an ending says
-- the forests stand one after the other, each but the last followed by a closing bracket
pub data Levels : List Token → Forest → List Forest → Type 0 where
  outermost : {ts : List Token} {f : Forest} → Siblings ts f [] → Levels ts f []
  inner : {ts us : List Token} {f g : Forest} {fs : List Forest} → Siblings ts f (closing ∷ us) → Levels us g fs → Levels ts f (g ∷ fs)

abbrev Says : List Token → Ending → Type 0
Says ts (forests f fs) = Levels ts f fs
Says ts (bracket c s fs) = (us : List Token) × (ts ≡ opening ∷ us) × Levels us c (s ∷ fs)
Says ts refused = Unit {0}

-- ---- the reading is right
label_alone : (l : ℕ) {ts : List Token} {s : Forest} {fs : List Forest} → Levels ts s fs → Levels (number l ∷ ts) (tree l nil s) fs
label_alone l (outermost g) = outermost (without_brackets g)
label_alone l (inner g ls) = inner (without_brackets g) ls

label_brackets : (l : ℕ) {ts : List Token} {c s : Forest} {fs : List Forest} → Levels ts c (s ∷ fs)
    → Levels (number l ∷ opening ∷ ts) (tree l c s) fs
label_brackets l (inner g (outermost g')) = outermost (with_brackets g g')
label_brackets l (inner g (inner g' ls)) = inner (with_brackets g g') ls

number_says : (l : ℕ) (ts : List Token) (e : Ending) → Says ts e → Says (number l ∷ ts) (number_before l e)
number_says l ts (forests s fs) h = label_alone l h
number_says l ts (bracket c s fs) (us, e, h) = rw e (label_brackets l h)
number_says l ts refused h = tt

opening_says : (ts : List Token) (e : Ending) → Says ts e → Says (opening ∷ ts) (opening_before e)
opening_says ts (forests c []) h = tt
opening_says ts (forests c (s ∷ fs)) h = (ts, refl, h)
opening_says ts (bracket c s fs) h = tt
opening_says ts refused h = tt

closing_says : (ts : List Token) (e : Ending) → Says ts e → Says (closing ∷ ts) (closing_before e)
closing_says ts (forests f fs) h = inner no_more h
closing_says ts (bracket c s fs) h = tt
closing_says ts refused h = tt

-- every ending that is found says what it should
pub ending_says : (ts : List Token) → Says ts (ending_of ts)
ending_says [] = outermost no_more
ending_says (number l ∷ ts) = number_says l ts (ending_of ts) (ending_says ts)
ending_says (opening ∷ ts) = opening_says ts (ending_of ts) (ending_says ts)
ending_says (closing ∷ ts) = closing_says ts (ending_of ts) (ending_says ts)

-- one forest alone is the whole text
pub one_forest : (ts : List Token) (f : Forest) → ending_of ts ≡ forests f [] → Siblings ts f []
one_forest ts f e = go (rw e at (ending_says ts))
  where
    go : Levels ts f [] → Siblings ts f []
    go (outermost g) = g

-- ---- and it finds each
-- a forest before tokens that go on with nothing at its level
pub siblings_found : {ts us : List Token} {f : Forest} → Siblings ts f us → (fs : List Forest)
    → ending_of us ≡ forests nil fs → ending_of ts ≡ forests f fs
siblings_found no_more fs e = e
siblings_found (without_brackets {l = l} g) fs e = ap (number_before l) (siblings_found g fs e)
siblings_found (with_brackets {l = l} {s = s} g g') fs e =
    ap (λ x. number_before l (opening_before x)) (siblings_found g (s ∷ fs) (ap closing_before (siblings_found g' fs e)))

pub whole_found : {ts : List Token} {f : Forest} → Siblings ts f [] → ending_of ts ≡ forests f []
whole_found g = siblings_found g [] refl
