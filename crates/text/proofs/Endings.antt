-- Judging tokens from the first to the last agrees with the reading from the last to the first.
-- Each is an equation on the ending of the tokens that are still to come: brackets, roots, numbers; then what is accepted.
use mathlib.Core.Path.{◌≡◌, refl, sym, ◌∙◌, ap}
use mathlib.Core.Bool.{Bool, true, false, ◌&&◌, false≢true}
use mathlib.Core.List.{List, [], ◌∷◌}
use mathlib.Core.Option.{some}
use Prim.Native.Nat.{ℕ, zero, suc, ◌+◌, ◌≤◌}
use native.Mathlib.Omega.{arith}
use Rattle.paper.specs.WrittenTree.{Forest, nil, tree, WrittenTree, forest_nodes, written_nodes}
use Rattle.paper.specs.BracketedText.{Token, number, opening, closing}
use Rattle.writings.specs.ReadText.{Ending, forests, bracket, refused, number_before, opening_before, closing_before, ending_of, one_root, closed_root}
use Rattle.writings.proofs.Texts.{one_root_found, closed_root_read}

-- ---- the counts
-- every opening bracket follows a number, and d open ones and those that follow are closed; may: a number stands just before
abbrev pub balanced : (may : Bool) → ℕ → List Token → Bool
balanced may zero [] = true
balanced may (suc d) [] = false
balanced may d (number l ∷ ts) = balanced true d ts
balanced may d (opening ∷ ts) = may && balanced false (suc d) ts
balanced may zero (closing ∷ ts) = false
balanced may (suc d) (closing ∷ ts) = balanced false d ts

-- how many numbers stand outside all brackets
abbrev pub roots : ℕ → List Token → ℕ
roots d [] = 0
roots zero (number l ∷ ts) = suc (roots zero ts)
roots (suc d) (number l ∷ ts) = roots (suc d) ts
roots d (opening ∷ ts) = roots (suc d) ts
roots zero (closing ∷ ts) = 0
roots (suc d) (closing ∷ ts) = roots d ts

abbrev pub numbers : List Token → ℕ
numbers [] = 0
numbers (number l ∷ ts) = suc (numbers ts)
numbers (opening ∷ ts) = numbers ts
numbers (closing ∷ ts) = numbers ts

-- ---- brackets
-- the ending closes d brackets
abbrev deep : ℕ → List Forest → Bool
deep zero [] = true
deep zero (f ∷ fs) = false
deep (suc d) [] = false
deep (suc d) (f ∷ fs) = deep d fs

abbrev closes : Bool → ℕ → Ending → Bool
closes may d (forests f fs) = deep d fs
closes may d (bracket c s fs) = may && deep d fs
closes may d refused = false

pub and_false : (p : Bool) → p && false ≡ false
and_false true = refl
and_false false = refl

number_closes : (may : Bool) (d l : ℕ) (e : Ending) → closes true d e ≡ closes may d (number_before l e)
number_closes may d l (forests s fs) = refl
number_closes may d l (bracket c s fs) = refl
number_closes may d l refused = refl

opening_closes : (may : Bool) (d : ℕ) (e : Ending) → may && closes false (suc d) e ≡ closes may d (opening_before e)
opening_closes may d (forests c []) = and_false may
opening_closes may d (forests c (s ∷ fs)) = refl
opening_closes may d (bracket c s fs) = and_false may
opening_closes may d refused = and_false may

closing_never : (may : Bool) (e : Ending) → false ≡ closes may zero (closing_before e)
closing_never may (forests f fs) = refl
closing_never may (bracket c s fs) = refl
closing_never may refused = refl

closing_closes : (may : Bool) (d : ℕ) (e : Ending) → closes false d e ≡ closes may (suc d) (closing_before e)
closing_closes may d (forests f fs) = refl
closing_closes may d (bracket c s fs) = refl
closing_closes may d refused = refl

balanced_closes : (ts : List Token) (may : Bool) (d : ℕ) → balanced may d ts ≡ closes may d (ending_of ts)
balanced_closes [] may zero = refl
balanced_closes [] may (suc d) = refl
balanced_closes (number l ∷ ts) may d = balanced_closes ts true d ∙ number_closes may d l (ending_of ts)
balanced_closes (opening ∷ ts) may d =
    ap (λ x. may && x) (balanced_closes ts false (suc d)) ∙ opening_closes may d (ending_of ts)
balanced_closes (closing ∷ ts) may zero = closing_never may (ending_of ts)
balanced_closes (closing ∷ ts) may (suc d) = balanced_closes ts false d ∙ closing_closes may d (ending_of ts)

-- ---- roots
abbrev trees : Forest → ℕ
trees nil = 0
trees (tree l c s) = suc (trees s)

abbrev roots_in : ℕ → Forest → List Forest → ℕ
roots_in zero f fs = trees f
roots_in (suc d) f [] = 0
roots_in (suc d) f (g ∷ fs) = roots_in d g fs

abbrev HasRoots : ℕ → ℕ → Ending → Type 0
HasRoots d n (forests f fs) = n ≡ roots_in d f fs
HasRoots d n (bracket c s fs) = n ≡ roots_in d s fs
HasRoots d n refused = Unit {0}

number_roots : (l n : ℕ) (e : Ending) → HasRoots zero n e → HasRoots zero (suc n) (number_before l e)
number_roots l n (forests s fs) h = ap suc h
number_roots l n (bracket c s fs) h = ap suc h
number_roots l n refused h = tt

number_inside : (d l n : ℕ) (e : Ending) → HasRoots (suc d) n e → HasRoots (suc d) n (number_before l e)
number_inside d l n (forests s []) h = h
number_inside d l n (forests s (f ∷ fs)) h = h
number_inside d l n (bracket c s []) h = h
number_inside d l n (bracket c s (f ∷ fs)) h = h
number_inside d l n refused h = tt

opening_roots : (d n : ℕ) (e : Ending) → HasRoots (suc d) n e → HasRoots d n (opening_before e)
opening_roots d n (forests c []) h = tt
opening_roots d n (forests c (s ∷ fs)) h = h
opening_roots d n (bracket c s fs) h = tt
opening_roots d n refused h = tt

closing_outside : (e : Ending) → HasRoots zero 0 (closing_before e)
closing_outside (forests f fs) = refl
closing_outside (bracket c s fs) = tt
closing_outside refused = tt

closing_roots : (d n : ℕ) (e : Ending) → HasRoots d n e → HasRoots (suc d) n (closing_before e)
closing_roots d n (forests f fs) h = h
closing_roots d n (bracket c s fs) h = tt
closing_roots d n refused h = tt

roots_are : (ts : List Token) (d : ℕ) → HasRoots d (roots d ts) (ending_of ts)
roots_are [] zero = refl
roots_are [] (suc d) = refl
roots_are (number l ∷ ts) zero = number_roots l (roots zero ts) (ending_of ts) (roots_are ts zero)
roots_are (number l ∷ ts) (suc d) = number_inside d l (roots (suc d) ts) (ending_of ts) (roots_are ts (suc d))
roots_are (opening ∷ ts) d = opening_roots d (roots (suc d) ts) (ending_of ts) (roots_are ts (suc d))
roots_are (closing ∷ ts) zero = closing_outside (ending_of ts)
roots_are (closing ∷ ts) (suc d) = closing_roots d (roots d ts) (ending_of ts) (roots_are ts d)

-- ---- numbers
abbrev pub all_nodes : List Forest → ℕ
all_nodes [] = 0
all_nodes (f ∷ fs) = forest_nodes f + all_nodes fs

abbrev HasNodes : ℕ → Ending → Type 0
HasNodes n (forests f fs) = n ≡ forest_nodes f + all_nodes fs
HasNodes n (bracket c s fs) = n ≡ forest_nodes c + (forest_nodes s + all_nodes fs)
HasNodes n refused = Unit {0}

number_nodes : (l n : ℕ) (e : Ending) → HasNodes n e → HasNodes (suc n) (number_before l e)
number_nodes l n (forests s fs) h = omega arith
number_nodes l n (bracket c s fs) h = omega arith
number_nodes l n refused h = tt

opening_nodes : (n : ℕ) (e : Ending) → HasNodes n e → HasNodes n (opening_before e)
opening_nodes n (forests c []) h = tt
opening_nodes n (forests c (s ∷ fs)) h = h
opening_nodes n (bracket c s fs) h = tt
opening_nodes n refused h = tt

closing_nodes : (n : ℕ) (e : Ending) → HasNodes n e → HasNodes n (closing_before e)
closing_nodes n (forests f fs) h = omega arith
closing_nodes n (bracket c s fs) h = tt
closing_nodes n refused h = tt

nodes_are : (ts : List Token) → HasNodes (numbers ts) (ending_of ts)
nodes_are [] = refl
nodes_are (number l ∷ ts) = number_nodes l (numbers ts) (ending_of ts) (nodes_are ts)
nodes_are (opening ∷ ts) = opening_nodes (numbers ts) (ending_of ts) (nodes_are ts)
nodes_are (closing ∷ ts) = closing_nodes (numbers ts) (ending_of ts) (nodes_are ts)

-- ---- what is accepted
-- the judging pass accepts exactly what the reading does
one_of : (f : Forest) → trees f ≡ 1 → forest_nodes f ≤ 2047 → (w : WrittenTree) × (one_root f ≡ some w)
one_of nil one few = absurd (omega arith)
one_of (tree l c nil) one few = (record { label = l; children = c }, one_root_found (record { label = l; children = c }) few)
one_of (tree l c (tree l' c' s)) one few = absurd (omega arith)

accepted : (n : ℕ) (e : Ending) → closes false zero e ≡ true → HasRoots zero 1 e → HasNodes n e → n ≤ 2047
    → (w : WrittenTree) × (closed_root e ≡ some w)
accepted n (forests f []) c r h few = one_of f (sym r) (omega arith)
accepted n (forests f (g ∷ fs)) c r h few = absurd (false≢true c)
accepted n (bracket c' s fs) c r h few = absurd (false≢true c)
accepted n refused c r h few = absurd (false≢true c)

pub judged_accepts : (ts : List Token) → balanced false 0 ts ≡ true → roots 0 ts ≡ 1 → numbers ts ≤ 2047
    → (w : WrittenTree) × (closed_root (ending_of ts) ≡ some w)
judged_accepts ts b r few =
    accepted (numbers ts) (ending_of ts) (sym (balanced_closes ts false 0) ∙ b) (rw r at (roots_are ts 0)) (nodes_are ts) few

pub accepted_judged : (ts : List Token) (w : WrittenTree) → closed_root (ending_of ts) ≡ some w
    → (balanced false 0 ts ≡ true) × (roots 0 ts ≡ 1) × (numbers ts ≡ written_nodes w) × (written_nodes w ≤ 2047)
accepted_judged ts w e =
    let (f, few) = closed_root_read (ending_of ts) w e in
    let n : numbers ts ≡ written_nodes w + 0 = rw f at (nodes_are ts) in
    (balanced_closes ts false 0 ∙ ap (closes false 0) f, rw f at (roots_are ts 0), omega arith, few)
