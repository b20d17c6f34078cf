-- The pass over the tokens of a text gives the image exactly if the tokens are a tree's.
-- First what is still to be written, level by level, and that it is the image; then the labels that wait in one list; then the pass.
use mathlib.Core.Path.{◌≡◌, refl, sym, ◌∙◌, ap}
use mathlib.Core.Bool.{Bool, true, false, cond, ◌&&◌, ◌||◌, false≢true}
use mathlib.Core.List.{List, [], ◌∷◌, ◌++◌, append-nil, append_assoc, map}
use mathlib.Core.Option.{Option, none, some}
use mathlib.Core.Option as O
use Prim.Native.Nat.{ℕ, zero, suc, ◌+◌, ◌-◌, ◌≤◌, ◌<◌}
use native.Mathlib.Omega.{arith}
use borrow.Author.Tests.{lt-ltb, le-leb, lt-leb, eq-eqb, ne_eqb, eqb-true, leb-true, leb-false}
use lib.Dec.{eqb, leb, ltb}
use lib.ListN.{length}
use Rattle.paper.specs.WrittenTree.{Forest, nil, tree, WrittenTree, forest_of}
use Rattle.paper.specs.BracketedText.{Token, number, opening, closing}
use Rattle.paper.specs.Image.{forest_bytes, image_bytes}
use Rattle.writings.specs.ReadText.{Ending, forests, bracket, refused, number_before, opening_before, closing_before, ending_of, closed_root}
use Rattle.laws.proofs.Lists.{both_true}
use Rattle.writings.proofs.Images.{regrouped}
use Rattle.writings.proofs.Texts.{closed_root_read}
use Rattle.text.specs.Pass.{Label, with_brackets, branches, opened, inner, outer, closed, Kept, nothing_kept, Step, faulty, going, pad_if, is_full, with_number, with_closing, step, image_at}
use Rattle.text.proofs.Endings.{balanced, roots, numbers, and_false, judged_accepts, accepted_judged}

-- ---- what is still to be written
-- the bytes that are still to be written: the labels read inside the innermost open brackets, and those of each outer level
abbrev pub to_write : (may : Bool) → List ℕ → List (List ℕ) → List Token → List ℕ
to_write may ls levels [] = pad_if may ++ (1 ∷ 0 ∷ branches ls)
to_write may ls levels (number l ∷ ts) = pad_if may ++ to_write true (l ∷ ls) levels ts
to_write may ls levels (opening ∷ ts) = to_write false [] (ls ∷ levels) ts
to_write may ls [] (closing ∷ ts) = []
to_write may ls (ms ∷ levels) (closing ∷ ts) = pad_if may ++ (1 ∷ 0 ∷ (branches ls ++ to_write false ms levels ts))

-- the forests that are still to come, each before the branches of the labels that wait at its level
abbrev finish : Forest → List ℕ → List Forest → List (List ℕ) → List ℕ
finish f ls [] levels = forest_bytes f ++ branches ls
finish f ls (g ∷ fs) [] = []
finish f ls (g ∷ fs) (ms ∷ levels) = forest_bytes f ++ (branches ls ++ finish g ms fs levels)

abbrev Emits : Bool → List ℕ → List (List ℕ) → List ℕ → Ending → Type 0
Emits may ls levels bytes (forests f fs) = length fs ≡ length levels → bytes ≡ pad_if may ++ finish f ls fs levels
Emits may ls levels bytes (bracket c s fs) = length fs ≡ length levels → bytes ≡ forest_bytes c ++ finish s ls fs levels
Emits may ls levels bytes refused = Unit {0}

-- a label that waits is the root of a tree with its children before and the others after
finish_label : (c s : Forest) (l : ℕ) (ls : List ℕ) (fs : List Forest) (levels : List (List ℕ)) → length fs ≡ length levels
    → forest_bytes c ++ finish s (l ∷ ls) fs levels ≡ finish (tree l c s) ls fs levels
finish_label c s l ls [] levels h = sym (regrouped (forest_bytes c) (forest_bytes s) (2 ∷ l ∷ []) (branches ls))
finish_label c s l ls (g ∷ fs) [] h = absurd (omega arith)
finish_label c s l ls (g ∷ fs) (ms ∷ levels) h =
    sym (regrouped (forest_bytes c) (forest_bytes s) (2 ∷ l ∷ []) (branches ls ++ finish g ms fs levels))

number_emits : (may : Bool) (l : ℕ) (ls : List ℕ) (levels : List (List ℕ)) (bytes : List ℕ) (e : Ending)
    → Emits true (l ∷ ls) levels bytes e → Emits may ls levels (pad_if may ++ bytes) (number_before l e)
number_emits may l ls levels bytes (forests s fs) h = λ n. ap (λ x. pad_if may ++ x) (h n ∙ finish_label nil s l ls fs levels n)
number_emits may l ls levels bytes (bracket c s fs) h = λ n. ap (λ x. pad_if may ++ x) (h n ∙ finish_label c s l ls fs levels n)
number_emits may l ls levels bytes refused h = tt

opening_emits : (may : Bool) (ls : List ℕ) (levels : List (List ℕ)) (bytes : List ℕ) (e : Ending)
    → Emits false [] (ls ∷ levels) bytes e → Emits may ls levels bytes (opening_before e)
opening_emits may ls levels bytes (forests c []) h = tt
opening_emits may ls levels bytes (forests c (s ∷ fs)) h = λ n. h (ap suc n)
opening_emits may ls levels bytes (bracket c s fs) h = tt
opening_emits may ls levels bytes refused h = tt

closing_outermost : (may : Bool) (ls : List ℕ) (e : Ending) → Emits may ls [] [] (closing_before e)
closing_outermost may ls (forests f fs) = λ n. absurd (omega arith)
closing_outermost may ls (bracket c s fs) = tt
closing_outermost may ls refused = tt

closing_emits : (may : Bool) (ls ms : List ℕ) (levels : List (List ℕ)) (bytes : List ℕ) (e : Ending) → Emits false ms levels bytes e
    → Emits may ls (ms ∷ levels) (pad_if may ++ (1 ∷ 0 ∷ (branches ls ++ bytes))) (closing_before e)
closing_emits may ls ms levels bytes (forests f fs) h =
    λ n. ap (λ x. pad_if may ++ (1 ∷ 0 ∷ (branches ls ++ x))) (h (omega arith))
closing_emits may ls ms levels bytes (bracket c s fs) h = tt
closing_emits may ls ms levels bytes refused h = tt

emitted : (ts : List Token) (may : Bool) (ls : List ℕ) (levels : List (List ℕ)) → Emits may ls levels (to_write may ls levels ts) (ending_of ts)
emitted [] may ls levels = λ n. refl
emitted (number l ∷ ts) may ls levels = number_emits may l ls levels (to_write true (l ∷ ls) levels ts) (ending_of ts) (emitted ts true (l ∷ ls) levels)
emitted (opening ∷ ts) may ls levels = opening_emits may ls levels (to_write false [] (ls ∷ levels) ts) (ending_of ts) (emitted ts false [] (ls ∷ levels))
emitted (closing ∷ ts) may ls [] = closing_outermost may ls (ending_of ts)
emitted (closing ∷ ts) may ls (ms ∷ levels) =
    closing_emits may ls ms levels (to_write false ms levels ts) (ending_of ts) (emitted ts false ms levels)

-- of the tokens of a tree it is the image
pub image_written : (ts : List Token) (w : WrittenTree) → ending_of ts ≡ forests (forest_of w) [] → to_write false [] [] ts ≡ image_bytes w
image_written ts w e = (rw e at (emitted ts false [] [])) refl ∙ append-nil (image_bytes w)

-- ---- the labels that wait, in one list
abbrev flat : List ℕ → List (List ℕ) → List Label
flat ls [] = map (with_brackets false) ls
flat ls (ms ∷ levels) = map (with_brackets false) ls ++ opened (flat ms levels)

abbrev Some : List ℕ → Type 0
Some [] = ⊥
Some (l ∷ ls) = Unit {0}

-- at each outer level a label waits whose brackets are open
abbrev Levels : List (List ℕ) → Type 0
Levels [] = Unit {0}
Levels (ms ∷ levels) = Some ms × Levels levels

flat_number : (l : ℕ) (ls : List ℕ) (levels : List (List ℕ)) → flat (l ∷ ls) levels ≡ with_brackets false l ∷ flat ls levels
flat_number l ls [] = refl
flat_number l ls (ms ∷ levels) = refl

-- up to the label of the innermost open brackets, and from there on
inner_all : (ls : List ℕ) → inner (map (with_brackets false) ls) ≡ ls
inner_all [] = refl
inner_all (l ∷ ls) = ap (λ x. l ∷ x) (inner_all ls)

inner_open : (ls : List ℕ) (m : ℕ) (es : List Label) → inner (map (with_brackets false) ls ++ (with_brackets true m ∷ es)) ≡ ls
inner_open [] m es = refl
inner_open (l ∷ ls) m es = ap (λ x. l ∷ x) (inner_open ls m es)

outer_open : (ls : List ℕ) (m : ℕ) (es : List Label)
    → outer (map (with_brackets false) ls ++ (with_brackets true m ∷ es)) ≡ with_brackets true m ∷ es
outer_open [] m es = refl
outer_open (l ∷ ls) m es = outer_open ls m es

inner_flat : (ls ms : List ℕ) (levels : List (List ℕ)) → Some ms → inner (flat ls (ms ∷ levels)) ≡ ls
inner_flat ls [] levels s = absurd s
inner_flat ls (m ∷ ms) levels s =
    ap (λ x. inner (map (with_brackets false) ls ++ opened x)) (flat_number m ms levels) ∙ inner_open ls m (flat ms levels)

outer_flat : (ls ms : List ℕ) (levels : List (List ℕ)) → Some ms → closed (outer (flat ls (ms ∷ levels))) ≡ flat ms levels
outer_flat ls [] levels s = absurd s
outer_flat ls (m ∷ ms) levels s =
    ap (λ x. closed (outer (map (with_brackets false) ls ++ opened x))) (flat_number m ms levels)
    ∙ ap closed (outer_open ls m (flat ms levels))
    ∙ sym (flat_number m ms levels)

-- ---- the pass
abbrev pub step_on : Step → Token → Step
step_on faulty x = faulty
step_on (going k) x = step k x

abbrev pub run : Step → List Token → Option (List ℕ)
run s [] = image_at s
run s (x ∷ ts) = run (step_on s x) ts

-- a fault stays
pub run_faulty : (ts : List Token) → run faulty ts ≡ none
run_faulty [] = refl
run_faulty (x ∷ ts) = run_faulty ts

abbrev kept : Bool → List ℕ → List (List ℕ) → ℕ → List ℕ → Kept
kept may ls levels n image = record { may = may; depth = length levels; nodes = n; waiting = flat ls levels; image = image }

-- a number stands just before only if its label waits, and brackets are open only behind a number
record Waits (may : Bool) (ls : List ℕ) (levels : List (List ℕ)) (n : ℕ) : Type 0 where
  deep : Levels levels
  before : may ≡ true → Some ls × (1 ≤ n)
  begun : (1 ≤ length levels) → 1 ≤ n

-- the roots before
abbrev roots_before : ℕ → ℕ
roots_before n = cond (ltb 0 n) 1 0

abbrev accepts : Bool → ℕ → ℕ → List Token → Bool
accepts may d n ts = balanced may d ts && (eqb (roots_before n + roots d ts) 1 && leb (n + numbers ts) 2047)

abbrev Runs : Bool → List ℕ → List (List ℕ) → ℕ → List Token → Type 0
Runs may ls levels n ts =
    n ≤ 2047 → Waits may ls levels n → (image : List ℕ)
    → run (going (kept may ls levels n image)) ts ≡ cond (accepts may (length levels) n ts) (some (image ++ to_write may ls levels ts)) none

-- a number ends the pass where there is a root already, or with the 2,048th written node
number_refused : (may : Bool) (ls : List ℕ) (levels : List (List ℕ)) (n l : ℕ) (ts : List Token) (image : List ℕ)
    → is_full (kept may ls levels n image) ≡ true → accepts may (length levels) n (number l ∷ ts) ≡ false
    → run (going (kept may ls levels n image)) (number l ∷ ts)
    ≡ cond (accepts may (length levels) n (number l ∷ ts)) (some (image ++ to_write may ls levels (number l ∷ ts))) none
number_refused may ls levels n l ts image full never =
    ap (λ x. run (cond x faulty (going (with_number l (kept may ls levels n image)))) ts) full
    ∙ run_faulty ts
    ∙ sym (ap (λ x. cond x (some (image ++ to_write may ls levels (number l ∷ ts))) none) never)

-- and else it waits
number_waits : (may : Bool) (ls : List ℕ) (levels : List (List ℕ)) (n l : ℕ) → Waits may ls levels n → Waits true (l ∷ ls) levels (n + 1)
number_waits may ls levels n l w = record { deep = w.deep; before = λ _. (tt, omega arith); begun = λ _. omega arith }

number_taken : (may : Bool) (ls : List ℕ) (levels : List (List ℕ)) (n l : ℕ) (ts : List Token) (image : List ℕ)
    → Waits may ls levels n → n < 2047 → Runs true (l ∷ ls) levels (n + 1) ts → is_full (kept may ls levels n image) ≡ false
    → accepts may (length levels) n (number l ∷ ts) ≡ accepts true (length levels) (n + 1) ts
    → run (going (kept may ls levels n image)) (number l ∷ ts)
    ≡ cond (accepts may (length levels) n (number l ∷ ts)) (some (image ++ to_write may ls levels (number l ∷ ts))) none
number_taken may ls levels n l ts image w few runs free same =
    ap (λ x. run (cond x faulty (going (with_number l (kept may ls levels n image)))) ts) free
    ∙ ap (λ x. run (going (record { may = true; depth = length levels; nodes = n + 1; waiting = x; image = image ++ pad_if may })) ts)
    (sym (flat_number l ls levels))
    ∙ runs (omega arith) (number_waits may ls levels n l w) (image ++ pad_if may)
    ∙ ap (λ x. cond (accepts true (length levels) (n + 1) ts) (some x) none) (append_assoc image (pad_if may) (to_write true (l ∷ ls) levels ts))
    ∙ sym (ap (λ x. cond x (some (image ++ to_write may ls levels (number l ∷ ts))) none) same)

-- whether it may follow, by what stands before
second_root : (n : ℕ) → 1 ≤ n → (r : ℕ) → eqb (roots_before n + suc r) 1 ≡ false
second_root n h r = rw (lt-ltb 0 n h) (ne_eqb (1 + suc r) 1 (λ e. omega arith))

number_runs : (l : ℕ) (ts : List Token)
    → ((may : Bool) (ls : List ℕ) (levels : List (List ℕ)) (n : ℕ) → Runs may ls levels n ts)
    → (may : Bool) (ls : List ℕ) (levels : List (List ℕ)) (n : ℕ) → Runs may ls levels n (number l ∷ ts)
number_runs l ts ih may ls [] zero few w image =
    number_taken may ls [] zero l ts image w (omega arith) (ih true (l ∷ ls) [] 1) refl
    (let y : 0 + suc (numbers ts) ≡ 1 + numbers ts = omega arith in
    let z : 0 + suc (roots 0 ts) ≡ 1 + roots 0 ts = omega arith in
    rw (y, z))
number_runs l ts ih may ls [] (suc n) few w image =
    number_refused may ls [] (suc n) l ts image (rw (lt-ltb 0 (suc n) (omega arith)))
    (ap (λ x. balanced true 0 ts && (x && leb (suc n + suc (numbers ts)) 2047)) (second_root (suc n) (omega arith) (roots 0 ts)) ∙ and_false (balanced true 0 ts))
number_runs l ts ih may ls (ms ∷ levels) n few w image = go (leb 2047 n) refl
  where
    begun : 1 ≤ n
    begun = w.begun (omega arith)

    inside : (p : Bool) → (eqb (suc (length levels)) 0 && ltb 0 n) || p ≡ p
    inside p = rw (ne_eqb (suc (length levels)) 0 (λ e. omega arith))

    go : (p : Bool) → leb 2047 n ≡ p
        → run (going (kept may ls (ms ∷ levels) n image)) (number l ∷ ts)
        ≡ cond (accepts may (suc (length levels)) n (number l ∷ ts)) (some (image ++ to_write may ls (ms ∷ levels) (number l ∷ ts))) none
    go true e =
        number_refused may ls (ms ∷ levels) n l ts image (inside (leb 2047 n) ∙ e)
        (let many : leb (n + suc (numbers ts)) 2047 ≡ false = lt-leb (n + suc (numbers ts)) 2047 (omega (arith, leb-true 2047 n e)) in
        rw (many, and_false) (and_false (balanced true (suc (length levels)) ts)))
    go false e =
        number_taken may ls (ms ∷ levels) n l ts image w (omega (arith, leb-false 2047 n e)) (ih true (l ∷ ls) (ms ∷ levels) (n + 1))
        (inside (leb 2047 n) ∙ e)
        (let y : n + suc (numbers ts) ≡ n + 1 + numbers ts = omega arith in
        rw (lt-ltb 0 n begun, lt-ltb 0 (n + 1) (omega arith), y))

-- brackets open behind a number only
opening_runs : (ts : List Token) → ((may : Bool) (ls : List ℕ) (levels : List (List ℕ)) (n : ℕ) → Runs may ls levels n ts)
    → (may : Bool) (ls : List ℕ) (levels : List (List ℕ)) (n : ℕ) → Runs may ls levels n (opening ∷ ts)
opening_runs ts ih false ls levels n few w image = run_faulty ts
opening_runs ts ih true ls levels n few w image =
    let z : length levels + 1 ≡ suc (length levels) = omega arith in
    ap (λ x. run (going (record { may = false; depth = x; nodes = n; waiting = opened (flat ls levels); image = image })) ts) z
    ∙ ih false [] (ls ∷ levels) n few opened_waits image
  where
    opened_waits : Waits false [] (ls ∷ levels) n
    opened_waits = record {
      deep = ((w.before refl).0, w.deep);
      before = λ e. absurd (false≢true e);
      begun = λ _. (w.before refl).1;
    }

-- and are closed where some are open
closed_waits : (may : Bool) (ls ms : List ℕ) (levels : List (List ℕ)) (n : ℕ) → Waits may ls (ms ∷ levels) n → Waits false ms levels n
closed_waits may ls ms levels n w = record {
  deep = w.deep.1;
  before = λ e. absurd (false≢true e);
  begun = λ _. w.begun (omega arith);
}

closing_runs : (ts : List Token) → ((may : Bool) (ls : List ℕ) (levels : List (List ℕ)) (n : ℕ) → Runs may ls levels n ts)
    → (may : Bool) (ls : List ℕ) (levels : List (List ℕ)) (n : ℕ) → Runs may ls levels n (closing ∷ ts)
closing_runs ts ih may ls [] n few w image = run_faulty ts
closing_runs ts ih may ls (ms ∷ levels) n few w image =
    ap (λ x. run (cond x faulty (going (with_closing (kept may ls (ms ∷ levels) n image)))) ts) (ne_eqb (suc (length levels)) 0 (λ e. omega arith))
    ∙ ap (λ x. run (going x) ts) shut
    ∙ ih false ms levels n few (closed_waits may ls ms levels n w) ended
    ∙ ap (λ x. cond (accepts false (length levels) n ts) (some x) none) (regrouped_end image (pad_if may) (branches ls) (to_write false ms levels ts))
  where
    ended : List ℕ
    ended = image ++ (pad_if may ++ (1 ∷ 0 ∷ branches ls))

    shut : with_closing (kept may ls (ms ∷ levels) n image) ≡ kept false ms levels n ended
    shut = λ i. record {
      may = false;
      depth = depth i;
      nodes = n;
      waiting = outer_flat ls ms levels w.deep.0 i;
      image = image ++ (pad_if may ++ (1 ∷ 0 ∷ branches (inner_flat ls ms levels w.deep.0 i)));
    }
      where
        depth : suc (length levels) - 1 ≡ length levels
        depth = omega arith

    regrouped_end : (x p b t : List ℕ) → (x ++ (p ++ (1 ∷ 0 ∷ b))) ++ t ≡ x ++ (p ++ (1 ∷ 0 ∷ (b ++ t)))
    regrouped_end x p b t = simp append_assoc

-- where the tokens end, brackets are closed and there is a root
end_runs : (may : Bool) (ls : List ℕ) (levels : List (List ℕ)) (n : ℕ) → Runs may ls levels n []
end_runs may ls [] n few w image = go (ltb 0 n)
  where
    go : (p : Bool) → cond p (some (image ++ (pad_if may ++ (1 ∷ 0 ∷ branches (inner (map (with_brackets false) ls)))))) none
        ≡ cond (eqb (cond p 1 0 + 0) 1 && leb (n + 0) 2047) (some (image ++ (pad_if may ++ (1 ∷ 0 ∷ branches ls)))) none
    go true = rw (le-leb (n + 0) 2047 (omega arith), inner_all ls)
    go false = refl
end_runs may ls (ms ∷ levels) n few w image = rw (ne_eqb (suc (length levels)) 0 (λ e. omega arith))

-- all tokens
runs : (ts : List Token) (may : Bool) (ls : List ℕ) (levels : List (List ℕ)) (n : ℕ) → Runs may ls levels n ts
runs [] = end_runs
runs (number l ∷ ts) = number_runs l ts (runs ts)
runs (opening ∷ ts) = opening_runs ts (runs ts)
runs (closing ∷ ts) = closing_runs ts (runs ts)

-- from the start: the image of the tree that the tokens are, if they are one
pub tokens_image : (ts : List Token) → run (going nothing_kept) ts ≡ O.map image_bytes (closed_root (ending_of ts))
tokens_image ts = runs ts false [] [] 0 (omega arith) nothing_waits [] ∙ go (accepts false 0 0 ts) refl
  where
    nothing_waits : Waits false [] [] 0
    nothing_waits = record { deep = tt; before = λ e. absurd (false≢true e); begun = λ few. absurd (omega arith) }

    accepted : (w : WrittenTree) → closed_root (ending_of ts) ≡ some w → accepts false 0 0 ts ≡ true
    accepted w e =
        let (b, r, n, few) = accepted_judged ts w e in
        rw (b, eq-eqb (0 + roots 0 ts) 1 (omega arith), le-leb (0 + numbers ts) 2047 (omega arith))

    go : (p : Bool) → accepts false 0 0 ts ≡ p
        → cond p (some (to_write false [] [] ts)) none ≡ O.map image_bytes (closed_root (ending_of ts))
    go true e =
        let (b, x) = both_true (balanced false 0 ts) _ e in
        let (r, few) = both_true (eqb (0 + roots 0 ts) 1) (leb (0 + numbers ts) 2047) x in
        let (w, one) = judged_accepts ts b (omega (arith, eqb-true (0 + roots 0 ts) 1 r)) (omega (arith, leb-true (0 + numbers ts) 2047 few)) in
        rw one (ap {B = Option (List ℕ)} some (image_written ts w (closed_root_read (ending_of ts) w one).0))
    go false e = none_read (closed_root (ending_of ts)) refl
      where
        none_read : (o : Option WrittenTree) → closed_root (ending_of ts) ≡ o → none ≡ O.map image_bytes o
        none_read none z = refl
        none_read (some w) z = absurd (false≢true (sym e ∙ accepted w z))
