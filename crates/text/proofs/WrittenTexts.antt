-- The pass over an image from its last byte to its first writes the canonical text.
use mathlib.Core.Path.{◌≡◌, refl, subst, sym, ◌∙◌, ap}
use mathlib.Core.Bool.{Bool, true, false, cond}
use mathlib.Core.List.{List, [], ◌∷◌, ◌++◌, append_assoc, append-nil, reverse, reverse-append}
use Prim.Native.Nat.{ℕ, suc, ◌+◌, ◌≤◌}
use native.Mathlib.Omega.{arith}
use lib.Dec.{eqb}
use Rattle.paper.specs.WrittenTree.{Forest, LabelsFit, nil, tree, WrittenTree, forest_nodes, forest_of, written_nodes}
use Rattle.paper.specs.BracketedText.{decimal}
use Rattle.paper.specs.CanonicalText.{bracketed, between, forest_text, text_of}
use Rattle.paper.specs.Image.{forest_bytes, image_bytes}
use Rattle.text.specs.declared.node.Waiting.TheVariants.{Others, LastChildren, Children, Inside}
use Rattle.text.specs.WriteText.{Waiting, blank_if, completed, text_before}

-- the image's bytes from the last to the first
abbrev pub bytes_back : Forest → List ℕ
bytes_back nil = 0 ∷ 1 ∷ []
bytes_back (tree l c s) = l ∷ 2 ∷ (bytes_back s ++ bytes_back c)

abbrev some : Forest → Bool
some nil = false
some (tree l c s) = true

-- the blank behind a label with these children, where there are others or not
abbrev blank_behind : Forest → Bool → List ℕ
blank_behind nil b = blank_if b
blank_behind (tree l c s) b = []

blank_between : (c s : Forest) → blank_behind c (some s) ≡ between c s
blank_between nil nil = refl
blank_between nil (tree l c s) = refl
blank_between (tree l c s) t = refl

-- a node that waits for its children, by whether it has others
abbrev children : ℕ → Bool → Waiting
children l true = Children l
children l false = LastChildren l

-- what is written for a forest where a node waits for its others, and where one waits for its children
record Back (f : Forest) : Type 0 where
  as_others : (l : ℕ) (ws : List Waiting) (bytes : List ℕ)
      → text_before (Others l ∷ ws) (bytes_back f ++ bytes) ≡ text_before (children l (some f) ∷ ws) bytes ++ forest_text f
  as_children : (l : ℕ) (b : Bool) (ws : List Waiting) (bytes : List ℕ)
      → text_before (children l b ∷ ws) (bytes_back f ++ bytes)
      ≡ text_before (completed ws).0 bytes ++ ((completed ws).1 ++ (decimal l ++ (bracketed f (forest_text f) ++ blank_behind f b)))

-- a tree's others and then its children are read
both_read : (m : ℕ) (c s : Forest) → Back c → Back s → (ws : List Waiting) (bytes : List ℕ)
    → text_before (Others m ∷ ws) ((bytes_back s ++ bytes_back c) ++ bytes)
    ≡ text_before (completed ws).0 bytes ++ ((completed ws).1 ++ forest_text (tree m c s))
both_read m c s hc hs ws bytes =
    ap (text_before (Others m ∷ ws)) (append_assoc (bytes_back s) (bytes_back c) bytes)
    ∙ hs.as_others m ws (bytes_back c ++ bytes)
    ∙ ap (λ x. x ++ forest_text s) (hc.as_children m (some s) ws bytes)
    ∙ rw (blank_between c s) (label_written (text_before (completed ws).0 bytes) (completed ws).1 (decimal m) (bracketed c (forest_text c)) (between c s) (forest_text s))
  where
    label_written : (x y d b w t : List ℕ) → (x ++ (y ++ (d ++ (b ++ w)))) ++ t ≡ x ++ (y ++ (d ++ (b ++ (w ++ t))))
    label_written x y d b w t = simp append_assoc

brackets_written : (x y d t : List ℕ) → (x ++ ((y ++ (d ++ (40 ∷ []))) ++ t)) ++ (41 ∷ []) ≡ x ++ (y ++ (d ++ ((40 ∷ (t ++ (41 ∷ []))) ++ [])))
brackets_written x y d t = simp (append_assoc, append-nil)

-- the first record read of a forest, where a node waits for its children
pad_read : (l : ℕ) (b : Bool) (ws : List Waiting) (bytes : List ℕ)
    → text_before (children l b ∷ ws) (bytes_back nil ++ bytes)
    ≡ text_before (completed ws).0 bytes ++ ((completed ws).1 ++ (decimal l ++ blank_if b))
pad_read l true ws bytes = refl
pad_read l false ws bytes = refl

branch_read : (m : ℕ) (c s : Forest) (l : ℕ) (b : Bool) (ws : List Waiting) (bytes : List ℕ)
    → text_before (children l b ∷ ws) (bytes_back (tree m c s) ++ bytes)
    ≡ text_before (Others m ∷ Inside l ∷ ws) ((bytes_back s ++ bytes_back c) ++ bytes) ++ (41 ∷ [])
branch_read m c s l true ws bytes = refl
branch_read m c s l false ws bytes = refl

forest_back : (f : Forest) → Back f
forest_back nil = record { as_others = λ l ws bytes. refl; as_children = λ l b ws bytes. pad_read l b ws bytes }
forest_back (tree m c s) = let hc = forest_back c in let hs = forest_back s in record {
  as_others = λ l ws bytes. append-nil _ ∙ both_read m c s hc hs (Others l ∷ ws) bytes;
  as_children = λ l b ws bytes.
      branch_read m c s l b ws bytes
      ∙ ap (λ x. x ++ (41 ∷ [])) (both_read m c s hc hs (Inside l ∷ ws) bytes)
      ∙ brackets_written (text_before (completed ws).0 bytes) (completed ws).1 (decimal l) (forest_text (tree m c s));
}

bytes_back_lem : (f : Forest) → reverse (forest_bytes f) ≡ bytes_back f
bytes_back_lem nil = refl
bytes_back_lem (tree l c s) =
    reverse-append (forest_bytes c) (forest_bytes s ++ (2 ∷ l ∷ []))
    ∙ ap (λ x. x ++ reverse (forest_bytes c)) (reverse-append (forest_bytes s) (2 ∷ l ∷ []))
    ∙ rw (bytes_back_lem c, bytes_back_lem s)

-- ---- the whole image
-- the image's bytes from the last to the first
abbrev pub image_back : WrittenTree → List ℕ
image_back w = bytes_back (forest_of w)

pub reverse-image : (w : WrittenTree) → reverse (image_bytes w) ≡ image_back w
reverse-image w = bytes_back_lem (forest_of w)

-- where none waits, they make the text
pub text_written : (w : WrittenTree) → text_before [] (image_back w) ≡ text_of w
text_written w =
    append-nil (text_before (Others w.label ∷ []) (bytes_back nil ++ bytes_back w.children))
    ∙ ap (text_before (Others w.label ∷ [])) (sym (append-nil (bytes_back nil ++ bytes_back w.children)))
    ∙ both_read w.label w.children nil (forest_back w.children) (forest_back nil) [] []

-- ---- branches
-- so many records of them are no pads
abbrev pub branches_in : List ℕ → ℕ
branches_in [] = 0
branches_in (l ∷ []) = 0
branches_in (l ∷ k ∷ bytes) = cond (eqb k 1) (branches_in bytes) (suc (branches_in bytes))

forest_branches : (f : Forest) (bytes : List ℕ) → branches_in (bytes_back f ++ bytes) ≡ forest_nodes f + branches_in bytes
forest_branches nil bytes = omega arith
forest_branches (tree l c s) bytes =
    ap (λ t. suc (branches_in t)) (append_assoc (bytes_back s) (bytes_back c) bytes)
    ∙ omega (arith, forest_branches s (bytes_back c ++ bytes), forest_branches c bytes)

pub image_branches : (w : WrittenTree) → branches_in (image_back w) ≡ written_nodes w
image_branches w = ap branches_in (sym (append-nil (image_back w))) ∙ omega (arith, forest_branches (forest_of w) [])

-- ---- labels
-- each record's is at most 63
abbrev pub LowLabels : List ℕ → Type 0
LowLabels [] = Unit {0}
LowLabels (l ∷ []) = Unit {0}
LowLabels (l ∷ k ∷ bytes) = (l ≤ 63) × LowLabels bytes

forest_low : (f : Forest) (bytes : List ℕ) → LabelsFit f → LowLabels bytes → LowLabels (bytes_back f ++ bytes)
forest_low nil bytes fit low = (omega arith, low)
forest_low (tree l c s) bytes fit low = (
  fit.0,
  subst LowLabels (sym (append_assoc (bytes_back s) (bytes_back c) bytes))
      (forest_low s (bytes_back c ++ bytes) fit.2 (forest_low c bytes fit.1 low)),
)

pub image_low : (w : WrittenTree) → LabelsFit (forest_of w) → LowLabels (image_back w)
image_low w fit = subst LowLabels (append-nil (image_back w)) (forest_low (forest_of w) [] fit tt)
