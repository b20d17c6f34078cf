-- A text is read exactly if it is a text of a tree, and it is then that tree's: so no text has two trees.
use mathlib.Core.Path.{◌≡◌, refl, sym, ◌∙◌, ap, subst}
use mathlib.Core.Bool.{Bool, true, false, cond}
use mathlib.Core.Logic.{◌↔◌}
use mathlib.Core.List.{List, [], ◌∷◌}
use mathlib.Core.Option.{Option, none, some, some-injective, none-ne-some}
use Prim.Native.Nat.{ℕ, ◌≤◌}
use borrow.Author.Tests.{leb-true, le-leb}
use lib.Dec.{leb}
use Rattle.paper.specs.WrittenTree.{Forest, nil, tree, WrittenTree, forest_of, written_nodes, LabelsFit, Allowed}
use Rattle.paper.specs.BracketedText.{Token, number, opening, closing, Cut, end, blank, line_end, comment, opens, closes, label}
use Rattle.paper.specs.BracketedText.{Siblings, no_more, without_brackets, with_brackets, Writes}
use Rattle.writings.specs.ReadText.{Ending, forests, bracket, refused, ending_of, outside, cut_from, if_few, one_root, closed_root, root_of, read_text}
use Rattle.writings.proofs.Endings.{one_forest, whole_found}
use Rattle.writings.proofs.Cutting.{found_cut, cut_found}

-- ---- one root
few_read : (v w : WrittenTree) → if_few v ≡ some w → (v ≡ w) × (written_nodes w ≤ 2047)
few_read v w e = go (leb (written_nodes v) 2047) refl e
  where
    go : (c : Bool) → leb (written_nodes v) 2047 ≡ c → cond c (some v) none ≡ some w → (v ≡ w) × (written_nodes w ≤ 2047)
    go true h e' =
        let same = some-injective v w e' in
        (same, subst (λ x. written_nodes x ≤ 2047) same (leb-true (written_nodes v) 2047 h))
    go false h e' = absurd (none-ne-some w e')

pub one_root_read : (f : Forest) (w : WrittenTree) → one_root f ≡ some w → (f ≡ forest_of w) × (written_nodes w ≤ 2047)
one_root_read nil w h = absurd (none-ne-some w h)
one_root_read (tree l c nil) w h =
    let (e, few) = few_read (record { label = l; children = c }) w h in
    (ap forest_of e, few)
one_root_read (tree l c (tree l' c' s)) w h = absurd (none-ne-some w h)

pub closed_root_read : (e : Ending) (w : WrittenTree) → closed_root e ≡ some w → (e ≡ forests (forest_of w) []) × (written_nodes w ≤ 2047)
closed_root_read (forests f []) w h = let (e, few) = one_root_read f w h in (ap {B = Ending} (λ x. forests x []) e, few)
closed_root_read (forests f (g ∷ fs)) w h = absurd (none-ne-some w h)
closed_root_read (bracket c s fs) w h = absurd (none-ne-some w h)
closed_root_read refused w h = absurd (none-ne-some w h)

pub one_root_found : (w : WrittenTree) → written_nodes w ≤ 2047 → one_root (forest_of w) ≡ some w
one_root_found w few = rw (le-leb (written_nodes w) 2047 few)

-- ---- the text
-- what is read is a text of the tree
pub read_writes : (t : List ℕ) (w : WrittenTree) → read_text t ≡ some w → Writes t w
read_writes t w e = go (cut_from outside t) refl e
  where
    go : (o : Option (List Token)) → cut_from outside t ≡ o → root_of o ≡ some w → Writes t w
    go none h e' = absurd (none-ne-some w e')
    go (some ts) h e' =
        let (one, few) = closed_root_read (ending_of ts) w e' in
        record { tokens = ts; cut = found_cut t ts h; one_root = one_forest ts (forest_of w) one; few = few }

-- every text of a tree is read, and as that tree
pub writes_read : (t : List ℕ) (w : WrittenTree) → Writes t w → read_text t ≡ some w
writes_read t w h = rw (cut_found h.cut, whole_found h.one_root) (one_root_found w h.few)

pub read_exactly : (t : List ℕ) (w : WrittenTree) → (read_text t ≡ some w) ↔ Writes t w
read_exactly t w = (read_writes t w, writes_read t w)

pub one_tree : (t : List ℕ) (v w : WrittenTree) → Writes t v → Writes t w → v ≡ w
one_tree t v w g h = some-injective v w (sym (writes_read t v g) ∙ writes_read t w h)

-- a text is refused exactly if it is no text of any tree
pub refused_exactly : (t : List ℕ) → (read_text t ≡ none) ↔ ((w : WrittenTree) → Writes t w → ⊥)
refused_exactly t = (λ e w h. none-ne-some w (sym e ∙ writes_read t w h), λ h. go (read_text t) refl h)
  where
    go : (o : Option WrittenTree) → read_text t ≡ o → ((w : WrittenTree) → Writes t w → ⊥) → o ≡ none
    go none e h = refl
    go (some w) e h = absurd (h w (read_writes t w e))

-- ---- a tree that has a text is allowed
abbrev pub Fit : List Token → Type 0
Fit [] = Unit {0}
Fit (number l ∷ ts) = (l ≤ 63) × Fit ts
Fit (opening ∷ ts) = Fit ts
Fit (closing ∷ ts) = Fit ts

pub cut_fit : {t : List ℕ} {ts : List Token} → Cut t ts → Fit ts
cut_fit end = tt
cut_fit (blank g) = cut_fit g
cut_fit (line_end g) = cut_fit g
cut_fit (comment c g) = cut_fit g
cut_fit (opens g) = cut_fit g
cut_fit (closes g) = cut_fit g
cut_fit (label le h g) = (le, cut_fit g)

labels_fit : {ts us : List Token} {f : Forest} → Siblings ts f us → Fit ts → LabelsFit f × Fit us
labels_fit no_more h = (tt, h)
labels_fit (without_brackets g) h = let r = labels_fit g h.1 in ((h.0, tt, r.0), r.1)
labels_fit (with_brackets g g') h =
    let r = labels_fit g h.1 in
    let r' = labels_fit g' r.1 in
    ((h.0, r.0, r'.0), r'.1)

pub writes_allowed : (t : List ℕ) (w : WrittenTree) → Writes t w → Allowed w
writes_allowed t w h = record { labels = (labels_fit h.one_root (cut_fit h.cut)).0; few = h.few }
