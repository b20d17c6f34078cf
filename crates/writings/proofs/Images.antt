-- Bytes are read as an image exactly if they are the image of an allowed tree, and they are then that tree's.
use mathlib.Core.Path.{◌≡◌, refl, sym, ◌∙◌, ap, subst}
use mathlib.Core.Bool.{Bool, true, false, cond, ◌&&◌}
use mathlib.Core.Logic.{◌↔◌}
use mathlib.Core.List.{List, [], ◌∷◌, ◌++◌, append_assoc, append-nil}
use mathlib.Core.Option.{Option, none, some, some-injective, none-ne-some}
use Prim.Native.Nat.{ℕ, ◌≤◌}
use borrow.Author.Tests.{eqb-true, leb-true, le-leb}
use lib.Dec.{eqb, leb}
use Rattle.laws.proofs.Lists.{both_true}
use Rattle.paper.specs.WrittenTree.{Forest, nil, tree, WrittenTree, forest_of, LabelsFit, Allowed}
use Rattle.paper.specs.Image.{forest_bytes, image_bytes}
use Rattle.writings.specs.ReadImage.{joined, with_record, onward, joined_from, one_tree, read_image}
use Rattle.writings.proofs.Texts.{one_root_read, one_root_found}

-- ---- an image is read
pub regrouped : {A : Type 0} (x y z t : List A) → (x ++ (y ++ z)) ++ t ≡ x ++ (y ++ (z ++ t))
regrouped x y z t = simp append_assoc

-- the bytes of a forest leave it unjoined
forest_read : (f : Forest) → LabelsFit f → (fs : List Forest) (t : List ℕ) → joined_from fs (forest_bytes f ++ t) ≡ joined_from (f ∷ fs) t
forest_read nil h fs t = refl
forest_read (tree l c s) h fs t =
    ap (joined_from fs) (regrouped (forest_bytes c) (forest_bytes s) (2 ∷ l ∷ []) t)
    ∙ forest_read c h.1 fs (forest_bytes s ++ (2 ∷ l ∷ t))
    ∙ forest_read s h.2 (c ∷ fs) (2 ∷ l ∷ t)
    ∙ rw (le-leb l 63 h.0)

pub image_read : (w : WrittenTree) → Allowed w → read_image (image_bytes w) ≡ some w
image_read w a =
    ap (λ t. one_tree (joined_from [] t)) (sym (append-nil (image_bytes w)))
    ∙ ap one_tree (forest_read (forest_of w) a.labels [] []) ∙ one_root_found w a.few

-- ---- what is read is an image
-- the bytes of the unjoined forests, the last one first in the list
abbrev unjoined_bytes : List Forest → List ℕ
unjoined_bytes [] = []
unjoined_bytes (f ∷ fs) = unjoined_bytes fs ++ forest_bytes f

abbrev AllFit : List Forest → Type 0
AllFit [] = Unit {0}
AllFit (f ∷ fs) = LabelsFit f × AllFit fs

-- gs are fs after these bytes
record After (fs : List Forest) (t : List ℕ) (gs : List Forest) : Type 0 where
  bytes : unjoined_bytes gs ≡ unjoined_bytes fs ++ t
  fit : AllFit gs

joined_after : (l : ℕ) → l ≤ 63 → (fs gs : List Forest) → AllFit fs → joined l fs ≡ some gs → After fs (2 ∷ l ∷ []) gs
joined_after l le [] gs a e = absurd (none-ne-some gs e)
joined_after l le (s ∷ []) gs a e = absurd (none-ne-some gs e)
joined_after l le (s ∷ c ∷ fs) gs a e = subst (After (s ∷ c ∷ fs) (2 ∷ l ∷ [])) (some-injective (tree l c s ∷ fs) gs e) (record {
  bytes = simp append_assoc;
  fit = ((le, a.1.0, a.0), a.1.1);
})

record_after : (k l : ℕ) (fs gs : List Forest) → AllFit fs → with_record k l fs ≡ some gs → After fs (k ∷ l ∷ []) gs
record_after k l fs gs a e = go (eqb k 1 && eqb l 0) refl (eqb k 2 && leb l 63) refl e
  where
    go : (p : Bool) → eqb k 1 && eqb l 0 ≡ p → (q : Bool) → eqb k 2 && leb l 63 ≡ q
        → cond p (some (nil ∷ fs)) (cond q (joined l fs) none) ≡ some gs → After fs (k ∷ l ∷ []) gs
    go true h q i e' =
        let (x, y) = both_true (eqb k 1) (eqb l 0) h in
        rw (eqb-true k 1 x, eqb-true l 0 y, ← (some-injective (nil ∷ fs) gs e')) (record { bytes = refl; fit = (tt, a) })
    go false h true i e' =
        let (x, y) = both_true (eqb k 2) (leb l 63) i in
        rw (eqb-true k 2 x) (joined_after l (leb-true l 63 y) fs gs a e')
    go false h false i e' = absurd (none-ne-some gs e')

read_after : (t : List ℕ) (fs gs : List Forest) → AllFit fs → joined_from fs t ≡ some gs → After fs t gs
read_after [] fs gs a e =
    subst (After fs []) (some-injective fs gs e) (record { bytes = sym (append-nil (unjoined_bytes fs)); fit = a })
read_after (k ∷ []) fs gs a e = absurd (none-ne-some gs e)
read_after (k ∷ l ∷ t) fs gs a e = go (with_record k l fs) refl (λ hs b f. read_after t hs gs b f) e
  where
    go : (o : Option (List Forest)) → with_record k l fs ≡ o → ((hs : List Forest) → AllFit hs → joined_from hs t ≡ some gs → After hs t gs)
        → onward o (λ hs. joined_from hs t) ≡ some gs → After fs (k ∷ l ∷ t) gs
    go none h ih e' = absurd (none-ne-some gs e')
    go (some hs) h ih e' =
        let r = record_after k l fs hs a h in
        let q = ih hs r.fit e' in
        record { bytes = q.bytes ∙ ap (λ x. x ++ t) r.bytes ∙ append_assoc (unjoined_bytes fs) (k ∷ l ∷ []) t; fit = q.fit }

pub read_image_lem : (t : List ℕ) (w : WrittenTree) → read_image t ≡ some w → (t ≡ image_bytes w) × Allowed w
read_image_lem t w e = go (joined_from [] t) refl e
  where
    go : (o : Option (List Forest)) → joined_from [] t ≡ o → one_tree o ≡ some w → (t ≡ image_bytes w) × Allowed w
    go none h e' = absurd (none-ne-some w e')
    go (some []) h e' = absurd (none-ne-some w e')
    go (some (f ∷ [])) h e' =
        let (one, few) = one_root_read f w e' in
        let r = read_after t [] (forest_of w ∷ []) tt (h ∙ ap {B = Option (List Forest)} (λ x. some (x ∷ [])) one) in
        (sym r.bytes, record { labels = r.fit.0; few = few })
    go (some (f ∷ g ∷ fs)) h e' = absurd (none-ne-some w e')

pub image_exactly : (t : List ℕ) (w : WrittenTree) → (read_image t ≡ some w) ↔ ((t ≡ image_bytes w) × Allowed w)
image_exactly t w = (read_image_lem t w, λ h. ap read_image h.0 ∙ image_read w h.1)

-- bytes are refused exactly if they are no image of an allowed tree
pub no_image_exactly : (t : List ℕ) → (read_image t ≡ none) ↔ ((w : WrittenTree) → Allowed w → t ≡ image_bytes w → ⊥)
no_image_exactly t = (λ e w a h. none-ne-some w (sym e ∙ ap read_image h ∙ image_read w a), λ h. go (read_image t) refl h)
  where
    go : (o : Option WrittenTree) → read_image t ≡ o → ((w : WrittenTree) → Allowed w → t ≡ image_bytes w → ⊥) → o ≡ none
    go none e h = refl
    go (some w) e h = let r = read_image_lem t w e in absurd (h w r.1 r.0)
