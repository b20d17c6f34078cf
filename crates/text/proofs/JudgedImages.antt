-- The judging pass over bytes accepts exactly the images that are read.
use mathlib.Core.Path.{◌≡◌, refl, sym, ◌∙◌, ap, subst}
use mathlib.Core.Bool.{Bool, true, false, cond, ◌&&◌, false≢true}
use mathlib.Core.List.{List, [], ◌∷◌}
use mathlib.Core.Option.{Option, none, some, none-ne-some}
use Prim.Native.Nat.{ℕ, suc, ◌+◌, ◌≤◌}
use native.Mathlib.Omega.{arith}
use borrow.Author.Tests.{eqb-true, leb-true, le-leb}
use lib.Dec.{eqb, leb}
use lib.ListN.{length}
use Rattle.laws.proofs.Lists.{both_true}
use Rattle.paper.specs.WrittenTree.{Forest, nil, tree, WrittenTree, forest_nodes, written_nodes}
use Rattle.paper.specs.Conversions.{Images}
use Rattle.paper.specs.Image.{image_bytes}
use Rattle.writings.specs.ReadImage.{joined, with_record, onward, joined_from, one_tree, read_image}
use Rattle.text.specs.JudgeImage.{Unjoined, nothing_read, faulty, with_pad, with_branch, record_judged, image_judged, accepts_image}
use Rattle.writings.proofs.Images.{image_read}
use Rattle.writings.proofs.Texts.{one_root_read, one_root_found}
use Rattle.text.proofs.Endings.{all_nodes}

-- ---- the numbers of unjoined forests
abbrev is_pad : List Forest → Bool
is_pad [] = false
is_pad (nil ∷ fs) = true
is_pad (tree l c s ∷ fs) = false

abbrev is_single : List Forest → Bool
is_single [] = false
is_single (nil ∷ fs) = false
is_single (tree l c nil ∷ fs) = true
is_single (tree l c (tree l' c' s') ∷ fs) = false

abbrev numbers_of : List Forest → Unjoined
numbers_of fs = record { fine = true; trees = length fs; nodes = all_nodes fs; pad = is_pad fs; single = is_single fs }

pad_numbers : (fs : List Forest) → with_pad (numbers_of fs) ≡ numbers_of (nil ∷ fs)
pad_numbers fs = let z : 0 + all_nodes fs ≡ all_nodes fs = omega arith in rw z

branch_numbers : (l : ℕ) (s c : Forest) (fs : List Forest) → with_branch (numbers_of (s ∷ c ∷ fs)) ≡ numbers_of (tree l c s ∷ fs)
branch_numbers l s c fs =
    λ i. record { fine = two i; trees = suc (length fs); nodes = nodes i; pad = false; single = single_pad s i }
  where
    two : leb 2 (suc (suc (length fs))) ≡ true
    two = le-leb 2 (suc (suc (length fs))) (omega arith)

    nodes : suc (forest_nodes s + (forest_nodes c + all_nodes fs)) ≡ suc (forest_nodes c + forest_nodes s) + all_nodes fs
    nodes = omega arith

    single_pad : (x : Forest) → is_pad (x ∷ c ∷ fs) ≡ is_single (tree l c x ∷ fs)
    single_pad nil = refl
    single_pad (tree l' c' s') = refl

-- ---- bytes
-- a fault stays
record_faulty : (u : Unjoined) (k l : ℕ) → u.fine ≡ false → (record_judged u k l).fine ≡ false
record_faulty u k l h = go (eqb k 1 && eqb l 0) (eqb k 2 && leb l 63)
  where
    go : (p q : Bool) → (cond p (with_pad u) (cond q (with_branch u) (faulty u))).fine ≡ false
    go true q = h
    go false true = rw h
    go false false = refl

pub bytes_faulty : (t : List ℕ) (u : Unjoined) → u.fine ≡ false → (image_judged u t).fine ≡ false
bytes_faulty [] u h = h
bytes_faulty (k ∷ []) u h = refl
bytes_faulty (k ∷ l ∷ t) u h = bytes_faulty t (record_judged u k l) (record_faulty u k l h)

-- r are the numbers of the forests, or there is a fault
abbrev Agrees : Unjoined → Option (List Forest) → Type 0
Agrees r none = r.fine ≡ false
Agrees r (some fs) = r ≡ numbers_of fs

joined_agrees : (l : ℕ) (fs : List Forest) → Agrees (with_branch (numbers_of fs)) (joined l fs)
joined_agrees l [] = refl
joined_agrees l (s ∷ []) = refl
joined_agrees l (s ∷ c ∷ fs) = branch_numbers l s c fs

record_agrees : (k l : ℕ) (fs : List Forest) → Agrees (record_judged (numbers_of fs) k l) (with_record k l fs)
record_agrees k l fs = go (eqb k 1 && eqb l 0) (eqb k 2 && leb l 63)
  where
    go : (p q : Bool) → Agrees (cond p (with_pad (numbers_of fs)) (cond q (with_branch (numbers_of fs)) (faulty (numbers_of fs))))
        (cond p (some (nil ∷ fs)) (cond q (joined l fs) none))
    go true q = pad_numbers fs
    go false true = joined_agrees l fs
    go false false = refl

bytes_agree : (t : List ℕ) (fs : List Forest) → Agrees (image_judged (numbers_of fs) t) (joined_from fs t)
bytes_agree [] fs = refl
bytes_agree (k ∷ []) fs = refl
bytes_agree (k ∷ l ∷ t) fs = go (with_record k l fs) (record_agrees k l fs) (λ gs. bytes_agree t gs)
  where
    go : (o : Option (List Forest)) → Agrees (record_judged (numbers_of fs) k l) o
        → ((gs : List Forest) → Agrees (image_judged (numbers_of gs) t) (joined_from gs t))
        → Agrees (image_judged (record_judged (numbers_of fs) k l) t) (onward o (λ gs. joined_from gs t))
    go none h ih = bytes_faulty t (record_judged (numbers_of fs) k l) h
    go (some gs) h ih = subst (λ u. Agrees (image_judged u t) (joined_from gs t)) (sym h) (ih gs)

-- ---- the whole image
-- what is read is accepted
image_accepted : (t : List ℕ) (w : WrittenTree) → read_image t ≡ some w → accepts_image (image_judged nothing_read t) ≡ true
image_accepted t w e = go (joined_from [] t) (bytes_agree t []) e
  where
    go : (o : Option (List Forest)) → Agrees (image_judged nothing_read t) o → one_tree o ≡ some w → accepts_image (image_judged nothing_read t) ≡ true
    go none h e' = absurd (none-ne-some w e')
    go (some []) h e' = absurd (none-ne-some w e')
    go (some (f ∷ [])) h e' =
        let (one, few) = one_root_read f w e' in
        ap accepts_image (h ∙ ap (λ x. numbers_of (x ∷ [])) one) ∙ le-leb (written_nodes w + 0) 2047 (omega arith)
    go (some (f ∷ g ∷ fs)) h e' = absurd (none-ne-some w e')

-- so what is not accepted is no image
pub no_image : (t : List ℕ) → accepts_image (image_judged nothing_read t) ≡ false → (w : WrittenTree) → Images t w → ⊥
no_image t e w I =
    false≢true (sym e ∙ ap (λ x. accepts_image (image_judged nothing_read x)) (sym I.image) ∙ image_accepted (image_bytes w) w (image_read w I.allowed))

-- and what is accepted is read
one_read : (fs : List Forest) → eqb (length fs) 1 ≡ true → is_single fs ≡ true → all_nodes fs ≤ 2047 → (w : WrittenTree) × (one_tree (some fs) ≡ some w)
one_read [] one single few = absurd (false≢true single)
one_read (nil ∷ []) one single few = absurd (false≢true single)
one_read (tree l c nil ∷ []) one single few =
    (record { label = l; children = c }, one_root_found (record { label = l; children = c }) (omega arith))
one_read (tree l c (tree l' c' s') ∷ []) one single few = absurd (false≢true single)
one_read (f ∷ g ∷ fs) one single few = absurd (omega (arith, eqb-true (length (f ∷ g ∷ fs)) 1 one))

pub accepted_image : (t : List ℕ) → accepts_image (image_judged nothing_read t) ≡ true → (w : WrittenTree) × (read_image t ≡ some w)
accepted_image t a = go (joined_from [] t) (bytes_agree t [])
  where
    go : (o : Option (List Forest)) → Agrees (image_judged nothing_read t) o → (w : WrittenTree) × (one_tree o ≡ some w)
    go none h = absurd (false≢true (sym h ∙ (both_true (image_judged nothing_read t).fine _ a).0))
    go (some fs) h =
        let (one, x) = both_true (eqb (length fs) 1) _ (sym (ap accepts_image h) ∙ a) in
        let (single, few) = both_true (is_single fs) (leb (all_nodes fs) 2047) x in
        one_read fs one single (leb-true (all_nodes fs) 2047 few)
