-- The replies of the two calls: there is always one and only one, and it is the computed one. So the worked cases are of the calls.
-- First one law for both calls, then each, then the cases.
use mathlib.Core.Bool.{Bool, true, false, cond}
use mathlib.Core.List.{List, [], ◌∷◌, map}
use mathlib.Core.Logic.{◌↔◌}
use mathlib.Core.Option
use mathlib.Core.Option.{Option, none, some, none-ne-some, some-injective}
use mathlib.Core.Path.{◌≡◌, refl, sym, ◌∙◌, ap, subst}
use Prim.Native.Nat.{ℕ}
use native.Mathlib.Omega.{arith}
use borrow.Author.Tests.{leb-true, leb-false}
use lib.Dec.{leb}
use lib.ListN.{length}
use Rattle.paper.specs.BracketedText.{Writes}
use Rattle.paper.specs.CanonicalText.{text_of}
use Rattle.paper.specs.Conversions.{Conversion, Images, TextReply, TreeReply, no_room, of_none, the_result}
use Rattle.paper.specs.Image.{image_bytes}
use Rattle.paper.specs.Refusals.{Reply, refused, answer, no}
use Rattle.paper.specs.WrittenTree.{WrittenTree}
use Rattle.writings.specs.Calls.{replied, tree_of_text, text_of_tree}
use Rattle.writings.specs.Cases.{Call, cases, reply, to_text, to_tree, worked}
use Rattle.writings.specs.ReadImage.{read_image}
use Rattle.writings.specs.ReadText.{read_text}
use Rattle.writings.proofs.Images.{image_read, read_image_lem}
use Rattle.writings.proofs.Texts.{read_writes, writes_read}

-- ---- one law for both calls
-- of a source that is of one tree at most, two right replies are one
module _ (Of : WrittenTree → Type 0) (result : WrittenTree → List ℕ) (one_of_lem : (v w : WrittenTree) → Of v → Of w → v ≡ w) (room : ℕ) where
  same_length : (v w : WrittenTree) → Of v → Of w → length (result v) ≡ length (result w)
  same_length v w g h = ap (λ x. length (result x)) (one_of_lem v w g h)

  pub one_right : (a b : Reply (List ℕ)) → Conversion Of result room a → Conversion Of result room b → a ≡ b
  one_right _ _ (of_none never) (of_none never') = refl
  one_right _ _ (of_none never) (no_room {w} g h) = absurd (never w g)
  one_right _ _ (of_none never) (the_result {w} g h) = absurd (never w g)
  one_right _ _ (no_room {w} g h) (of_none never) = absurd (never w g)
  one_right _ _ (no_room g h) (no_room g' h') = refl
  one_right _ _ (no_room {w = v} g h) (the_result {w} g' h') = absurd (omega (arith, same_length v w g g'))
  one_right _ _ (the_result {w} g h) (of_none never) = absurd (never w g)
  one_right _ _ (the_result {w = v} g h) (no_room {w} g' h') = absurd (omega (arith, same_length v w g g'))
  one_right _ _ (the_result {w = v} g h) (the_result {w} g' h') = ap (λ x. answer (result x)) (one_of_lem v w g g')

-- of one that is of a tree exactly if it is read as that tree, the computed reply is right, and so it is the one
module _ (Of : WrittenTree → Type 0) (result : WrittenTree → List ℕ) (read : Option WrittenTree) (Read-of : (w : WrittenTree) → read ≡ some w → Of w)
    (of-read : (w : WrittenTree) → Of w → read ≡ some w) (room : ℕ) where
  right_reply : Conversion Of result room (replied room (Option.map result read))
  right_reply = go read refl
    where
      sized : (w : WrittenTree) → Of w → (p : Bool) → leb (length (result w)) room ≡ p
          → Conversion Of result room (cond p (answer (result w)) (refused (no 10)))
      sized w g true e = the_result g (leb-true (length (result w)) room e)
      sized w g false e = no_room g (leb-false (length (result w)) room e)

      go : (o : Option WrittenTree) → read ≡ o → Conversion Of result room (replied room (Option.map result o))
      go none e = of_none (λ w g. none-ne-some w (sym e ∙ of-read w g))
      go (some w) e = sized w (Read-of w e) (leb (length (result w)) room) refl

  exactly : (r : Reply (List ℕ)) → Conversion Of result room r ↔ (r ≡ replied room (Option.map result read))
  exactly r = (
    λ g. one_right Of result (λ v w x y. some-injective v w (sym (of-read v x) ∙ of-read w y)) room r _ g right_reply,
    λ e. subst (Conversion Of result room) (sym e) right_reply,
  )

-- ---- text to tree
pub tree_reply_exactly : (text : List ℕ) (room : ℕ) (r : Reply (List ℕ)) → TreeReply text room r ↔ (r ≡ tree_of_text text room)
tree_reply_exactly text = exactly (Writes text) image_bytes (read_text text) (read_writes text) (writes_read text)

-- ---- tree to text
pub text_reply_exactly : (bytes : List ℕ) (room : ℕ) (r : Reply (List ℕ)) → TextReply bytes room r ↔ (r ≡ text_of_tree bytes room)
text_reply_exactly bytes = exactly (Images bytes) text_of (read_image bytes) found_image image_found
  where
    image_found : (w : WrittenTree) → Images bytes w → read_image bytes ≡ some w
    image_found w g = ap read_image (sym g.image) ∙ image_read w g.allowed

    found_image : (w : WrittenTree) → read_image bytes ≡ some w → Images bytes w
    found_image w e = let r = read_image_lem bytes w e in record { allowed = r.1; image = sym r.0 }

-- ---- the worked cases
-- the call replies so
abbrev pub Replies : Call → Reply (List ℕ) → Type 0
Replies (to_tree text room) r = TreeReply text room r
Replies (to_text bytes room) r = TextReply bytes room r

abbrev pub AllReply : List (Call × Reply (List ℕ)) → Type 0
AllReply [] = Unit {0}
AllReply (c ∷ cs) = Replies c.0 c.1 × AllReply cs

replies : (c : Call) (r : Reply (List ℕ)) → reply c ≡ r → Replies c r
replies (to_tree text room) r e = (tree_reply_exactly text room r).1 (sym e)
replies (to_text bytes room) r e = (text_reply_exactly bytes room r).1 (sym e)

all_reply : (cs : List (Call × Reply (List ℕ))) → map (λ c. reply c.0) cs ≡ map (λ c. c.1) cs → AllReply cs
all_reply [] e = tt
all_reply (c ∷ cs) e = let (first, others) = cons_same e in (replies c.0 c.1 first, all_reply cs others)
  where
    cons_same : {A : Type 0} {x y : A} {xs ys : List A} → x ∷ xs ≡ y ∷ ys → (x ≡ y) × (xs ≡ ys)
    cons_same e = (cc, cc)

pub cases_reply : AllReply cases
cases_reply = all_reply cases worked
