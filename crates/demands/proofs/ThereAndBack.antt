-- One call after the other: text, binary, text; binary, text, binary; and `build` on a tree that was typed. Then the outputs that always suffice.
-- First what an answer says, and when there is one.
use mathlib.Core.List.{List, [], ◌++◌}
use mathlib.Core.Path.{◌≡◌, sym, ◌∙◌, ap, subst}
use Prim.Native.Nat.{ℕ, ◌≤◌}
use native.Mathlib.Omega.{arith}
use lib.ListN.{drop, length, take}
use lib.Seq.{take-append_seam}
use Rattle.std.specs.Prelude.{Err, Ok, Result}
use Rattle.paper.specs.declared.Head.{Head}
use Rattle.paper.specs.declared.Refusal.{Refusal}
use Rattle.paper.specs.declared.StreamRefusal.{StreamRefusal}
use Rattle.paper.specs.declared.Record.{Record}
use Rattle.paper.specs.Answers.{no_of, no_of_stream, says_built, says_converted, told}
use Rattle.paper.specs.BracketedText.{Writes}
use Rattle.paper.specs.CanonicalText.{text_of}
use Rattle.paper.specs.Conversions.{Conversion, Images, no_room, of_none, the_result}
use Rattle.paper.specs.Image.{image_bytes}
use Rattle.paper.specs.Refusals.{No, Reply, answer, build, no, number_in, output_after, over, refused}
use Rattle.paper.specs.Stream.{records_of, tree_records}
use Rattle.paper.specs.WrittenTree.{WrittenTree}
use Rattle.laws.proofs.Answers.{one_answer}
use Rattle.laws.proofs.Replies.{answer_inj, refused_inj, refused_not_answer}
use Rattle.writings.proofs.CanonicalTexts.{canonical_writes, text_short}
use Rattle.writings.proofs.ImageTrees.{image_short}
use Rattle.writings.proofs.Replies.{one_right}
use Rattle.writings.proofs.RoundTrips.{one_image}
use Rattle.writings.proofs.Texts.{one_tree, writes_allowed}
use Rattle.writings.proofs.TypedTrees.{typed_never_refused}
use Rattle.building.specs.Face.{Builds}
use Rattle.text.specs.Face.{Converts, MakesText, MakesTree}
use Rattle.demands.specs.Refused.{Returns}
use Rattle.demands.proofs.Refusals.{told_refused}

-- ---- an answer
module _ (Of : WrittenTree → Type 0) (result : WrittenTree → List ℕ) (out : List ℕ) where
  -- the source is of a tree, and its result is what was written
  record Answer (bytes : List ℕ) : Type 0 where
    tree : WrittenTree
    of_tree : Of tree
    written : bytes ≡ result tree

  the_answer : (n : ℕ) (out' : List ℕ) → Converts (Conversion Of result (length out)) out (Ok n) out' → Answer (take n out')
  the_answer n out' c = go c.reply c.right c.answer c.written
    where
      go : (reply : Reply (List ℕ)) → Conversion Of result (length out) reply → answer n ≡ told length reply → out' ≡ output_after reply out
          → Answer (take n out')
      go _ (of_none never) e w = absurd (refused_not_answer (sym e))
      go _ (no_room g h) e w = absurd (refused_not_answer (sym e))
      go _ (the_result {w = t} g h) e w = record {
        tree = t;
        of_tree = g;
        written =
            let long : n ≡ length (result t) = answer_inj e in
            ap (take n) w ∙ ap (λ m. take m (result t ++ drop (length (result t)) out)) long
            ∙ take-append_seam (result t) (drop (length (result t)) out);
      }

  -- an output that no result is longer than is never refused
  roomy : ((w : WrittenTree) → Of w → length (result w) ≤ length out) → (r : Result ℕ Refusal) (out' : List ℕ)
      → Converts (Conversion Of result (length out)) out r out' → Returns no_of Err r (no 10) → ⊥
  roomy fits r out' c (why, e, number) =
      go c.reply c.right ((told_refused length c.reply (no 10)).0 (sym c.answer ∙ ap says_converted e ∙ ap refused number))
    where
      go : (reply : Reply (List ℕ)) → Conversion Of result (length out) reply → reply ≡ refused (no 10) → ⊥
      go _ (of_none never) x = omega (arith, ap number_in (refused_inj x))
      go _ (no_room {w} g h) x = omega (arith, fits w g)
      go _ (the_result g h) x = refused_not_answer (sym x)

-- where there is a tree, and room, its result is what is answered
is_answered : (Of : WrittenTree → Type 0) (result : WrittenTree → List ℕ) → ((v w : WrittenTree) → Of v → Of w → v ≡ w)
    → (out : List ℕ) (w : WrittenTree) → Of w → length (result w) ≤ length out → (r : Result ℕ Refusal) (out' : List ℕ)
    → Converts (Conversion Of result (length out)) out r out' → (r ≡ Ok (length (result w))) × (out' ≡ over (result w) out)
is_answered Of result one_of_lem out w g fits r out' c =
    let e : c.reply ≡ answer (result w) = one_right Of result one_of_lem (length out) c.reply (answer (result w)) c.right (the_result g fits) in (
      one_answer r (Ok (length (result w))) (c.answer ∙ ap (told length) e),
      c.written ∙ ap (λ x. output_after x out) e,
    )

-- ---- there and back
-- text, binary, text: the canonical text of the tree that was written
pub text_binary_text : (text tree tree' : List ℕ) (n : ℕ) → MakesTree text tree (Ok n) tree'
    → (w : WrittenTree) × Writes text w
    × ((out : List ℕ) (r : Result ℕ Refusal) (out' : List ℕ) → MakesText (take n tree') out r out' → length (text_of w) ≤ length out
    → (r ≡ Ok (length (text_of w))) × (out' ≡ over (text_of w) out))
text_binary_text text tree tree' n c =
    let a = the_answer (Writes text) image_bytes tree n tree' c in
    let image : Images (take n tree') a.tree = record { allowed = writes_allowed text a.tree a.of_tree; image = sym a.written } in
    (a.tree, a.of_tree, λ out r out' d fits. is_answered (Images (take n tree')) text_of (one_image (take n tree')) out a.tree image fits r out' d)

-- binary, text, binary: the same bytes
pub binary_text_binary : (bytes text text' : List ℕ) (n : ℕ) → MakesText bytes text (Ok n) text'
    → (out : List ℕ) (r : Result ℕ Refusal) (out' : List ℕ) → MakesTree (take n text') out r out' → length bytes ≤ length out
    → (r ≡ Ok (length bytes)) × (out' ≡ over bytes out)
binary_text_binary bytes text text' n c out r out' d fits =
    let a = the_answer (Images bytes) text_of text n text' c in
    let same : image_bytes a.tree ≡ bytes = a.of_tree.image in
    let writes : Writes (take n text') a.tree = subst (λ t. Writes t a.tree) (sym a.written) (canonical_writes a.tree a.of_tree.allowed) in
    let (told-bytes, left) = is_answered (Writes (take n text')) image_bytes (one_tree (take n text')) out a.tree writes (rw same fits) r out' d in
    (told-bytes ∙ ap (λ x. Ok (length x)) same, left ∙ ap (λ x. over x out) same)

-- a tree that was typed is one that `build` reads, with any query behind it that begins with none of the tree's kinds: never 1 or 2
pub typed_tree_built : (text tree tree' : List ℕ) (n : ℕ) → MakesTree text tree (Ok n) tree' → (query : List ℕ)
    → tree_records (records_of query) ≡ [] → (work work' : List ℕ) (table table' : List Record) (r : Result Head StreamRefusal)
    → Builds (take n tree' ++ query) work table r work' table' → (m : No) → Returns no_of_stream Err r m → 3 ≤ number_in m
typed_tree_built text tree tree' n c query begins work work' table table' r d m (why, e, number) =
    let a = the_answer (Writes text) image_bytes tree n tree' c in
    typed_never_refused a.tree (writes_allowed text a.tree a.of_tree) query begins (length work) (length table) m
    (ap (λ x. build (x ++ query) (length work) (length table)) (sym a.written)
    ∙ (told_refused (λ x. x.0) (build (take n tree' ++ query) (length work) (length table)) m).0
    (sym d.answer ∙ ap says_built e ∙ ap refused number))

-- ---- outputs that always suffice
pub tree_room : (text out : List ℕ) → 8190 ≤ length out → (r : Result ℕ Refusal) (out' : List ℕ) → MakesTree text out r out'
    → Returns no_of Err r (no 10) → ⊥
tree_room text out long = roomy (Writes text) image_bytes out (λ w g. omega (arith, image_short w (writes_allowed text w g)))

pub text_room : (bytes out : List ℕ) → 8188 ≤ length out → (r : Result ℕ Refusal) (out' : List ℕ) → MakesText bytes out r out'
    → Returns no_of Err r (no 10) → ⊥
text_room bytes out long = roomy (Images bytes) text_of out (λ w g. omega (arith, text_short w g.allowed))
