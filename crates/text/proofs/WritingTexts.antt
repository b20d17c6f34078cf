-- The canonical text, record by record: what the loop of `write_text` keeps up, where it starts, and what one record more does to it.
use mathlib.Core.Bool.{cond, true}
use mathlib.Core.List.{List, [], ◌++◌, ◌∷◌, append_assoc, append-nil, reverse, reverse-append}
use mathlib.Core.Path.{◌∙◌, ◌≡◌, ap, refl, subst, sym}
use Prim.Native.Nat.{◌+◌, ◌-◌, ◌≤◌, suc, ℕ}
use native.Mathlib.Omega.{arith}
use borrow.Author.Tests.{eq-eqb, ne_eqb}
use lib.ListN.{drop, get_or, length, length-append, take}
use lib.Seq.{drop-length}
use Rattle.std.proofs.lemmas.List.{drop_more, take-append-drop}
use Rattle.paper.specs.CanonicalText.{text_of}
use Rattle.paper.specs.Conversions.{Images}
use Rattle.paper.specs.WrittenTree.{WrittenTree, forest_of}
use Rattle.writings.proofs.CanonicalTexts.{text_length}
use Rattle.writings.proofs.Images.{read_image_lem}
use Rattle.text.specs.declared.node.Waiting.TheVariants.{Others, LastChildren, Children, Inside}
use Rattle.text.specs.JudgeImage.{accepts_image, image_judged, nothing_read}
use Rattle.text.specs.WriteText.{Waiting, completed, met, missing, step_of, text_before}
use Rattle.text.specs.Writing.{Fits, Writing, after}
use Rattle.text.proofs.JudgedImages.{accepted_image}
use Rattle.text.proofs.WrittenTexts.{LowLabels, branches_in, image_branches, image_low, reverse-image, text_written}

-- ---- how many nodes wait
length-completed : (ws : List Waiting) → length (completed ws).0 ≤ length ws
length-completed [] = omega arith
length-completed (Others l ∷ ws) = omega arith
length-completed (Children l ∷ ws) = omega arith
length-completed (LastChildren l ∷ ws) = omega arith
length-completed (Inside l ∷ ws) = omega (arith, length-completed ws)

length-missing : (ws : List Waiting) → length (missing ws).0 ≤ length ws
length-missing [] = omega arith
length-missing (Others l ∷ ws) = omega arith
length-missing (Children l ∷ ws) = omega (arith, length-completed ws)
length-missing (LastChildren l ∷ ws) = omega (arith, length-completed ws)
length-missing (Inside l ∷ ws) = omega (arith, length-completed ws)

length-met : (l : ℕ) (ws : List Waiting) → length (met l ws).0 ≡ suc (length ws)
length-met l [] = refl
length-met l (Others m ∷ ws) = refl
length-met l (Children m ∷ ws) = refl
length-met l (LastChildren m ∷ ws) = refl
length-met l (Inside m ∷ ws) = refl

-- ---- what the loop keeps up
-- the bytes that are left are still to be written before the text, and their labels are at most 63
pub record SoFar (image rest : List ℕ) (w : Writing) : Type 0 where
  pub tree : WrittenTree
  pub images : Images image tree
  pub to_come : text_before w.waiting (reverse rest) ++ w.text ≡ text_of tree
  pub few : length w.waiting + branches_in (reverse rest) ≤ 2047
  pub low : LowLabels (reverse rest)

-- bytes that are accepted are the image of a tree, and no node waits
pub starts_written : (image : List ℕ) → accepts_image (image_judged nothing_read image) ≡ true
    → SoFar image image (record { waiting = []; text = [] })
starts_written image a =
    let (tree, read) = accepted_image image a in
    let (same, allowed) = read_image_lem image tree read in
    let back : reverse image ≡ _ = ap reverse same ∙ reverse-image tree in record {
      tree = tree;
      images = record { allowed = allowed; image = sym same };
      to_come = append-nil (text_before [] (reverse image)) ∙ ap (text_before []) back ∙ text_written tree;
      few = omega (arith, ap branches_in back, image_branches tree, allowed.few);
      low = subst LowLabels (sym back) (image_low tree allowed.labels);
    }

-- one record more
module _ {image rest : List ℕ} (w : Writing) (S : SoFar image rest w) (two : 2 ≤ length rest) where
  abbrev before : List ℕ
  before = take (length rest - 2) rest

  abbrev kind : ℕ
  kind = get_or rest (length rest - 2) 0

  abbrev label : ℕ
  label = get_or rest (length rest - 1) 0

  abbrev step : List Waiting × List ℕ
  step = step_of kind label w.waiting

  last_two : drop (length rest - 2) rest ≡ kind ∷ label ∷ []
  last_two =
      let next : length rest - 2 + 1 ≡ length rest - 1 = omega arith in
      let end : length rest - 1 + 1 ≡ length rest = omega arith in
      drop_more rest (length rest - 2) 0 (omega arith)
      ∙ ap (λ n. kind ∷ drop n rest) next
      ∙ ap (λ t. kind ∷ t) (drop_more rest (length rest - 1) 0 (omega arith))
      ∙ ap (λ n. kind ∷ label ∷ drop n rest) end
      ∙ ap (λ t. kind ∷ label ∷ t) (drop-length rest)

  back : reverse rest ≡ label ∷ kind ∷ reverse before
  back =
      ap reverse (sym (take-append-drop (length rest - 2) rest) ∙ ap (λ t. before ++ t) last_two)
      ∙ reverse-append before (kind ∷ label ∷ [])

  all_low : (label ≤ 63) × LowLabels (reverse before)
  all_low = subst LowLabels back S.low

  -- its label is at most 63
  pub label_low : label ≤ 63
  label_low = all_low.0

  to_come : (text_before step.0 (reverse before) ++ step.1) ++ w.text ≡ text_of S.tree
  to_come = ap (λ t. text_before w.waiting t ++ w.text) (sym back) ∙ S.to_come

  -- what it writes has room
  fits : Fits step w.text
  fits = omega (
    arith,
    ap length to_come,
    length-append (text_before step.0 (reverse before) ++ step.1) w.text,
    length-append (text_before step.0 (reverse before)) step.1,
    text_length (forest_of S.tree),
    S.images.allowed.few,
  )

  more : length step.0 + branches_in (reverse before) ≤ 2047 → SoFar image before (after step w)
  more few = record {
    tree = S.tree;
    images = S.images;
    to_come = sym (append_assoc (text_before step.0 (reverse before)) step.1 w.text) ∙ to_come;
    few = few;
    low = all_low.1;
  }

  -- a pad
  module _ (pad : kind ≡ 1) where
    is_missing : step ≡ missing w.waiting
    is_missing = rw (eq-eqb kind 1 pad) refl

    as_many_branches : branches_in (reverse rest) ≡ branches_in (reverse before)
    as_many_branches = ap branches_in back ∙ ap (λ p. cond p (branches_in (reverse before)) (suc (branches_in (reverse before)))) (eq-eqb kind 1 pad)

    pub can_miss : Fits (missing w.waiting) w.text
    can_miss = subst (λ s. Fits s w.text) is_missing fits

    pub missing_more : SoFar image before (after (missing w.waiting) w)
    missing_more =
        let fewer : length step.0 ≤ length w.waiting = subst (λ s. length s.0 ≤ length w.waiting) (sym is_missing) (length-missing w.waiting) in
        subst (λ s. SoFar image before (after s w)) is_missing (more (omega (arith, S.few, as_many_branches, fewer)))

  -- a branch
  module _ (branch : kind ≡ 1 → ⊥) where
    is_met : step ≡ met label w.waiting
    is_met = rw (ne_eqb kind 1 branch) refl

    more_branches : branches_in (reverse rest) ≡ suc (branches_in (reverse before))
    more_branches = ap branches_in back ∙ ap (λ p. cond p (branches_in (reverse before)) (suc (branches_in (reverse before)))) (ne_eqb kind 1 branch)

    pub can_meet : Fits (met label w.waiting) w.text
    can_meet = subst (λ s. Fits s w.text) is_met fits

    pub met_more : SoFar image before (after (met label w.waiting) w)
    met_more =
        let one_more : length step.0 ≡ suc (length w.waiting) = ap (λ s. length s.0) is_met ∙ length-met label w.waiting in
        subst (λ s. SoFar image before (after s w)) is_met (more (omega (arith, S.few, more_branches, one_more)))
