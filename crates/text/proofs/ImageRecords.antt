-- An image, record by record: what the judging loop keeps up, and what it answers at a fault.
use mathlib.Core.Bool.{Bool, ◌&&◌, cond, false, true}
use mathlib.Core.List.{List, [], ◌∷◌}
use mathlib.Core.Path.{◌∙◌, ◌≡◌, ap, refl, sym}
use Prim.Native.Nat.{◌+◌, ◌-◌, ◌≤◌, suc, ℕ}
use native.Mathlib.Numerals.{add-one, sub-one}
use native.Mathlib.Omega.{arith}
use borrow.Author.Tests.{eq-eqb, eqb-true, le-leb, leb-true}
use lib.Dec.{eqb, leb}
use lib.ListN.{drop, get_or, length, take}
use lib.Seq.{take-length}
use Rattle.laws.proofs.Lists.{both_true}
use Rattle.text.specs.JudgeImage.{Unjoined, accepts_image, faulty, image_judged, record_judged, with_branch, with_pad}
use Rattle.text.proofs.JudgedImages.{bytes_faulty}

-- the numbers with no fault so far
abbrev pub so_far : ℕ → ℕ → Bool → Bool → Unjoined
so_far trees nodes pad single = record { fine = true; trees = trees; nodes = nodes; pad = pad; single = single }

-- a fault is not accepted, whatever follows
fault_refused : (u : Unjoined) (t : List ℕ) → u.fine ≡ false → accepts_image (image_judged u t) ≡ false
fault_refused u t h = rw (bytes_faulty t u h) refl

-- a record stands here
two_bytes : (rest : List ℕ) → 2 ≤ length rest → rest ≡ get_or rest 0 0 ∷ get_or rest 1 0 ∷ take (length rest - 2) (drop 2 rest)
two_bytes [] two = absurd (omega arith)
two_bytes (k ∷ []) two = absurd (omega arith)
two_bytes (k ∷ l ∷ rest) two =
    let left : suc (suc (length rest)) - 2 ≡ length rest = omega arith in
    ap (λ t. k ∷ l ∷ t) (sym (ap (λ n. take n rest) left ∙ take-length rest))

module _ (rest : List ℕ) (two : 2 ≤ length rest) (trees nodes : ℕ) (pad single : Bool) where
  abbrev now : Unjoined
  now = so_far trees nodes pad single

  abbrev kind : ℕ
  kind = get_or rest 0 0

  abbrev label : ℕ
  label = get_or rest 1 0

  abbrev behind : List ℕ
  behind = take (length rest - 2) (drop 2 rest)

  pub shorter : length behind + 2 ≡ length rest
  shorter = omega (arith, ap length (two_bytes rest two))

  one_more : image_judged now rest ≡ image_judged (record_judged now kind label) behind
  one_more = ap (image_judged now) (two_bytes rest two)

  pub pad_more : kind ≡ 1 → label ≡ 0 → image_judged (so_far (trees + 1) nodes true false) behind ≡ image_judged now rest
  pad_more k l = sym (one_more ∙ rw (eq-eqb kind 1 k, eq-eqb label 0 l, add-one trees) refl)

  pub written_more : kind ≡ 2 → label ≤ 63 → 2 ≤ trees
      → image_judged (so_far (trees - 1) (nodes + 1) false pad) behind ≡ image_judged now rest
  written_more k l two = sym (one_more ∙ rw (k, le-leb label 63 l, le-leb 2 trees two, add-one nodes, sub-one trees) refl)

  pub fault : (kind ≡ 1 → label ≡ 0 → ⊥) → (kind ≡ 2 → label ≤ 63 → 2 ≤ trees → ⊥) → false ≡ accepts_image (image_judged now rest)
  fault no_pad no_branch =
      sym (ap accepts_image one_more ∙ fault_refused (record_judged now kind label) behind (go (eqb kind 1 && eqb label 0) refl (eqb kind 2 && leb label 63) refl))
    where
      few : eqb kind 2 && leb label 63 ≡ true → (p : Bool) → leb 2 trees ≡ p → (with_branch now).fine ≡ false
      few h true e =
          let (k, l) = both_true (eqb kind 2) (leb label 63) h in
          absurd (no_branch (eqb-true kind 2 k) (leb-true label 63 l) (leb-true 2 trees e))
      few h false e = e

      go : (p : Bool) → eqb kind 1 && eqb label 0 ≡ p → (q : Bool) → eqb kind 2 && leb label 63 ≡ q
          → (cond p (with_pad now) (cond q (with_branch now) (faulty now))).fine ≡ false
      go true e q h = let (k, l) = both_true (eqb kind 1) (eqb label 0) e in absurd (no_pad (eqb-true kind 1 k) (eqb-true label 0 l))
      go false e true h = few h (leb 2 trees) refl
      go false e false h = refl
