-- Where the tree's records stand in the input: two bytes each, from the start on.
use mathlib.Core.Bool.{Bool, cond, false, true}
use mathlib.Core.List.{List, [], ◌++◌, ◌∷◌, head-eq_of_cons-eq, nil≢cons, tail-eq_of_cons-eq}
use mathlib.Core.Logic.{⊎_elim}
use mathlib.Core.Path.{◌∙◌, ◌≡◌, ap, ap₂, refl, subst, sym}
use Prim.Native.Nat.{◌*◌, ◌+◌, ◌<◌, suc, ℕ}
use native.Mathlib.Omega.{arith}
use lib.ListN.{drop, length, length-drop, take}
use lib.Seq.{drop-drop, get_or-drop}
use Rattle.paper.specs.Stream.{StreamRecord, body_length, is_tree_kind, records_of, tree_records}
use Rattle.laws.proofs.StreamPlaces.{first_record, records_cons, tree_kind}
use Rattle.stream.specs.Positions.{record_at}

-- ---- a rest of the input
record_drop : (n at : ℕ) (bytes : List ℕ) → record_at (drop n bytes) at ≡ record_at bytes (n + at)
record_drop n at bytes =
    ap₂ (λ (k : ℕ) (behind : List ℕ). record { kind = k; body = take (body_length k) behind })
    (get_or-drop n bytes at 0)
    (drop-drop (at + 1) n bytes ∙ ap (λ (m : ℕ). drop m bytes) (let z : n + (at + 1) ≡ n + at + 1 = omega arith in z))

-- the body of a tree record is one byte
tree_body : (k : ℕ) → is_tree_kind k ≡ true → body_length k ≡ 1
tree_body k e = ⊎_elim (λ w. ap body_length w) (λ w. ap body_length w) (tree_kind k e)

-- ---- the tree's records
pub record TreePlace (bytes : List ℕ) (at : ℕ) (r : StreamRecord) : Type 0 where
  pub inside : at < length bytes
  pub stands : record_at bytes at ≡ r
  pub kind : is_tree_kind r.kind ≡ true

tree_first : (k : ℕ) (more : List ℕ) (r : StreamRecord) (rs : List StreamRecord) → tree_records (records_of (k ∷ more)) ≡ r ∷ rs
    → (is_tree_kind k ≡ true) × (first_record k more ≡ r) × (tree_records (records_of (drop 1 more)) ≡ rs)
tree_first k more r rs e = go (is_tree_kind k) refl (sym (ap tree_records (records_cons k more)) ∙ e)
  where
    go : (c : Bool) → is_tree_kind k ≡ c
        → cond c (first_record k more ∷ tree_records (records_of (drop (body_length k) more))) [] ≡ r ∷ rs
        → (is_tree_kind k ≡ true) × (first_record k more ≡ r) × (tree_records (records_of (drop 1 more)) ≡ rs)
    go true h w = (
      h,
      head-eq_of_cons-eq w,
      ap (λ (n : ℕ). tree_records (records_of (drop n more))) (sym (tree_body k h)) ∙ tail-eq_of_cons-eq w,
    )
    go false h w = absurd (nil≢cons w)

-- the record behind others stands two bytes behind for each of them
pub tree_place : (before : List StreamRecord) (r : StreamRecord) (behind : List StreamRecord) (bytes : List ℕ)
    → tree_records (records_of bytes) ≡ before ++ (r ∷ behind) → TreePlace bytes (2 * length before) r
tree_place [] r behind [] e = absurd (nil≢cons e)
tree_place (b ∷ before) r behind [] e = absurd (nil≢cons e)
tree_place [] r behind (k ∷ more) e =
    let f = tree_first k more r behind e in
    record { inside = omega arith; stands = f.1; kind = subst (λ (x : StreamRecord). is_tree_kind x.kind ≡ true) f.1 f.0 }
tree_place (b ∷ before) r behind (k ∷ more) e =
    let f = tree_first k more b (before ++ (r ∷ behind)) e in
    let p = tree_place before r behind (drop 1 more) f.2 in
    let two : 2 + 2 * length before ≡ 2 * suc (length before) = omega arith in
    record {
      inside = omega (arith, p.inside, length-drop 1 more);
      stands = ap (record_at (k ∷ more)) (sym two) ∙ sym (record_drop 2 (2 * length before) (k ∷ more)) ∙ p.stands;
      kind = p.kind;
    }
