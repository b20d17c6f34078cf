-- Narrowing a listing by fixings: picking one place first and narrowing by the others then is narrowing at once, and the order
-- of the fixings does not matter. First blank places, then which rows stay, then listings.
use mathlib.Core.Path.{◌≡◌, refl, sym, ap, ap₂, ◌∙◌}
use mathlib.Core.Logic.{◌↔◌, ⊎_elim}
use mathlib.Core.Bool.{Bool, true, false, true≢false, cond, ◌&&◌}
use mathlib.Core.List.Memᴰ
use mathlib.Core.List.{List, [], ◌∷◌}
use Prim.Native.Nat.{ℕ, zero, suc, ◌-◌, ◌≤◌}
use native.Mathlib.Omega.{arith}
use lib.Dec.{eqb}
use lib.ListN.{get_or, set}
use lib.Seq.{get_or-set_other, set-set}
use Rattle.paper.specs.Lists.{◌∈◌}
use Rattle.paper.specs.Row.{Row, blank}
use Rattle.laws.specs.Fixings.{picked, Fixing, has_nodes, blanked, narrowed, LeftOf, SameFixings}
use Rattle.laws.proofs.Lists.{both_true, here, iff_eq}

-- ---- blank places
-- two places can be made blank in either order
blank_order : (row : Row) (i j : ℕ) → set (set row i blank) j blank ≡ set (set row j blank) i blank
blank_order [] i j = refl
blank_order (x ∷ xs) zero zero = refl
blank_order (x ∷ xs) zero (suc j) = refl
blank_order (x ∷ xs) (suc i) zero = refl
blank_order (x ∷ xs) (suc i) (suc j) = ap {B = Row} (λ z. x ∷ z) (blank_order xs i j)

-- one more place can be made blank before the fixed ones or after them
blanked_set : (fs : List Fixing) (row : Row) (i : ℕ) → blanked fs (set row i blank) ≡ set (blanked fs row) i blank
blanked_set [] row i = refl
blanked_set (f ∷ fs) row i = ap (blanked fs) (blank_order row i (f.place - 1)) ∙ blanked_set fs (set row (f.place - 1) blank) i

-- a fixed place is blank already
fixed_blank : (fs : List Fixing) (row : Row) (f : Fixing) → f ∈ fs → set (blanked fs row) (f.place - 1) blank ≡ blanked fs row
fixed_blank [] row f m = absurd (Memᴰ.not-nil m)
fixed_blank (g ∷ fs) row f m = ⊎_elim first (fixed_blank fs (set row (g.place - 1) blank) f) (Memᴰ.cases_cons m)
  where
    first : f ≡ g → set (blanked fs (set row (g.place - 1) blank)) (f.place - 1) blank ≡ blanked fs (set row (g.place - 1) blank)
    first e = rw (e, ← blanked_set, set-set)

-- fixings that stand among others blank nothing more
blanked_among : (fs gs : List Fixing) (row : Row) → ((f : Fixing) → f ∈ fs → f ∈ gs) → blanked fs (blanked gs row) ≡ blanked gs row
blanked_among [] gs row h = refl
blanked_among (f ∷ fs) gs row h = ap (blanked fs) (fixed_blank gs row f (h f here)) ∙ blanked_among fs gs row (λ g m. h g (Memᴰ.tail m))

-- two lists of fixings can be made blank in either order
blanked_both : (fs gs : List Fixing) (row : Row) → blanked fs (blanked gs row) ≡ blanked gs (blanked fs row)
blanked_both [] gs row = refl
blanked_both (f ∷ fs) gs row =
    ap (blanked fs) (sym (blanked_set gs row (f.place - 1))) ∙ blanked_both fs gs (set row (f.place - 1) blank)

-- the same fixings in any order make the same places blank
blanked_order : (fs gs : List Fixing) (row : Row) → SameFixings fs gs → blanked fs row ≡ blanked gs row
blanked_order fs gs row s =
    sym (blanked_among gs fs row (λ f m. (s f).1 m)) ∙ blanked_both gs fs row ∙ blanked_among fs gs row (λ f m. (s f).0 m)

-- ---- which rows stay
-- a row has the nodes exactly if each fixing has its node there
has_each : (fs : List Fixing) (row : Row) → has_nodes fs row ≡ true → (f : Fixing) → f ∈ fs → eqb (get_or row (f.place - 1) blank) f.node ≡ true
has_each [] row e f m = absurd (Memᴰ.not-nil m)
has_each (g ∷ fs) row e f m =
    let h = both_true (eqb (get_or row (g.place - 1) blank) g.node) (has_nodes fs row) e in
    ⊎_elim (λ q. ap (λ (z : Fixing). eqb (get_or row (z.place - 1) blank) z.node) q ∙ h.0) (has_each fs row h.1 f) (Memᴰ.cases_cons m)

each_has : (fs : List Fixing) (row : Row) → ((f : Fixing) → f ∈ fs → eqb (get_or row (f.place - 1) blank) f.node ≡ true) → has_nodes fs row ≡ true
each_has [] row h = refl
each_has (f ∷ fs) row h = rw (h f here) (each_has fs row (λ g m. h g (Memᴰ.tail m)))

-- the same fixings in any order leave the same rows
has_order : (fs gs : List Fixing) (row : Row) → SameFixings fs gs → has_nodes fs row ≡ has_nodes gs row
has_order fs gs row s =
    iff_eq (has_nodes fs row) (has_nodes gs row)
    (λ e. each_has gs row (λ f m. has_each fs row e f ((s f).1 m)))
    (λ e. each_has fs row (λ f m. has_each gs row e f ((s f).0 m)))

-- a blank at a place that is not fixed changes nothing
has_set : (fs : List Fixing) (row : Row) (i : ℕ) → ((f : Fixing) → f ∈ fs → f.place - 1 ≡ i → ⊥) → has_nodes fs (set row i blank) ≡ has_nodes fs row
has_set [] row i h = refl
has_set (f ∷ fs) row i h =
    ap₂ (λ (x : ℕ) (c : Bool). eqb x f.node && c)
    (get_or-set_other row i (f.place - 1) blank blank (h f here))
    (has_set fs row i (λ g m. h g (Memᴰ.tail m)))

-- ---- listings
-- fixing one place and then the others: picking first and narrowing then is narrowing at once, where the places are different
pub narrowed_picked : (f : Fixing) (fs : List Fixing) (rows : List Row) → 1 ≤ f.place
    → ((g : Fixing) → g ∈ fs → (1 ≤ g.place) × (g.place ≡ f.place → ⊥))
    → narrowed fs (picked (f.place - 1) f.node rows) ≡ narrowed (f ∷ fs) rows
narrowed_picked f fs [] p h = refl
narrowed_picked f fs (row ∷ rows) p h = go (eqb (get_or row (f.place - 1) blank) f.node) (narrowed_picked f fs rows p h)
  where
    i : ℕ
    i = f.place - 1

    stays : has_nodes fs (set row i blank) ≡ has_nodes fs row
    stays = has_set fs row i (λ g m e. let k = h g m in k.1 (omega arith))

    go : (c : Bool) → narrowed fs (picked i f.node rows) ≡ narrowed (f ∷ fs) rows
        → narrowed fs (cond c (set row i blank ∷ picked i f.node rows) (picked i f.node rows))
        ≡ cond (c && has_nodes fs row) (blanked fs (set row i blank) ∷ narrowed (f ∷ fs) rows) (narrowed (f ∷ fs) rows)
    go true e = rw (stays, e)
    go false e = e

-- what stands in a narrowed listing is left of a row of the listing
pub mem_narrowed : (fs : List Fixing) (rows : List Row) (row : Row) → (row ∈ narrowed fs rows) ↔ LeftOf (λ full. full ∈ rows) fs row
mem_narrowed fs [] row = (λ m. absurd (Memᴰ.not-nil m), λ (full, m, has, is). absurd (Memᴰ.not-nil m))
mem_narrowed fs (x ∷ rows) row = go (has_nodes fs x) refl (mem_narrowed fs rows row)
  where
    later : LeftOf (λ full. full ∈ rows) fs row → LeftOf (λ full. full ∈ x ∷ rows) fs row
    later (full, n, has, is) = (full, Memᴰ.tail n, has, is)

    go : (c : Bool) → has_nodes fs x ≡ c → (row ∈ narrowed fs rows) ↔ LeftOf (λ full. full ∈ rows) fs row
        → (row ∈ cond c (blanked fs x ∷ narrowed fs rows) (narrowed fs rows)) ↔ LeftOf (λ full. full ∈ x ∷ rows) fs row
    go true e others = (
      λ m. ⊎_elim (λ is. (x, here, e, is)) (λ n. later (others.0 n)) (Memᴰ.cases_cons m),
      λ (full, m, has, is).
          ⊎_elim (λ q. Memᴰ.head (is ∙ ap (blanked fs) q)) (λ n. Memᴰ.tail (others.1 (full, n, has, is))) (Memᴰ.cases_cons m),
    )
    go false e others = (
      λ m. later (others.0 m),
      λ (full, m, has, is).
          ⊎_elim (λ q. absurd (true≢false (sym has ∙ ap (has_nodes fs) q ∙ e))) (λ n. others.1 (full, n, has, is)) (Memᴰ.cases_cons m),
    )

-- the same fixings in any order leave the same rows in the same order
pub narrowed_order : (fs gs : List Fixing) (rows : List Row) → SameFixings fs gs → narrowed fs rows ≡ narrowed gs rows
narrowed_order fs gs [] s = refl
narrowed_order fs gs (row ∷ rows) s = rw (has_order fs gs row s, blanked_order fs gs row s, narrowed_order fs gs rows s)
