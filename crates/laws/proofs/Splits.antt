-- Members of products and of splits, and that neither has one twice. First products, then the flags beside an own flag, then splits.
use mathlib.Core.Bool.{Bool, ◌&&◌, cond, true}
use mathlib.Core.List.Memᴰ
use mathlib.Core.List.{List, [], ◌∷◌, map}
use mathlib.Core.Path.{◌∙◌, ◌≡◌, ap, refl, sym}
use Prim.Native.Nat.{◌+◌, ◌<◌, ◌^◌, ℕ}
use borrow.Author.Tests.{eq-eqb, eqb-true}
use lib.Dec.{eqb}
use Rattle.paper.specs.Building.{Split, flags_beside, splits, splits_by}
use Rattle.paper.specs.Lists.{Once, ◌∈◌, each, up_to}
use Rattle.paper.specs.Query.{Rule, branch_rule, leaf_rule, side}
use Rattle.paper.specs.Row.{Row, merge, products}
use Rattle.paper.specs.Sound.{apart}
use Rattle.laws.proofs.Lists.{both_true, here, in_cond, in_each, in_up_to, mem_cond, mem_each, mem_up_to, only}
use Rattle.laws.proofs.Lists.{once_cond, once_count_from, once_each, once_map, once_of_map, once_one}

-- ---- products
-- a row of a product is a left row merged with a right row
pub mem_products : (xs ys : List Row) {z : Row} → z ∈ products xs ys → (x : Row) × (y : Row) × (x ∈ xs) × (y ∈ ys) × (z ≡ merge x y)
mem_products xs ys m =
    let (x, mx, mz) = mem_each xs (λ x. map (merge x) ys) m in
    let (y, my, e) = Memᴰ.of_map (merge x) ys mz in
    (x, y, mx, my, sym e)

-- and each such merger is one
pub in_products : (xs ys : List Row) {x y : Row} → x ∈ xs → y ∈ ys → merge x y ∈ products xs ys
in_products xs ys {x} m n = in_each xs (λ z. map (merge z) ys) m (Memᴰ.map (merge x) n)

-- no row twice, where a merger shows both rows that it is made of
pub once_products : (xs ys : List Row) → Once xs → Once ys
    → ((x x' y y' : Row) → x ∈ xs → x' ∈ xs → y ∈ ys → y' ∈ ys → merge x y ≡ merge x' y' → (x ≡ x') × (y ≡ y'))
    → Once (products xs ys)
once_products xs ys o p shows =
    once_each xs (λ x. map (merge x) ys) o
    (λ x m. once_map ys (merge x) p (λ y y' n n' e. (shows x x y y' m m n n' e).1))
    (λ x x' z m m' n n'.
    let (y, my, e) = Memᴰ.of_map (merge x) ys n in
    let (y', my', e') = Memᴰ.of_map (merge x') ys n' in
    (shows x x' y y' m m' my my' (e ∙ sym e')).0)

-- ---- the flags beside an own flag
module _ (k own : ℕ) where
  -- the left and the right flag share no bit with the own flag, nor with one another
  abbrev fits : ℕ → ℕ → Bool
  fits left right = apart own left && apart (own + left) right

  -- the pair, if they do, and all pairs with a left flag
  abbrev choose : ℕ → ℕ → List (ℕ × ℕ)
  choose left right = cond (fits left right) ((left, right) ∷ []) []

  abbrev rights_of : ℕ → List (ℕ × ℕ)
  rights_of left = each (up_to (2 ^ k)) (choose left)

  mem_choose : {left right : ℕ} {w : ℕ × ℕ} → w ∈ choose left right → (w ≡ (left, right)) × (fits left right ≡ true)
  mem_choose {left} {right} m = let (fit, mw) = mem_cond (fits left right) ((left, right) ∷ []) m in (only mw, fit)

  -- they are pairs of flags that fit
  pub mem_flags_beside : (w : ℕ × ℕ) → w ∈ flags_beside k own
      → (w.0 < 2 ^ k) × (w.1 < 2 ^ k) × (apart own w.0 ≡ true) × (apart (own + w.0) w.1 ≡ true)
  mem_flags_beside w m =
      let (left, ml, mr) = mem_each (up_to (2 ^ k)) rights_of m in
      let (right, mright, mw) = mem_each (up_to (2 ^ k)) (choose left) mr in
      let (e, fit) = mem_choose mw in
      let (inner, outer) = both_true (apart own left) (apart (own + left) right) fit in
      rw e (mem_up_to (2 ^ k) ml, mem_up_to (2 ^ k) mright, inner, outer)

  -- and each pair that fits is one
  pub in_flags_beside : (left right : ℕ) → left < 2 ^ k → right < 2 ^ k → apart own left ≡ true → apart (own + left) right ≡ true
      → (left, right) ∈ flags_beside k own
  in_flags_beside left right left_lt right_lt inner outer =
      in_each (up_to (2 ^ k)) rights_of (in_up_to (2 ^ k) left_lt)
      (in_each (up_to (2 ^ k)) (choose left) (in_up_to (2 ^ k) right_lt) (in_cond (fits left right) (rw (inner, outer)) here))

  -- none stands twice: a pair shows the left flag, and the right one, from which it comes
  pub once_flags_beside : Once (flags_beside k own)
  once_flags_beside =
      once_each (up_to (2 ^ k)) rights_of (once_count_from (2 ^ k) 0)
      (λ left m. once_each (up_to (2 ^ k)) (choose left) (once_count_from (2 ^ k) 0)
      (λ right n. once_cond (fits left right) ((left, right) ∷ []) (once_one (left, right)))
      (λ right right' w n n' u v. ap (λ (z : ℕ × ℕ). z.1) (sym (mem_choose u).0 ∙ (mem_choose v).0)))
      (λ left left' w m m' u v.
      let (right, mr, mw) = mem_each (up_to (2 ^ k)) (choose left) u in
      let (right', mr', mw') = mem_each (up_to (2 ^ k)) (choose left') v in
      ap (λ (z : ℕ × ℕ). z.0) (sym (mem_choose mw).0 ∙ (mem_choose mw').0))

-- ---- splits
-- a rule of the branch's label, and two flags that fit
pub record IsSplit (k : ℕ) (rules : List Rule) (a : ℕ) (x : Split) : Type 0 where
  pub rule : branch_rule a x.own x.left x.right x.state ∈ rules
  pub left_lt : x.left_flag < 2 ^ k
  pub right_lt : x.right_flag < 2 ^ k
  pub inner : apart x.own x.left_flag ≡ true
  pub outer : apart (x.own + x.left_flag) x.right_flag ≡ true

-- the split of a rule that names t, with an own flag, and a state and a flag for each child
abbrev pub split_of : ℕ → ℕ → ℕ → ℕ → ℕ → ℕ → Split
split_of t b₀ p b₁ q b₂ = record { state = t; own = b₀; left = p; left_flag = b₁; right = q; right_flag = b₂ }

-- a rule's split with these flags beside its own
abbrev pub with_flags : ℕ → ℕ → ℕ → ℕ → ℕ × ℕ → Split
with_flags t b₀ p q w = split_of t b₀ p w.0 q w.1

module _ (k : ℕ) (rules : List Rule) (a : ℕ) where
  -- a split shows the rule by which it is made
  mem_by : (r : Rule) → r ∈ rules → (x : Split) → x ∈ splits_by k a r
      → (r ≡ branch_rule a x.own x.left x.right x.state) × IsSplit k rules a x
  mem_by (leaf_rule a' b q) rule x m = absurd (Memᴰ.not-nil m)
  mem_by (branch_rule a' b₀ p q t) rule x m =
      let (label, mx) = mem_cond (eqb a a') (map (with_flags t b₀ p q) (flags_beside k b₀)) m in
      let (w, mw, is_x) = Memᴰ.of_map (with_flags t b₀ p q) (flags_beside k b₀) mx in
      let (left_lt, right_lt, inner, outer) = mem_flags_beside k b₀ w mw in
      let e : branch_rule a' b₀ p q t ≡ branch_rule a b₀ p q t = cc (eqb-true a a' label) in
      rw (← is_x) (e, record { rule = Memᴰ.cast (sym e) rule; left_lt = left_lt; right_lt = right_lt; inner = inner; outer = outer })

  -- each split of a label is by a rule of it, with flags that fit
  pub mem_splits : (x : Split) → x ∈ splits k rules a → IsSplit k rules a x
  mem_splits x m = let (r, mr, mx) = mem_each rules (splits_by k a) m in (mem_by r mr x mx).1

  -- and each such rule with flags that fit is one
  pub in_splits : (t b₀ p b₁ q b₂ : ℕ) → branch_rule a b₀ p q t ∈ rules → b₁ < 2 ^ k → b₂ < 2 ^ k
      → apart b₀ b₁ ≡ true → apart (b₀ + b₁) b₂ ≡ true → split_of t b₀ p b₁ q b₂ ∈ splits k rules a
  in_splits t b₀ p b₁ q b₂ rule left_lt right_lt inner outer =
      in_each rules (splits_by k a) rule
      (in_cond (eqb a a) (eq-eqb a a refl) (Memᴰ.map (with_flags t b₀ p q) (in_flags_beside k b₀ b₁ b₂ left_lt right_lt inner outer)))

  once_by : (r : Rule) → Once (splits_by k a r)
  once_by (leaf_rule a' b q) = tt
  once_by (branch_rule a' b₀ p q t) =
      once_cond (eqb a a') (map (with_flags t b₀ p q) (flags_beside k b₀))
      (once_map (flags_beside k b₀) (with_flags t b₀ p q) (once_flags_beside k b₀) (λ x z m n e. λ i. ((e i).left_flag, (e i).right_flag)))

  -- where no two rules have the same side, no split stands twice: it shows its rule
  pub once_splits : Once (map side rules) → Once (splits k rules a)
  once_splits deterministic =
      once_each rules (splits_by k a) (once_of_map side rules deterministic) (λ r m. once_by r)
      (λ r s x m n u v. (mem_by r m x u).0 ∙ sym (mem_by s n x v).0)
