-- Facts about tests and lists that the other files lean on.
-- In order: tests; members, and lists with no element twice; lists one after the other; ranges; left folds, for loops.
-- In the names `mem_` says what a member is, `in_` what is a member, and `once_` that no element stands twice.
use mathlib.Core.Bool.{Bool, ◌&&◌, ◌||◌, cond, false, false≢true, true}
use mathlib.Core.List.Memᴰ
use mathlib.Core.List.{List, [], ◌++◌, ◌∷◌, map}
pub use mathlib.Core.List.Memᴰ.{eq_of_singleton as only}
use mathlib.Core.Logic.{◌⊎◌, inl, inr, ⊎_elim}
use mathlib.Core.Path.{◌∙◌, ◌≡◌, ap, refl, subst, sym}
use Prim.Native.Nat.{◌+◌, ◌<◌, ◌≤◌, suc, zero, ℕ}
use native.Mathlib.Nat.{zero-add}
use native.Mathlib.Omega.{arith}
use borrow.Author.Tests.{eq-eqb, eqb-false, eqb-true}
use lib.Dec.{eqb}
use lib.ListN.{get_or, length, take}
use lib.Seq.{take-suc}
use Rattle.paper.specs.Lists.{Once, ◌∈◌, count_from, each, has, same, through, up_to}

-- ---- tests
-- a test holds or fails
pub which : (b : Bool) → (b ≡ true) ⊎ (b ≡ false)
which true = inl refl
which false = inr refl

-- a test that cannot hold fails
pub not_then_false : (b : Bool) → (b ≡ true → ⊥) → b ≡ false
not_then_false true h = absurd (h refl)
not_then_false false h = refl

-- two tests, each of which holds if the other does, are equal
pub iff_eq : (a b : Bool) → (a ≡ true → b ≡ true) → (b ≡ true → a ≡ true) → a ≡ b
iff_eq true b f g = sym (f refl)
iff_eq false true f g = g refl
iff_eq false false f g = refl

-- where both hold, each does
pub both_true : (a b : Bool) → a && b ≡ true → (a ≡ true) × (b ≡ true)
both_true true b e = (refl, e)
both_true false b e = absurd (false≢true e)

-- where one of two holds, the left one or the right one does
pub or_cases : (a b : Bool) → a || b ≡ true → (a ≡ true) ⊎ (b ≡ true)
or_cases true b e = inl refl
or_cases false b e = inr e

-- where the left one holds, one of two does
pub or_left : (a b : Bool) → a ≡ true → a || b ≡ true
or_left true b e = refl
or_left false b e = absurd (false≢true e)

-- where the right one holds, one of two does
pub or_right : (a b : Bool) → b ≡ true → a || b ≡ true
or_right true b e = refl
or_right false b e = e

-- lists that `same` finds the same are equal
pub same_true : (xs ys : List ℕ) → same xs ys ≡ true → xs ≡ ys
same_true [] [] e = refl
same_true [] (y ∷ ys) e = absurd (false≢true e)
same_true (x ∷ xs) [] e = absurd (false≢true e)
same_true (x ∷ xs) (y ∷ ys) e =
    let (first, others) = both_true (eqb x y) (same xs ys) e in
    cc (eqb-true x y first, same_true xs ys others)

-- a list is the same as itself
pub same_refl : (xs : List ℕ) → same xs xs ≡ true
same_refl [] = refl
same_refl (x ∷ xs) = rw (eq-eqb x x refl) (same_refl xs)

-- a number that `has` finds is a member
pub has_true : (xs : List ℕ) (q : ℕ) → has xs q ≡ true → q ∈ xs
has_true [] q e = absurd (false≢true e)
has_true (x ∷ xs) q e =
    ⊎_elim (λ h. Memᴰ.head (sym (eqb-true x q h))) (λ h. Memᴰ.tail (has_true xs q h)) (or_cases (eqb x q) (has xs q) e)

-- `has` finds every member
pub true_has : (xs : List ℕ) (q : ℕ) → q ∈ xs → has xs q ≡ true
true_has [] q m = absurd (Memᴰ.not-nil m)
true_has (x ∷ xs) q m =
    ⊎_elim (λ e. rw (eq-eqb x q (sym e))) (λ n. or_right (eqb x q) (has xs q) (true_has xs q n)) (Memᴰ.cases_cons m)

-- ---- members, and lists with no element twice
module _ {A : Type 0} where
  -- the first element is a member. Of a list with one element it is the only one: `only`
  pub here : {x : A} {xs : List A} → x ∈ x ∷ xs
  here = Memᴰ.head refl

  -- so is the entry at each index of the list
  pub in_at : (d : A) (xs : List A) (i : ℕ) → i < length xs → get_or xs i d ∈ xs
  in_at d [] i h = absurd (omega arith)
  in_at d (x ∷ xs) zero h = here
  in_at d (x ∷ xs) (suc i) h = Memᴰ.tail (in_at d xs i (omega arith))

  -- a member of a list that is there only if a test holds: the test holds
  pub mem_cond : (b : Bool) (xs : List A) {y : A} → y ∈ cond b xs [] → (b ≡ true) × (y ∈ xs)
  mem_cond true xs m = (refl, m)
  mem_cond false xs m = absurd (Memᴰ.not-nil m)

  -- where the test holds, each member of the list is one
  pub in_cond : (b : Bool) {xs : List A} {y : A} → b ≡ true → y ∈ xs → y ∈ cond b xs []
  in_cond true e m = m
  in_cond false e m = absurd (false≢true e)

  -- and it has no element twice if the list has none
  pub once_cond : (b : Bool) (xs : List A) → Once xs → Once (cond b xs [])
  once_cond true xs o = o
  once_cond false xs o = tt

  -- a list with one element
  pub once_one : (x : A) → Once (x ∷ [])
  once_one x = (λ m. Memᴰ.not-nil m, tt)

  -- two lists with no element in both, one after the other
  pub once_append : (xs ys : List A) → Once xs → Once ys → ((x : A) → x ∈ xs → x ∈ ys → ⊥) → Once (xs ++ ys)
  once_append [] ys o p apart = p
  once_append (x ∷ xs) ys o p apart = (
    λ m. ⊎_elim o.0 (apart x here) (Memᴰ.append_cases xs m),
    once_append xs ys o.1 p (λ y m. apart y (Memᴰ.tail m)),
  )

  -- the left part of a list with no element twice
  pub once_left : (xs ys : List A) → Once (xs ++ ys) → Once xs
  once_left [] ys o = tt
  once_left (x ∷ xs) ys o = (λ m. o.0 (Memᴰ.append_left ys m), once_left xs ys o.1)

  -- a new element at the end
  pub once_snoc : (xs : List A) (x : A) → Once xs → (x ∈ xs → ⊥) → Once (xs ++ (x ∷ []))
  once_snoc xs x o new = once_append xs (x ∷ []) o (once_one x) (λ y m n. new (Memᴰ.cast (sym (only n)) m))

-- ---- lists one after the other
module _ {A B : Type 0} where
  -- a member of them is a member of one
  pub mem_each : (xs : List A) (f : A → List B) {y : B} → y ∈ each xs f → (x : A) × (x ∈ xs) × (y ∈ f x)
  mem_each [] f m = absurd (Memᴰ.not-nil m)
  mem_each (z ∷ zs) f m =
      ⊎_elim (λ n. (z, here, n)) (λ n. let (x, mx, my) = mem_each zs f n in (x, Memᴰ.tail mx, my)) (Memᴰ.append_cases (f z) m)

  -- a member of one of them is a member of them
  pub in_each : (xs : List A) (f : A → List B) {x : A} {y : B} → x ∈ xs → y ∈ f x → y ∈ each xs f
  in_each [] f m n = absurd (Memᴰ.not-nil m)
  in_each (z ∷ zs) f {x} {y} m n = ⊎_elim first (λ m'. Memᴰ.append_right (f z) (in_each zs f m' n)) (Memᴰ.cases_cons m)
    where
      first : x ≡ z → y ∈ f z ++ each zs f
      first e = Memᴰ.append_left (each zs f) (subst (λ w. y ∈ f w) e n)

  -- no element twice: each list has none twice, and an element shows from which list it comes
  pub once_each : (xs : List A) (f : A → List B) → Once xs → ((x : A) → x ∈ xs → Once (f x))
      → ((x z : A) (y : B) → x ∈ xs → z ∈ xs → y ∈ f x → y ∈ f z → x ≡ z) → Once (each xs f)
  once_each [] f o h shows = tt
  once_each (x ∷ xs) f o h shows =
      once_append (f x) (each xs f) (h x here)
      (once_each xs f o.1 (λ z m. h z (Memᴰ.tail m)) (λ u v y m n. shows u v y (Memᴰ.tail m) (Memᴰ.tail n)))
      (λ y m n. let (z, mz, my) = mem_each xs f n in o.0 (Memᴰ.cast (shows x z y here (Memᴰ.tail mz) m my) mz))

  -- the images of a list with no element twice, where no two elements have the same image
  pub once_map : (xs : List A) (f : A → B) → Once xs → ((x z : A) → x ∈ xs → z ∈ xs → f x ≡ f z → x ≡ z) → Once (map f xs)
  once_map [] f o differ = tt
  once_map (x ∷ xs) f o differ = (
    λ m. let (z, mz, e) = Memᴰ.of_map f xs m in o.0 (Memᴰ.cast (differ x z here (Memᴰ.tail mz) (sym e)) mz),
    once_map xs f o.1 (λ u v m n. differ u v (Memᴰ.tail m) (Memᴰ.tail n)),
  )

  -- a list has no element twice if its images have none twice
  pub once_of_map : (f : A → B) (xs : List A) → Once (map f xs) → Once xs
  once_of_map f [] o = tt
  once_of_map f (x ∷ xs) o = (λ m. o.0 (Memᴰ.map f m), once_of_map f xs o.1)

  -- lists without elements make none
  pub each_none : (xs : List A) → each {B = B} xs (λ x. []) ≡ []
  each_none [] = refl
  each_none (x ∷ xs) = each_none xs

-- ---- ranges
-- the n numbers from k up are those from k to below k + n
pub mem_count_from : (n k : ℕ) {x : ℕ} → x ∈ count_from k n → (k ≤ x) × (x < k + n)
mem_count_from zero k m = absurd (Memᴰ.not-nil m)
mem_count_from (suc n) k m = ⊎_elim (λ e. omega arith) (λ m'. omega (arith, mem_count_from n (suc k) m')) (Memᴰ.cases_cons m)

-- and each of those is one of them
pub in_count_from : (n k : ℕ) {x : ℕ} → k ≤ x → x < k + n → x ∈ count_from k n
in_count_from zero k a b = absurd (omega arith)
in_count_from (suc n) k {x} a b =
    ⊎_elim (λ e. Memᴰ.head (sym (eqb-true k x e))) (λ e. Memᴰ.tail (in_count_from n (suc k) (later e) (omega arith)))
    (which (eqb k x))
  where
    later : eqb k x ≡ false → suc k ≤ x
    later e = let h : k ≡ x → ⊥ = eqb-false k x e in omega arith

-- each once
pub once_count_from : (n k : ℕ) → Once (count_from k n)
once_count_from zero k = tt
once_count_from (suc n) k = (λ m. omega (arith, mem_count_from n (suc k) m), once_count_from n (suc k))

-- the numbers up to n are those below n
pub mem_up_to : (n : ℕ) {x : ℕ} → x ∈ up_to n → x < n
mem_up_to n m = omega (arith, mem_count_from n 0 m)

-- and each number below n is one of them
pub in_up_to : (n : ℕ) {x : ℕ} → x < n → x ∈ up_to n
in_up_to n h = in_count_from n 0 (omega arith) (omega arith)

-- ---- left folds, for a loop that has passed i elements
-- over two lists, one after the other
pub through_append : {A B : Type 0} (f : B → A → B) (b : B) (xs ys : List A) → through f b (xs ++ ys) ≡ through f (through f b xs) ys
through_append f b [] ys = refl
through_append f b (x ∷ xs) ys = through_append f (f b x) xs ys

-- over the first i + 1 elements: one step more than over the first i
pub through_take : {A B : Type 0} (f : B → A → B) (b : B) (xs : List A) (i : ℕ) (d : A) → i < length xs
    → through f b (take (suc i) xs) ≡ f (through f b (take i xs)) (get_or xs i d)
through_take f b xs i d h = ap (through f b) (take-suc xs i d h) ∙ through_append f b (take i xs) (get_or xs i d ∷ [])

-- nested loops: a fold over lists one after the other is a fold of folds
pub through_each : {A B C : Type 0} (f : C → B → C) (c : C) (xs : List A) (g : A → List B)
    → through f c (each xs g) ≡ through (λ z x. through f z (g x)) c xs
through_each f c [] g = refl
through_each f c (x ∷ xs) g = through_append f c (g x) (each xs g) ∙ through_each f (through f c (g x)) xs g

-- a fold over images
pub through_map : {A B C : Type 0} (f : C → B → C) (c : C) (xs : List A) (g : A → B)
    → through f c (map g xs) ≡ through (λ z x. f z (g x)) c xs
through_map f c [] g = refl
through_map f c (x ∷ xs) g = through_map f (f c (g x)) xs g

count_from_suc : (n k : ℕ) → count_from k (suc n) ≡ count_from k n ++ ((k + n) ∷ [])
count_from_suc zero k = let z : k + 0 ≡ k = omega arith in rw z
count_from_suc (suc n) k = let z : k + suc n ≡ suc k + n = omega arith in rw (z, count_from_suc n (suc k))

-- a loop over 0, 1, .. that has passed i of them
pub through_up_to : {B : Type 0} (f : B → ℕ → B) (b : B) (i : ℕ) → through f b (up_to (suc i)) ≡ f (through f b (up_to i)) i
through_up_to f b i = rw (count_from_suc i 0, through_append, zero-add)
