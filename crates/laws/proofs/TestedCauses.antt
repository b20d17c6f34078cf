-- Causes against tests in an order, for any call: where each test fails exactly if its cause applies, the tests fit the order.
use mathlib.Core.Bool.{Bool, ◌&&◌, cond, false, false≢true, not, true, true≢false}
use mathlib.Core.List.Memᴰ
use mathlib.Core.List.{List, [], ◌++◌, ◌∷◌}
use mathlib.Core.Logic.Iff
use mathlib.Core.Logic.{◌↔◌, ◌⊎◌, inl, inr, ⊎_elim}
use mathlib.Core.Path.{◌∙◌, ◌≡◌, ap, subst, sym}
use Prim.Native.Nat.{ℕ}
use borrow.Author.Tests.{eqb-true, not-true}
use lib.Dec.{eqb}
use Rattle.paper.specs.Lists.{Once, ◌∈◌, has}
use Rattle.paper.specs.Refusals.{No, Test, answer, no, no_at, number_in, unless}
use Rattle.laws.specs.First.{NoneOf}
use Rattle.laws.proofs.Lists.{both_true, here, only, true_has, which}
use Rattle.laws.proofs.Replies.{Fits, answered, answers, ends, none_passes, passes_none, skips, tests}
use Rattle.laws.proofs.Tests.{Fails}

-- the cause of each number applies exactly where a test with that number fails
abbrev pub Tested : (ℕ → Type 0) → List Test → Type 0
Tested Applies ts = (n : ℕ) → Applies n ↔ ((no n, false) ∈ ts)

pub one_cause : (m : ℕ) {c : Bool} {P : Type 0} → Fails c P → Tested (λ n. (n ≡ m) × P) ((no m, c) ∷ [])
one_cause m f n = (
  λ (e, p). let g = sym (f.1 p) in Memᴰ.head (λ i. (no (e i), g i)),
  λ w. let e = only w in (ap (λ t. number_in t.0) e, f.0 (sym (ap (λ t. t.1) e))),
)

pub more_causes : {A B : ℕ → Type 0} {ts us : List Test} → Tested A ts → Tested B us → Tested (λ n. A n ⊎ B n) (ts ++ us)
more_causes {ts = ts} {us = us} f g n = (
  ⊎_elim (λ a. Memᴰ.append_left us ((f n).0 a)) (λ b. Memᴰ.append_right ts ((g n).0 b)),
  λ w. ⊎_elim (λ a. inl ((f n).1 a)) (λ b. inr ((g n).1 b)) (Memᴰ.append_cases ts w),
)

-- what is said is this number alone
abbrev is_number : No → ℕ → Bool
is_number (no n) m = eqb n m
is_number (no_at n p) m = false

is_number_lem : (w : No) (m : ℕ) → is_number w m ≡ true → w ≡ no m
is_number_lem (no n) m e = ap no (eqb-true n m e)
is_number_lem (no_at n p) m e = absurd (false≢true e)

-- the numbers of the tests stand in the list, in this order
abbrev pub in_order : List Test → List ℕ → Bool
in_order [] ms = true
in_order (t ∷ ts) [] = false
in_order (t ∷ ts) (m ∷ ms) = cond (is_number t.0 m) (in_order ts ms) (in_order (t ∷ ts) ms)

in_order_cases : (t : Test) (ts : List Test) (m : ℕ) (ms : List ℕ) → in_order (t ∷ ts) (m ∷ ms) ≡ true
    → ((t.0 ≡ no m) × (in_order ts ms ≡ true)) ⊎ (in_order (t ∷ ts) ms ≡ true)
in_order_cases t ts m ms e = ⊎_elim (λ w. inl (is_number_lem t.0 m w, rw w at e)) (λ w. inr (rw w at e)) (which (is_number t.0 m))

-- so each of them stands in it
in_order_in : (ts : List Test) (ms : List ℕ) {n : ℕ} {c : Bool} → in_order ts ms ≡ true → (no n, c) ∈ ts → n ∈ ms
in_order_in [] ms e w = absurd (Memᴰ.not-nil w)
in_order_in (t ∷ ts) [] e w = absurd (false≢true e)
in_order_in (t ∷ ts) (m ∷ ms) e w =
    ⊎_elim
    (λ (q, f). ⊎_elim (λ p. Memᴰ.head (ap number_in (ap (λ s. s.0) p ∙ q))) (λ v. Memᴰ.tail (in_order_in ts ms f v)) (Memᴰ.cases_cons w))
    (λ f. Memᴰ.tail (in_order_in (t ∷ ts) ms f w))
    (in_order_cases t ts m ms e)

-- the causes of the list's numbers, tested in its order, fit it
in_order_fits : {Applies : ℕ → Type 0} (ts : List Test) (ms : List ℕ) → Once ms → in_order ts ms ≡ true
    → ((n : ℕ) → n ∈ ms → Applies n ↔ ((no n, false) ∈ ts)) → Fits Applies ts ms
in_order_fits [] [] o e r = ends
in_order_fits [] (m ∷ ms) o e r =
    skips (λ a. Memᴰ.not-nil ((r m here).0 a)) (in_order_fits [] ms o.1 e (λ n i. r n (Memᴰ.tail i)))
in_order_fits (t ∷ ts) [] o e r = absurd (false≢true e)
in_order_fits {Applies} (t ∷ ts) (m ∷ ms) o e r =
    ⊎_elim
    (λ (q, f). first q f (in_order_fits ts ms o.1 f (λ n i. Iff.trans (r n (Memᴰ.tail i)) (later q n i))))
    (λ f. skips (λ a. o.0 (in_order_in (t ∷ ts) ms f ((r m here).0 a))) (in_order_fits (t ∷ ts) ms o.1 f (λ n i. r n (Memᴰ.tail i))))
    (in_order_cases t ts m ms e)
  where
    -- a later number is not that of the first test
    later : t.0 ≡ no m → (n : ℕ) → n ∈ ms → ((no n, false) ∈ t ∷ ts) ↔ ((no n, false) ∈ ts)
    later q n i = (
      λ w. ⊎_elim (λ p. absurd (o.0 (Memᴰ.cast (ap number_in (sym q ∙ sym (ap (λ s. s.0) p))) i))) (λ v. v) (Memᴰ.cases_cons w),
      Memᴰ.tail,
    )

    first : t.0 ≡ no m → in_order ts ms ≡ true → Fits Applies ts ms → Fits Applies (t ∷ ts) (m ∷ ms)
    first q f rest =
        subst (λ k. Fits Applies ((k, t.1) ∷ ts) (m ∷ ms)) (sym q)
        (tests
        (λ z. let u = sym q in let v = sym z in (r m here).1 (Memᴰ.head (λ i. (u i, v i))))
        (λ a. ⊎_elim (λ p. sym (ap (λ s. s.1) p)) (λ w. absurd (o.0 (in_order_in ts ms f w))) (Memᴰ.cases_cons ((r m here).0 a)))
        rest)

-- no number stands in the list twice
abbrev pub different : List ℕ → Bool
different [] = true
different (n ∷ ns) = not (has ns n) && different ns

different_once : (ns : List ℕ) → different ns ≡ true → Once ns
different_once [] e = tt
different_once (n ∷ ns) e =
    let w = both_true (not (has ns n)) (different ns) e in
    (λ m. true≢false (sym (true_has ns n m) ∙ not-true (has ns n) w.0), different_once ns w.1)

-- causes that are tested in the order of the list fit it. For given numbers both tests hold by computing
pub fits : {Applies : ℕ → Type 0} {ts : List Test} (ms : List ℕ) → Tested Applies ts → in_order ts ms ≡ true → different ms ≡ true
    → Fits Applies ts ms
fits {ts = ts} ms r e d = in_order_fits ts ms (different_once ms d) e (λ n i. r n)

-- an answer comes exactly where no cause applies
pub answers_none : {A : Type 0} {Applies : ℕ → Type 0} {ts : List Test} {ms : List ℕ} (a : A) → Fits Applies ts ms
    → (unless ts a ≡ answer a) ↔ NoneOf ms Applies
answers_none {ts = ts} a r = (λ e. passes_none r (answered ts e).0, λ w. answers ts a (none_passes r w))
