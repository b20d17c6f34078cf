-- Lists of tests against causes in an order, where one cause may have several tests and each test counts only if those before it hold.
-- First the test that fails first, then that a list of tests judges as the causes do.
use mathlib.Core.Path.{◌≡◌, refl, sym, ap, ◌∙◌}
use mathlib.Core.Logic.{◌⊎◌, inl, inr}
use mathlib.Core.Bool.{Bool, true, false}
use mathlib.Core.List.{List, [], ◌∷◌, ◌++◌}
use Prim.Native.Nat.{ℕ}
use Rattle.paper.specs.Refusals.{No, no_at, refused, Test, StreamTest, tests_at, unless}
use Rattle.laws.specs.First.{FirstOf, NoneOf}
use Rattle.laws.proofs.Replies.{Passes}

-- ---- the first test that fails
-- this is said of the first test that fails
abbrev pub FailsFirst : {N : Type 0} → List (N × Bool) → N → Type 0
FailsFirst [] n = ⊥
FailsFirst (t ∷ ts) n = ((t.1 ≡ false) × (n ≡ t.0)) ⊎ ((t.1 ≡ true) × FailsFirst ts n)

pub fails_refused : {A : Type 0} (ts : List Test) (n : No) (a : A) → FailsFirst ts n → unless ts a ≡ refused n
fails_refused [] n a f = absurd f
fails_refused (t ∷ ts) n a (inl f) = rw f.0 (ap refused (sym f.1))
fails_refused (t ∷ ts) n a (inr f) = rw f.0 (fails_refused ts n a f.1)

pub fails_append : {N : Type 0} (ts us : List (N × Bool)) (n : N) → FailsFirst ts n → FailsFirst (ts ++ us) n
fails_append [] us n f = absurd f
fails_append (t ∷ ts) us n (inl f) = inl f
fails_append (t ∷ ts) us n (inr f) = inr (f.0, fails_append ts us n f.1)

pub fails_after : {N : Type 0} (ts us : List (N × Bool)) (n : N) → Passes ts → FailsFirst us n → FailsFirst (ts ++ us) n
fails_after [] us n p f = f
fails_after (t ∷ ts) us n p f = inr (p.0, fails_after ts us n p.1 f)

-- tests of what stands at a position say its number with the position
pub fails_at : (position : ℕ) (ts : List StreamTest) (n : ℕ) → FailsFirst ts n → FailsFirst (tests_at position ts) (no_at n position)
fails_at position [] n f = absurd f
fails_at position (t ∷ ts) n (inl f) = inl (f.0, ap (λ m. no_at m position) f.1)
fails_at position (t ∷ ts) n (inr f) = inr (f.0, fails_at position ts n f.1)

-- ---- tests judge as the causes do
-- every test passes and no cause applies, or the first test that fails has the number of the first cause that applies
pub data Judged (Applies : ℕ → Type 0) (ts : List StreamTest) (ms : List ℕ) : Type 0 where
  fine : Passes ts → NoneOf ms Applies → Judged Applies ts ms
  faulty : (n : ℕ) → FailsFirst ts n → FirstOf ms Applies n → Judged Applies ts ms

module _ {Applies : ℕ → Type 0} where
  pub judged_none : Judged Applies [] []
  judged_none = fine tt tt

  -- a cause that does not apply is passed over
  pub judged_skip : {m : ℕ} {ms : List ℕ} {ts : List StreamTest} → (Applies m → ⊥) → Judged Applies ts ms → Judged Applies ts (m ∷ ms)
  judged_skip f (fine p w) = fine p (f, w)
  judged_skip f (faulty n p w) = faulty n p (inr (f, w))

  -- a test of the first cause: where it fails the cause applies, and where it holds the others decide
  pub judged_test : {m : ℕ} {c : Bool} {ms : List ℕ} {ts : List StreamTest} → (c ≡ false → Applies m) → (c ≡ true → Judged Applies ts (m ∷ ms))
      → Judged Applies ((m, c) ∷ ts) (m ∷ ms)
  judged_test {m} {c} {ms} {ts} f g = go c refl
    where
      with_test : c ≡ true → Judged Applies ts (m ∷ ms) → Judged Applies ((m, c) ∷ ts) (m ∷ ms)
      with_test e (fine p w) = fine (e, p) w
      with_test e (faulty n p w) = faulty n (inr (e, p)) w

      go : (d : Bool) → c ≡ d → Judged Applies ((m, c) ∷ ts) (m ∷ ms)
      go true e = with_test e (g e)
      go false e = faulty m (inl (e, refl)) (inl (f e, refl))

-- at most one number is first
pub first_same : (ms : List ℕ) (Applies : ℕ → Type 0) (m n : ℕ) → FirstOf ms Applies m → FirstOf ms Applies n → m ≡ n
first_same [] Applies m n f g = absurd f
first_same (x ∷ ms) Applies m n (inl f) (inl g) = f.1 ∙ sym g.1
first_same (x ∷ ms) Applies m n (inl f) (inr g) = absurd (g.0 f.0)
first_same (x ∷ ms) Applies m n (inr f) (inl g) = absurd (f.0 g.0)
first_same (x ∷ ms) Applies m n (inr f) (inr g) = first_same ms Applies m n f.1 g.1

pub first_not_none : (ms : List ℕ) (Applies : ℕ → Type 0) (n : ℕ) → FirstOf ms Applies n → NoneOf ms Applies → ⊥
first_not_none [] Applies n f w = f
first_not_none (x ∷ ms) Applies n (inl f) w = w.0 f.0
first_not_none (x ∷ ms) Applies n (inr f) w = first_not_none ms Applies n f.1 w.1
