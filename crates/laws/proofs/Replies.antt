-- Replies and lists of tests: the number given is that of the first test that fails.
-- First what a refusal and an answer tell of the tests, then tests against the causes in an order.
use mathlib.Core.Bool.{Bool, cond, false, true, true≢false}
use mathlib.Core.List.{List, [], ◌++◌, ◌∷◌}
use mathlib.Core.Logic.{◌↔◌, ◌⊎◌, inl, inr}
use mathlib.Core.Path.{◌∙◌, ◌≡◌, ap, refl, subst, sym}
use Prim.Native.Nat.{ℕ}
use Rattle.paper.specs.Refusals.{No, Reply, Test, answer, no, no_at, number_in, refused, unless}
use Rattle.laws.specs.First.{Alone, FirstOf, NoneOf}

-- ---- replies
abbrev no_in : {A : Type 0} → No → Reply A → No
no_in d (refused n) = n
no_in d (answer a) = d

pub refused_inj : {A : Type 0} {m n : No} → ◌≡◌ {A = Reply A} (refused m) (refused n) → m ≡ n
refused_inj {m = m} e = ap (no_in m) e

abbrev IsAlone : No → Type 0
IsAlone w = Alone (λ n. Unit {0}) w

pub alone_not_at : {m n p : ℕ} → no m ≡ no_at n p → ⊥
alone_not_at e = subst IsAlone e tt

abbrev answer_in : {A : Type 0} → A → Reply A → A
answer_in d (refused n) = d
answer_in d (answer a) = a

pub answer_inj : {A : Type 0} {a b : A} → ◌≡◌ {A = Reply A} (answer a) (answer b) → a ≡ b
answer_inj {a = a} e = ap (answer_in a) e

abbrev IsAnswer : {A : Type 0} → Reply A → Type 0
IsAnswer (refused n) = ⊥
IsAnswer (answer a) = Unit {0}

pub refused_not_answer : {A : Type 0} {n : No} {a : A} → refused n ≡ answer a → ⊥
refused_not_answer e = subst IsAnswer (sym e) tt

-- ---- tests
-- every test of the list holds
abbrev pub Passes : {N : Type 0} → List (N × Bool) → Type 0
Passes [] = Unit {0}
Passes (t ∷ ts) = (t.1 ≡ true) × Passes ts

pub passes_append : {N : Type 0} (ts us : List (N × Bool)) → Passes ts → Passes us → Passes (ts ++ us)
passes_append [] us p q = q
passes_append (t ∷ ts) us p q = (p.0, passes_append ts us p.1 q)

pub passes_left : {N : Type 0} (ts us : List (N × Bool)) → Passes (ts ++ us) → Passes ts
passes_left [] us p = tt
passes_left (t ∷ ts) us p = (p.0, passes_left ts us p.1)

pub passes_right : {N : Type 0} (ts us : List (N × Bool)) → Passes (ts ++ us) → Passes us
passes_right [] us p = p
passes_right (t ∷ ts) us p = passes_right ts us p.1

-- an answer comes where every test holds, and only there
pub answered : {A : Type 0} (ts : List Test) {a b : A} → unless ts a ≡ answer b → Passes ts × (a ≡ b)
answered [] e = (tt, answer_inj e)
answered {A = A} (t ∷ ts) {a} {b} e = go t.1 refl e (answered ts)
  where
    go : (c : Bool) → t.1 ≡ c → cond c (unless ts a) (refused t.0) ≡ answer b
        → (unless ts a ≡ answer b → Passes ts × (a ≡ b)) → Passes (t ∷ ts) × (a ≡ b)
    go true h e' ih = let r = ih e' in ((h, r.0), r.1)
    go false h e' ih = absurd (refused_not_answer e')

pub answers : {A : Type 0} (ts : List Test) (a : A) → Passes ts → unless ts a ≡ answer a
answers [] a p = refl
answers (t ∷ ts) a p = rw p.0 (answers ts a p.1)

-- tests that hold may be left out in front
pub unless_append : {A : Type 0} (ts us : List Test) (a : A) → Passes ts → unless (ts ++ us) a ≡ unless us a
unless_append [] us a p = refl
unless_append (t ∷ ts) us a p = rw p.0 (unless_append ts us a p.1)

-- a refusal stays whatever tests come behind, and whatever the answer would have been
pub refused_append : {A B : Type 0} (ts us : List Test) (a : A) (b : B) {n : No} → unless ts a ≡ refused n → unless (ts ++ us) b ≡ refused n
refused_append [] us a b e = absurd (refused_not_answer (sym e))
refused_append {A} {B} (t ∷ ts) us a b {n} e = go t.1 e (refused_append ts us a b)
  where
    go : (c : Bool) → cond c (unless ts a) (refused t.0) ≡ refused n → (unless ts a ≡ refused n → unless (ts ++ us) b ≡ refused n)
        → cond c (unless (ts ++ us) b) (refused t.0) ≡ refused n
    go true e' ih = ih e'
    go false e' ih = ap refused (refused_inj e')

-- this holds of what each test of the list would say; then it holds of what a refusal says
abbrev pub EachSays : (No → Type 0) → List Test → Type 0
EachSays P [] = Unit {0}
EachSays P (t ∷ ts) = P t.0 × EachSays P ts

pub says_append : (P : No → Type 0) (ts us : List Test) → EachSays P ts → EachSays P us → EachSays P (ts ++ us)
says_append P [] us h g = g
says_append P (t ∷ ts) us h g = (h.0, says_append P ts us h.1 g)

pub says_refused : {A : Type 0} (P : No → Type 0) (ts : List Test) (a : A) {w : No} → EachSays P ts → unless ts a ≡ refused w → P w
says_refused P [] a h e = absurd (refused_not_answer (sym e))
says_refused P (t ∷ ts) a {w} h e = go t.1 e (says_refused P ts a h.1)
  where
    go : (c : Bool) → cond c (unless ts a) (refused t.0) ≡ refused w → (unless ts a ≡ refused w → P w) → P w
    go true e' later = later e'
    go false e' later = subst P (refused_inj e') h.0

-- ---- tests against causes: each test fails exactly where its cause applies, and a number without a test has a cause that never does
pub data Fits (Applies : ℕ → Type 0) : List Test → List ℕ → Type 0 where
  ends : Fits Applies [] []
  skips : {m : ℕ} {ms : List ℕ} {ts : List Test} → (Applies m → ⊥) → Fits Applies ts ms → Fits Applies ts (m ∷ ms)
  tests : {m : ℕ} {c : Bool} {ms : List ℕ} {ts : List Test} → (c ≡ false → Applies m) → (Applies m → c ≡ false)
      → Fits Applies ts ms → Fits Applies ((no m, c) ∷ ts) (m ∷ ms)

module _ {A : Type 0} {Applies : ℕ → Type 0} (a : A) (n : ℕ) where
  -- the number given is the first whose cause applies
  pub first_given : {ts : List Test} {ms : List ℕ} → Fits Applies ts ms → unless ts a ≡ refused (no n) → FirstOf ms Applies n
  first_given ends e = absurd (refused_not_answer (sym e))
  first_given (skips f r) e = inr (f, first_given r e)
  first_given (tests {m} {c} {ms} {ts} f g r) e = go c refl e (first_given r)
    where
      go : (d : Bool) → c ≡ d → cond d (unless ts a) (refused (no m)) ≡ refused (no n) → (unless ts a ≡ refused (no n) → FirstOf ms Applies n)
          → (Applies m × (n ≡ m)) ⊎ ((Applies m → ⊥) × FirstOf ms Applies n)
      go true h e' ih = inr (λ x. true≢false (sym h ∙ g x), ih e')
      go false h e' ih = inl (f h, sym (ap number_in (refused_inj e')))

  pub gives_first : {ts : List Test} {ms : List ℕ} → Fits Applies ts ms → FirstOf ms Applies n → unless ts a ≡ refused (no n)
  gives_first ends w = absurd w
  gives_first (skips f r) (inl w) = absurd (f w.0)
  gives_first (skips f r) (inr w) = gives_first r w.1
  gives_first (tests f g r) (inl w) = rw (g w.0) (ap (λ k. refused (no k)) (sym w.1))
  gives_first (tests {m} {c} {ms} {ts} f g r) (inr w) = go c refl (gives_first r w.1)
    where
      go : (d : Bool) → c ≡ d → unless ts a ≡ refused (no n) → cond d (unless ts a) (refused (no m)) ≡ refused (no n)
      go true h ih = ih
      go false h ih = absurd (w.0 (f h))

module _ {A : Type 0} {Applies : ℕ → Type 0} (a : A) where
  -- no position is said
  none_at : {ts : List Test} {ms : List ℕ} {n p : ℕ} → Fits Applies ts ms → unless ts a ≡ refused (no_at n p) → ⊥
  none_at ends e = refused_not_answer (sym e)
  none_at (skips f r) e = none_at r e
  none_at {n = n} {p} (tests {m} {c} {ms} {ts} f g r) e = go c e (none_at r)
    where
      go : (d : Bool) → cond d (unless ts a) (refused (no m)) ≡ refused (no_at n p) → (unless ts a ≡ refused (no_at n p) → ⊥) → ⊥
      go true e' ih = ih e'
      go false e' ih = alone_not_at (refused_inj e')

  pub refused_first : {ts : List Test} {ms : List ℕ} → Fits Applies ts ms → (w : No) → (unless ts a ≡ refused w) ↔ Alone (FirstOf ms Applies) w
  refused_first r (no n) = (first_given a n r, gives_first a n r)
  refused_first r (no_at n p) = (none_at r, λ f. absurd f)

module _ {Applies : ℕ → Type 0} where
  -- every test holds exactly where no cause applies
  pub passes_none : {ts : List Test} {ms : List ℕ} → Fits Applies ts ms → Passes ts → NoneOf ms Applies
  passes_none ends p = tt
  passes_none (skips f r) p = (f, passes_none r p)
  passes_none (tests f g r) p = (λ x. true≢false (sym p.0 ∙ g x), passes_none r p.1)

  pub none_passes : {ts : List Test} {ms : List ℕ} → Fits Applies ts ms → NoneOf ms Applies → Passes ts
  none_passes ends w = tt
  none_passes (skips f r) w = none_passes r w.1
  none_passes (tests {m} {c} f g r) w = (go c refl, none_passes r w.1)
    where
      go : (d : Bool) → c ≡ d → c ≡ true
      go true h = h
      go false h = absurd (w.0 (f h))
