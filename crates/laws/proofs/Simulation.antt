-- Two kinds of sets that go hand in hand: if each operation keeps a relation, so does a whole build.
-- First what the operations have to keep, then steps over a list side by side, then a leaf, a branch, the tree and the answer.
use mathlib.Core.Bool.{Bool, ◌&&◌, ◌||◌, cond, false, false≢true, true, true≢false}
use mathlib.Core.List.Memᴰ
use mathlib.Core.List.{List, [], ◌∷◌}
use mathlib.Core.Path.{◌≡◌, ap₂, refl, subst}
use Prim.Native.Nat.{◌+◌, ◌<◌, ◌^◌, ◌≤◌, suc, ℕ}
use native.Mathlib.Omega.{arith}
use borrow.Author.Tests.{eq-eqb, eqb-true}
use lib.Bits.{bit_and}
use lib.Dec.{eqb}
use Rattle.paper.specs.Building.{Sets, Slots, Split, accept_step, all_places, answer_of, branch_step, can_stand, leaf_step, put, slots_of, splits}
use Rattle.paper.specs.Building.{together, triple, unite}
use Rattle.paper.specs.Lists.{◌∈◌, has, through, up_to}
use Rattle.paper.specs.Query.{Query, Rule, branch_rule, leaf_rule}
use Rattle.paper.specs.Tree.{Tree, branch, root}
use Rattle.laws.specs.Numbered.{Numbered, branch_numbered, leaf_numbered, rule_flag}
use Rattle.laws.proofs.Lists.{here}
use Rattle.laws.proofs.Runs.{numbered_below, root_numbered}
use Rattle.laws.proofs.Slots.{same_slot}
use Rattle.laws.proofs.Splits.{mem_splits}

-- ---- what the operations have to keep
-- what is made after s: what is handed on is later than s, and what is made stands for y, in the sense of P
abbrev pub Made : {S X Y : Type 0} → (S → S → Type 0) → (S → X → Y → Type 0) → S → S × X → Y → Type 0
Made Later P s made y = Later s made.0 × P made.0 made.1 y

-- A's sets stand for B's: `R b s e f` says that after s, the set e of flag b stands for f. What is later than s keeps all that stands.
-- A union is asked for only where its result is fine, `Ok`
pub record Simulation {S E F : Type 0} (A : Sets S E) (B : Sets (Unit {0}) F) (k N : ℕ)
    (R : ℕ → S → E → F → Type 0) (Later : S → S → Type 0) (Ok : F → Type 0) : Type 0 where
  pub later_refl : (s : S) → Later s s
  pub later_trans : (s s' s'' : S) → Later s s' → Later s' s'' → Later s s''
  pub later : (b : ℕ) (s s' : S) (e : E) (f : F) → Later s s' → R b s e f → R b s' e f
  pub nothing : (b : ℕ) (s : S) → R b s A.nothing B.nothing
  pub is_nothing : (b : ℕ) (s : S) (e : E) (f : F) → R b s e f → A.is_nothing e ≡ B.is_nothing f
  pub single : (n b : ℕ) (s : S) → n < N → b < 2 ^ k → Made Later (R b) s (A.single n b s) (B.single n b tt).1
  pub product : (n b c : ℕ) (s : S) (x y : E) (u v : F) → n < N → bit_and b c ≡ 0 → R b s x u → R c s y v
      → Made Later (R (b + c)) s (A.product n (b + c) x y s) (B.product n (b + c) u v tt).1
  pub union : (n b : ℕ) (s : S) (x y : E) (u v : F) → n < N → Ok (B.union n b u v tt).1 → R b s x u → R b s y v
      → Made Later (R b) s (A.union n b x y s) (B.union n b u v tt).1
  pub ok_left : (n b : ℕ) (u v : F) → Ok (B.union n b u v tt).1 → Ok u

module _ {S E F : Type 0} (A : Sets S E) (B : Sets (Unit {0}) F) (k N : ℕ)
    (R : ℕ → S → E → F → Type 0) (Later : S → S → Type 0) (Ok : F → Type 0) (M : Simulation A B k N R Later Ok) where
  -- ---- steps over a list, side by side
  -- `P s x y` says that after s, A's x stands for B's y. `Fits` is what a step asks of an element of the list, `Good` what it asks of
  -- B's result; where the last result is good, all before it are
  module _ {X Y Z : Type 0} (f : S × X → Z → S × X) (g : Unit {0} × Y → Z → Unit {0} × Y)
      (P : S → X → Y → Type 0) (Fits : Z → Type 0) (Good : Y → Type 0) (good-before : (z : Z) (y : Y) → Good (g (tt, y) z).1 → Good y)
      (step : (z : Z) → Fits z → (s : S) (x : X) (y : Y) → P s x y → Good (g (tt, y) z).1 → Made Later P s (f (s, x) z) (g (tt, y) z).1) where
    good_first : (zs : List Z) (y : Y) → Good (through g (tt, y) zs).1 → Good y
    good_first [] y good = good
    good_first (z ∷ zs) y good = good-before z y (good_first zs (g (tt, y) z).1 good)

    side_by_side : (zs : List Z) → ((z : Z) → z ∈ zs → Fits z) → (s : S) (x : X) (y : Y) → P s x y → Good (through g (tt, y) zs).1
        → Made Later P s (through f (s, x) zs) (through g (tt, y) zs).1
    side_by_side [] fits s x y h good = (M.later_refl s, h)
    side_by_side (z ∷ zs) fits s x y h good =
        let next = f (s, x) z in
        let one = step z (fits z here) s x y h (good_first zs (g (tt, y) z).1 good) in
        let rest = side_by_side zs (λ u m. fits u (Memᴰ.tail m)) next.0 next.1 (g (tt, y) z).1 one.1 good in
        (M.later_trans s next.0 (through f next zs).0 one.0 rest.0, rest.1)

  -- ---- slots
  -- all slots stand for all slots
  abbrev Stand : S → Slots E → Slots F → Type 0
  Stand s f g = (q b : ℕ) → R b s (f q b) (g q b)

  stand_later : (s s' : S) (f : Slots E) (g : Slots F) → Later s s' → Stand s f g → Stand s' f g
  stand_later s s' f g l h q b = M.later b s s' (f q b) (g q b) l (h q b)

  stand_put : (s : S) (f : Slots E) (g : Slots F) (q' b' : ℕ) (e : E) (w : F) → Stand s f g → R b' s e w
      → Stand s (put f q' b' e) (put g q' b' w)
  stand_put s f g q' b' e w h new q b = go (eqb q' q && eqb b' b) refl
    where
      go : (c : Bool) → eqb q' q && eqb b' b ≡ c → R b s (cond c e (f q b)) (cond c w (g q b))
      go true t = subst (λ (z : ℕ). R z s e w) (same_slot q' b' q b t).1 new
      go false t = h q b

  -- ---- a leaf: one rule, and all
  leaf_step_lem : (a n : ℕ) → n < N → (r : Rule) → rule_flag r < 2 ^ k → (s : S) (f : Slots E) (g : Slots F) → Stand s f g
      → Made Later Stand s (leaf_step A a n (s, f) r) (leaf_step B a n (tt, g) r).1
  leaf_step_lem a n node (branch_rule a' b p q t) small s f g h = (M.later_refl s, h)
  leaf_step_lem a n node (leaf_rule a' b q) small s f g h = go (eqb a a' && can_stand a b)
    where
      x : S × E
      x = A.single n b s

      y : F
      y = (B.single n b tt).1

      go : (c : Bool) → Made Later Stand s (cond c (x.0, put f q b x.1) (s, f)) (cond {A = Unit {0} × Slots F} c (tt, put g q b y) (tt, g)).1
      go true =
          let z = M.single n b s node small in
          (z.0, stand_put x.0 f g q b x.1 y (stand_later s x.0 f g z.0 h) z.1)
      go false = (M.later_refl s, h)

  leaf_made : (a n : ℕ) → n < N → (rules : List Rule) → ((r : Rule) → r ∈ rules → rule_flag r < 2 ^ k)
      → (s : S) (f : Slots E) (g : Slots F) → Stand s f g
      → Made Later Stand s (through (leaf_step A a n) (s, f) rules) (through (leaf_step B a n) (tt, g) rules).1
  leaf_made a n node rules small s f g h =
      side_by_side (leaf_step A a n) (leaf_step B a n) Stand (λ r. rule_flag r < 2 ^ k) (λ g'. Unit {0}) (λ r g' good. tt)
      (λ r fits s' f' g' h' good. leaf_step_lem a n node r fits s' f' g' h') rules small s f g h tt

  -- ---- a branch: the triple of a split, one split, and all
  -- the flags of the split are in range and share no bit
  abbrev SplitFits : Split → Type 0
  SplitFits x = (x.own < 2 ^ k) × (bit_and x.own x.left_flag ≡ 0) × (bit_and (x.own + x.left_flag) x.right_flag ≡ 0)

  triple_made : (n : ℕ) → n < N → (x : Split) → SplitFits x → (s : S) (l r : E) (l' r' : F)
      → R x.left_flag s l l' → R x.right_flag s r r' → Made Later (R (together x)) s (triple A n x l r s) (triple B n x l' r' tt).1
  triple_made n node x (small, inner, outer) s l r l' r' hl hr =
      let c = x.own + x.left_flag in
      -- the single
      let x₁ = A.single n x.own s in
      let y₁ = (B.single n x.own tt).1 in
      let m₁ = M.single n x.own s node small in
      -- times left
      let x₂ = A.product n c x₁.1 l x₁.0 in
      let y₂ = (B.product n c y₁ l' tt).1 in
      let l₁ = M.later x.left_flag s x₁.0 l l' m₁.0 hl in
      let m₂ = M.product n x.own x.left_flag x₁.0 x₁.1 l y₁ l' node inner m₁.1 l₁ in
      let later₂ = M.later_trans s x₁.0 x₂.0 m₁.0 m₂.0 in
      -- times right
      let x₃ = A.product n (together x) x₂.1 r x₂.0 in
      let r₂ = M.later x.right_flag s x₂.0 r r' later₂ hr in
      let m₃ = M.product n c x.right_flag x₂.0 x₂.1 r y₂ r' node outer m₂.1 r₂ in
      (M.later_trans s x₂.0 x₃.0 later₂ m₃.0, m₃.1)

  module _ (n : ℕ) (node : n < N) (lefts rights : Slots E) (lefts' rights' : Slots F) where
    -- the children's slots stand, and the branch's so far
    abbrev AllStand : S → Slots E → Slots F → Type 0
    AllStand s f g = Stand s lefts lefts' × Stand s rights rights' × Stand s f g

    abbrev AllOk : Slots F → Type 0
    AllOk g = (q b : ℕ) → Ok (g q b)

    module _ (x : Split) where
      abbrev left : E
      left = lefts x.left x.left_flag

      abbrev right : E
      right = rights x.right x.right_flag

      abbrev left' : F
      left' = lefts' x.left x.left_flag

      abbrev right' : F
      right' = rights' x.right x.right_flag

      abbrev made' : F
      made' = (triple B n x left' right' tt).1

      -- B's slots after the split, if it is skipped or not
      abbrev after' : Bool → Slots F → Slots F
      after' skipped g = (cond {A = Unit {0} × Slots F} skipped (tt, g) (unite B n x.state (together x) g (tt, made'))).1

      -- what a step leaves in a slot is fine only if what was there before is
      ok_before : (g : Slots F) → AllOk (branch_step B n lefts' rights' (tt, g) x).1 → AllOk g
      ok_before g ok q b = by_skip (B.is_nothing left' || B.is_nothing right') (ok q b)
        where
          old : F
          old = g x.state (together x)

          by_slot : (c : Bool) → eqb x.state q && eqb (together x) b ≡ c
              → Ok (cond c (B.union n (together x) old made' tt).1 (g q b)) → Ok (g q b)
          by_slot true e o =
              let (state, flag) = same_slot x.state (together x) q b e in
              subst Ok (ap₂ g state flag) (M.ok_left n (together x) old made' o)
          by_slot false e o = o

          by_skip : (c : Bool) → Ok (after' c g q b) → Ok (g q b)
          by_skip true o = o
          by_skip false o = by_slot (eqb x.state q && eqb (together x) b) refl o

      -- both skip the split or neither does; then the triple is united with the slot
      branch_step_lem : SplitFits x → (s : S) (f : Slots E) (g : Slots F) → AllStand s f g → AllOk (branch_step B n lefts' rights' (tt, g) x).1
          → Made Later Stand s (branch_step A n lefts rights (s, f) x) (branch_step B n lefts' rights' (tt, g) x).1
      branch_step_lem fits s f g (hl, hr, h) =
          go (A.is_nothing left || A.is_nothing right) (B.is_nothing left' || B.is_nothing right')
          (ap₂ ◌||◌ (M.is_nothing x.left_flag s left left' (hl x.left x.left_flag))
          (M.is_nothing x.right_flag s right right' (hr x.right x.right_flag)))
        where
          q : ℕ
          q = x.state

          b : ℕ
          b = together x

          made : S × E
          made = triple A n x left right s

          new : S × E
          new = A.union n b (f q b) made.1 made.0

          new' : F
          new' = (B.union n b (g q b) made' tt).1

          go : (c d : Bool) → c ≡ d → AllOk (after' d g) → Made Later Stand s (cond c (s, f) (unite A n q b f made)) (after' d g)
          go true true e ok = (M.later_refl s, h)
          go true false e ok = absurd (true≢false e)
          go false true e ok = absurd (false≢true e)
          go false false e ok =
              let t = triple_made n node x fits s left right left' right' (hl x.left x.left_flag) (hr x.right x.right_flag) in
              let fine : Ok new' = rw (eq-eqb q q refl, eq-eqb b b refl) at (ok q b) in
              let old = M.later b s made.0 (f q b) (g q b) t.0 (h q b) in
              let u = M.union n b made.0 (f q b) made.1 (g q b) made' node fine old t.1 in
              let l = M.later_trans s made.0 new.0 t.0 u.0 in
              (l, stand_put new.0 f g q b new.1 new' (stand_later s new.0 f g l h) u.1)

      -- and the children's slots go on to stand
      all_step : SplitFits x → (s : S) (f : Slots E) (g : Slots F) → AllStand s f g → AllOk (branch_step B n lefts' rights' (tt, g) x).1
          → Made Later AllStand s (branch_step A n lefts rights (s, f) x) (branch_step B n lefts' rights' (tt, g) x).1
      all_step fits s f g h ok =
          let next = branch_step A n lefts rights (s, f) x in
          let z = branch_step_lem fits s f g h ok in
          (z.0, (stand_later s next.0 lefts lefts' z.0 h.0, stand_later s next.0 rights rights' z.0 h.1, z.1))

    branch_made : (xs : List Split) → ((x : Split) → x ∈ xs → SplitFits x) → (s : S) (f : Slots E) (g : Slots F) → AllStand s f g
        → AllOk (through (branch_step B n lefts' rights') (tt, g) xs).1
        → Made Later Stand s (through (branch_step A n lefts rights) (s, f) xs) (through (branch_step B n lefts' rights') (tt, g) xs).1
    branch_made xs fits s f g h ok =
        let z =
        side_by_side (branch_step A n lefts rights) (branch_step B n lefts' rights') AllStand SplitFits AllOk ok_before all_step xs fits s f g h ok in
        (z.0, z.1.2)

  -- ---- a tree
  module _ (rules : List Rule) (small : (r : Rule) → r ∈ rules → rule_flag r < 2 ^ k)
      (fine : (lo : ℕ) (t : Tree) (hi : ℕ) → Numbered lo t hi → hi ≤ N → (q b : ℕ) → Ok ((slots_of B k rules t tt).1 q b)) where
    split_fits : (a : ℕ) (x : Split) → x ∈ splits k rules a → SplitFits x
    split_fits a x m =
        let i = mem_splits k rules a x m in (
          small (branch_rule a x.own x.left x.right x.state) i.rule,
          eqb-true (bit_and x.own x.left_flag) 0 i.inner,
          eqb-true (bit_and (x.own + x.left_flag) x.right_flag) 0 i.outer,
        )

    -- the slots of A's build stand for those of B's
    slots_made : {lo : ℕ} {t : Tree} {hi : ℕ} → Numbered lo t hi → hi ≤ N → (s : S)
        → Made Later Stand s (slots_of A k rules t s) (slots_of B k rules t tt).1
    slots_made (leaf_numbered {a} {n}) h s = leaf_made a n h rules small s (λ q b. A.nothing) (λ q b. B.nothing) (λ q b. M.nothing b s)
    slots_made (branch_numbered {a} {n} {lo} {m} {l} {r} nl nr) h s =
        let x₁ = slots_of A k rules l s in
        let y₁ = (slots_of B k rules l tt).1 in
        let m₁ = slots_made nl (omega (arith, numbered_below nr)) s in
        let x₂ = slots_of A k rules r x₁.0 in
        let y₂ = (slots_of B k rules r tt).1 in
        let m₂ = slots_made nr (omega arith) x₁.0 in
        let x₃ = slots_of A k rules (branch a n l r) s in
        let m₃ =
        branch_made n h x₁.1 x₂.1 y₁ y₂ (splits k rules a) (split_fits a) x₂.0 (λ q b. A.nothing) (λ q b. B.nothing)
        (stand_later x₁.0 x₂.0 x₁.1 y₁ m₂.0 m₁.1, m₂.1, λ q b. M.nothing b x₂.0)
        (fine lo (branch a n l r) (suc n) (branch_numbered nl nr) h) in
        (M.later_trans s x₂.0 x₃.0 (M.later_trans s x₁.0 x₂.0 m₁.0 m₂.0) m₃.0, m₃.1)

  -- ---- the end: the union of the root's slots
  module _ (Q : Query) (n : ℕ) (node : n < N) (slots : Slots E) (slots' : Slots F) where
    abbrev full : ℕ
    full = all_places Q.arity

    -- the root's slots stand, and the answer so far
    abbrev AnswerStands : S → E → F → Type 0
    AnswerStands s e f = Stand s slots slots' × R full s e f

    -- the answers so far after one more state, if it is accepting or not
    abbrev next : Bool → ℕ → S → E → S × E
    next accepting q s e = cond accepting (A.union n full e (slots q full) s) (s, e)

    abbrev next' : Bool → ℕ → F → F
    next' accepting q f = (cond {A = Unit {0} × F} accepting (B.union n full f (slots' q full) tt) (tt, f)).1

    accept_ok : (q : ℕ) (f : F) → Ok (accept_step B Q n slots' (tt, f) q).1 → Ok f
    accept_ok q f = go (has Q.accepting q)
      where
        go : (c : Bool) → Ok (next' c q f) → Ok f
        go true ok = M.ok_left n full f (slots' q full) ok
        go false ok = ok

    accept_step_lem : (q : ℕ) (s : S) (e : E) (f : F) → AnswerStands s e f → Ok (accept_step B Q n slots' (tt, f) q).1
        → Made Later AnswerStands s (accept_step A Q n slots (s, e) q) (accept_step B Q n slots' (tt, f) q).1
    accept_step_lem q s e f (stand, h) = go (has Q.accepting q)
      where
        go : (c : Bool) → Ok (next' c q f) → Made Later AnswerStands s (next c q s e) (next' c q f)
        go true ok =
            let u = M.union n full s e (slots q full) f (slots' q full) node ok h (stand q full) in
            (u.0, (stand_later s (A.union n full e (slots q full) s).0 slots slots' u.0 stand, u.1))
        go false ok = (M.later_refl s, (stand, h))

    end_made : (qs : List ℕ) (s : S) → Stand s slots slots' → Ok (through (accept_step B Q n slots') (tt, B.nothing) qs).1
        → Made Later (R full) s (through (accept_step A Q n slots) (s, A.nothing) qs) (through (accept_step B Q n slots') (tt, B.nothing) qs).1
    end_made qs s stand ok =
        let z =
        side_by_side (accept_step A Q n slots) (accept_step B Q n slots') AnswerStands (λ q. Unit {0}) Ok accept_ok
        (λ q fits. accept_step_lem q) qs (λ q m. tt) s A.nothing B.nothing (stand, M.nothing full s) ok in
        (z.0, z.1.1)

-- ---- the answer
module _ {S E F : Type 0} (A : Sets S E) (B : Sets (Unit {0}) F) (Q : Query) (N : ℕ)
    (R : ℕ → S → E → F → Type 0) (Later : S → S → Type 0) (Ok : F → Type 0) (M : Simulation A B Q.arity N R Later Ok)
    (small : (r : Rule) → r ∈ Q.rules → rule_flag r < 2 ^ Q.arity)
    (fine : (lo : ℕ) (t : Tree) (hi : ℕ) → Numbered lo t hi → hi ≤ N → (q b : ℕ) → Ok ((slots_of B Q.arity Q.rules t tt).1 q b)) where
  -- the answer of A's build stands for that of B's
  pub answer_made : (t : Tree) → Numbered 0 t N → Ok (answer_of B Q t tt).1 → (s : S)
      → Made Later (R (all_places Q.arity)) s (answer_of A Q t s) (answer_of B Q t tt).1
  answer_made t numbered ok s =
      let x = slots_of A Q.arity Q.rules t s in
      let y = (slots_of B Q.arity Q.rules t tt).1 in
      let slots = slots_made A B Q.arity N R Later Ok M Q.rules small fine numbered (omega arith) s in
      let end =
      end_made A B Q.arity N R Later Ok M Q (root t) (omega (arith, root_numbered numbered)) x.1 y (up_to Q.states) x.0 slots.1 ok in
      (M.later_trans s x.0 (answer_of A Q t s).0 slots.0 end.0, end.1)
