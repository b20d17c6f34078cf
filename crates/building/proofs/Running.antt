-- The splits of a rule done in the numbers: the flags of a loop that has come so far, shelves of work, and then the runs: no split, one,
-- one that is skipped, and one list of flags after the other. The idea: the rule writes its own shelf alone, so that the children's shelves,
-- which stand before it, are the same for every split. B and W are the batch and the work, a prime is afterwards.
use mathlib.Core.Bool.{Bool, ◌&&◌, ◌||◌, cond, false, true}
use mathlib.Core.List.{List, [], ◌∷◌, ◌++◌, append_assoc, append-nil}
use mathlib.Core.Path.{◌∙◌, ◌≡◌, ap, refl, subst, sym}
use Prim.Native.Nat.{◌+◌, ◌-◌, ◌<◌, ◌%◌, ◌≤◌, suc, zero, ℕ}
use native.Mathlib.Numerals.{add-one}
use native.Mathlib.Omega.{arith}
use borrow.Author.Tests.{eq-eqb, eqb-false, eqb-true, ne_eqb}
use lib.Bits.{bit_and}
use lib.Dec.{eqb}
use lib.ListN.{length, length-append}
use Rattle.paper.specs.Building.{Slots, branch_step, is_empty, put, record_sets, triple, unite}
use Rattle.paper.specs.Lists.{each, through, up_to}
use Rattle.paper.specs.Sound.{apart}
use Rattle.laws.proofs.Lists.{each_none, or_right, through_up_to}
use Rattle.building.specs.Batch.{Record, Set, empty, records_in, set_in}
use Rattle.building.specs.Bounds.{slot_sets}
use Rattle.building.specs.Rules.{Branch, Low, OneShelf, OneSlot, Runs, Shelf, Stands, Unites, flags_at, pair_at, split_at, splits_run}
use Rattle.building.specs.Slots.{Marked, shelf_at, slot_at}
use Rattle.building.proofs.Slots.{marked_put, marked_same}

-- ---- lists for each number of a loop
module _ {A B : Type 0} (f : A → List B) where
  each_fold : (xs : List A) (ys : List B) → through (λ zs x. zs ++ f x) ys xs ≡ ys ++ each xs f
  each_fold [] ys = sym (append-nil ys)
  each_fold (x ∷ xs) ys = each_fold xs (ys ++ f x) ∙ append_assoc ys (f x) (each xs f)

module _ {B : Type 0} (f : ℕ → List B) where
  -- one more
  pub each_up_to : (n : ℕ) → each (up_to (n + 1)) f ≡ each (up_to n) f ++ f n
  each_up_to n =
      ap (λ m. each (up_to m) f) (add-one n)
      ∙ sym (each_fold f (up_to (suc n)) [])
      ∙ through_up_to (λ zs x. zs ++ f x) [] n
      ∙ ap {B = List B} (λ zs. zs ++ f n) (each_fold f (up_to n) [])

  longer : (m d : ℕ) → length (each (up_to m) f) ≤ length (each (up_to (m + d)) f)
  longer m zero = omega (arith, ap (λ n. length (each (up_to n) f)) (let e : m + 0 ≡ m = omega arith in e))
  longer m (suc d) =
      omega (
        arith,
        longer m d,
        ap (λ n. length (each (up_to n) f)) (let e : m + suc d ≡ (m + d) + 1 = omega arith in e),
        ap length (each_up_to (m + d)),
        length-append (each (up_to (m + d)) f) (f (m + d)),
      )

  -- as many or more where the loop has come further
  pub each_le : (m n : ℕ) → m ≤ n → length (each (up_to m) f) ≤ length (each (up_to n) f)
  each_le m n h = omega (arith, longer m (n - m), ap (λ i. length (each (up_to i) f)) (let e : m + (n - m) ≡ n = omega arith in e))

-- ---- the flags beside an own flag, with one more right flag n
module _ (own b₁ n : ℕ) where
  pub flags_apart : bit_and own b₁ ≡ 0 → bit_and (own + b₁) n ≡ 0 → flags_at own (n + 1) b₁ ≡ flags_at own n b₁ ++ ((b₁, n) ∷ [])
  flags_apart e f = each_up_to (pair_at own b₁) n ∙ rw (eq-eqb (bit_and own b₁) 0 e, eq-eqb (bit_and (own + b₁) n) 0 f)

  pub flags_shared : (bit_and (own + b₁) n ≡ 0 → ⊥) → flags_at own (n + 1) b₁ ≡ flags_at own n b₁
  flags_shared f = each_up_to (pair_at own b₁) n ∙ go (apart own b₁) ∙ append-nil (flags_at own n b₁)
    where
      go : (c : Bool) → flags_at own n b₁ ++ cond (c && apart (own + b₁) n) ((b₁, n) ∷ []) [] ≡ flags_at own n b₁ ++ []
      go true = rw (ne_eqb (bit_and (own + b₁) n) 0 f)
      go false = refl

  -- none where the left flag shares a bit
  pub flags_none : (bit_and own b₁ ≡ 0 → ⊥) → flags_at own n b₁ ≡ []
  flags_none f =
      ap (λ c. each (up_to n) (λ b₂. cond (c && apart (own + b₁) b₂) ((b₁, b₂) ∷ []) [])) (ne_eqb (bit_and own b₁) 0 f) ∙ each_none (up_to n)

-- ---- shelves of work
-- a shelf before the one that is written stays
module _ {to size used most k : ℕ} {W : List ℕ} {count : ℕ} {W' : List ℕ} (o : OneShelf to size used most k W count W') (from : ℕ)
    (before : from + size ≤ to) where
  pub same_set : (b : ℕ) → b < size → slot_at W' (from + b) ≡ slot_at W (from + b)
  same_set b l = ap (λ x. x % slot_sets) (o.below (from + b) (omega arith))

  pub shelf_stays : (slots : Slots Set) (q : ℕ) → Shelf slots q size W from → Shelf slots q size W' from
  shelf_stays slots q r b l = r b l ∙ ap set_in (sym (same_set b l))

  pub low_stays : Low (used + k + 1) size W from → Low (used + count + 1) size W' from
  low_stays r b l = omega (arith, r b l, same_set b l, o.more)

  pub marked_stays : 0 < size → Marked size W from → Marked size W' from
  marked_stays some = marked_same size W W' from from some (λ b l. o.below (from + b) (omega arith))

-- ---- one slot of a shelf
module _ {to flag most used k : ℕ} {W : List ℕ} {count : ℕ} {W' : List ℕ} (o : OneSlot to flag most used k W count W') where
  other_stays : (b : ℕ) → eqb flag b ≡ false → slot_at W' (to + b) ≡ slot_at W (to + b)
  other_stays b e = o.puts.others (to + b) (λ w. eqb-false flag b e (omega arith))

  -- a set put into its slot stands in the shelf
  pub shelf_put : (size t : ℕ) (slots : Slots Set) → Shelf slots t size W to → Shelf (put slots t flag (shelf_at W' to flag)) t size W' to
  shelf_put size t slots r b l = rw (eq-eqb t t refl) (go (eqb flag b) refl)
    where
      go : (c : Bool) → eqb flag b ≡ c → cond c (shelf_at W' to flag) (slots t b) ≡ shelf_at W' to b
      go true e = ap (shelf_at W' to) (eqb-true flag b e)
      go false e = r b l ∙ ap set_in (sym (other_stays b e))

  pub slot_shelf : (size : ℕ) → flag < size → Low (used + k + 1) size W to → OneShelf to size used most k W count W'
  slot_shelf size h low = record {
    more = o.more;
    few = o.few;
    below = λ i l. o.puts.apart i (λ e. omega arith) (λ e. omega arith);
    above = λ i l. o.puts.apart i (λ e. omega arith) (λ e. omega arith);
    low = λ b l. go b l (eqb flag b) refl;
    marked = marked_put size to flag o.set W W' h o.puts;
  }
    where
      go : (b : ℕ) → b < size → (c : Bool) → eqb flag b ≡ c → slot_at W' (to + b) ≤ used + count + 1
      go b l true e = omega (arith, o.at_hand, o.puts.there, ap (λ n. slot_at W' (to + n)) (eqb-true flag b e))
      go b l false e = omega (arith, o.more, low b l, other_stays b e)

-- ---- the splits of the paper
full : (n : ℕ) → (n ≡ 0 → ⊥) → is_empty (set_in n) ≡ false
full zero h = absurd (h refl)
full (suc zero) h = refl
full (suc (suc n)) h = refl

module _ (rule : Branch) (p q t : ℕ) (lefts rights : Slots Set) where
  abbrev step : List Record × Slots Set → ℕ × ℕ → List Record × Slots Set
  step z w = branch_step record_sets rule.node lefts rights z (split_at rule.own p q t w)

  run_append : (xs ys : List (ℕ × ℕ)) (z : List Record × Slots Set)
      → splits_run rule p q t lefts rights (xs ++ ys) z ≡ splits_run rule p q t lefts rights ys (splits_run rule p q t lefts rights xs z)
  run_append [] ys z = refl
  run_append (x ∷ xs) ys z = run_append xs ys (step z x)

  -- a split with an empty slot is skipped
  skip_left : (w : ℕ × ℕ) (z : List Record × Slots Set) → lefts p w.0 ≡ empty → step z w ≡ z
  skip_left w z e = rw e

  skip_right : (w : ℕ × ℕ) (z : List Record × Slots Set) → rights q w.1 ≡ empty → step z w ≡ z
  skip_right w z e = rw (e, or_right (is_empty (lefts p w.0)) true refl)

  skip_all : (b₁ : ℕ) (xs : List ℕ) (z : List Record × Slots Set) → lefts p b₁ ≡ empty
      → splits_run rule p q t lefts rights (each xs (pair_at rule.own b₁)) z ≡ z
  skip_all b₁ [] z e = refl
  skip_all b₁ (x ∷ xs) z e = go (apart rule.own b₁ && apart (rule.own + b₁) x) (λ y. skip_all b₁ xs y e)
    where
      go : (c : Bool) → ((y : List Record × Slots Set) → splits_run rule p q t lefts rights (each xs (pair_at rule.own b₁)) y ≡ y)
          → splits_run rule p q t lefts rights (cond c ((b₁, x) ∷ []) [] ++ each xs (pair_at rule.own b₁)) z ≡ z
      go true rest = rest (step z (b₁, x)) ∙ skip_left (b₁, x) z e
      go false rest = rest z

  -- the slots of another state stay
  step_others : (s b : ℕ) → (s ≡ t → ⊥) → (z : List Record × Slots Set) (w : ℕ × ℕ) → (step z w).1 s b ≡ z.1 s b
  step_others s b h z w = go (is_empty (lefts p w.0) || is_empty (rights q w.1))
    where
      whole : List Record × Slots Set
      whole =
          unite record_sets rule.node t (rule.own + w.0 + w.1) z.1
          (triple record_sets rule.node (split_at rule.own p q t w) (lefts p w.0) (rights q w.1) z.0)

      go : (c : Bool) → (cond {A = List Record × Slots Set} c z whole).1 s b ≡ z.1 s b
      go true = refl
      go false = rw (ne_eqb t s (λ e. h (sym e)))

  pub run_others : (s b : ℕ) → (s ≡ t → ⊥) → (ws : List (ℕ × ℕ)) (z : List Record × Slots Set)
      → (splits_run rule p q t lefts rights ws z).1 s b ≡ z.1 s b
  run_others s b h [] z = refl
  run_others s b h (w ∷ ws) z = run_others s b h ws (step z w) ∙ step_others s b h z w

-- ---- runs
module _ {rule : Branch} where
  -- where nothing is done
  idle : (flags : List (ℕ × ℕ)) (k : ℕ) (B W : List ℕ) → Low (rule.used + k + 1) rule.size W rule.to
      → ((p q t : ℕ) (lefts rights : Slots Set) (z : List Record × Slots Set) → Shelf lefts p rule.size W rule.left
      → Shelf rights q rule.size W rule.right → splits_run rule p q t lefts rights flags z ≡ z)
      → Runs flags rule k B W k B W
  idle flags k B W low same =
      record {
        runs = λ base p q t lefts rights z e rl rr st. subst (λ y. Stands base t rule y k B W) (sym (same p q t lefts rights z rl rr)) st;
        shelf = record { more = omega arith; few = omega arith; below = λ i l. refl; above = λ i l. refl; low = low; marked = λ m. m };
      }

  -- flags after flags
  pub then_run : (xs ys : List (ℕ × ℕ)) {k : ℕ} {B W : List ℕ} {c : ℕ} {B₁ W₁ : List ℕ} {c' : ℕ} {B₂ W₂ : List ℕ}
      → rule.left + rule.size ≤ rule.to → rule.right + rule.size ≤ rule.to
      → Runs xs rule k B W c B₁ W₁ → Runs ys rule c B₁ W₁ c' B₂ W₂ → Runs (xs ++ ys) rule k B W c' B₂ W₂
  then_run xs ys {k} {B} {W} {c} {B₁} {W₁} {c'} {B₂} {W₂} hl hr m n =
      record {
        runs = λ base p q t lefts rights z e rl rr st.
            subst (λ y. Stands base t rule y c' B₂ W₂) (sym (run_append rule p q t lefts rights xs ys z))
            (n.runs base p q t lefts rights (splits_run rule p q t lefts rights xs z) e
            (shelf_stays m.shelf rule.left hl lefts p rl) (shelf_stays m.shelf rule.right hr rights q rr)
            (m.runs base p q t lefts rights z e rl rr st));
        shelf = record {
          more = omega (arith, m.shelf.more, n.shelf.more);
          few = omega (arith, m.shelf.few, n.shelf.few, length-append xs ys);
          below = λ i l. n.shelf.below i l ∙ m.shelf.below i l;
          above = λ i l. n.shelf.above i l ∙ m.shelf.above i l;
          low = n.shelf.low;
          marked = λ w. n.shelf.marked (m.shelf.marked w);
        };
      }

  module _ (k : ℕ) (B W : List ℕ) (low : Low (rule.used + k + 1) rule.size W rule.to) where
    pub none_run : Runs [] rule k B W k B W
    none_run = idle [] k B W low (λ p q t lefts rights z rl rr. refl)

    -- all splits with a left slot that is empty
    pub skipped_left : (b₁ n : ℕ) → b₁ < rule.size → slot_at W (rule.left + b₁) ≡ 0 → Runs (flags_at rule.own n b₁) rule k B W k B W
    skipped_left b₁ n h e =
        idle (flags_at rule.own n b₁) k B W low
        (λ p q t lefts rights z rl rr. skip_all rule p q t lefts rights b₁ (up_to n) z (rl b₁ h ∙ ap set_in e))

    -- a split with a right slot that is empty
    pub skipped_right : (b₁ b₂ : ℕ) → b₂ < rule.size → slot_at W (rule.right + b₂) ≡ 0 → Runs ((b₁, b₂) ∷ []) rule k B W k B W
    skipped_right b₁ b₂ h e =
        idle ((b₁, b₂) ∷ []) k B W low (λ p q t lefts rights z rl rr. skip_right rule p q t lefts rights (b₁, b₂) z (rr b₂ h ∙ ap set_in e))

    -- one split, with the numbers of its children's slots
    pub one_run : (b₁ b₂ l r c : ℕ) (B' W' : List ℕ) → b₁ < rule.size → b₂ < rule.size → rule.own + b₁ + b₂ < rule.size
        → slot_at W (rule.left + b₁) ≡ l → slot_at W (rule.right + b₂) ≡ r → (l ≡ 0 → ⊥) → (r ≡ 0 → ⊥)
        → Unites rule b₁ b₂ l r k B W c B' W' → Runs ((b₁, b₂) ∷ []) rule k B W c B' W'
    one_run b₁ b₂ l r c B' W' h₁ h₂ hf el er nl nr u =
        record { runs = runs; shelf = slot_shelf u.slot rule.size hf low }
      where
        runs : (base : List Record) (p q t : ℕ) (lefts rights : Slots Set) (z : List Record × Slots Set) → length base ≡ rule.used
            → Shelf lefts p rule.size W rule.left → Shelf rights q rule.size W rule.right → Stands base t rule z k B W
            → Stands base t rule (step rule p q t lefts rights z (b₁, b₂)) c B' W'
        runs base p q t lefts rights z e rl rr st =
            subst (λ y. Stands base t rule y c B' W') (sym (by_numbers ∙ united))
            (record { table = refl; shelf = shelf_put u.slot rule.size t z.1 st.shelf })
          where
            flag : ℕ
            flag = rule.own + b₁ + b₂

            branch : Set → Set → List Record → List Record × Slots Set
            branch x y s =
                cond {A = List Record × Slots Set} (is_empty x || is_empty y) z
                (unite record_sets rule.node t (rule.own + b₁ + b₂) z.1
                (triple record_sets rule.node (split_at rule.own 0 0 t (b₁, b₂)) x y s))

            by_numbers : branch (lefts p b₁) (rights q b₂) z.0 ≡ branch (set_in l) (set_in r) (base ++ records_in k B)
            by_numbers =
                ap (λ x. branch x (rights q b₂) z.0) (rl b₁ h₁ ∙ ap set_in el)
                ∙ ap (λ y. branch (set_in l) y z.0) (rr b₂ h₂ ∙ ap set_in er)
                ∙ ap (branch (set_in l) (set_in r)) st.table

            united : branch (set_in l) (set_in r) (base ++ records_in k B) ≡ (base ++ records_in c B', put z.1 t flag (shelf_at W' rule.to flag))
            united = rw (full l nl, full r nr) (u.unites base z.1 t e (st.shelf flag hf))
