-- The slots of a branch are right if its children's are. A row of a split is the single of the node merged with a row of each child;
-- what of it lies in the node, in the left and in the right subtree shows the three parts again, so a row comes from one split only.
-- In order: the three tests, a row made of three parts, a row taken apart, and the slots.
use mathlib.Core.Bool.{Bool, ◌&&◌, ◌||◌, false, true}
use mathlib.Core.List.Memᴰ
use mathlib.Core.List.{List, [], ◌∷◌, map}
use mathlib.Core.Logic.{⊎_elim}
use mathlib.Core.Option.{Option, some}
use mathlib.Core.Path.{◌∙◌, ◌≡◌, ap, ap₂, refl, sym}
use Prim.Native.Nat.{◌+◌, ◌<◌, ◌^◌, ◌≤◌, suc, ℕ}
use native.Mathlib.Omega.{arith}
use borrow.Author.Tests.{eq-eqb, eqb-false, eqb-true, ltb-false, ltb-true}
use lib.Bits.{bit_and}
use lib.Dec.{eqb, ltb}
use lib.ListN.{length}
use Rattle.paper.specs.Building.{Slots, Split, splits, together}
use Rattle.paper.specs.Lists.{Once, ◌∈◌, each}
use Rattle.paper.specs.Query.{Rule, branch_rule, side}
use Rattle.paper.specs.Row.{Row, blank, flag_of, mark, merge, products, run, single_row}
use Rattle.paper.specs.Tree.{Tree, branch, pads}
use Rattle.laws.specs.Numbered.{Numbered, rule_flag}
use Rattle.laws.proofs.Held.{Holds, PadsUnmarked, Right, in_within, slot_rows, within, within_true}
use Rattle.laws.proofs.Lists.{here, iff_eq, in_cond, in_each, mem_cond, mem_each, not_then_false, once_cond, once_each, once_one}
use Rattle.laws.proofs.Lists.{only, or_cases, or_left, or_right}
use Rattle.laws.proofs.Pads.{left_pad, pad_branch, pads_keep, right_pad}
use Rattle.laws.proofs.Rows.{Apart, Fitting, either, flag_of_apart, flag_of_cong, flag_of_either, flag_of_keep, flag_of_lt, flag_of_single}
use Rattle.laws.proofs.Rows.{is, is_blank, keep, keep_cong, keep_is, keep_keep, keep_merge, keep_single, length_keep, length_merge}
use Rattle.laws.proofs.Rows.{length_single, merge_both, merge_first, merge_second}
use Rattle.laws.proofs.Runs.{branch_parts, finds_rule, numbered_below, rule_found, run_keep, step_some}
use Rattle.laws.proofs.Slots.{branch_slots, gives, same_slot, split_rows}
use Rattle.laws.proofs.Splits.{IsSplit, in_products, in_splits, mem_products, mem_splits, once_products, once_splits, split_of}

-- the flag of a row is that of the part that passes the test
flag_part : (p : ℕ → Bool) → p blank ≡ false → (row part : Row) → keep p row ≡ part → flag_of p row ≡ flag_of p part
flag_part p p-blank row part e = sym (flag_of_keep p p p-blank (λ x h. h) row) ∙ ap (flag_of p) e

-- the run on a tree with a row is that with the part that lies in the tree
run_part : (rules : List Rule) {lo : ℕ} {t : Tree} {hi : ℕ} → Numbered lo t hi → within lo hi blank ≡ false
    → (row part : Row) → keep (within lo hi) row ≡ part → run rules row t ≡ run rules part t
run_part rules {lo} {t} {hi} numbered none row part e =
    sym (run_keep (within lo hi) none row rules numbered (in_within lo hi)) ∙ ap (λ (z : Row). run rules z t) e

-- and its pads stand in a row where they stand in that part
pads_part : {lo : ℕ} {t : Tree} {hi : ℕ} → Numbered lo t hi → within lo hi blank ≡ false
    → (row part : Row) → keep (within lo hi) row ≡ part → (n : ℕ) → n ∈ pads t → mark row n ≡ mark part n
pads_part {lo} {t} {hi} numbered none row part e n m =
    sym (pads_keep (within lo hi) none row numbered (in_within lo hi) n m) ∙ ap (λ (z : Row). mark z n) e

-- a product has no row twice if two tests show the rows that each merger is made of
once_kept : (p q : ℕ → Bool) (xs ys : List Row) → Once xs → Once ys
    → ((x y : Row) → x ∈ xs → y ∈ ys → (keep p (merge x y) ≡ x) × (keep q (merge x y) ≡ y)) → Once (products xs ys)
once_kept p q xs ys o o' shows =
    once_products xs ys o o'
    (λ x x' y y' m m' n n' e.
    let s = shows x y m n in
    let s' = shows x' y' m' n' in
    (sym s.0 ∙ ap (keep p) e ∙ s'.0, sym s.1 ∙ ap (keep q) e ∙ s'.1))

module _ (k : ℕ) (rules : List Rule) (deterministic : Once (map side rules)) (small : (r : Rule) → r ∈ rules → rule_flag r < 2 ^ k)
    (a n lo m : ℕ) (l r : Tree) (nl : Numbered lo l m) (nr : Numbered m r n) (below : n < blank) where
  -- ---- the tests for the node itself, for the left and for the right subtree
  abbrev is_node : ℕ → Bool
  is_node = is n

  abbrev in_left : ℕ → Bool
  in_left = within lo m

  abbrev in_right : ℕ → Bool
  in_right = within m n

  abbrev in_inner : ℕ → Bool
  in_inner = either is_node in_left

  abbrev in_branch : ℕ → Bool
  in_branch = within lo (suc n)

  left_some : lo < m
  left_some = numbered_below nl

  right_some : m < n
  right_some = numbered_below nr

  not_blank_lem : n ≡ blank → ⊥
  not_blank_lem e = omega arith

  -- the blank passes none of them
  node_blank : is_node blank ≡ false
  node_blank = is_blank n not_blank_lem

  left_blank : in_left blank ≡ false
  left_blank = not_then_false (in_left blank) (λ e. omega (arith, right_some, within_true lo m blank e))

  right_blank : in_right blank ≡ false
  right_blank = not_then_false (in_right blank) (λ e. omega (arith, within_true m n blank e))

  inner_blank : in_inner blank ≡ false
  inner_blank = rw (node_blank, left_blank)

  -- no number passes two of them
  inner_apart : Apart is_node in_left
  inner_apart x e f = omega (arith, right_some, eqb-true x n e, within_true lo m x f)

  outer_apart : Apart in_inner in_right
  outer_apart x e f =
      let g = within_true m n x f in
      ⊎_elim (λ h. omega (arith, eqb-true x n h)) (λ h. omega (arith, within_true lo m x h)) (or_cases (is_node x) (in_left x) e)

  -- the branch's test is the three together
  in_branch_lem : (x : ℕ) → in_branch x ≡ either in_inner in_right x
  in_branch_lem x = iff_eq (in_branch x) (either in_inner in_right x) parts whole
    where
      by_part : (c : Bool) → is_node x ≡ c → (d : Bool) → ltb x m ≡ d → (lo ≤ x) × (x < suc n) → c || in_left x || in_right x ≡ true
      by_part true e d f h = refl
      by_part false e true f h = or_left (in_left x) (in_right x) (in_within lo m x h.0 (ltb-true x m f))
      by_part false e false f h =
          let other : x ≡ n → ⊥ = eqb-false x n e in
          or_right (in_left x) (in_right x) (in_within m n x (ltb-false x m f) (omega arith))

      parts : in_branch x ≡ true → either in_inner in_right x ≡ true
      parts e = by_part (is_node x) refl (ltb x m) refl (within_true lo (suc n) x e)

      node : is_node x ≡ true → in_branch x ≡ true
      node e = let h : x ≡ n = eqb-true x n e in in_within lo (suc n) x (omega (arith, left_some, right_some)) (omega arith)

      left : in_left x ≡ true → in_branch x ≡ true
      left e = let h = within_true lo m x e in in_within lo (suc n) x h.0 (omega (arith, right_some))

      right : in_right x ≡ true → in_branch x ≡ true
      right e = let h = within_true m n x e in in_within lo (suc n) x (omega (arith, left_some)) (omega arith)

      whole : either in_inner in_right x ≡ true → in_branch x ≡ true
      whole e = ⊎_elim (λ t. ⊎_elim node left (or_cases (is_node x) (in_left x) t)) right (or_cases (in_inner x) (in_right x) e)

  -- so the flag of a row in the branch is the sum of its three flags, and the row in the branch is its three parts merged
  inner_flag : (row : Row) → flag_of in_inner row ≡ mark row n + flag_of in_left row
  inner_flag = flag_of_either is_node in_left inner_apart

  branch_flag : (row : Row) → flag_of in_branch row ≡ mark row n + flag_of in_left row + flag_of in_right row
  branch_flag row =
      flag_of_cong in_branch (either in_inner in_right) in_branch_lem row
      ∙ flag_of_either in_inner in_right outer_apart row
      ∙ ap (λ (b : ℕ). b + flag_of in_right row) (inner_flag row)

  branch_kept : (row : Row) → keep in_branch row ≡ merge (merge (keep is_node row) (keep in_left row)) (keep in_right row)
  branch_kept row =
      keep_cong in_branch (either in_inner in_right) in_branch_lem row
      ∙ keep_merge in_inner in_right inner_blank row
      ∙ ap (λ (z : Row). merge z (keep in_right row)) (keep_merge is_node in_left node_blank row)

  -- ---- a row made of three parts
  -- a row that shows a split: its flags and its children's states are the split's
  record Shown (x : Split) (row : Row) : Type 0 where
    own : mark row n ≡ x.own
    left : run rules row l ≡ some x.left
    left_flag : flag_of in_left row ≡ x.left_flag
    right : run rules row r ≡ some x.right
    right_flag : flag_of in_right row ≡ x.right_flag
    unmarked : PadsUnmarked (branch a n l r) row
    places : length row ≡ k
    kept : keep in_branch row ≡ row

  -- the single of a split's own flag, merged with a row that the left child's slot holds
  module _ (x : Split) (split : IsSplit k rules a x) (u : Row) (hu : Holds k rules lo l m x.left x.left_flag u) where
    abbrev single : Row
    single = single_row k n x.own

    abbrev inner : Row
    inner = merge single u

    single_flag : mark single n ≡ x.own
    single_flag = flag_of_single n not_blank_lem k x.own (small (branch_rule a x.own x.left x.right x.state) split.rule)

    inner_fits : Fitting is_node in_left node_blank inner_apart single u
    inner_fits = record {
      same_length = length_single k n x.own ∙ sym hu.places;
      first_kept = keep_single n not_blank_lem k x.own;
      second_kept = hu.kept;
      shares_none = ap₂ bit_and single_flag hu.flag ∙ eqb-true (bit_and x.own x.left_flag) 0 split.inner;
    }

    inner_node : keep is_node inner ≡ single
    inner_node = merge_first is_node in_left node_blank inner_apart single u inner_fits

    inner_left : keep in_left inner ≡ u
    inner_left = merge_second is_node in_left node_blank inner_apart single u inner_fits

    inner_kept : keep in_inner inner ≡ inner
    inner_kept = merge_both is_node in_left node_blank inner_apart single u inner_fits

    inner_places : length inner ≡ k
    inner_places = length_merge single u inner_fits.same_length ∙ length_single k n x.own

    inner_flags : flag_of in_inner inner ≡ x.own + x.left_flag
    inner_flags =
        inner_flag inner
        ∙ ap₂ (λ (b c : ℕ). b + c)
        (flag_part is_node node_blank inner single inner_node ∙ single_flag)
        (flag_part in_left left_blank inner u inner_left ∙ hu.flag)

    -- and that with a row that the right child's slot holds
    module _ (v : Row) (hv : Holds k rules m r n x.right x.right_flag v) where
      abbrev whole : Row
      whole = merge inner v

      outer_fits : Fitting in_inner in_right inner_blank outer_apart inner v
      outer_fits = record {
        same_length = inner_places ∙ sym hv.places;
        first_kept = inner_kept;
        second_kept = hv.kept;
        shares_none = ap₂ bit_and inner_flags hv.flag ∙ eqb-true (bit_and (x.own + x.left_flag) x.right_flag) 0 split.outer;
      }

      whole_inner : keep in_inner whole ≡ inner
      whole_inner = merge_first in_inner in_right inner_blank outer_apart inner v outer_fits

      whole_right : keep in_right whole ≡ v
      whole_right = merge_second in_inner in_right inner_blank outer_apart inner v outer_fits

      whole_node : keep is_node whole ≡ single
      whole_node =
          sym (keep_keep in_inner is_node node_blank (λ y e. or_left (is_node y) (in_left y) e) whole) ∙ ap (keep is_node) whole_inner ∙ inner_node

      whole_left : keep in_left whole ≡ u
      whole_left =
          sym (keep_keep in_inner in_left left_blank (λ y e. or_right (is_node y) (in_left y) e) whole) ∙ ap (keep in_left) whole_inner ∙ inner_left

      whole_shown : Shown x whole
      whole_shown = record {
        own = flag_part is_node node_blank whole single whole_node ∙ single_flag;
        left = run_part rules nl left_blank whole u whole_left ∙ hu.runs;
        left_flag = flag_part in_left left_blank whole u whole_left ∙ hu.flag;
        right = run_part rules nr right_blank whole v whole_right ∙ hv.runs;
        right_flag = flag_part in_right right_blank whole v whole_right ∙ hv.flag;
        unmarked =
            λ y w.
            ⊎_elim (λ m. pads_part nl left_blank whole u whole_left y m ∙ hu.unmarked y m)
            (λ m. pads_part nr right_blank whole v whole_right y m ∙ hv.unmarked y m) (pad_branch a n l r w);
        places = length_merge inner v outer_fits.same_length ∙ inner_places;
        kept =
            keep_cong in_branch (either in_inner in_right) in_branch_lem whole
            ∙ merge_both in_inner in_right inner_blank outer_apart inner v outer_fits;
      }

  -- a row shows its split
  one_split : (x z : Split) (row : Row) → x.state ≡ z.state → Shown x row → Shown z row → x ≡ z
  one_split x z row e s t =
      let left : x.left ≡ z.left = cc in
      let right : x.right ≡ z.right = cc in
      λ i. record {
        state = e i;
        own = (sym s.own ∙ t.own) i;
        left = left i;
        left_flag = (sym s.left_flag ∙ t.left_flag) i;
        right = right i;
        right_flag = (sym s.right_flag ∙ t.right_flag) i;
      }

  -- ---- a row that a slot of the branch holds, taken apart
  -- what of a row lies in a child is held by the slot of its state and its flag
  child_held : {from to : ℕ} {t : Tree} → Numbered from t to → within from to blank ≡ false → (q : ℕ) (row : Row) → length row ≡ k
      → PadsUnmarked t row → run rules row t ≡ some q → Holds k rules from t to q (flag_of (within from to) row) (keep (within from to) row)
  child_held {from} {to} numbered none q row places unmarked runs = record {
    places = length_keep (within from to) row ∙ places;
    kept = keep_keep (within from to) (within from to) none (λ x e. e) row;
    flag = sym (flag_part (within from to) none row (keep (within from to) row) refl);
    unmarked = λ y m. sym (pads_part numbered none row (keep (within from to) row) refl y m) ∙ unmarked y m;
    runs = sym (run_part rules numbered none row (keep (within from to) row) refl) ∙ runs;
  }

  -- a split and a row for each child, of which the row is made
  record Taken (q b : ℕ) (row : Row) : Type 0 where
    split : Split
    listed : split ∈ splits k rules a
    state : split.state ≡ q
    flag : together split ≡ b
    left : Row
    right : Row
    left_held : Holds k rules lo l m split.left split.left_flag left
    right_held : Holds k rules m r n split.right split.right_flag right
    merged : row ≡ merge (merge (single_row k n split.own) left) right

  taken : (q b : ℕ) (row : Row) → Holds k rules lo (branch a n l r) (suc n) q b row → Taken q b row
  taken q b row h =
      let b₀ = mark row n in
      let b₁ = flag_of in_left row in
      let b₂ = flag_of in_right row in
      let (p₁, p₂, left-runs, right-runs, state) = step_some rules a b₀ (run rules row l) (run rules row r) q h.runs in
      let (found, in-rules, side-is, names-it) = rule_found rules (18 ∷ a ∷ b₀ ∷ p₁ ∷ p₂ ∷ []) q state in
      let rule : found ≡ branch_rule a b₀ p₁ p₂ q = branch_parts found a b₀ p₁ p₂ side-is ∙ ap (branch_rule a b₀ p₁ p₂) names-it in
      let lt : (p : ℕ → Bool) → flag_of p row < 2 ^ k = λ p. rw h.places at (flag_of_lt p row) in
      record {
        split = split_of q b₀ p₁ b₁ p₂ b₂;
        listed =
            in_splits k rules a q b₀ p₁ b₁ p₂ b₂ (Memᴰ.cast (sym rule) in-rules) (lt in_left) (lt in_right)
            (eq-eqb (bit_and b₀ b₁) 0 (flag_of_apart is_node in_left inner_apart row))
            (eq-eqb (bit_and (b₀ + b₁) b₂) 0 (rw (inner_flag row) at (flag_of_apart in_inner in_right outer_apart row)));
        state = refl;
        flag = sym (branch_flag row) ∙ h.flag;
        left = keep in_left row;
        right = keep in_right row;
        left_held = child_held nl left_blank p₁ row h.places (λ y m. h.unmarked y (left_pad a n l r m)) left-runs;
        right_held = child_held nr right_blank p₂ row h.places (λ y m. h.unmarked y (right_pad a n l r m)) right-runs;
        merged = sym h.kept ∙ branch_kept row ∙ rw (keep_is n row, h.places);
      }

  -- ---- the slots
  module _ (L : Right k rules lo l m) (R : Right k rules m r n) where
    abbrev lefts : Slots (List Row)
    lefts = slot_rows k rules l

    abbrev rights : Slots (List Row)
    rights = slot_rows k rules r

    abbrev singles : Split → List Row
    singles x = single_row k n x.own ∷ []

    abbrev left_rows : Split → List Row
    left_rows x = lefts x.left x.left_flag

    abbrev right_rows : Split → List Row
    right_rows x = rights x.right x.right_flag

    -- building a branch puts in each slot what the splits give
    slot_rows_lem : (q b : ℕ) → slot_rows k rules (branch a n l r) q b ≡ each (splits k rules a) (gives k n lefts rights q b)
    slot_rows_lem = branch_slots k n lefts rights (splits k rules a) (λ u v. [])

    left_sound : (x : Split) (u : Row) → u ∈ left_rows x → Holds k rules lo l m x.left x.left_flag u
    left_sound x = L.sound x.left x.left_flag

    right_sound : (x : Split) (v : Row) → v ∈ right_rows x → Holds k rules m r n x.right x.right_flag v
    right_sound x = R.sound x.right x.right_flag

    mem_inner : (x : Split) {c : Row} → c ∈ products (singles x) (left_rows x)
        → (u : Row) × (u ∈ left_rows x) × (c ≡ merge (single_row k n x.own) u)
    mem_inner x m =
        let (own, u, mo, mu, e) = mem_products (singles x) (left_rows x) m in
        (u, mu, e ∙ ap (λ (z : Row). merge z u) (only mo))

    -- a row of a split shows it
    split_shown : (x : Split) → IsSplit k rules a x → (row : Row) → row ∈ split_rows k n lefts rights x → Shown x row
    split_shown x i row w =
        let (inner, v, mi, mv, e) = mem_products (products (singles x) (left_rows x)) (right_rows x) w in
        let (u, mu, e') = mem_inner x mi in
        rw (e, e') (whole_shown x i u (left_sound x u mu) v (right_sound x v mv))

    -- and stands once among the split's rows
    split_once : (x : Split) → IsSplit k rules a x → Once (split_rows k n lefts rights x)
    split_once x i =
        once_kept in_inner in_right (products (singles x) (left_rows x)) (right_rows x)
        (once_kept is_node in_left (singles x) (left_rows x) (once_one (single_row k n x.own)) (L.once x.left x.left_flag) inner_parts)
        (R.once x.right x.right_flag) whole_parts
      where
        inner_parts : (c u : Row) → c ∈ singles x → u ∈ left_rows x → (keep is_node (merge c u) ≡ c) × (keep in_left (merge c u) ≡ u)
        inner_parts c u mc mu = let hu = left_sound x u mu in rw (only mc) (inner_node x i u hu, inner_left x i u hu)

        whole_parts : (c v : Row) → c ∈ products (singles x) (left_rows x) → v ∈ right_rows x
            → (keep in_inner (merge c v) ≡ c) × (keep in_right (merge c v) ≡ v)
        whole_parts c v mc mv =
            let (u, mu, e) = mem_inner x mc in
            let hu = left_sound x u mu in
            let hv = right_sound x v mv in
            rw e (whole_inner x i u hu v hv, whole_right x i u hu v hv)

    -- what a split gives to a slot
    given : (q b : ℕ) (row : Row) (x : Split) → x ∈ splits k rules a → row ∈ gives k n lefts rights q b x
        → (x.state ≡ q) × (together x ≡ b) × Shown x row
    given q b row x listed w =
        let (there, mw) = mem_cond (eqb x.state q && eqb (together x) b) (split_rows k n lefts rights x) w in
        let (state, flag) = same_slot x.state (together x) q b there in
        (state, flag, split_shown x (mem_splits k rules a x listed) row mw)

    -- a row of a slot is held there
    branch_sound : (q b : ℕ) (row : Row) → row ∈ slot_rows k rules (branch a n l r) q b
        → Holds k rules lo (branch a n l r) (suc n) q b row
    branch_sound q b row w =
        let (x, listed, mw) = mem_each (splits k rules a) (gives k n lefts rights q b) (rw (slot_rows_lem q b) at w) in
        let (state, flag, s) = given q b row x listed mw in
        let rule = (mem_splits k rules a x listed).rule in
        let found = finds_rule rules deterministic (branch_rule a x.own x.left x.right x.state) rule in
        record {
          places = s.places;
          kept = s.kept;
          flag = branch_flag row ∙ rw (s.own, s.left_flag, s.right_flag) flag;
          unmarked = s.unmarked;
          runs = rw (s.own, s.left, s.right) (found ∙ ap {B = Option ℕ} some state);
        }

    -- a row that a slot holds stands in it
    branch_complete : (q b : ℕ) (row : Row) → Holds k rules lo (branch a n l r) (suc n) q b row
        → row ∈ slot_rows k rules (branch a n l r) q b
    branch_complete q b row h =
        let t = taken q b row h in
        let x = t.split in
        let left : t.left ∈ left_rows x = L.complete x.left x.left_flag t.left t.left_held in
        let right : t.right ∈ right_rows x = R.complete x.right x.right_flag t.right t.right_held in
        rw (slot_rows_lem q b)
        (in_each (splits k rules a) (gives k n lefts rights q b) t.listed
        (in_cond (eqb x.state q && eqb (together x) b) (rw (eq-eqb x.state q t.state, eq-eqb (together x) b t.flag))
        (Memᴰ.cast t.merged
        (in_products (products (singles x) (left_rows x)) (right_rows x) (in_products (singles x) (left_rows x) here left) right))))

    -- no row stands in a slot twice: it shows the split that gives it, and stands once among the split's rows
    branch_once : (q b : ℕ) → Once (slot_rows k rules (branch a n l r) q b)
    branch_once q b =
        rw (slot_rows_lem q b)
        (once_each (splits k rules a) (gives k n lefts rights q b) (once_splits k rules a deterministic)
        (λ x w. once_cond (eqb x.state q && eqb (together x) b) (split_rows k n lefts rights x) (split_once x (mem_splits k rules a x w)))
        (λ x z row mx mz wx wz.
        let (sx, fx, shown-x) = given q b row x mx wx in
        let (sz, fz, shown-z) = given q b row z mz wz in
        one_split x z row (sx ∙ sym sz) shown-x shown-z))

    -- so the slots of a branch are right
    pub branch_right : Right k rules lo (branch a n l r) (suc n)
    branch_right = record { sound = branch_sound; complete = branch_complete; once = branch_once }
