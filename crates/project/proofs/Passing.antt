-- The pass downwards from the root finds the nodes that stand at the place. First what is found before a record and after it, by what
-- becomes of its cell; then all records, and what is left of the work.
use mathlib.Core.Bool.{Bool, cond, false, true}
use mathlib.Core.List.{List}
use mathlib.Core.Logic.Iff
use mathlib.Core.Logic.{◌↔◌, ◌⊎◌, inl, inr, ⊎_elim}
use mathlib.Core.Path.{◌∙◌, ◌≡◌, ap, refl, sym}
use Prim.Native.Nat.{◌+◌, ◌<◌, ◌≤◌, suc, zero, ℕ}
use native.Mathlib.Omega.{arith}
use borrow.Author.Tests.{eq-eqb, eqb-false, eqb-true, ne_eqb}
use lib.Dec.{eqb}
use lib.ListN.{drop, get_or, length, length-set, set}
use lib.Seq.{drop-set-lt, get_or-set_other, get_or-set_same, get_or-take}
use Rattle.paper.specs.declared.Head.{Head}
use Rattle.paper.specs.declared.Record.{Record}
use Rattle.paper.specs.Questions.{has_place}
use Rattle.paper.specs.Records.{blank_entry, used_of}
use Rattle.paper.specs.Sound.{entry}
use Rattle.laws.specs.QuestionCauses.{Sound}
use Rattle.laws.proofs.Lists.{which}
use Rattle.project.specs.Passing.{cells_after, handed_on, is_marked, kept, passed}
use Rattle.project.proofs.Made.{Lists, Made, joined, made, single}

module _ (h : Head) (table : List Record) (S : Sound h table) (i : ℕ) (inside : i < h.arity) where
  -- a single at d or above keeps the node, or a marked record below d lists it
  pub data Found (d : ℕ) (cells : List ℕ) (n : ℕ) : Type 0 where
    above : (k : ℕ) → d ≤ k → k < h.used → get_or cells k 0 ≡ suc n → Found d cells n
    below : (k : ℕ) → k < d → get_or cells k 0 ≡ 1 → Lists h table S i inside k n → Found d cells n

  -- the cells of a pass that has come down to d
  pub record Cells (d : ℕ) (cells : List ℕ) : Type 0 where
    pub there : h.used ≤ length cells
    pub marks : (k : ℕ) → k < d → get_or cells k 0 ≤ 1
    pub nodes : (k : ℕ) → d ≤ k → k < h.used → get_or cells k 0 ≤ h.nodes

  -- from d down to e: the cells stay cells of a pass, the same nodes are found, and what stands behind the cells stays
  pub record Down (d e : ℕ) (cells cells' : List ℕ) : Type 0 where
    pub still : Cells e cells'
    pub found : (n : ℕ) → n < h.nodes → Found d cells n ↔ Found e cells' n
    pub rest : drop h.used cells' ≡ drop h.used cells

  module _ (k : ℕ) (used : k < h.used) (cells : List ℕ) (C : Cells (suc k) cells) where
    -- record k is marked, and lists the node
    abbrev Hands : ℕ → Type 0
    Hands n = (get_or cells k 0 ≡ 1) × Lists h table S i inside k n

    -- what of the cells is to be shown
    record Change (cells' : List ℕ) : Type 0 where
      long : length cells' ≡ length cells
      rest : drop h.used cells' ≡ drop h.used cells
      higher : (j : ℕ) → k < j → get_or cells' j 0 ≡ get_or cells j 0
      own : get_or cells' k 0 ≤ h.nodes
      lower : (j : ℕ) → j < k → get_or cells' j 0 ≤ 1
      stays : (j : ℕ) → j < k → get_or cells j 0 ≡ 1 → get_or cells' j 0 ≡ 1
      goes : (n : ℕ) → n < h.nodes → Hands n → Found k cells' n
      kept_from : (n : ℕ) → n < h.nodes → get_or cells' k 0 ≡ suc n → Hands n
      marked_from : (n : ℕ) → n < h.nodes → (j : ℕ) → j < k → get_or cells' j 0 ≡ 1 → Lists h table S i inside j n → (get_or cells j 0 ≡ 1) ⊎ Hands n

    -- at k, or elsewhere
    at_or : (j : ℕ) → (j ≡ k) ⊎ (j ≡ k → ⊥)
    at_or j = ⊎_elim (λ e. inl (eqb-true j k e)) (λ e. inr (eqb-false j k e)) (which (eqb j k))

    changed : (cells' : List ℕ) → Change cells' → Down (suc k) k cells cells'
    changed cells' c = record {
      still = record {
        there = omega (arith, C.there, c.long);
        marks = c.lower;
        nodes = λ j w l.
            ⊎_elim (λ e. omega (arith, ap (λ (z : ℕ). get_or cells' z 0) e, c.own))
            (λ e. omega (arith, c.higher j (omega arith), C.nodes j (omega arith) l)) (at_or j);
      };
      found = λ n small. (onward n small, back n small);
      rest = c.rest;
    }
      where
        onward : (n : ℕ) → n < h.nodes → Found (suc k) cells n → Found k cells' n
        onward n small (above j w l e) = above j (omega arith) l (c.higher j (omega arith) ∙ e)
        onward n small (below j w e m) =
            ⊎_elim (λ here. c.goes n small (rw here at e, rw here at m)) (λ other. below j (omega arith) (c.stays j (omega arith) e) m) (at_or j)

        back : (n : ℕ) → n < h.nodes → Found k cells' n → Found (suc k) cells n
        back n small (above j w l e) =
            ⊎_elim
            (λ here. let (mark, m) = c.kept_from n small (rw here at e) in below k (omega arith) mark m)
            (λ other. above j (omega arith) l (sym (c.higher j (omega arith)) ∙ e))
            (at_or j)
        back n small (below j w e m) =
            ⊎_elim (λ mark. below j (omega arith) mark m) (λ (mark, m'). below k (omega arith) mark m') (c.marked_from n small j w e m)

    -- ---- a record that is not marked
    unmarked : (get_or cells k 0 ≡ 1 → ⊥) → Down (suc k) k cells cells
    unmarked none = changed cells (record {
      long = refl;
      rest = refl;
      higher = λ j w. refl;
      own = omega (arith, C.marks k (omega arith));
      lower = λ j w. C.marks j (omega arith);
      stays = λ j w e. e;
      goes = λ n small (mark, m). absurd (none mark);
      kept_from = λ n small e. absurd (none (omega (arith, C.marks k (omega arith))));
      marked_from = λ n small j w e m. inl e;
    })

    module _ (r : Record) (mark : get_or cells k 0 ≡ 1) where
      -- ---- a single that is marked keeps its node
      module _ (node : r.node < h.nodes)
          (lists : (n : ℕ) → n < h.nodes → Lists h table S i inside k n ↔ ((has_place r.flag i ≡ true) × (r.node ≡ n))) where
        own_cell : get_or (set cells k (kept i r)) k 0 ≡ kept i r
        own_cell = get_or-set_same cells k (kept i r) 0 (omega (arith, C.there))

        other_cell : (j : ℕ) → (j ≡ k → ⊥) → get_or (set cells k (kept i r)) j 0 ≡ get_or cells j 0
        other_cell j w = get_or-set_other cells k j (kept i r) 0 w

        kept_single : Down (suc k) k cells (set cells k (kept i r))
        kept_single = changed (set cells k (kept i r)) (record {
          long = length-set cells k (kept i r);
          rest = drop-set-lt h.used cells k (kept i r) used;
          higher = λ j w. other_cell j (λ e. omega arith);
          own = omega (arith, own_cell, kept_most (has_place r.flag i));
          lower = λ j w. omega (arith, other_cell j (λ e. omega arith), C.marks j (omega arith));
          stays = λ j w e. other_cell j (λ z. omega arith) ∙ e;
          goes = λ n small (_, m).
              let (there, is) = (lists n small).0 m in
              above k (omega arith) used (own_cell ∙ ap (λ (c : Bool). cond c (r.node + 1) 0) there ∙ omega (arith, is));
          kept_from = λ n small e. (mark, (lists n small).1 (from_kept n (has_place r.flag i) refl (sym own_cell ∙ e)));
          marked_from = λ n small j w e m. inl (sym (other_cell j (λ z. omega arith)) ∙ e);
        })
          where
            kept_most : (c : Bool) → cond c (r.node + 1) 0 ≤ h.nodes
            kept_most true = omega arith
            kept_most false = omega arith

            from_kept : (n : ℕ) (c : Bool) → has_place r.flag i ≡ c → cond c (r.node + 1) 0 ≡ suc n → (has_place r.flag i ≡ true) × (r.node ≡ n)
            from_kept n true e w = (e, omega (arith, w))
            from_kept n false e w = absurd (omega (arith, w))

      -- ---- a union or a product that is marked hands its mark on
      module _ (left : r.left < k) (right : r.right < k)
          (lists : (n : ℕ) → n < h.nodes
          → Lists h table S i inside k n ↔ (Lists h table S i inside r.left n ⊎ Lists h table S i inside r.right n)) where
        abbrev handed : List ℕ
        handed = handed_on k r cells

        right_marked : get_or handed r.right 0 ≡ 1
        right_marked = get_or-set_same (set (set cells k 0) r.left 1) r.right 1 0 (simp length-set (omega (arith, C.there)))

        not_right : (j : ℕ) → (j ≡ r.right → ⊥) → get_or handed j 0 ≡ get_or (set (set cells k 0) r.left 1) j 0
        not_right j w = get_or-set_other (set (set cells k 0) r.left 1) r.right j 1 0 w

        left_marked : get_or handed r.left 0 ≡ 1
        left_marked =
            ⊎_elim (λ e. ap (λ (z : ℕ). get_or handed z 0) (eqb-true r.left r.right e) ∙ right_marked)
            (λ e. not_right r.left (eqb-false r.left r.right e)
            ∙ get_or-set_same (set cells k 0) r.left 1 0 (simp length-set (omega (arith, C.there))))
            (which (eqb r.left r.right))

        -- a cell that is no operand's
        no_operand : (j : ℕ) → (j ≡ r.left → ⊥) → (j ≡ r.right → ⊥) → get_or handed j 0 ≡ get_or (set cells k 0) j 0
        no_operand j v w = not_right j w ∙ get_or-set_other (set cells k 0) r.left j 1 0 v

        own_cleared : get_or handed k 0 ≡ 0
        own_cleared = no_operand k (λ e. omega arith) (λ e. omega arith) ∙ get_or-set_same cells k 0 0 (omega (arith, C.there))

        -- below k the operands are marked, and any other cell stays
        lower_cell : (j : ℕ) → j < k → ((get_or handed j 0 ≡ 1) × ((j ≡ r.left) ⊎ (j ≡ r.right))) ⊎ (get_or handed j 0 ≡ get_or cells j 0)
        lower_cell j w = go (eqb j r.left) refl (eqb j r.right) refl
          where
            go : (c : Bool) → eqb j r.left ≡ c → (d : Bool) → eqb j r.right ≡ d
                → ((get_or handed j 0 ≡ 1) × ((j ≡ r.left) ⊎ (j ≡ r.right))) ⊎ (get_or handed j 0 ≡ get_or cells j 0)
            go true e d f = let is = eqb-true j r.left e in inl (ap (λ (z : ℕ). get_or handed z 0) is ∙ left_marked, inl is)
            go false e true f = let is = eqb-true j r.right f in inl (ap (λ (z : ℕ). get_or handed z 0) is ∙ right_marked, inr is)
            go false e false f =
                inr (no_operand j (eqb-false j r.left e) (eqb-false j r.right f) ∙ get_or-set_other cells k j 0 0 (λ z. omega arith))

        handed_on_lem : Down (suc k) k cells handed
        handed_on_lem = changed handed (record {
          long = simp length-set;
          rest =
              drop-set-lt h.used (set (set cells k 0) r.left 1) r.right 1 (omega arith)
              ∙ drop-set-lt h.used (set cells k 0) r.left 1 (omega arith)
              ∙ drop-set-lt h.used cells k 0 used;
          higher = λ j w. no_operand j (λ e. omega arith) (λ e. omega arith) ∙ get_or-set_other cells k j 0 0 (λ z. omega arith);
          own = omega (arith, own_cleared);
          lower = λ j w. ⊎_elim (λ (e, _). omega (arith, e)) (λ e. omega (arith, e, C.marks j (omega arith))) (lower_cell j w);
          stays = λ j w e. ⊎_elim (λ (f, _). f) (λ f. f ∙ e) (lower_cell j w);
          goes = λ n small (_, m).
              ⊎_elim (λ l. below r.left left left_marked l) (λ l. below r.right right right_marked l) ((lists n small).0 m);
          kept_from = λ n small e. absurd (omega (arith, own_cleared, e));
          marked_from = λ n small j w e m.
              ⊎_elim (λ (_, is). inr (mark, (lists n small).1 (⊎_elim (λ l. inl (rw l at m)) (λ l. inr (rw l at m)) is))) (λ f. inl (sym f ∙ e))
              (lower_cell j w);
        })

    step : (r : Record) → Made h table S i inside k r → Down (suc k) k cells (cells_after i k r cells)
    step r made = go (is_marked (get_or cells k 0)) refl made
      where
        go : (c : Bool) → is_marked (get_or cells k 0) ≡ c → Made h table S i inside k r
            → Down (suc k) k cells (cond c (cond (eqb r.kind 1) (set cells k (kept i r)) (handed_on k r cells)) cells)
        go false e m = unmarked (eqb-false (get_or cells k 0) 1 e)
        go true e (single kind node lists) = rw (eq-eqb r.kind 1 kind) (kept_single r (eqb-true (get_or cells k 0) 1 e) node lists)
        go true e (joined kind left right lists) = rw (ne_eqb r.kind 1 kind) (handed_on_lem r (eqb-true (get_or cells k 0) 1 e) left right lists)

  -- ---- all records
  stays : (cells : List ℕ) → Cells 0 cells → Down 0 0 cells cells
  stays cells C = record { still = C; found = λ n small. (λ f. f, λ f. f); rest = refl }

  then : {d e : ℕ} {cells cells' cells'' : List ℕ} → Down d e cells cells' → Down e 0 cells' cells'' → Down d 0 cells cells''
  then a b = record {
    still = b.still;
    found = λ n small. Iff.trans (a.found n small) (b.found n small);
    rest = b.rest ∙ a.rest;
  }

  pub passes : (d : ℕ) → d ≤ h.used → (cells : List ℕ) → Cells d cells → Down d 0 cells (passed i table d cells)
  passes zero few cells C = stays cells C
  passes (suc k) few cells C =
      let same : entry (used_of h table) k ≡ entry table k = get_or-take h.used table k blank_entry few in
      let down = step k few cells C (entry table k) (rw same at (made h table S i inside k few)) in
      then down (passes k (omega arith) (cells_after i k (entry table k) cells) down.still)
