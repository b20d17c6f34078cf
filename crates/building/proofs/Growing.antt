-- The table only grows while a set is built, so that records too many at some step are too many at the end, for refusal 6.
-- The idea: one operation leaves the table as it was or has one record behind it, and what grows twice has grown.
-- First growing, then the steps, folds of steps, and nodes; then what is made before a record of the tree, against all that is made;
-- last the refusal.
use mathlib.Core.Bool.{Bool, ◌&&◌, ◌||◌, cond, false, true}
use mathlib.Core.List.{List, [], ◌++◌, ◌∷◌, append_assoc, append-nil}
use mathlib.Core.Path.{◌∙◌, ◌≡◌, ap, refl, subst, sym}
use Prim.Native.Nat.{◌+◌, ◌<◌, ◌≤◌, min, suc, ℕ}
use native.Mathlib.Omega.{arith}
use borrow.Author.Tests.{le-leb, leb-true}
use lib.Dec.{eqb, leb}
use lib.ListN.{length, length-append}
use Rattle.paper.specs.Building.{Slots, Split, accept_step, all_places, branch_step, can_stand, is_empty, leaf_step, made, new_record, product_record, put, record_sets, single_record, slots_of, splits, together, triple, union_record, unite}
use Rattle.paper.specs.Lists.{has, through, up_to}
use Rattle.paper.specs.Query.{Query, Rule, branch_rule, leaf_rule}
use Rattle.paper.specs.Records.{product_of, single_of, union_of}
use Rattle.paper.specs.Refusals.{Test, answer, build, head_from, made_from, query_part, refused, tree_part, work_for, no, tree_end}
use Rattle.paper.specs.Stream.{StreamRecord, number, query_records, records_of, tree_records}
use Rattle.paper.specs.Tree.{Tree, root, tree_of}
use Rattle.laws.proofs.Replies.{Passes, unless_append}
use Rattle.laws.specs.Plain.{Head, Record, Set, at, empty, unit}
use Rattle.building.specs.Bounds.{most_records}
use Rattle.building.specs.Growing.{Grows}
use Rattle.building.specs.Kinds.{leaf_kind}
use Rattle.building.specs.NodeOrder.{Stack, from_node, join_slots, node_slots, push_slots}
use Rattle.building.proofs.NodeOrder.{node_order}

-- ---- growing
pub grows_none : (s : List Record) → Grows s s
grows_none s = record { more = []; behind = sym (append-nil s) }

pub grows_then : {s s' s'' : List Record} → Grows s s' → Grows s' s'' → Grows s s''
grows_then {s} a b = record {
  more = a.more ++ b.more;
  behind = b.behind ∙ ap (λ (t : List Record). t ++ b.more) a.behind ∙ append_assoc s a.more b.more;
}

-- no fewer records, so where there were more than a limit there are more than it
pub grows_past : {s s' : List Record} → Grows s s' → (limit : ℕ) → limit < length s → limit < length s'
grows_past {s} g limit h = omega (arith, ap length g.behind, length-append s g.more)

-- ---- the steps
pub new_grows : (r : Record) (s : List Record) → Grows s (new_record r s).0
new_grows r s = record { more = r ∷ []; behind = refl }

pub single_grows : (n b : ℕ) (s : List Record) → Grows s (single_record n b s).0
single_grows n b s = go (eqb b 0)
  where
    go : (c : Bool) → Grows s (cond {A = List Record × Set} c (s, unit) (new_record (single_of n b) s)).0
    go true = grows_none s
    go false = new_grows (single_of n b) s

pub product_grows : (n b : ℕ) (x y : Set) (s : List Record) → Grows s (product_record n b x y s).0
product_grows n b empty y s = grows_none s
product_grows n b unit y s = grows_none s
product_grows n b (at i) empty s = grows_none s
product_grows n b (at i) unit s = grows_none s
product_grows n b (at i) (at j) s = new_grows (product_of n b i j) s

pub union_grows : (n b : ℕ) (x y : Set) (s : List Record) → Grows s (union_record n b x y s).0
union_grows n b empty y s = grows_none s
union_grows n b unit y s = grows_none s
union_grows n b (at i) empty s = grows_none s
union_grows n b (at i) unit s = grows_none s
union_grows n b (at i) (at j) s = new_grows (union_of n b i j) s

pub leaf_grows : (label n : ℕ) (z : List Record × Slots Set) (r : Rule) → Grows z.0 (leaf_step record_sets label n z r).0
leaf_grows label n z (branch_rule a b p q t) = grows_none z.0
leaf_grows label n z (leaf_rule a b q) = go (eqb label a && can_stand label b) (put z.1 q b (single_record n b z.0).1)
  where
    go : (c : Bool) (f : Slots Set) → Grows z.0 (cond {A = List Record × Slots Set} c ((single_record n b z.0).0, f) z).0
    go true f = single_grows n b z.0
    go false f = grows_none z.0

pub triple_grows : (n : ℕ) (x : Split) (l r : Set) (s : List Record) → Grows s (triple record_sets n x l r s).0
triple_grows n x l r s =
    let own : List Record × Set = single_record n x.own s in
    let inner : List Record × Set = product_record n (x.own + x.left_flag) own.1 l own.0 in
    grows_then (single_grows n x.own s)
    (grows_then (product_grows n (x.own + x.left_flag) own.1 l own.0) (product_grows n (together x) inner.1 r inner.0))

pub branch_grows : (n : ℕ) (f g : Slots Set) (z : List Record × Slots Set) (x : Split) → Grows z.0 (branch_step record_sets n f g z x).0
branch_grows n f g z x = go (is_empty (f x.left x.left_flag) || is_empty (g x.right x.right_flag))
  where
    w : List Record × Set
    w = triple record_sets n x (f x.left x.left_flag) (g x.right x.right_flag) z.0

    go : (c : Bool) → Grows z.0 (cond {A = List Record × Slots Set} c z (unite record_sets n x.state (together x) z.1 w)).0
    go true = grows_none z.0
    go false =
        grows_then (triple_grows n x (f x.left x.left_flag) (g x.right x.right_flag) z.0)
        (union_grows n (together x) (z.1 x.state (together x)) w.1 w.0)

pub accept_grows : (Q : Query) (n : ℕ) (f : Slots Set) (z : List Record × Set) (q : ℕ) → Grows z.0 (accept_step record_sets Q n f z q).0
accept_grows Q n f z q = go (has Q.accepting q)
  where
    b : ℕ
    b = all_places Q.arity

    go : (c : Bool) → Grows z.0 (cond {A = List Record × Set} c (union_record n b z.1 (f q b) z.0) z).0
    go true = union_grows n b z.1 (f q b) z.0
    go false = grows_none z.0

-- ---- folds of steps
pub through_grows : {X Y : Type 0} (F : List Record × X → Y → List Record × X) → ((z : List Record × X) (y : Y) → Grows z.0 (F z y).0)
    → (ys : List Y) (z : List Record × X) → Grows z.0 (through F z ys).0
through_grows F h [] z = grows_none z.0
through_grows F h (y ∷ ys) z = grows_then (h z y) (through_grows F h ys (F z y))

pub leaves_grow : (label n : ℕ) (rules : List Rule) (z : List Record × Slots Set) → Grows z.0 (through (leaf_step record_sets label n) z rules).0
leaves_grow label n rules z = through_grows (leaf_step record_sets label n) (leaf_grows label n) rules z

pub branches_grow : (n : ℕ) (f g : Slots Set) (xs : List Split) (z : List Record × Slots Set)
    → Grows z.0 (through (branch_step record_sets n f g) z xs).0
branches_grow n f g xs z = through_grows (branch_step record_sets n f g) (branch_grows n f g) xs z

pub accepts_grow : (Q : Query) (n : ℕ) (f : Slots Set) (qs : List ℕ) (z : List Record × Set)
    → Grows z.0 (through (accept_step record_sets Q n f) z qs).0
accepts_grow Q n f qs z = through_grows (accept_step record_sets Q n f) (accept_grows Q n f) qs z

-- ---- nodes
module _ (Q : Query) where
  join_grows : (label n : ℕ) (stack : List (Slots Set)) (s : List Record) → Grows s (join_slots Q label n stack s).0
  join_grows label n [] s = grows_none s
  join_grows label n (last ∷ []) s = grows_none s
  join_grows label n (last ∷ older ∷ others) s =
      branches_grow n older last (splits Q.arity Q.rules label) (s, λ q b. empty)

  pub node_grows : (r : StreamRecord) (n : ℕ) (stack : List (Slots Set)) (s : List Record) → Grows s (node_slots Q r n stack s).0
  node_grows r n stack s = go (eqb r.kind leaf_kind)
    where
      go : (c : Bool) → Grows s (cond {A = Stack} c (push_slots Q (number r 0) n stack s) (join_slots Q (number r 0) n stack s)).0
      go true = leaves_grow (number r 0) n Q.rules (s, λ q b. empty)
      go false = join_grows (number r 0) n stack s

  pub from_grows : (rs : List StreamRecord) (n : ℕ) (stack : List (Slots Set)) (s : List Record) → Grows s (from_node Q rs n stack s).0
  from_grows [] n stack s = grows_none s
  from_grows (r ∷ rs) n stack s =
      let now : Stack = node_slots Q r n stack s in
      grows_then (node_grows r n stack s) (from_grows rs (suc n) now.1 now.0)

-- ---- before the end
module _ (Q : Query) (records : List StreamRecord) (p : Passes (tree_part records)) where
  nodes_grow : Grows (from_node Q records 0 [] []).0 (made Q (tree_of records)).0
  nodes_grow =
      let t : Tree = tree_of records in
      let z : List Record × Slots Set = slots_of record_sets Q.arity Q.rules t [] in
      subst (λ (s : Stack). Grows s.0 (made Q t).0) (sym (node_order Q records p))
      (accepts_grow Q (root t) z.1 (up_to Q.states) (z.0, empty))

  -- before a record
  pub node_early : (rest : List StreamRecord) (n : ℕ) (stack : List (Slots Set)) (s : List Record)
      → from_node Q rest n stack s ≡ from_node Q records 0 [] [] → Grows s (made Q (tree_of records)).0
  node_early rest n stack s e =
      grows_then (from_grows Q rest n stack s) (subst (λ (z : Stack). Grows z.0 (made Q (tree_of records)).0) (sym e) nodes_grow)

-- ---- the refusal
-- a stream that is fine, with work enough, is refused with 6 where more records than fit are made, at the end or before
pub grows_refused : (input : List ℕ) (work_length table_length : ℕ) → Passes (tree_part (tree_records (records_of input)))
    → Passes (query_part (tree_end input) (query_records (records_of input))) → work_for input ≤ work_length
    → {s : List Record} → Grows s (made_from input) → min table_length most_records < length s → build input work_length table_length ≡ refused (no 6)
grows_refused input work_length table_length tree query work g many =
    unless_append (tree_part (tree_records (records_of input))) (query_part (tree_end input) (query_records (records_of input)) ++ room) built tree
    ∙ unless_append (query_part (tree_end input) (query_records (records_of input))) room built query
    ∙ rw (le-leb (work_for input) work_length work) (go (leb used table_length) (leb used most_records) refl refl)
  where
    built : Head × List Record
    built = (head_from input, made_from input)

    used : ℕ
    used = length (made_from input)

    room : List Test
    room = (no 5, leb (work_for input) work_length) ∷ (no 6, leb used table_length && leb used most_records) ∷ []

    go : (c d : Bool) → leb used table_length ≡ c → leb used most_records ≡ d → cond (c && d) (answer built) (refused (no 6)) ≡ refused (no 6)
    go true true e k =
        absurd (omega (arith, leb-true used table_length e, leb-true used most_records k, grows_past g (min table_length most_records) many))
    go true false e k = refl
    go false d e k = refl
