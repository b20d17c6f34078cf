-- Where the nodes of a record come from, at one place: a single has its own, any other record those of its operands.
use mathlib.Core.Bool.{true}
use mathlib.Core.List.{List}
use mathlib.Core.Logic.{◌↔◌, ◌⊎◌, ⊎_elim}
use mathlib.Core.Path.{◌≡◌}
use Prim.Native.Nat.{◌<◌, ℕ}
use native.Mathlib.Omega.{arith}
use Rattle.paper.specs.declared.Head.{Head}
use Rattle.paper.specs.declared.Record.{Record}
use Rattle.paper.specs.Questions.{has_place}
use Rattle.paper.specs.Row.{blank}
use Rattle.paper.specs.Sound.{entry}
use Rattle.laws.specs.QuestionCauses.{IsProduct, IsSingle, IsUnion, Sound}
use Rattle.laws.specs.Said.{StandsIn}
use Rattle.project.proofs.Operands.{product_lists, rows, shaped, single_lists, some_row, union_lists, used}
use Rattle.project.proofs.Standing.{in_factor, in_product, stands_append, stands_single}

module _ (h : Head) (table : List Record) (S : Sound h table) (i : ℕ) (inside : i < h.arity) where
  -- some row of record k has node n at the index
  abbrev pub Lists : ℕ → ℕ → Type 0
  Lists k n = StandsIn i n (rows h table k)

  -- record r, with number k
  pub data Made (k : ℕ) (r : Record) : Type 0 where
    single : r.kind ≡ 1 → r.node < h.nodes → ((n : ℕ) → n < h.nodes → Lists k n ↔ ((has_place r.flag i ≡ true) × (r.node ≡ n))) → Made k r
    joined : (r.kind ≡ 1 → ⊥) → r.left < k → r.right < k
        → ((n : ℕ) → n < h.nodes → Lists k n ↔ (Lists r.left n ⊎ Lists r.right n)) → Made k r

  not_blank_lem : (n : ℕ) → n < h.nodes → n ≡ blank → ⊥
  not_blank_lem n small e = omega (arith, S.few_nodes)

  module _ (k : ℕ) (below : k < h.used) where
    abbrev r : Record
    r = entry (used h table) k

    from_single : IsSingle r → Made k r
    from_single e =
        single e.0 (S.records k below).node
        (λ n small. rw (single_lists h table S k below e) (stands_single i n h.arity inside (not_blank_lem n small) r.node r.flag))

    from_union : IsUnion (used h table) k r → Made k r
    from_union e =
        joined (λ w. omega (arith, e.0)) e.1 e.2
        (λ n small. rw (union_lists h table S k below e) (stands_append i n (rows h table r.left) (rows h table r.right)))

    from_product : IsProduct (used h table) k r → Made k r
    from_product e =
        let left = shaped h table S r.left (omega (arith, e.1)) in
        let right = shaped h table S r.right (omega (arith, e.2)) in
        let (x, mx) = some_row h table S r.left (omega (arith, e.1)) in
        let (y, my) = some_row h table S r.right (omega (arith, e.2)) in
        joined (λ w. omega (arith, e.0)) e.1 e.2
        (λ n small. rw (product_lists h table S k below e) (
          in_factor i n h.arity inside (not_blank_lem n small) _ _ (rows h table r.left) (rows h table r.right) e.3 left right,
          in_product i n h.arity inside (not_blank_lem n small) _ _ (rows h table r.left) (rows h table r.right) e.3 left right x mx y my,
        ))

    pub made : Made k r
    made = ⊎_elim from_single (⊎_elim from_union from_product) (S.records k below).kind
