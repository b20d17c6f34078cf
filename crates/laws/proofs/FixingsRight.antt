-- Demand 3: different open places of a good set fixed one after another, each at a node, each into a table with as many entries as the
-- set at hand has records, or as the first set has, and with the work asked for. Then any order of the same fixings; then a built set.
use mathlib.Core.Bool.{true}
use mathlib.Core.List.Memᴰ
use mathlib.Core.List.{List, [], ◌∷◌, map}
use mathlib.Core.Logic.{◌↔◌, ⊎_elim}
use mathlib.Core.Path.{◌∙◌, ◌≡◌, ap, refl, sym}
use Prim.Native.Nat.{◌<◌, ◌≤◌, ℕ}
use native.Mathlib.Omega.{arith}
use lib.ListN.{length}
use Rattle.paper.specs.Lists.{◌∈◌}
use Rattle.paper.specs.Questions.{fixed_set, question_work}
use Rattle.paper.specs.Records.{listing}
use Rattle.paper.specs.Refusals.{Reply, answer, is_open, over}
use Rattle.paper.specs.Row.{Row}
use Rattle.laws.specs.Built.{BuiltSet}
use Rattle.laws.specs.Fixings.{Allowed, DifferentPlaces, Enough, Entries, FixedAll, Fixing, GoodSet, Lent, SameFixings, Suffices, as_used, as_used_first, call_fix, call_fixes, fixings_of, narrowed, next}
use Rattle.laws.specs.Plain.{Head, Record}
use Rattle.laws.proofs.BuiltSets.{built_good, built_open}
use Rattle.laws.proofs.FixGood.{fix_accepted, fix_good, fix_lists, fix_shrinks}
use Rattle.laws.proofs.Lists.{here}
use Rattle.laws.proofs.Narrowing.{narrowed_order, narrowed_picked}
use Rattle.laws.proofs.OpenPlaces.{allowed_apart, allowed_rest, open_after, open_from_one}

narrowed_none : (rows : List Row) → narrowed [] rows ≡ rows
narrowed_none [] = refl
narrowed_none (row ∷ rows) = ap {B = List Row} (λ z. row ∷ z) (narrowed_none rows)

-- the head that one call answers, and its target as it leaves it
abbrev head_after : Head → List Record → Lent → Head
head_after h table l = (fixed_set h table l.fixing.place l.fixing.node).0

abbrev left_after : Head → List Record → Lent → List Record
left_after h table l = over (fixed_set h table l.fixing.place l.fixing.node).1 l.target

-- the first call, and then the others
after_first : (l : Lent) (ls : List Lent) (h : Head) (table : List Record) → GoodSet h table → Allowed h (fixings_of (l ∷ ls))
    → h.used ≤ length l.target → question_work h ≤ l.work
    → FixedAll ls (head_after h table l) (left_after h table l) → FixedAll (l ∷ ls) h table
after_first l ls h table G ok room enough others = record {
  head = others.head;
  left = others.left;
  accepted = ap (λ (r : Reply (Head × List Record)). next r l.target (call_fixes ls)) first ∙ others.accepted;
  lists = others.lists
      ∙ ap (narrowed (fixings_of ls)) (fix_lists h table G f.place f.node stands_open node l.target)
      ∙ narrowed_picked f (fixings_of ls) (listing h table) (open_from_one h f.place stands_open) (allowed_apart h f (fixings_of ls) ok);
  good = others.good;
  fixed = record { nodes = others.fixed.nodes; arity = others.fixed.arity; opens = opens };
}
  where
    f : Fixing
    f = l.fixing

    stands_open : is_open h f.place ≡ true
    stands_open = ok.all_open f here

    node : f.node < h.nodes
    node = ok.all_nodes f here

    opens : (place : ℕ) → (is_open others.head place ≡ true) ↔ ((is_open h place ≡ true) × (place ∈ map (λ g. g.place) (fixings_of (l ∷ ls)) → ⊥))
    opens place =
        let once = open_after h table f.place f.node place stands_open in
        let then = others.fixed.opens place in (
          λ e. let (still, not-later) = then.0 e in
              let (before, not_first) = once.0 still in
              (before, λ m. ⊎_elim not_first not-later (Memᴰ.cases_cons m)),
          λ (before, not-fixed). then.1 (once.1 (before, λ e. not-fixed (Memᴰ.head e)), λ m. not-fixed (Memᴰ.tail m)),
        )

    first : call_fix h table l ≡ answer (fixed_set h table f.place f.node)
    first = fix_accepted h table G f.place f.node stands_open node l.work (length l.target) enough room

-- no set on the way has more records than the first, so what is enough for those is enough
fixings_from : (ls : List Lent) (entries : Entries) (first : Head) → Enough entries first → (h : Head) (table : List Record) → GoodSet h table
    → h.used ≤ first.used → Allowed h (fixings_of ls) → Suffices entries ls h table → FixedAll ls h table
fixings_from [] entries first room h table G few ok enough =
    record {
      head = h;
      left = table;
      accepted = refl;
      lists = sym (narrowed_none (listing h table));
      good = G;
      fixed = record { nodes = refl; arity = refl; opens = λ place. (λ e. (e, λ m. Memᴰ.not-nil m), λ w. w.0) };
    }
fixings_from (l ∷ ls) entries first room h table G few ok enough =
    let f = l.fixing in
    let stands_open = ok.all_open f here in
    let node = ok.all_nodes f here in
    after_first l ls h table G ok (omega (arith, room h few, enough.0)) enough.1
    (fixings_from ls entries first room (head_after h table l) (left_after h table l)
    (fix_good h table G f.place f.node stands_open node l.target)
    (omega (arith, few, fix_shrinks h table G f.place f.node stands_open node))
    (allowed_rest h f (fixings_of ls) table ok) enough.2)

-- every fixing is accepted, and the listing is the full listing with only the rows that have those nodes there, in the old order,
-- the fixed places blank
pub fixings_right : (entries : Entries) (ls : List Lent) (h : Head) (table : List Record) → Enough entries h → GoodSet h table
    → Allowed h (fixings_of ls) → Suffices entries ls h table → FixedAll ls h table
fixings_right entries ls h table room G ok enough = fixings_from ls entries h room h table G (omega arith) ok enough

-- targets as long as the set at hand has records are enough, and so are targets as long as the first set has
pub used_enough : (first : Head) → Enough as_used first
used_enough first set few = omega arith

pub first_enough : (first : Head) → Enough (as_used_first first) first
first_enough first set few = few

-- any order of the same fixings lists the same
pub fixings_any_order : (ls ms : List Lent) (h : Head) (table : List Record) → SameFixings (fixings_of ls) (fixings_of ms)
    → (a : FixedAll ls h table) (b : FixedAll ms h table) → listing a.head a.left ≡ listing b.head b.left
fixings_any_order ls ms h table same a b =
    a.lists ∙ narrowed_order (fixings_of ls) (fixings_of ms) (listing h table) same ∙ sym b.lists

-- ---- a built set, from the bytes
module _ (input : List ℕ) (h : Head) (table : List Record) (B : BuiltSet input h table) where
  -- all its places are open
  pub built_allowed : (fs : List Fixing) → DifferentPlaces h fs → Allowed h fs
  built_allowed fs D = record {
    different = D.different;
    all_open = λ f m. let (from, to) = D.places f m in built_open input h table B f.place from to;
    all_nodes = D.nodes;
  }

  pub built_fixings : (entries : Entries) (ls : List Lent) → Enough entries h → DifferentPlaces h (fixings_of ls)
      → Suffices entries ls h table → FixedAll ls h table
  built_fixings entries ls room D enough =
      fixings_right entries ls h table room (built_good input h table B) (built_allowed (fixings_of ls) D) enough
