-- The entries of a row written place by place over blanks.
use mathlib.Core.Bool.{Bool, false, true}
use mathlib.Core.Path.{◌∙◌, ◌≡◌, refl, sym}
use Prim.Native.Nat.{◌+◌, ◌<◌, ◌≤◌, ℕ}
use native.Mathlib.Omega.{arith}
use borrow.Author.Tests.{eqb-false, eqb-true}
use lib.Dec.{eqb}
use lib.ListN.{get_or, length, length-set, set, take}
use lib.Seq.{ext_get_or, get_or-set_other, get_or-set_same, get_or-take, length-take-le}
use Rattle.paper.specs.Row.{Row, blank}

-- the entries before a place are the row's, and the others are still blank
pub record Filled (arity : ℕ) (row : Row) (place : ℕ) (entries : Row) : Type 0 where
  pub long : length entries ≡ 4
  pub before : (p : ℕ) → p < arity → p < place → get_or entries p blank ≡ get_or row p blank
  pub behind : (p : ℕ) → place ≤ p → get_or entries p blank ≡ blank

module _ {arity : ℕ} {row : Row} {place : ℕ} {entries : Row} (f : Filled arity row place entries) where
  -- the node of an open place
  pub filled_open : (node : ℕ) → place < 4 → node ≡ get_or row place blank → Filled arity row (place + 1) (set entries place node)
  filled_open node small is-node = record {
    long = length-set entries place node ∙ f.long;
    before = λ p inside below. go p inside below (eqb p place) refl;
    behind = λ p above. get_or-set_other entries place p node blank (λ e. omega arith) ∙ f.behind p (omega arith);
  }
    where
      go : (p : ℕ) → p < arity → p < place + 1 → (c : Bool) → eqb p place ≡ c → get_or (set entries place node) p blank ≡ get_or row p blank
      go p inside below true e =
          rw (eqb-true p place e) (get_or-set_same entries place node blank (omega (arith, f.long)) ∙ is-node)
      go p inside below false e =
          let other : p ≡ place → ⊥ = eqb-false p place e in
          get_or-set_other entries place p node blank other ∙ f.before p inside (omega arith)

  -- a fixed place stays blank
  pub filled_fixed : (place < arity → get_or row place blank ≡ blank) → Filled arity row (place + 1) entries
  filled_fixed fixed = record {
    long = f.long;
    before = λ p inside below. go p inside below (eqb p place) refl;
    behind = λ p above. f.behind p (omega arith);
  }
    where
      go : (p : ℕ) → p < arity → p < place + 1 → (c : Bool) → eqb p place ≡ c → get_or entries p blank ≡ get_or row p blank
      go p inside below true e =
          let here : p ≡ place = eqb-true p place e in
          f.behind p (omega arith) ∙ sym (rw here (fixed (omega arith)))
      go p inside below false e = let other : p ≡ place → ⊥ = eqb-false p place e in f.before p inside (omega arith)

-- at the end they are the row
pub all_filled : {arity : ℕ} {row entries : Row} → Filled arity row 4 entries → arity ≤ 4 → length row ≡ arity → take arity entries ≡ row
all_filled {arity} {row} {entries} f small long =
    ext_get_or blank (take arity entries) row (taken ∙ sym long)
    (λ p below. get_or-take arity entries p blank (omega (arith, taken)) ∙ f.before p (omega (arith, taken)) (omega (arith, taken)))
  where
    taken : length (take arity entries) ≡ arity
    taken = length-take-le arity entries (omega (arith, f.long))
