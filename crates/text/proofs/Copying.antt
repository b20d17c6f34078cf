-- What is told of a conversion's result, or of none, is what the request says.
use mathlib.Core.Bool.{Bool, cond, false, true}
use mathlib.Core.List.{List}
use mathlib.Core.Option.{none, some}
use mathlib.Core.Path.{◌≡◌, ap, refl, subst, sym}
use Prim.Native.Nat.{ℕ}
use native.Mathlib.Omega.{arith}
use borrow.Author.Tests.{leb-false, leb-true}
use lib.Dec.{leb}
use lib.ListN.{length}
use Rattle.std.specs.Prelude.{Err, Ok, Result}
use Rattle.paper.specs.declared.Refusal.{Refusal}
use Rattle.paper.specs.declared.Refusal.TheVariants.{ShortOutput}
use Rattle.paper.specs.Conversions.{Conversion, no_room, of_none, the_result}
use Rattle.paper.specs.Refusals.{answer, no, over, refused}
use Rattle.paper.specs.WrittenTree.{WrittenTree}
use Rattle.text.specs.Face.{Converts}
use Rattle.text.specs.Told.{told}

module _ (Of : WrittenTree → Type 0) (result : WrittenTree → List ℕ) where
  -- what `told` says of it
  abbrev Replies : List ℕ → Result ℕ Refusal × List ℕ → Type 0
  Replies out t = Converts (Conversion Of result (length out)) out t.0 t.1

  pub unconverted : ((w : WrittenTree) → Of w → ⊥) → (out : List ℕ) (r : Result ℕ Refusal) (out' : List ℕ) → (r, out') ≡ told none out
      → Converts (Conversion Of result (length out)) out r out'
  unconverted never out r out' e =
      subst (Replies out) (sym e) (record { reply = refused (no 15); right = of_none never; answer = refl; written = refl })

  pub converted : (w : WrittenTree) → Of w → (bytes out : List ℕ) → bytes ≡ result w → (r : Result ℕ Refusal) (out' : List ℕ)
      → (r, out') ≡ told (some bytes) out → Converts (Conversion Of result (length out)) out r out'
  converted w of bytes out made r out' e = subst (Replies out) (sym e) (go (leb (length bytes) (length out)) refl)
    where
      go : (p : Bool) → leb (length bytes) (length out) ≡ p
          → Replies out (cond p (Ok (length bytes), over bytes out) (Err ShortOutput, out))
      go true fits = record {
        reply = answer (result w);
        right = the_result of (omega (arith, ap length made, leb-true (length bytes) (length out) fits));
        answer = ap (λ t. answer (length t)) made;
        written = ap (λ t. over t out) made;
      }
      go false full = record {
        reply = refused (no 10);
        right = no_room of (omega (arith, ap length made, leb-false (length bytes) (length out) full));
        answer = refl;
        written = refl;
      }
