-- Plain data that is passed by value: a number, a declared struct, a declared enum. First what the laws of walks use of such a type (`Value`), then the
-- kinds, then the steps.
-- Assumes `Logic`.
use mathlib.Core.Path.{◌≡◌, refl, sym, subst}
use mathlib.Core.List.{List, [], ◌∷◌}
use seplogic.Ra.Ura.{Ura}
use mir.Syntax.{Ty, Width, ty_int, ty_unit}
use mir.Val.{Val, vint, vunit}
use base.Fml.{ftrue}
use types.Logic.{Logic}
use types.Kit.{Item, ‵, Go, !, Goal, Step}
use denote.RattleType.{RattleType}
use denote.Laws.{Is, Tells, Makes}
use denote.Exit.{Exit, Last, left, unchanged, yes}
use denote.Plain.{Nothing, UInt, Nothing-Makes, Nothing-Tells, uint_Lawful, uint_Makes, uint_Tells}
use denote.Memory.{lone}
use denote.Steps.{owned}
use denote.Struct.Declared as SD
use denote.Struct.Struct.{Plains}
use denote.Struct.Laws as LL
use denote.Enum.Declared as ED
use denote.Enum.Enum.{Few, Plainss}
use denote.Enum.Laws as Le
use Rattle.walks.proofs.Steps.{Typed}

pub record Value : Type 2 where
  pub type : RattleType
  pub mir : Ty
  pub low : type.Denot → Val
  pub tells : Tells type (Is type) (λ x. low x ∷ [])
  pub makes : {M : Type 1} {𝓤 : Ura M} (𝓛 : Logic 𝓤) → Makes 𝓛 type (Is type)
  pub typed : {M : Type 1} {𝓤 : Ura M} (𝓛 : Logic 𝓤) → (x : type.Denot) → Is type x (low x ∷ []) → Typed mir (low x)
  pub still : type.exit yes ≡ unchanged

-- ---- the kinds
abbrev pub number : Width → Value
number w = record {
  type = UInt w;
  mir = ty_int w;
  low = vint w;
  tells = uint_Tells w;
  makes = λ 𝓛. uint_Makes 𝓛 w;
  typed = λ 𝓛 x good. ((uint_Lawful 𝓛 w).typed x _ good).0;
  still = refl;
}

-- of a struct S: `S.the_type`, and `the_laws`, `the_plain`, `the_copy` of `S.Laws`
abbrev pub struct : (S : SD.Declared) → LL.Laws S → Plains (SD.fields S) → LL.Copyables S.parts → Value
struct S laws plain copy = record {
  type = SD.row S;
  mir = lone (SD.row S).mir;
  low = LL.val S laws;
  tells = LL.tells S laws;
  makes = λ 𝓛. LL.makes S plain 𝓛;
  typed = λ 𝓛 x good. ((LL.lawful S laws 𝓛).typed x _ good).0;
  still = LL.still S copy yes;
}

-- of an enum E likewise
abbrev pub enum : (E : ED.Declared) (laws : Le.Laws E) → Plainss (ED.variants E) → Le.Copyabless E.parts → Few (ED.shape E) → Value
enum E laws plain copy few = record {
  type = ED.row E;
  mir = lone (ED.row E).mir;
  low = Le.val E laws;
  tells = Le.tells E laws;
  makes = λ 𝓛. Le.makes E plain 𝓛;
  typed = λ 𝓛 x good. ((Le.lawful E laws 𝓛 few).typed x _ good).0;
  still = Le.still E copy yes;
}

-- what a function answers that answers nothing
abbrev pub unit : Value
unit = record {
  type = Nothing;
  mir = ty_unit;
  low = λ _. vunit;
  tells = Nothing-Tells;
  makes = λ 𝓛. Nothing-Makes 𝓛;
  typed = λ 𝓛 x good. (tt, tt);
  still = refl;
}

-- ---- the steps
module _ (P : Value) where
  abbrev pub Of : Type 0
  Of = P.type.Denot

  abbrev pub Good : Of → Type 0
  Good x = Is P.type x (P.low x ∷ [])

  -- of a value that is passed nothing is bound at exit, and nothing is said
  pub bound : (x : Of) → Last (P.type.exit yes) x
  bound x = subst (λ (e : Exit Of). Last e x) (sym P.still) tt

  pub unsaid : (x : Of) (f : Last (P.type.exit yes) x) → left (P.type.exit yes) x f ≡ ftrue
  unsaid x = subst (λ (e : Exit Of). (f : Last e x) → left e x f ≡ ftrue) (sym P.still) (λ f. refl)

  -- what it owns is had for nothing
  pub owns_value : {M : Type 1} {𝓤 : Ura M} {𝓛 : Logic 𝓤} {Γ : List (Item 𝓤)} {G : Goal 𝓤 𝓛.H}
      → Go {0} → (x : Of) → Good x → Step (Go {0}) 𝓛 (‵ (P.type.own_val x (P.low x ∷ [])) ∷ Γ) G Γ G
  owns_value {𝓤 = 𝓤} {𝓛 = 𝓛} t x good = owned ! P.type (Is P.type) (P.makes 𝓛) x (P.low x ∷ []) good
