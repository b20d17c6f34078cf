-- The state that a loop over the table holds by value: any struct of plain data that has a field `going: bool`. First the struct (`Shape`) and a
-- field of it that is a usize (`Field`), then what the laws of the loops use of them.
-- Assumes nothing, but for `Logic` in `state_typed` and `field_fits`.
use mathlib.Core.Path.{◌≡◌, refl, subst}
use Prim.Native.Nat.{ℕ, zero}
use mathlib.Core.Bool.{Bool, true, false, not}
use mathlib.Core.Option.{some}
use mathlib.Core.List.{[], ◌∷◌}
use lib.Dec.{T as Tr}
use seplogic.Ra.Ura.{Ura}
use mir.Syntax.{Ty, Tys, w64, ty_int, ty_bool, ty_struct}
use mir.Val.{Val, Vals, WT, Fits, vbool, vint, vstruct, of_list}
use mir.Fields.{get_v}
use prog.Memory.{field_at}
use types.Logic.{Logic}
use store.Struct.{get_wt}
use denote.RattleType.{RattleType, mirs, flat}
use denote.Laws.{Is, valss}
use denote.Struct.Declared.{Declared, fields, row}
use denote.Struct.Struct.{to_tys, Plains}
use denote.Struct.Laws as LL
use Rattle.walks.proofs.Steps.{Typed}
use Rattle.walks.proofs.Values.{Value, struct}

-- a declared struct's fields, as MIR has them
abbrev types_of : Declared → Tys
types_of D = to_tys (mirs (fields D))

abbrev values_of : (D : Declared) → LL.Laws D → D.D → Vals
values_of D laws s = of_list (flat (fields D) (valss (fields D) (LL.spells D.parts laws) (D.to s)))

pub record Shape : Type 2 where
  -- of a struct S: `S.the_type`, and `the_laws`, `the_plain`, `the_copy` of `S.Laws`
  pub type : Declared
  pub laws : LL.Laws type
  pub plains : Plains (fields type)
  pub copies : LL.Copyables type.parts
  -- the field `going`: its number, its offset in bytes, and its value
  pub number : ℕ
  pub place : ℕ
  pub going : type.D → Bool
  pub there : field_at zero (types_of type) number ≡ some (ty_bool, place)
  pub is : (s : type.D) → get_v (values_of type laws s) number ≡ vbool (going s)

-- of a struct S with the field `going` of this number, at this offset: the two equations are `refl`
abbrev pub shape_of : (S : Declared) (laws : LL.Laws S) → Plains (fields S) → LL.Copyables S.parts → (number place : ℕ) (going : S.D → Bool)
    → field_at zero (types_of S) number ≡ some (ty_bool, place) → ((s : S.D) → get_v (values_of S laws s) number ≡ vbool (going s)) → Shape
shape_of S laws plains copies number place going there is = record {
  type = S;
  laws = laws;
  plains = plains;
  copies = copies;
  number = number;
  place = place;
  going = going;
  there = there;
  is = is;
}

pub record Field (X : Shape) : Type 0 where
  pub number : ℕ
  pub place : ℕ
  pub value : X.type.D → ℕ
  pub there : field_at zero (types_of X.type) number ≡ some (ty_int w64, place)
  pub is : (s : X.type.D) → get_v (values_of X.type X.laws s) number ≡ vint w64 (value s)

module _ (X : Shape) where
  -- the state: its values, its type in Rattle, and its type in MIR
  abbrev pub State : Type 0
  State = X.type.D

  abbrev pub StateType : RattleType
  StateType = row X.type

  abbrev pub StateTy : Ty
  StateTy = ty_struct X.type.name (types_of X.type)

  abbrev pub machine : State → Val
  machine s = vstruct (values_of X.type X.laws s)

  -- as the laws of lines pass it
  abbrev pub state_value : Value
  state_value = struct X.type X.laws X.plains X.copies

  module _ {M : Type 1} {𝓤 : Ura M} (𝓛 : Logic 𝓤) (s : State) (good : Is StateType s (machine s ∷ [])) where
    pub state_typed : Typed StateTy (machine s)
    state_typed = ((LL.lawful X.type X.laws 𝓛).typed s (machine s ∷ []) good).0

    pub field_fits : (F : Field X) → Fits w64 (F.value s)
    field_fits F = subst WT (F.is s) (get_wt (values_of X.type X.laws s) F.number state_typed.1)

pub holds : (y : Bool) → Tr y → y ≡ true
holds true h = refl
holds false h = absurd h

pub fails : (y : Bool) → Tr (not y) → y ≡ false
fails true h = absurd h
fails false h = refl
