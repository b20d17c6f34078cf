-- A stack as a list, the last item put first.
use Rattle.std.specs.Prelude.{List, [], ◌∷◌, Option, None, Some}

abbrev pub top_of : {A : Type 0} → List A → Option A
top_of [] = None
top_of (x ∷ xs) = Some x

abbrev pub below_top : {A : Type 0} → List A → List A
below_top [] = []
below_top (x ∷ xs) = xs
