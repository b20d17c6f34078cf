-- Two results that the contract of `single`, `product` or `union` allows are one: what becomes of the empty table tells which it is.
use mathlib.Core.List.{List, [], ◌∷◌}
use mathlib.Core.Path.{◌∙◌, ◌≡◌, ap, refl, sym}
use Rattle.paper.specs.declared.Record.{Record}
use Rattle.table.specs.Made.{Made, Makes, New, Standing, after}
use Rattle.table.specs.Sets.{Set}

abbrev made_of : List Record × Set → Made
made_of ([], set) = Standing set
made_of (r ∷ rs, set) = New r

made_told : (x : Made) → made_of (after x []) ≡ x
made_told (Standing set) = refl
made_told (New r) = refl

pub one_made : {make : List Record → List Record × Set} (x y : Made) → Makes make x → Makes make y → x ≡ y
one_made x y made_x made_y = sym (made_told x) ∙ ap made_of (sym (made_x []) ∙ made_y []) ∙ made_told y
