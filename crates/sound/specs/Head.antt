-- What the head asks for: its numbers, which are tested before the records, and its set, which is tested after them.
use Rattle.std.specs.Prelude.{Bool, true, ◌&&◌, List, [], ◌∷◌, ℕ, ◌^◌, eqb, ltb, leb, get_or}
use Rattle.paper.specs.declared.Head.{Head}
use Rattle.paper.specs.declared.Set.{Set}
use Rattle.paper.specs.declared.Set.TheVariants.{Empty as empty, Unit as unit, Record as at}
use Rattle.paper.specs.Lists.{every}
use Rattle.paper.specs.Row.{no_place}
use Rattle.sound.specs.Weights.{flag_in}

-- the clauses of `sound` that look at the head's numbers only
unfoldable pub head_fits : Head → ℕ → Bool
head_fits h entries =
    every (
    leb 1 h.nodes
    ∷ leb h.nodes 4095
    ∷ leb 1 h.arity
    ∷ leb h.arity 4
    ∷ ltb h.open_places (2 ^ h.arity)
    ∷ leb h.used 60000
    ∷ leb h.used entries
    ∷ [])

-- the clause that looks at the set, over the weights
abbrev pub set_fits : Head → List ℕ → Set → Bool
set_fits h weights empty = true
set_fits h weights unit = eqb h.open_places no_place
set_fits h weights (at i) = ltb i h.used && eqb (flag_in (get_or weights i 0)) h.open_places
