-- P1 to P10 and the four examples under them are so (specs/Cases): one list, one proof, by computing.
use Rattle.std.specs.Prelude.{◌≡◌, map, refl}
use Rattle.paper.specs.Cases.{cases}

pub worked : map (λ c. c.0) cases ≡ map (λ c. c.1) cases
worked = refl
