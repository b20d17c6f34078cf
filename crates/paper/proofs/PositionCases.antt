-- Request 2026-04's worked positions are so (specs/PositionCases), by computing.
use Rattle.std.specs.Prelude.{◌≡◌, map, refl}
use Rattle.paper.specs.PositionCases.{cases}

pub worked : map (λ c. c.0) cases ≡ map (λ c. c.1) cases
worked = refl
