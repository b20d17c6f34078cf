-- Request 2026-02's worked cases are so (specs/PadCases), by computing.
use Rattle.std.specs.Prelude.{◌≡◌, map, refl}
use Rattle.paper.specs.PadCases.{cases}

pub worked : map (λ c. c.0) cases ≡ map (λ c. c.1) cases
worked = refl
