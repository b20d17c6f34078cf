-- A table that only grows: the records before stay as they are, others come behind them.
use Rattle.std.specs.Prelude.{◌≡◌, List, ◌++◌}
use Rattle.laws.specs.Plain.{Record}

pub record Grows (before after : List Record) : Type 0 where
  pub more : List Record
  pub behind : after ≡ before ++ more
