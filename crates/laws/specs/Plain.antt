-- The plain types of `paper`, under the names that its definitions give them.
pub use Rattle.paper.specs.declared.Record.{Record}
pub use Rattle.paper.specs.declared.Set.{Set}
pub use Rattle.paper.specs.declared.Set.TheVariants.{Empty as empty, Unit as unit, Record as at}
pub use Rattle.paper.specs.declared.Head.{Head}
