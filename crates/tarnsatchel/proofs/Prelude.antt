-- What the walks of the functions for C import, in one place: names of the kit and of walks, by the file that they come from.
-- It says nothing of the crate.
pub use Rattle.walks.proofs.Prelude.{ !, ◌$◌, and_then, cited, emp, fact_i, id⊢, no_more, refl, u16, u64, u8, usize, w16, w64, w8, List, [], ◌∷◌}
unfoldable pub use Rattle.walks.proofs.Prelude.{tables_of}
pub use denote.Array.{Array}
pub use Rattle.walks.proofs.Arguments.{Lent, spent}
pub use Rattle.walks.proofs.Entries.{Entry}
pub use Rattle.walks.proofs.Functions.{Parameter, ends, given_output, given_read, given_written, lends, mine, value, walks}
pub use Rattle.walks.proofs.Lines.{calls, local, none, off, on, relends, repasses, val}
pub use Rattle.walks.proofs.Locals.{full}
pub use Rattle.walks.proofs.Steps.{slice_typed}
pub use Rattle.walks.proofs.Values.{Value, enum, number}
pub use Rattle.sound.proofs.Heads.{head}
