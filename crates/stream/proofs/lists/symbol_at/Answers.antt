-- The record's first two bytes tell its symbol.
use Rattle.std.proofs.Common.{get_or, subst}
use Rattle.stream.specs.RuleLists.{SymbolOf}
use Rattle.stream.proofs.Symbols.{symbol_told}
use Rattle.stream.proofs.lists.symbol_at.Goals as goal

pub returns : goal.returns
returns c =
    let a = c.args in
    symbol_told a.input.now a.at c.requires c.symbol_of.result
    (subst (λ label. SymbolOf (get_or a.input.now a.at 0) label c.symbol_of.result) c.byte_at.ensures c.symbol_of.ensures)
