-- The cell of a rule is that of the bytes before it, wherever the first record stands.
use Rattle.std.proofs.Common.{◌≡◌, ◌+◌, ◌-◌, get_or, ◌∙◌, ap, subst, sym, arith}
use Rattle.stream.specs.RuleLists.{TellsNext, cell_behind}
use Rattle.stream.proofs.Told.{tells_next}
use Rattle.stream.proofs.lists.rule_after.Goals as goal

pub returns : goal.returns
returns c from =
    let a = c.args in
    let behind : a.behind ≡ from + a.behind - from = omega arith in
    subst (TellsNext a.lists.now from (from + a.behind))
    (sym (c.number_in.ensures ∙ ap (λ i. get_or a.lists.now i 0) (c.cell_of.ensures ∙ ap cell_behind behind)))
    (tells_next a.lists.now from (from + a.behind))
