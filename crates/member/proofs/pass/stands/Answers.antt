-- `stands`: the test of each entry, with its index; of a row of four entries at most all are taken.
use Rattle.std.proofs.Common.{◌∙◌, ℕ, Bool, not, ◌||◌, eqb, ap, arith, rules, tests}
use Rattle.std.specs.List.{list_all, enumerate_from}
use Rattle.std.proofs.lemmas.List.{take_all}
use Rattle.std.proofs.lemmas.Iterator.{YieldsList-from_slice, YieldsList-from_take}
use Rattle.std.proofs.lemmas.Iterator.Consumers.{YieldsList-from_enumerate}
use Rattle.std.proofs.lemmas.Iterator.Search.{all_from_yields_List}
use Rattle.paper.specs.Questions.{has_place}
use Rattle.paper.specs.Row.{Row}
use Rattle.member.proofs.pass.stands.Goals as goal

abbrev stands_at : ℕ → ℕ → ℕ × ℕ → Bool
stands_at node flag p = not (has_place flag p.0) || eqb node p.1

pub returns : goal.returns
returns c =
    all_from_yields_List (stands_at c.args.node c.args.flag) _ _ _ c.all.ensures.ran
    (YieldsList-from_enumerate (YieldsList-from_take 4 (YieldsList-from_slice c.args.row.now cc) (cc)) cc) (λ x b q k. search (rules, tests))
    ∙ ap (λ (row : Row). list_all (stands_at c.args.node c.args.flag) (enumerate_from 0 row)) (take_all 4 c.args.row.now (omega (arith, c.requires)))
