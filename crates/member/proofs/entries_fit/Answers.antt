-- `entries_fit`: the test of each entry, with its index.
use Rattle.std.proofs.Common.{◌≡◌, ◌∙◌, ℕ, suc, Bool, cond, eqb, ltb, [], ◌∷◌, refl, rules, tests, add-one}
use Rattle.std.specs.List.{list_all, enumerate_from}
use Rattle.std.proofs.lemmas.Iterator.{YieldsList-from_slice}
use Rattle.std.proofs.lemmas.Iterator.Consumers.{YieldsList-from_enumerate}
use Rattle.std.proofs.lemmas.Iterator.Search.{all_from_yields_List}
use Rattle.paper.specs.declared.Head.{Head}
use Rattle.paper.specs.Questions.{has_place}
use Rattle.paper.specs.Refusals.{entries_fit}
use Rattle.paper.specs.Row.{Row, blank}
use Rattle.member.proofs.entries_fit.Goals as goal

abbrev fits : Head → ℕ × ℕ → Bool
fits h p = cond (has_place h.open_places p.0) (ltb p.1 h.nodes) (eqb p.1 blank)

all_fit : (h : Head) (i : ℕ) (row : Row) → list_all (fits h) (enumerate_from i row) ≡ entries_fit h i row
all_fit h i [] = refl
all_fit h i (x ∷ xs) = rw (add-one i, all_fit h (suc i) xs) refl

pub returns : goal.returns
returns c =
    all_from_yields_List (fits c.args.head) _ _ _ c.all.ensures.ran
    (YieldsList-from_enumerate (YieldsList-from_slice c.args.row.now cc) cc) (λ x b q k. search (rules, tests))
    ∙ all_fit c.args.head 0 c.args.row.now
