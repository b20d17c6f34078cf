-- Sets as lists of rows: the same building, with a list of rows in each slot. It is what the records of a build are held against.
use Rattle.std.specs.Prelude.{List, [], ◌∷◌, ◌++◌, ℕ}
use Rattle.paper.specs.Lists.{is_nil}
use Rattle.paper.specs.Tree.{Tree}
use Rattle.paper.specs.Query.{Query}
use Rattle.paper.specs.Row.{Row, single_row, products}
use Rattle.paper.specs.Building.{Sets, answer_of}

-- nothing is handed on
abbrev pub row_sets : ℕ → Sets (Unit {0}) (List Row)
row_sets arity = record {
  nothing = [];
  is_nothing = is_nil;
  single = λ n b s. (tt, single_row arity n b ∷ []);
  product = λ n b xs ys s. (tt, products xs ys);
  union = λ n b xs ys s. (tt, xs ++ ys);
}

-- the rows of a query's answer, in the order in which they are listed
abbrev pub answer_rows : Query → Tree → List Row
answer_rows Q t = (answer_of (row_sets Q.arity) Q t tt).1
