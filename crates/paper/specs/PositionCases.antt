-- Request 2026-04 worked by hand: the position that refusals 1 to 4 carry, as one list with one proof (proofs/PositionCases). Tree B has ten bytes and Q has 65, so
-- that what is put behind them stands at 75.
use Rattle.std.specs.Prelude.{List, [], ◌∷◌, ◌++◌, ℕ}
use Rattle.paper.specs.Refusals.{no_at, refused, build}
use Rattle.paper.specs.Cases.{Built, tree_b, query_q}

-- a build of these bytes, with work and table as long as B and Q ask for
abbrev pub build_of : List ℕ → Built
build_of input = build input 48 13

-- of B, Q, and these bytes
abbrev pub with_more : List ℕ → Built
with_more bytes = build_of (tree_b ++ (query_q ++ bytes))

abbrev pub cases : List (Built × Built)
cases =
    -- the tree ends with nothing, or with several subtrees: the place where it ended, be the input longer or not
    (build_of [], refused (no_at 1 0))
    ∷ (build_of query_q, refused (no_at 1 0))
    ∷ (build_of (1 ∷ 5 ∷ 1 ∷ 5 ∷ []), refused (no_at 1 4))
    ∷ (build_of (1 ∷ 5 ∷ 1 ∷ 5 ∷ query_q), refused (no_at 1 4))
    -- a tree record: cut, a label over 63, a branch with fewer than two unjoined
    ∷ (build_of (tree_b ++ (1 ∷ [])), refused (no_at 1 10))
    ∷ (build_of (tree_b ++ (1 ∷ 64 ∷ query_q)), refused (no_at 1 10))
    ∷ (build_of (tree_b ++ (2 ∷ 9 ∷ query_q)), refused (no_at 1 10))
    -- the input ends before a head: its length
    ∷ (build_of tree_b, refused (no_at 3 10))
    -- no head first, a head that is cut, an arity of 5
    ∷ (build_of (tree_b ++ (17 ∷ 5 ∷ 0 ∷ 0 ∷ query_q)), refused (no_at 3 10))
    ∷ (build_of (tree_b ++ (16 ∷ 2 ∷ [])), refused (no_at 3 10))
    ∷ (build_of (tree_b ++ (16 ∷ 5 ∷ 4 ∷ [])), refused (no_at 3 10))
    -- a second head, an unknown kind, a tree record, a rule that is cut, a state that is not below 4
    ∷ (with_more (16 ∷ 2 ∷ 4 ∷ []), refused (no_at 3 75))
    ∷ (with_more (20 ∷ []), refused (no_at 3 75))
    ∷ (with_more (1 ∷ 5 ∷ []), refused (no_at 3 75))
    ∷ (with_more (18 ∷ 9 ∷ 0 ∷ 0 ∷ 0 ∷ []), refused (no_at 3 75))
    ∷ (with_more (19 ∷ 4 ∷ []), refused (no_at 3 75))
    -- said twice: the second of the two
    ∷ (with_more (17 ∷ 5 ∷ 1 ∷ 0 ∷ []), refused (no_at 4 75))
    ∷ (with_more (19 ∷ 2 ∷ []), refused (no_at 4 75))
    -- two records at fault: the first, whichever its number
    ∷ (with_more (19 ∷ 2 ∷ 19 ∷ 4 ∷ []), refused (no_at 4 75))
    ∷ (with_more (19 ∷ 3 ∷ 19 ∷ 4 ∷ 19 ∷ 2 ∷ []), refused (no_at 3 77))
    ∷ []
