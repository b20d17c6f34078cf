-- The kinds of the stream's records that the building asks for, as in the paper's table.
use Rattle.std.specs.Prelude.{ℕ}

-- a leaf of the tree; each other record of the tree is a branch
abbrev pub leaf_kind : ℕ
leaf_kind = 1

-- a rule's kind is so much above the kind of its nodes: 17 above a leaf's 1, 18 above a branch's 2
abbrev pub rule_above : ℕ
rule_above = 16

abbrev pub leaf_rule_kind : ℕ
leaf_rule_kind = 17

abbrev pub branch_rule_kind : ℕ
branch_rule_kind = 18
