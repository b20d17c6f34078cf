-- The rules of a query as its records stand in the stream, one after the other, and the splits of a matching one.
use Rattle.std.specs.Prelude.{◌≡◌, List, map, ℕ}
use Rattle.paper.specs.Stream.{StreamRecord, number}
use Rattle.paper.specs.Building.{Split, flags_beside}
use Rattle.building.specs.Kinds.{branch_rule_kind, leaf_rule_kind}

-- the record is a leaf rule, or a branch rule, for this label
abbrev pub LeafRuleFor : ℕ → StreamRecord → Type 0
LeafRuleFor label r = (r.kind ≡ leaf_rule_kind) × (number r 0 ≡ label)

abbrev pub BranchRuleFor : ℕ → StreamRecord → Type 0
BranchRuleFor label r = (r.kind ≡ branch_rule_kind) × (number r 0 ≡ label)

-- the splits of a branch rule
abbrev pub splits_for : ℕ → StreamRecord → List Split
splits_for arity r =
    map (λ w. record {
      state = number r 4;
      own = number r 1;
      left = number r 2;
      left_flag = w.0;
      right = number r 3;
      right_flag = w.1;
    }) (flags_beside arity (number r 1))
