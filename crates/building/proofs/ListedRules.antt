-- What a build looks up. First the notes behind the lists, and that the lists stay where notes are put there. Then the rules of the present
-- node, by the lists: what they tell behind the rule at hand is the node's next rule. One law for every loop over the rules of a node.
use mathlib.Core.Bool.{true}
use mathlib.Core.List.{List, ◌++◌}
use mathlib.Core.Logic.{⊎_elim}
use mathlib.Core.Path.{◌∙◌, ◌≡◌, ap, subst, subst₂, sym}
use Prim.Native.Nat.{◌+◌, ◌-◌, ◌<◌, ◌^◌, ◌≤◌, ℕ}
use native.Mathlib.Omega.{arith}
use lib.ListN.{drop, get_or, length, length-drop, length-take, get_or-append, take, take-append-drop}
use lib.Seq.{drop-append_seam, take_all}
use Rattle.paper.specs.Questions.{has_place}
use Rattle.paper.specs.Refusals.{query_in}
use Rattle.paper.specs.Stream.{number, records_of}
use Rattle.stream.specs.Positions.{NextRule, after, is_rule_for, record_at}
use Rattle.stream.specs.RuleLists.{Listable, RuleLists, TellsNext, accepting_cell, cell_of, kind_for, label_for, list_numbers, place}
use Rattle.stream.proofs.Told.{led_behind}
use Rattle.building.specs.Batch.{Record}
use Rattle.building.specs.Kinds.{rule_above}
use Rattle.building.specs.Listed.{Listed, lookup_numbers}
use Rattle.building.specs.Splits.{Noted}
use Rattle.building.specs.Standing.{Standing, State}
use Rattle.building.proofs.Present.{label_here, low_label}

-- ---- the notes behind the lists
-- there is room for both
pub notes_room : {input lists : List ℕ} → Listed input lists → lookup_numbers ≤ length lists
notes_room {lists = lists} listed = omega (arith, listed.splits.room, length-drop list_numbers lists)

-- the part behind the lists, up to the end
pub notes_part : {input lists : List ℕ} {size : ℕ} → Listed input lists → size ≡ 2 ^ (query_in input).arity
    → Noted size (take (length lists - list_numbers) (drop list_numbers lists))
notes_part {lists = lists} listed e =
    subst₂ Noted (sym e)
    (sym (take_all (length lists - list_numbers) (drop list_numbers lists) (omega (arith, length-drop list_numbers lists)))) listed.splits

-- where another part is put there, the lists stay
module _ (lists rest : List ℕ) (long : list_numbers ≤ length lists) where
  before : length (take list_numbers lists) ≡ list_numbers
  before = length-take list_numbers lists ∙ omega arith

  same_cell : (i : ℕ) → i < list_numbers → get_or (take list_numbers lists ++ rest) i 0 ≡ get_or lists i 0
  same_cell i h =
      get_or-append (take list_numbers lists) rest 0 i (omega (arith, before))
      ∙ sym (get_or-append (take list_numbers lists) (drop list_numbers lists) 0 i (omega (arith, before)))
      ∙ ap (λ l. get_or l i 0) (take-append-drop list_numbers lists)

  pub rules_stay : (input : List ℕ) (from : ℕ) → Listable input from → RuleLists input from lists
      → RuleLists input from (take list_numbers lists ++ rest)
  rules_stay input from few r = record {
    first = λ s h. subst (NextRule input from (kind_for s) (label_for s)) (sym (same_cell s (omega arith))) (r.first s h);
    next = λ s i h inside e.
        subst (NextRule input (after input (place input from i)) (kind_for s) (label_for s)) (sym (same_cell (cell_of from (place input from i)) (omega arith)))
        (r.next s i h inside e);
    accepting = λ q h. ap (λ n. has_place n q) (same_cell accepting_cell (omega arith)) ∙ r.accepting q h;
  }

  pub part_behind : drop list_numbers (take list_numbers lists ++ rest) ≡ rest
  part_behind = ap (λ n. drop n (take list_numbers lists ++ rest)) (sym before) ∙ drop-append_seam (take list_numbers lists) rest

-- ---- the rules of the present node
module _ (input : List ℕ) (t : State) (work : List ℕ) (made : List Record) (s : Standing input t work made) (here : t.rule < length input)
    {lists : List ℕ} (listed : Listed input lists) where
  passed : records_of (drop t.rules input) ≡ s.rule.passed ++ records_of (drop t.rule input)
  passed = ap (λ n. records_of (drop n input)) s.constants.rules ∙ s.rule.records

  -- it stands behind the head
  pub rule_behind : t.rules ≤ t.rule
  rule_behind = led_behind s.rule.passed input t.rules t.rule here passed

  its_rule : is_rule_for (s.node.here.kind + rule_above) (number s.node.here 0) (record_at input t.rule) ≡ true
  its_rule = ⊎_elim (λ e. absurd (omega arith)) (λ w. w.1) s.rule.found

  pub next_listed : {next : ℕ} → ((from : ℕ) → TellsNext lists from (from + (t.rule - t.rules)) next)
      → NextRule input (after input t.rule) (s.node.here.kind + rule_above) (number s.node.here 0) next
  next_listed {next} told =
      subst (λ rule. TellsNext lists t.rules rule next) there (told t.rules) input (s.node.here.kind + rule_above)
      (number s.node.here 0) s.rule.passed
      (subst (λ n. RuleLists input n lists) (sym s.constants.rules) listed.rules)
      (omega (arith, label_here input t s.constants s.node, low_label input t s.constants s.node)) here passed its_rule
    where
      there : t.rules + (t.rule - t.rules) ≡ t.rule
      there = omega (arith, rule_behind)
