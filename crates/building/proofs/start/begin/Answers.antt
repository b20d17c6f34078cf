-- `start::begin` reads the tree, then the query, and refuses work that is too short, or lists the rules and comes to the first node.
use Rattle.std.proofs.Common.{arith, refl, length-drop, length-take}
use Rattle.std.proofs.lemmas.Result.{err_from_is_err_and}
use Rattle.building.proofs.Beginning.{asked_fits, asked_is, comes_first, first_started, lookup_listed, query_refused_at, read_facts, rules_listed}
use Rattle.building.proofs.Beginning.{short_work, small, tree_refused}
use Rattle.building.proofs.Turns.{size_small}
use Rattle.building.proofs.start.begin.Goals as goal

pub returns-in_err-tree : goal.returns-in_err-tree
returns-in_err-tree c =
    let p = err_from_is_err_and c.from_residual.result c.from_residual.ensures.1 in
    let (refuses, few) = tree_refused c.args.input.now _ c.args.entries c.in_err-tree.ensures in
    rw (p.1, p.2) (refuses, few, refl)

pub returns-in_err-query : goal.returns-in_err-query
returns-in_err-query c =
    let p = err_from_is_err_and c.from_residual-in_err-query.result c.from_residual-in_err-query.ensures.1 in
    let (refuses, few) = query_refused_at c.args.input.now _ c.args.entries c.in_ok-tree.ensures c.in_err-query.ensures in
    rw (p.1, p.2) (refuses, few, refl)

pub invariant_of-shape : goal.invariant_of-shape
invariant_of-shape c =
    let numbers = small _ _ _ (read_facts _ _ _ c.in_ok-tree.ensures c.in_ok-query.ensures) in
    record { few_places = numbers.1; few_states = numbers.2 }

pub overflow_add-asked : goal.overflow_add-asked
overflow_add-asked c = omega (arith, small _ _ _ (read_facts _ _ _ c.in_ok-tree.ensures c.in_ok-query.ensures))

pub overflow_mul-asked : goal.overflow_mul-asked
overflow_mul-asked c = omega (arith, asked_fits _ _ _ (read_facts _ _ _ c.in_ok-tree.ensures c.in_ok-query.ensures) c.frame_width.ensures)

pub returns-then-work-asked : goal.returns-then-work-asked
returns-then-work-asked c =
    let f = read_facts _ _ _ c.in_ok-tree.ensures c.in_ok-query.ensures in
    rw c.into.ensures (short_work _ _ _ f c.args.work.now c.args.entries c.frame_width.ensures c.if-work-asked.true, omega arith, refl)

pub note-requires : goal.note-requires
note-requires c =
    let l = c.list_rules.new.lists in
    let few = (small _ _ _ (read_facts _ _ _ c.in_ok-tree.ensures c.in_ok-query.ensures)).1 in (
      size_small c.flags.result (record { arity = c.in_ok-query.query.arity; small = few; powers = c.flags.ensures }),
      simp (length-take, length-drop) (omega arith),
    )

pub start_node-requires : goal.start_node-requires
start_node-requires c =
    let a = c.args in
    let f = read_facts _ _ _ c.in_ok-tree.ensures c.in_ok-query.ensures in (
      (
        _,
        comes_first _ _ _ f _ a.work.now a.entries c.min.ensures refl refl refl refl refl refl
            (asked_is _ _ _ f c.frame_width.ensures) c.if-work-asked.false refl refl refl,
      ),
      lookup_listed _ _ _ f c.list_rules.new.lists c.note.new.notes (rules_listed _ _ _ f a.lists.now c.list_rules.ensures (omega arith))
          (omega arith) c.flags.ensures c.note.ensures,
    )

pub returns : goal.returns
returns c =
    let a = c.args in
    let f = read_facts _ _ _ c.in_ok-tree.ensures c.in_ok-query.ensures in
    first_started _ _ _ f _ a.work.now a.entries c.min.ensures
    (c.start_node.ensures _
    (comes_first _ _ _ f _ a.work.now a.entries c.min.ensures refl refl refl refl refl refl
    (asked_is _ _ _ f c.frame_width.ensures) c.if-work-asked.false refl refl refl))
    (lookup_listed _ _ _ f c.list_rules.new.lists c.note.new.notes (rules_listed _ _ _ f a.lists.now c.list_rules.ensures (omega arith))
    (omega arith) c.flags.ensures c.note.ensures)
