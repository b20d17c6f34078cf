-- `State::unite_root` unites the slot of one more state, if that is accepting.
use Rattle.std.proofs.Common.{◌<◌, ℕ, List, ap, arith, not}
use Rattle.building.specs.Bounds.{most_states}
use Rattle.building.specs.Roots.{StandsListed}
use Rattle.building.specs.Standing.{State}
use Rattle.building.proofs.UnitedRoots.{RootReady, next_skipped, next_united, root_ready}
use Rattle.building.proofs.state.State.unite_root.Goals as goal

-- what is known from the start
ready : (t : State) (lists work : List ℕ) (state : ℕ) (s : StandsListed t lists work) → state < t.shape.states → RootReady s.0 t work state
ready t lists work state s h = root_ready s.0 t work s.1.0.0 s.1.0.1 state h

-- the state is one of 16
small : (t : State) (lists work : List ℕ) (state : ℕ) → StandsListed t lists work → state < t.shape.states → state < most_states
small t lists work state s h = omega (arith, ready t lists work state s h)

pub returns-then-not-accepts : goal.returns-then-not-accepts
returns-then-not-accepts c =
    let a = c.args in
    let r = c.requires in
    next_skipped a.self.now a.lists.now a.work.now a.state a.made r.count_le_count.0 r.count_le_count.1 r.count_le_count.2 a.batch.now
    (small _ _ _ _ r.stands_listed.0 r.state_lt_states.0) c.accepts.result c.accepts.ensures.0 (ap not c.if-not-accepts.true)

pub shelf_at-requires : goal.shelf_at-requires
shelf_at-requires c =
    let r = ready _ _ _ _ c.requires.stands_listed.0 c.requires.state_lt_states.0 in (omega (arith, r), omega (arith, r))

pub overflow_add-at : goal.overflow_add-at
overflow_add-at c =
    omega (arith, (ready _ _ _ _ c.requires.stands_listed.0 c.requires.state_lt_states.0).slot c.shelf_at.ensures c.flags-places.ensures)

pub overflow_cast-self : goal.overflow_cast-self
overflow_cast-self c = omega (arith, ready _ _ _ _ c.requires.stands_listed.0 c.requires.state_lt_states.0)

pub offset_bounds-work-at : goal.offset_bounds-work-at
offset_bounds-work-at c =
    omega (arith, (ready _ _ _ _ c.requires.stands_listed.0 c.requires.state_lt_states.0).slot c.shelf_at.ensures c.flags-places.ensures)

pub bounds-work-at : goal.bounds-work-at
bounds-work-at c = ((ready _ _ _ _ c.requires.stands_listed.0 c.requires.state_lt_states.0).slot c.shelf_at.ensures c.flags-places.ensures).0

pub union-requires-clause-flag_lt_most_flags : goal.union-requires-clause-flag_lt_most_flags
union-requires-clause-flag_lt_most_flags c =
    omega (arith, ready _ _ _ _ c.requires.stands_listed.0 c.requires.state_lt_states.0, c.flags-places.ensures)

pub union-requires-clause-left_bound : goal.union-requires-clause-left_bound
union-requires-clause-left_bound c =
    let slot = (ready _ _ _ _ c.requires.stands_listed.0 c.requires.state_lt_states.0).slot c.shelf_at.ensures c.flags-places.ensures in
    (omega (arith, slot.1, c.requires.count_le_count.0), omega (arith, slot.1, c.requires.count_le_count.0))

pub returns : goal.returns
returns c =
    let a = c.args in
    let r = c.requires in
    next_united a.self.now a.lists.now a.work.now a.state a.made r.count_le_count.0 r.count_le_count.1 r.count_le_count.2 a.batch.now
    (small _ _ _ _ r.stands_listed.0 r.state_lt_states.0) c.accepts.result c.accepts.ensures.0 (ap not c.if-not-accepts.false) r.state_lt_states.0
    c.shelf_at.ensures c.flags-places.ensures c.union.ensures
