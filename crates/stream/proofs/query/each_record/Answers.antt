-- Each turn passes one more record, or is refused as all of them are.
use Rattle.std.proofs.Common.{true, ◌≡◌, ◌+◌, ◌∙◌, [], ◌∷◌, length, sym, arith}
use Rattle.paper.specs.Query.{rules_of}
use Rattle.stream.specs.Positions.{after, record_at}
use Rattle.stream.proofs.Fitting.{a_rule}
use Rattle.stream.proofs.QueryReading.{query_ends, query_goes_on, query_refused}
use Rattle.stream.proofs.QuerySteps.{AtFittingRecord, Looked, few_rules, key_inside, many_rules, no_fit, no_rule, room, rules_as_before, rules_with_it, said_first, said_twice, table_next}
use Rattle.stream.proofs.query.each_record.Goals as goal
use Rattle.stream.proofs.query.each_record.Goals.{After-record_key, After-say, Else-not-record_fits, else-input-at-ne-ACCEPTING_STATE, then-input-at-ne-ACCEPTING_STATE+else-rules-ge-MOST_RULES}

pub returns-then-not-record_fits : goal.returns-then-not-record_fits
returns-then-not-record_fits c =
    query_refused _ _ _ _ c.loop-at.invariant.0 c.loop-at-test.true (no_fit c.args.input.now c.args.head.facts _ (sym c.if-not-record_fits.ensures))

-- behind that test the record fits
fitting : (c : Else-not-record_fits) → AtFittingRecord c.args.input.now c.args.head.facts c.loop-at.at c.loop-at.said
fitting c = record {
  few_states = c.args.head.few_states;
  record_here = record { here = c.loop-at-test.true; fitting = sym c.if-not-record_fits.ensures };
  before = c.loop-at.invariant.0.before;
  table = c.loop-at.invariant.1;
}

pub returns-then-rules-ge-MOST_RULES : goal.returns-then-rules-ge-MOST_RULES
returns-then-rules-ge-MOST_RULES c =
    let k = fitting (goal.at.returns-then-rules-ge-MOST_RULES c).Else-not-record_fits in
    query_refused _ _ _ _ c.loop-at.invariant.0 c.loop-at-test.true
    (many_rules _ _ _ _ k (a_rule c.args.head.facts (record_at c.args.input.now c.loop-at.at) k.record_here.fitting c.if-input-at-ne-ACCEPTING_STATE.true) (omega (arith, c.loop-at.invariant.0.rules_are)))

-- it is no rule too many, and is counted if it is one
counted : (c : After-record_key)
    → (room _ _ _ _ (fitting (goal.at.After-record_key c).Else-not-record_fits) ≡ true)
    × (c.if-input-at-ne-ACCEPTING_STATE.rules ≡ c.loop-at.rules + length (rules_of (record_at c.args.input.now c.loop-at.at ∷ [])))
counted c =
    let k = fitting (goal.at.After-record_key c).Else-not-record_fits in
    elim c.if-input-at-ne-ACCEPTING_STATE.branch [
      | then-input-at-ne-ACCEPTING_STATE+else-rules-ge-MOST_RULES w ↦ (
        few_rules _ _ _ _ k (omega (arith, c.loop-at.invariant.0.rules_are, w.if-rules-ge-MOST_RULES.false)),
        w.rules-is ∙ rules_with_it _ _ _ _ k _ w.if-input-at-ne-ACCEPTING_STATE.true,
      )
      | else-input-at-ne-ACCEPTING_STATE w ↦ (
        no_rule _ _ _ _ k w.if-input-at-ne-ACCEPTING_STATE.false,
        w.rules-is ∙ rules_as_before _ _ _ _ k _ w.if-input-at-ne-ACCEPTING_STATE.false,
      )
    ]

pub say-requires : goal.say-requires
say-requires c = key_inside _ _ _ _ (fitting (goal.at.say-requires c).Else-not-record_fits) _ c.record_key.ensures

-- its key is looked up
looked : (c : After-say) → Looked c.args.input.now c.args.head.facts c.loop-at.at c.loop-at.said c.say.result c.say.new.said
looked c = record { key = _; its_key = c.record_key.ensures; says = c.say.ensures; long = c.say.auto.said }

pub returns-then-say : goal.returns-then-say
returns-then-say c =
    let at = goal.at.returns-then-say c in
    query_refused _ _ _ _ c.loop-at.invariant.0 c.loop-at-test.true
    (said_twice _ _ _ _ (fitting at.Else-not-record_fits) _ _ (looked at.After-say) (counted at.After-record_key).0 c.if-say.true)

pub loop-at-preserved : goal.loop-at-preserved
loop-at-preserved c =
    let at = goal.at.loop-at-preserved c in
    let k = fitting at.Else-not-record_fits in
    let l = looked at.After-say in
    let next : c.loop-at.at + (1 + c.body_length.result) ≡ after c.args.input.now c.loop-at.at = omega (arith, c.body_length.ensures) in
    rw next (
      query_goes_on _ _ _ _ c.loop-at.invariant.0 c.loop-at-test.true
          (said_first _ _ _ _ k _ _ l (counted at.After-record_key).0 c.if-say.false) _ (counted at.After-record_key).1,
      table_next _ _ _ _ k _ _ l,
    )

pub returns : goal.returns
returns c = query_ends _ _ _ _ c.loop-at.invariant.0 c.loop-at-test.false
