-- The nodes of a build, one after the other: where the building stands after some of their rules, that it goes on from there, and what is left
-- where it stops. The idea: the table has what was made before the batch, and the batch is stored behind it.
use mathlib.Core.List.{List, [], ◌++◌, append-nil}
use mathlib.Core.Path.{◌≡◌, ap, refl, sym, ◌∙◌, subst}
use Prim.Native.Nat.{ℕ, ◌+◌, ◌≤◌}
use native.Mathlib.Omega.{arith}
use lib.ListN.{length, drop}
use Rattle.std.specs.Prelude.{Err, Ok}
use Rattle.paper.specs.declared.Refusal.{Refusal}
use Rattle.paper.specs.Refusals.{over}
use Rattle.table.specs.Batch.{stored}
use Rattle.building.specs.Batch.{Record, records_in}
use Rattle.building.specs.Bounds.{batch_numbers, batch_records, waiting_records}
use Rattle.building.specs.Coming.{GoneOn}
use Rattle.building.specs.Driving.{Ready, Driven}
use Rattle.building.specs.Roots.{Roots, Rooted}
use Rattle.building.specs.Standing.{AtRule, Filling, Standing, State, Stepped, Stopped}
use Rattle.building.specs.States.{emptied}
use Rattle.building.proofs.Limits.{constants_stay}
use Rattle.building.proofs.Storing.{stored_behind}

-- base is what the table's first records are, and the batch has the others. Few wait there, so that it has room for those of one rule more
pub record DrivenTo (input : List ℕ) (table : List Record) (s : State) (work : List ℕ) (table' : List Record) (t : State) (work' batch' : List ℕ)
    : Type 0 where
  pub base : List Record
  pub filling : Filling input t work' batch' base
  pub waiting : t.count ≤ waiting_records
  pub room : batch_numbers ≤ length batch'
  pub limit : t.limit ≡ s.limit
  pub asked : t.asked ≡ s.asked
  pub written : table' ≡ over base table
  pub kept : drop s.asked work' ≡ drop s.asked work

-- with an empty batch, where the table has all records that are made
emptied_filling : (input : List ℕ) (t : State) (work batch : List ℕ) (made : List Record) → Standing input t work made → t.from + t.count ≤ t.limit
    → Filling input (emptied t) work batch made
unfolding records_in
emptied_filling input t work batch made s few = record {
  standing = record {
    constants = constants_stay input t (emptied t) refl refl refl refl refl s.constants;
    node = s.node;
    slots = s.slots;
    rule = subst (λ all. AtRule input t.node t.rule s.node.here s.node.earlier s.node.stack (all, s.slots)) (sym (append-nil made))
        s.rule;
    frames = record { frames = s.frames.frames; low = λ i h. omega (arith, s.frames.low i h); room = s.frames.room };
    used = omega (arith, s.used, ap length (append-nil made));
  };
  start = s.used;
  few = omega arith;
}

module _ {input lists : List ℕ} {table : List Record} {s : State} {work : List ℕ} (ready : Ready input lists table s work) where
  -- no record is made
  pub driven_starts : (batch : List ℕ) → batch_numbers ≤ length batch → DrivenTo input table s work table s work batch
  unfolding records_in
  driven_starts batch room =
      let none : s.count ≡ 0 = omega (arith, ready.standing.used) in
      record {
        base = [];
        filling = record {
          standing = subst (λ n. Standing input s work ([] ++ records_in n batch)) (sym none) ready.standing;
          start = omega (arith, ready.standing.used);
          few = omega (arith, ready.standing.used);
        };
        waiting = omega arith;
        room = room;
        limit = refl;
        asked = refl;
        written = refl;
        kept = refl;
      }

  module _ {table' : List Record} {t : State} {work' batch' : List ℕ} (d : DrivenTo input table s work table' t work' batch') where
    -- what is stored of a batch stands behind what is there
    stored_on : (r : State) (batch'' : List ℕ) → length d.base ≡ r.from → r.from + r.count ≤ r.limit → r.limit ≡ t.limit
        → batch_numbers ≤ length batch'' → r.count ≤ batch_records
        → stored table' r.from batch'' r.count ≡ over (d.base ++ records_in r.count batch'') table
    stored_on r batch'' start few limit room count =
        (λ i. stored (d.written i) (sym start i) batch'' r.count)
        ∙ stored_behind d.base table batch'' r.count (omega (arith, d.limit, ready.entries)) (omega arith)

    -- some rules more
    module _ {r : State} {work'' batch'' : List ℕ} (turn : Stepped input t work' d.base r work'' batch'') where
      kept_on : drop s.asked work'' ≡ drop s.asked work
      kept_on = subst (λ (n : ℕ). drop n work'' ≡ drop n work') d.asked turn.rest ∙ d.kept

      -- the batch has room for the records of another rule
      pub rules_driven : r.count ≤ waiting_records → length batch'' ≡ length batch' → DrivenTo input table s work table' r work'' batch''
      rules_driven waiting long = record {
        base = d.base;
        filling = turn.filling;
        waiting = waiting;
        room = omega (arith, d.room);
        limit = turn.limit ∙ d.limit;
        asked = turn.asked ∙ d.asked;
        written = d.written;
        kept = kept_on;
      }

      -- or its records are stored
      pub batch_driven : length batch'' ≡ length batch'
          → DrivenTo input table s work (stored table' r.from batch'' r.count) (emptied r) work'' batch''
      batch_driven long = record {
        base = d.base ++ records_in r.count batch'';
        filling = emptied_filling input r work'' batch'' (d.base ++ records_in r.count batch'') turn.filling.standing turn.filling.few;
        waiting = omega arith;
        room = omega (arith, d.room);
        limit = turn.limit ∙ d.limit;
        asked = turn.asked ∙ d.asked;
        written = stored_on r batch'' turn.filling.start turn.filling.few turn.limit (omega (arith, d.room)) turn.count;
        kept = kept_on;
      }

    -- the next node
    pub node_driven : {r : State} {work'' : List ℕ} → GoneOn input t work' (d.base ++ records_in t.count batch') r work''
        → DrivenTo input table s work table' r work'' batch'
    node_driven {r} {work''} g = record {
      base = d.base;
      filling = record {
        standing = subst (λ n. Standing input r work'' (d.base ++ records_in n batch')) (sym g.count) g.standing;
        start = d.filling.start ∙ sym g.from;
        few = omega (arith, d.filling.few, g.from, g.count, g.limit);
      };
      waiting = omega (arith, g.count, d.waiting);
      room = d.room;
      limit = g.limit ∙ d.limit;
      asked = g.asked ∙ d.asked;
      written = d.written;
      kept = subst (λ (n : ℕ). drop n work'' ≡ drop n work') d.asked g.rest ∙ d.kept;
    }

    -- more records than fit, of rules or of the roots
    pub past_driven : {why : Refusal} {r : State} {work'' : List ℕ} {table'' : List Record} → Stopped input t work' why r work''
        → Driven input table s work (Err why) table'' r work''
    past_driven {work'' = work''} p = record {
      stopped = p.past;
      limit = p.limit ∙ d.limit;
      asked = p.asked ∙ d.asked;
      kept = subst (λ (n : ℕ). drop n work'' ≡ drop n work') d.asked p.rest ∙ d.kept;
    }

    pub past_roots_driven : {why : Refusal} {r : State} {table'' : List Record} (batch'' : List ℕ) → Roots input t d.base (Err why) r batch''
        → Driven input table s work (Err why) table'' r work'
    past_roots_driven batch'' (past, limit, asked) = past_driven (record { past = past; limit = limit; asked = asked; rest = refl })

    -- the root's set, whose records are stored
    pub roots_driven : {set : ℕ} {r : State} {batch'' : List ℕ} → length batch'' ≡ length batch' → Rooted input t d.base set r batch''
        → Driven input table s work (Ok set) (stored table' r.from batch'' r.count) r work'
    roots_driven {r = r} {batch''} long u = record {
      stopped = (d.base ++ records_in r.count batch'', u.done, stored_on r batch'' u.start u.done.few u.limit (omega (arith, d.room)) u.count);
      limit = u.limit ∙ d.limit;
      asked = u.asked ∙ d.asked;
      kept = d.kept;
    }
