-- The test of a set, from those of its head's numbers, its records and its set: it is that of `sound`, in both directions, and then the work has the
-- weights. First the head's numbers, then the set over the weights, then the whole.
use mathlib.Core.Bool.{Bool, ◌&&◌, false, true, true≢false}
use mathlib.Core.List.{List}
use mathlib.Core.Logic.Iff
use mathlib.Core.Logic.{⊎_elim}
use mathlib.Core.Path.{◌∙◌, ◌≡◌, ap, refl, sym}
use Prim.Native.Nat.{◌<◌, ◌^◌, ◌≤◌, ℕ}
use native.Mathlib.Omega.{arith}
use lib.ListN.{get_or, length}
use Rattle.paper.specs.declared.Head.{Head}
use Rattle.paper.specs.declared.Record.{Record}
use Rattle.paper.specs.declared.Set.{Set}
use Rattle.paper.specs.declared.Set.TheVariants.{Empty as empty, Unit as unit, Record as at}
use Rattle.paper.specs.Records.{used_of}
use Rattle.paper.specs.Refusals.{over}
use Rattle.paper.specs.Sound.{entry, sound}
use Rattle.laws.specs.QuestionCauses.{SetFits, Sound}
use Rattle.laws.proofs.Lists.{both_true, iff_eq, which}
use Rattle.laws.proofs.SoundTest.{is_sound, sound_is}
use Rattle.laws.proofs.Tests.{Says, says_and, says_at_most, says_below, says_equal, says_nothing}
use Rattle.sound.specs.Passing.{Judged, Passed, Weighing}
use Rattle.sound.specs.Weights.{flag_in, weights}
use Rattle.sound.specs.Head.{head_fits, set_fits}
use Rattle.sound.proofs.Cells.{weights_at, weights_length}
use Rattle.sound.proofs.Overwriting.{over_is, zeros_agree}
use Rattle.sound.proofs.WeightParts.{below_sixteen, flag_in_lem}

-- ---- the head
pub record HeadFits (h : Head) (entries : ℕ) : Type 0 where
  pub some_nodes : 1 ≤ h.nodes
  pub few_nodes : h.nodes ≤ 4095
  pub some_places : 1 ≤ h.arity
  pub few_places : h.arity ≤ 4
  pub open_below : h.open_places < 2 ^ h.arity
  pub few_used : h.used ≤ 60000
  pub used_there : h.used ≤ entries

pub says_head : (h : Head) (entries : ℕ) → Says (head_fits h entries) (HeadFits h entries)
unfolding head_fits
says_head h entries =
    Iff.trans
    (says_and (says_at_most 1 h.nodes)
    (says_and (says_at_most h.nodes 4095)
    (says_and (says_at_most 1 h.arity)
    (says_and (says_at_most h.arity 4)
    (says_and (says_below h.open_places (2 ^ h.arity))
    (says_and (says_at_most h.used 60000) (says_and (says_at_most h.used entries) says_nothing))))))) (
      λ (a, (b, (c, (d, (e, (f, (g, u))))))). record {
        some_nodes = a;
        few_nodes = b;
        some_places = c;
        few_places = d;
        open_below = e;
        few_used = f;
        used_there = g;
      },
      λ f. (f.some_nodes, (f.few_nodes, (f.some_places, (f.few_places, (f.open_below, (f.few_used, (f.used_there, tt))))))),
    )

module _ (h : Head) (table : List Record) (work : List ℕ) where
  -- that of a sound set fits
  head_of : Sound h table → head_fits h (length table) ≡ true
  head_of S = (says_head h (length table)).1 record {
    some_nodes = S.some_nodes;
    few_nodes = S.few_nodes;
    some_places = S.some_places;
    few_places = S.few_places;
    open_below = S.open_below;
    few_used = S.few_used;
    used_there = S.used_there;
  }

  -- of one that does not, the records are not looked at
  pub head_fails : head_fits h (length table) ≡ false → Judged h table work false work
  head_fails fails = record {
    right = ⊎_elim (λ is. absurd (true≢false (sym (head_of (sound_is h table is)) ∙ fails))) sym (which (sound h table));
    weighed = λ is. absurd (true≢false (sym is));
    kept = refl;
  }

  -- the records are looked at only where the head fits
  module _ (room : h.used ≤ length work) (all : Bool) (weighed : List ℕ) (P : head_fits h (length table) ≡ true → Passed h table work all weighed)
      (long : length weighed ≡ length work) where
    -- once all records have passed, the set's test over the weights is that over the flags
    module _ (places : h.arity ≤ 4) (W : Weighing h.arity h.nodes (used_of h table) h.used work weighed) where
      flag_of : (i : ℕ) → i < h.used → flag_in (get_or weighed i 0) ≡ (entry (used_of h table) i).flag
      flag_of i l = ap flag_in (W.weighed i l) ∙ flag_in_lem _ _ (below_sixteen places (W.sound i l).test.flag_below)

      says_set : (s : Set) → Says (set_fits h weighed s) (SetFits h (used_of h table) s)
      says_set empty = says_nothing
      says_set unit = says_equal h.open_places 0
      says_set (at i) =
          Iff.trans (says_and (says_below i h.used) (says_equal (flag_in (get_or weighed i 0)) h.open_places))
          (λ (l, f). (l, sym (flag_of i l) ∙ f), λ (l, f). (l, flag_of i l ∙ f))

    -- what passes is sound
    passes_sound : head_fits h (length table) ≡ true → all ≡ true → set_fits h weighed h.set ≡ true → Sound h table
    passes_sound fits passed set =
        let head = (says_head h (length table)).0 fits in
        let W = (P fits).passes passed in
        record {
          some_nodes = head.some_nodes;
          few_nodes = head.few_nodes;
          some_places = head.some_places;
          few_places = head.few_places;
          open_below = head.open_below;
          few_used = head.few_used;
          used_there = head.used_there;
          records = λ i l. (W.sound i l).test;
          rows_within = λ i l. (W.sound i l).few;
          set = (says_set head.few_places W h.set).0 set;
        }

    -- what is sound passes
    sound_passes : Sound h table → (head_fits h (length table) ≡ true) × ((all ≡ true) × (set_fits h weighed h.set ≡ true))
    sound_passes S = (fits, (passed, (says_set S.few_places ((P fits).passes passed) h.set).1 S.set))
      where
        fits : head_fits h (length table) ≡ true
        fits = head_of S

        passed : all ≡ true
        passed =
            ⊎_elim (λ pass. pass) (λ fail. absurd ((P fits).fails fail (λ k l. record { test = S.records k l; few = S.rows_within k l })))
            (which all)

    module _ (fits : head_fits h (length table) ≡ true) where
      judged : all && set_fits h weighed h.set ≡ sound h table
      judged =
          iff_eq _ _
          (λ both. let (passed, set) = both_true all (set_fits h weighed h.set) both in is_sound h table (passes_sound fits passed set))
          (λ is. let (head, (passed, set)) = sound_passes (sound_is h table is) in rw (passed, set))

      -- the work of a sound set has the weights
      sound_work : Sound h table → weighed ≡ over (weights h table) work
      sound_work S =
          let W = (P fits).passes (sound_passes S).1.0 in
          let there = weights_length h table S.used_there in
          over_is (weights h table) work weighed (omega (arith, there, room)) long
          (λ k l. let low : k < h.used = omega (arith, there, l) in W.weighed k low ∙ sym (weights_at h table S.used_there k low))
          (λ k l. W.kept k (omega (arith, there, l)))

      pub judges : (c : Bool) → c ≡ all && set_fits h weighed h.set → Judged h table work c weighed
      judges c is = record {
        right = is ∙ judged;
        weighed = λ passes. sound_work (sound_is h table (sym (is ∙ judged) ∙ passes));
        kept = zeros_agree work h.used weighed long (P fits).kept;
      }
