-- Sets that are sound and none of whose used records lists a row twice. First the used records of a longer table, then when a set
-- is such a set, then what it gives back.
use mathlib.Core.List.{List, []}
use mathlib.Core.Path.{◌∙◌, ◌≡◌, ap, refl, subst, sym}
use Prim.Native.Nat.{◌<◌, ◌^◌, ◌≤◌, ℕ}
use native.Mathlib.Omega.{arith}
use lib.ListN.{drop, get_or, length, length-append, take}
use lib.Seq.{length-take-le, take-append_seam}
use Rattle.paper.specs.Lists.{Once}
use Rattle.paper.specs.Records.{listing, listings, set_rows, used_of}
use Rattle.paper.specs.Refusals.{over}
use Rattle.paper.specs.Row.{Row}
use Rattle.paper.specs.Sound.{entry, most_rows}
use Rattle.laws.specs.Fixings.{GoodSet}
use Rattle.laws.specs.Plain.{Head, Record, Set, at, empty, unit}
use Rattle.laws.specs.QuestionCauses.{SetFits, SoundAt}
use Rattle.laws.proofs.Counting.{within_most_rows}
use Rattle.laws.proofs.Shaped.{all_once, once_all, shaped_all}
use Rattle.laws.proofs.Shapes.{shape_few}
use Rattle.laws.proofs.SoundRecords.{SoundFrom, sound_from_all}
use Rattle.laws.proofs.Stands.{OnceFrom, Stands}

-- the records written are the ones used, whatever stands behind them
pub used_over : (h : Head) (new old : List Record) → h.used ≡ length new → used_of h (over new old) ≡ new
used_over h new old e = ap (λ (n : ℕ). take n (over new old)) e ∙ take-append_seam new (drop (length new) old)

pub over_length : (new old : List Record) → length new ≤ length (over new old)
over_length new old = omega (arith, length-append new (drop (length new) old))

-- ---- a head whose set stands for rows over sound records with no row twice
pub record HeadOver (h : Head) (table used : List Record) (rows : List Row) : Type 0 where
  pub uses : used_of h table ≡ used
  pub number : h.used ≡ length used
  pub there : h.used ≤ length table
  pub few_used : h.used ≤ 60000
  pub some_nodes : 1 ≤ h.nodes
  pub few_nodes : h.nodes ≤ 4095
  pub some_places : 1 ≤ h.arity
  pub few_places : h.arity ≤ 4
  pub open_below : h.open_places < 2 ^ h.arity
  pub sound : SoundFrom h.arity h.nodes [] used
  pub once : OnceFrom h.arity [] used
  pub stands : Stands h.arity h.open_places used h.set rows

module _ (h : Head) (table used : List Record) (rows : List Row) (F : HeadOver h table used rows) where
  set_fits : (e : Set) → h.set ≡ e → Stands h.arity h.open_places used e rows → SetFits h used e
  set_fits empty q s = tt
  set_fits unit q s = s.valid
  set_fits (at i) q s = (omega (arith, F.number, s.valid.0), s.valid.3)

  few_listed : (i : ℕ) → i < h.used → length (get_or (listings h.arity used) i []) ≤ most_rows
  few_listed i w =
      let below : i < length used = omega (arith, F.number) in
      within_most_rows h.arity (entry used i).flag (get_or (listings h.arity used) i []) F.few_places
      (shape_few h.nodes F.few_nodes h.arity (entry used i).flag (get_or (listings h.arity used) i [])
      (shaped_all h.arity h.nodes F.few_nodes used F.sound i below)) (once_all h.arity used F.once i below)

  -- it is sound, and no used record lists a row twice
  pub over_good : GoodSet h table
  over_good = record {
    sound = record {
      some_nodes = F.some_nodes;
      few_nodes = F.few_nodes;
      some_places = F.some_places;
      few_places = F.few_places;
      open_below = F.open_below;
      few_used = F.few_used;
      used_there = F.there;
      records = λ i w. subst (λ (u : List Record). SoundAt h.arity h.nodes u i (entry u i)) (sym F.uses)
          ((sound_from_all h.arity h.nodes used).0 F.sound i (omega (arith, F.number)));
      rows_within = λ i w. subst (λ (u : List Record). length (get_or (listings h.arity u) i []) ≤ most_rows) (sym F.uses) (few_listed i w);
      set = subst (λ (u : List Record). SetFits h u h.set) (sym F.uses) (set_fits h.set refl F.stands);
    };
    once = λ i w. subst (λ (u : List Record). Once (get_or (listings h.arity u) i [])) (sym F.uses)
        (once_all h.arity used F.once i (omega (arith, F.number)));
  }

  -- it lists those rows
  pub over_lists : listing h table ≡ rows
  over_lists = ap (λ (u : List Record). set_rows h.arity (listings h.arity u) h.set) F.uses ∙ F.stands.lists

-- ---- what such a set gives back
module _ (h : Head) (table : List Record) (G : GoodSet h table) where
  pub good_number : length (used_of h table) ≡ h.used
  good_number = length-take-le h.used table G.sound.used_there

  pub good_sound : SoundFrom h.arity h.nodes [] (used_of h table)
  good_sound = (sound_from_all h.arity h.nodes (used_of h table)).1 (λ i w. G.sound.records i (omega (arith, good_number)))

  pub good_once : OnceFrom h.arity [] (used_of h table)
  good_once = all_once h.arity (used_of h table) (λ i w. G.once i (omega (arith, good_number)))
