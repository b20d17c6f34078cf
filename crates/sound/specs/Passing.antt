-- The pass over all used records: what it leaves.
use Rattle.std.specs.Prelude.{Bool, true, false, List, [], ◌≡◌, ℕ, ◌≤◌, ◌<◌, length, get_or, replicate}
use Rattle.paper.specs.declared.Head.{Head}
use Rattle.paper.specs.declared.Record.{Record}
use Rattle.paper.specs.Records.{listings, used_of}
use Rattle.paper.specs.Refusals.{over}
use Rattle.paper.specs.Sound.{entry, most_rows, sound}
use Rattle.laws.specs.QuestionCauses.{SoundAt}
use Rattle.sound.specs.Weights.{weight, weights}

-- record k is sound, and lists few rows
pub record SoundRecord (arity nodes : ℕ) (used : List Record) (k : ℕ) : Type 0 where
  pub test : SoundAt arity nodes used k (entry used k)
  pub few : length (get_or (listings arity used) k []) ≤ most_rows

-- so are the first n, and their weights stand in the work. The rest of it is as it was
pub record Weighing (arity nodes : ℕ) (used : List Record) (n : ℕ) (work work' : List ℕ) : Type 0 where
  pub sound : (k : ℕ) → k < n → SoundRecord arity nodes used k
  pub weighed : (k : ℕ) → k < n → get_or work' k 0 ≡ weight (get_or (listings arity used) k []) (entry used k)
  pub kept : (k : ℕ) → n ≤ k → get_or work' k 0 ≡ get_or work k 0

abbrev pub AllSound : Head → List Record → Type 0
AllSound h table = (k : ℕ) → k < h.used → SoundRecord h.arity h.nodes (used_of h table) k

-- whether all used records are sound. What is behind their cells stays
pub record Passed (h : Head) (table : List Record) (work : List ℕ) (all : Bool) (work' : List ℕ) : Type 0 where
  pub passes : all ≡ true → Weighing h.arity h.nodes (used_of h table) h.used work work'
  pub fails : all ≡ false → AllSound h table → ⊥
  pub kept : (k : ℕ) → h.used ≤ k → get_or work' k 0 ≡ get_or work k 0

-- whether the set is sound
pub record Judged (h : Head) (table : List Record) (work : List ℕ) (is_sound : Bool) (work' : List ℕ) : Type 0 where
  pub right : is_sound ≡ sound h table
  pub weighed : is_sound ≡ true → work' ≡ over (weights h table) work
  pub kept : over (replicate h.used 0) work' ≡ over (replicate h.used 0) work
