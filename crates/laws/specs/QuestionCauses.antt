-- The causes of the table 'Numbers that say no' for the questions: what sound is, as a statement, and each question's causes.
use Rattle.std.specs.Prelude.{◌≡◌, ◌⊎◌, true, false, List, [], ◌∷◌, ℕ, ◌+◌, ◌-◌, ◌^◌, ◌≤◌, ◌<◌, length, get_or}
use Rattle.std.specs.Int.Bits.{bit_and}
use Rattle.paper.specs.Row.{Row, blank}
use Rattle.paper.specs.Records.{listings, used_of}
use Rattle.laws.specs.Plain.{Record, Set, empty, unit, at, Head}
use Rattle.paper.specs.Sound.{most_rows, entry}
use Rattle.paper.specs.Questions.{has_place, question_work, count_of, images_of}

-- ---- sound
-- record i of the used ones is a single; a union, whose operands have lower numbers and its flag; a product, whose operands have
-- lower numbers and flags that share no bit and together make its flag
abbrev pub IsSingle : Record → Type 0
IsSingle r = (r.kind ≡ 1) × (r.left ≡ 0) × (r.right ≡ 0)

abbrev pub IsUnion : List Record → ℕ → Record → Type 0
IsUnion used i r =
    (r.kind ≡ 2) × (r.left < i) × (r.right < i) × ((entry used r.left).flag ≡ r.flag) × ((entry used r.right).flag ≡ r.flag)

abbrev pub IsProduct : List Record → ℕ → Record → Type 0
IsProduct used i r =
    (r.kind ≡ 3) × (r.left < i) × (r.right < i)
    × (bit_and (entry used r.left).flag (entry used r.right).flag ≡ 0)
    × ((entry used r.left).flag + (entry used r.right).flag ≡ r.flag)

pub record SoundAt (arity nodes : ℕ) (used : List Record) (i : ℕ) (r : Record) : Type 0 where
  pub node : r.node < nodes
  pub flag_above : 0 < r.flag
  pub flag_below : r.flag < 2 ^ arity
  pub kind : IsSingle r ⊎ (IsUnion used i r ⊎ IsProduct used i r)

-- unit stands only with no open place, and a root is a used record with the open places as its flag
abbrev pub SetFits : Head → List Record → Set → Type 0
SetFits h used empty = Unit {0}
SetFits h used unit = h.open_places ≡ 0
SetFits h used (at i) = (i < h.used) × ((entry used i).flag ≡ h.open_places)

pub record Sound (h : Head) (table : List Record) : Type 0 where
  pub some_nodes : 1 ≤ h.nodes
  pub few_nodes : h.nodes ≤ 4095
  pub some_places : 1 ≤ h.arity
  pub few_places : h.arity ≤ 4
  pub open_below : h.open_places < 2 ^ h.arity
  pub few_used : h.used ≤ 60000
  pub used_there : h.used ≤ length table
  pub records : (i : ℕ) → i < h.used → SoundAt h.arity h.nodes (used_of h table) i (entry (used_of h table) i)
  pub rows_within : (i : ℕ) → i < h.used → length (get_or (listings h.arity (used_of h table)) i []) ≤ most_rows
  pub set : SetFits h (used_of h table) h.set

-- ---- the order, and the causes
abbrev pub question_order : List ℕ
question_order = 5 ∷ 11 ∷ 13 ∷ 7 ∷ 8 ∷ 9 ∷ 10 ∷ 6 ∷ 12 ∷ []

-- the place is not 1 to arity, or not open
abbrev pub NotOpen : Head → ℕ → Type 0
NotOpen h place = (place < 1) ⊎ ((h.arity < place) ⊎ (has_place h.open_places (place - 1) ≡ false))

-- an open place with no such node, or a fixed place not blank
pub record WrongEntry (h : Head) (row : Row) : Type 0 where
  pub index : ℕ
  pub in_row : index < length row
  pub wrong : ((has_place h.open_places index ≡ true) × (h.nodes ≤ get_or row index blank))
      ⊎ ((has_place h.open_places index ≡ false) × (get_or row index blank ≡ blank → ⊥))

-- both operands of a used union become unit
pub record UnitTwice (h : Head) (table : List Record) (place n : ℕ) : Type 0 where
  pub number : ℕ
  pub used : number < length (used_of h table)
  pub union : (entry (used_of h table) number).kind ≡ 2
  pub left : get_or (images_of (place - 1) n (used_of h table)).1 (entry (used_of h table) number).left empty ≡ unit
  pub right : get_or (images_of (place - 1) n (used_of h table)).1 (entry (used_of h table) number).right empty ≡ unit

module _ (h : Head) (table : List Record) (work_length : ℕ) where
  abbrev pub CountCause : ℕ → Type 0
  CountCause n = ((n ≡ 5) × (work_length < question_work h)) ⊎ ((n ≡ 11) × (Sound h table → ⊥))

  abbrev pub NumberCause : ℕ → ℕ → ℕ → Type 0
  NumberCause k out_length n = CountCause n ⊎ (((n ≡ 9) × (count_of h table ≤ k)) ⊎ ((n ≡ 10) × (out_length < h.arity)))

  abbrev pub MemberCause : Row → ℕ → Type 0
  MemberCause row n = CountCause n ⊎ (((n ≡ 13) × (length row ≡ h.arity → ⊥)) ⊎ ((n ≡ 8) × WrongEntry h row))

  abbrev pub ProjectCause : ℕ → ℕ → ℕ → Type 0
  ProjectCause place out_length n = CountCause n ⊎ (((n ≡ 7) × NotOpen h place) ⊎ ((n ≡ 10) × (out_length < h.nodes)))

  abbrev pub FixCause : ℕ → ℕ → ℕ → ℕ → Type 0
  FixCause place node target_length n =
      CountCause n
      ⊎ (((n ≡ 7) × NotOpen h place)
      ⊎ (((n ≡ 8) × (h.nodes ≤ node))
      ⊎ (((n ≡ 6) × (target_length < h.used))
      ⊎ ((n ≡ 12) × UnitTwice h table place node))))
