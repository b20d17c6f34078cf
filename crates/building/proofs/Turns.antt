-- The two loops over flags: that there is room for a turn, and what it adds to the flags that are done. First the loop over the right
-- flags, then that over the left ones, and with it the rule. The idea: all flags below a position are done; a flag that is not among the
-- marks that are walked has an empty slot or shares a bit, and changes nothing, so that the position may be moved on to the next mark, and
-- behind the last mark to the end. B and W are the batch and the work where the loop begins, B' and W' what they are now.
use mathlib.Core.Bool.{Bool, false, true}
use mathlib.Core.List.{List, [], ◌++◌, ◌∷◌, append-nil}
use mathlib.Core.Logic.{inl, ⊎_elim}
use mathlib.Core.Path.{◌∙◌, ◌≡◌, ap, refl, subst, sym}
use Prim.Native.Nat.{◌*◌, ◌+◌, ◌-◌, ◌<◌, ◌^◌, ◌≤◌, suc, zero, ℕ}
use native.Mathlib.Nat.{pow-le-pow_right}
use native.Mathlib.Omega.{arith}
use borrow.Author.Tests.{eq-eqb, eqb-false, eqb-true}
use lib.Bits.{bit_and, or_disjoint, or_lt}
use lib.Dec.{eqb}
use lib.ListN.{length, length-append}
use lib.Pow.{pow_mono, pow_pos}
use Rattle.paper.specs.Lists.{each, up_to}
use Rattle.laws.proofs.Bound.{few_beside_lem}
use Rattle.building.specs.Batch.{RoomFor, records_in}
use Rattle.building.specs.Bounds.{batch_records, field_numbers, most_flags, waiting_records, rule_splits, split_records}
use Rattle.building.specs.Rules.{Branch, Branches, FlagsOf, OneShelf, Room, Runs, Stands, Unites, flags_at, pair_at, splits_run}
use Rattle.building.specs.Slots.{mark_at, marks_at, slot_at}
use Rattle.building.specs.Splits.{Free}
use Rattle.building.proofs.Marks.{Rest, first_below, first_marked, first_onward, first_mark, later_marks, no_mark, none_between, rest_ends}
use Rattle.building.proofs.Marks.{rest_onward, rest_starts}
use Rattle.building.proofs.Running.{each_le, each_up_to, flags_apart, flags_none, flags_shared, low_stays, marked_stays, none_run, one_run}
use Rattle.building.proofs.Running.{run_others, same_set, skipped_left, skipped_right, then_run}

-- ---- flags
-- what each flag from n on hands on to the next, comes to m
climbs : (P : ℕ → Type 0) (d n m : ℕ) → n + d ≡ m → ((b : ℕ) → n ≤ b → b < m → P b → P (b + 1)) → P n → P m
climbs P zero n m e step here = subst P (let w : n ≡ m = omega arith in w) here
climbs P (suc d) n m e step here =
    climbs P d (n + 1) m (omega arith) (λ b l u. step b (omega arith) u) (step n (omega arith) (omega arith) here)

pub size_small : (size : ℕ) → FlagsOf size → size ≤ most_flags
size_small size f = omega (arith, f.powers, pow_mono f.small)

sum_below : (size a b : ℕ) → FlagsOf size → a < size → b < size → bit_and a b ≡ 0 → a + b < size
sum_below size a b f ha hb e =
    omega (arith, f.powers, or_disjoint a b e, or_lt f.arity a b (omega (arith, f.powers)) (omega (arith, f.powers)))

-- the flags beside an own flag are at most 81
few_flags : (size own : ℕ) → FlagsOf size → own < size → length (each (up_to size) (flags_at own size)) ≤ rule_splits
few_flags size own f h =
    let n : ℕ = 2 ^ f.arity in
    let few : length (each (up_to n) (flags_at own n)) ≤ rule_splits =
    omega (arith, few_beside_lem f.arity f.small own (omega (arith, f.powers)), pow-le-pow_right {n = 3} (omega arith) f.small) in
    subst (λ m. length (each (up_to m) (flags_at own m)) ≤ rule_splits) (sym f.powers) few

-- ---- room stays
pub some_flag : (size : ℕ) → FlagsOf size → 0 < size
some_flag size f = omega (arith, f.powers, pow_pos f.arity)

room_stays : {rule : Branch} {most k : ℕ} {B W : List ℕ} {count : ℕ} {B' W' : List ℕ} → length B' ≡ length B → length W' ≡ length W
    → OneShelf rule.to rule.size rule.used most k W count W' → Room rule k B W → Room rule count B' W'
room_stays {rule} eb ew o r =
    record {
      flags = r.flags;
      own_flag = r.own_flag;
      few = r.few;
      few_nodes = r.few_nodes;
      records = omega (arith, r.records);
      left_before = r.left_before;
      right_before = r.right_before;
      within = omega (arith, r.within);
      left_low = low_stays o rule.left r.left_before r.left_low;
      right_low = low_stays o rule.right r.right_before r.right_low;
      low = o.low;
      left_marked = marked_stays o rule.left r.left_before (some_flag rule.size r.flags) r.left_marked;
      right_marked = marked_stays o rule.right r.right_before (some_flag rule.size r.flags) r.right_marked;
    }

-- ---- a turn of the loop over b₂, which has come to n
pub record RightTurn (rule : Branch) (k : ℕ) (B W : List ℕ) (b₁ n count : ℕ) (B' W' : List ℕ) : Type 0 where
  pub batch_kept : length B' ≡ length B
  pub work_kept : length W' ≡ length W
  pub room : Room rule k B W
  pub left_flag : b₁ < rule.size
  pub left_apart : bit_and rule.own b₁ ≡ 0
  pub right_flag : n < rule.size
  pub done : Runs (flags_at rule.own n b₁) rule k B W count B' W'

module _ {rule : Branch} {k : ℕ} {B W : List ℕ} {b₁ n count : ℕ} {B' W' : List ℕ} (s : RightTurn rule k B W b₁ n count B' W') where
  open s use {batch_kept, work_kept, room, left_flag, left_apart, right_flag, done}

  here : Room rule count B' W'
  here = room_stays batch_kept work_kept done.shelf room

  same_left : slot_at W' (rule.left + b₁) ≡ slot_at W (rule.left + b₁)
  same_left = same_set done.shelf rule.left room.left_before b₁ left_flag

  -- three flags that share no bit are together a flag
  flag_below : bit_and (rule.own + b₁) n ≡ 0 → rule.own + b₁ + n < rule.size
  flag_below e =
      let left-sum = sum_below rule.size rule.own b₁ room.flags room.own_flag left_flag left_apart in
      sum_below rule.size (rule.own + b₁) n room.flags left-sum right_flag e

  -- a split has room
  pub split_room : bit_and (rule.own + b₁) n ≡ 0 → k + split_records * length (flags_at rule.own rule.size b₁) ≤ batch_records
      → RoomFor split_records rule.used count B'
      × (((rule.own + b₁ + n < most_flags) × (rule.node < field_numbers))
      × (((slot_at W (rule.left + b₁) ≤ rule.used + count + 1) × (slot_at W' (rule.right + n) ≤ rule.used + count + 1))
      × ((rule.to + (rule.own + b₁ + n) < length W') × (slot_at W' (rule.to + (rule.own + b₁ + n)) ≤ rule.used + count + 1))))
  split_room e few =
      let below = flag_below e in
      let f : count + split_records ≤ batch_records =
      omega (
        arith,
        done.shelf.few,
        ap length (flags_apart rule.own b₁ n left_apart e),
        length-append (flags_at rule.own n b₁) ((b₁, n) ∷ []),
        each_le (pair_at rule.own b₁) (n + 1) rule.size (omega (arith, right_flag)),
      ) in (
        (omega (arith, here.records), omega (arith, here.few)),
        (
          (omega (arith, size_small rule.size room.flags), room.few_nodes),
          (
            (omega (arith, here.left_low b₁ left_flag, same_left), omega (arith, here.right_low n right_flag)),
            (omega (arith, here.within), here.low (rule.own + b₁ + n) below),
          ),
        ),
      )

  -- flags that share a bit
  with_shared : (bit_and (rule.own + b₁) n ≡ 0 → ⊥) → Runs (flags_at rule.own (n + 1) b₁) rule k B W count B' W'
  with_shared f = rw (flags_shared rule.own b₁ n f) done

  one_more : (c : ℕ) (B'' W'' : List ℕ) → bit_and (rule.own + b₁) n ≡ 0 → Runs ((b₁, n) ∷ []) rule count B' W' c B'' W''
      → Runs (flags_at rule.own (n + 1) b₁) rule k B W c B'' W''
  one_more c B'' W'' e m =
      rw (flags_apart rule.own b₁ n left_apart e)
      (then_run (flags_at rule.own n b₁) ((b₁, n) ∷ []) room.left_before room.right_before done m)

  -- an empty right slot
  pub with_empty : bit_and (rule.own + b₁) n ≡ 0 → slot_at W' (rule.right + n) ≡ 0 → Runs (flags_at rule.own (n + 1) b₁) rule k B W count B' W'
  with_empty e z = one_more count B' W' e (skipped_right count B' W' here.low b₁ n right_flag z)

  -- a split, united with its slot
  pub with_split : bit_and (rule.own + b₁) n ≡ 0 → (slot_at W (rule.left + b₁) ≡ 0 → ⊥) → (slot_at W' (rule.right + n) ≡ 0 → ⊥)
      → (c : ℕ) (B'' W'' : List ℕ) → Unites rule b₁ n (slot_at W (rule.left + b₁)) (slot_at W' (rule.right + n)) count B' W' c B'' W''
      → Runs (flags_at rule.own (n + 1) b₁) rule k B W c B'' W''
  with_split e nl nr c B'' W'' u =
      one_more c B'' W'' e
      (one_run count B' W' here.low b₁ n (slot_at W (rule.left + b₁)) (slot_at W' (rule.right + n)) c B'' W'' left_flag right_flag (flag_below e)
      same_left refl nl nr u)

-- ---- the loop over b₂: of the marks that are walked some are left, and the flags before them are done
pub record RightLoop (rule : Branch) (k : ℕ) (B W : List ℕ) (b₁ walked marks count : ℕ) (B' W' : List ℕ) : Type 0 where
  pub batch_kept : length B' ≡ length B
  pub work_kept : length W' ≡ length W
  come : ℕ
  rest : Rest rule.size walked come marks
  done : Runs (flags_at rule.own come b₁) rule k B W count B' W'

-- own flag and left flag are together a flag
pub sum_flag : {rule : Branch} {k : ℕ} {B W : List ℕ} → Room rule k B W → (b₁ : ℕ) → b₁ < rule.size → bit_and rule.own b₁ ≡ 0
    → rule.own + b₁ < rule.size
sum_flag {rule} room b₁ h e = sum_below rule.size rule.own b₁ room.flags room.own_flag h e

module _ {rule : Branch} {k : ℕ} {B W : List ℕ} (room : Room rule k B W) {b₁ : ℕ} (left_flag : b₁ < rule.size)
    (left_apart : bit_and rule.own b₁ ≡ 0) {walked : ℕ} (free : Free rule.size (rule.own + b₁) (marks_at W rule.right) walked) where
  -- nothing is done yet
  pub right_starts : RightLoop rule k B W b₁ walked walked k B W
  right_starts = record {
    batch_kept = refl;
    work_kept = refl;
    come = 0;
    rest = rest_starts rule.size walked (size_small rule.size room.flags) free.few;
    done = none_run k B W room.low;
  }

  module _ {count : ℕ} {B' W' : List ℕ} (eb : length B' ≡ length B) (ew : length W' ≡ length W) where
    turn_at : (n : ℕ) → n < rule.size → Runs (flags_at rule.own n b₁) rule k B W count B' W' → RightTurn rule k B W b₁ n count B' W'
    turn_at n h done = record {
      batch_kept = eb;
      work_kept = ew;
      room = room;
      left_flag = left_flag;
      left_apart = left_apart;
      right_flag = h;
      done = done;
    }

    -- one flag with an empty slot
    one_empty : (n : ℕ) → n < rule.size → slot_at W (rule.right + n) ≡ 0 → Runs (flags_at rule.own n b₁) rule k B W count B' W'
        → Runs (flags_at rule.own (n + 1) b₁) rule k B W count B' W'
    one_empty n h z done = go (eqb (bit_and (rule.own + b₁) n) 0) refl
      where
        go : (c : Bool) → eqb (bit_and (rule.own + b₁) n) 0 ≡ c → Runs (flags_at rule.own (n + 1) b₁) rule k B W count B' W'
        go true e =
            with_empty (turn_at n h done) (eqb-true (bit_and (rule.own + b₁) n) 0 e)
            (same_set done.shelf rule.right room.right_before n h ∙ z)
        go false e = with_shared (turn_at n h done) (eqb-false (bit_and (rule.own + b₁) n) 0 e)

    -- one that is not walked
    one_passed : (n : ℕ) → n < rule.size → mark_at walked n ≡ 0 → Runs (flags_at rule.own n b₁) rule k B W count B' W'
        → Runs (flags_at rule.own (n + 1) b₁) rule k B W count B' W'
    one_passed n h z done =
        ⊎_elim (λ unmarked. one_empty n h (room.right_marked.empty n h unmarked) done) (with_shared (turn_at n h done)) (free.skips n h z)

    -- and so many
    passed : (n m : ℕ) → n ≤ m → m ≤ rule.size → ((b : ℕ) → n ≤ b → b < m → mark_at walked b ≡ 0)
        → Runs (flags_at rule.own n b₁) rule k B W count B' W' → Runs (flags_at rule.own m b₁) rule k B W count B' W'
    passed n m l h z =
        climbs (λ x. Runs (flags_at rule.own x b₁) rule k B W count B' W') (m - n) n m (omega arith)
        (λ b from to. one_passed b (omega arith) (z b from to))

  module _ {marks count : ℕ} {B' W' : List ℕ} (s : RightLoop rule k B W b₁ walked marks count B' W') where
    -- no mark is left
    pub right_ends : marks ≡ 0 → Runs (flags_at rule.own rule.size b₁) rule k B W count B' W'
    right_ends e =
        passed s.batch_kept s.work_kept s.come rule.size s.rest.far (omega arith)
        (λ b h l. rest_ends _ _ _ _ s.rest e b h) s.done

    module _ (some : (marks ≡ 0 → ⊥)) where
      -- at the first that is left, which shares no bit
      pub right_turn : RightTurn rule k B W b₁ (first_mark marks) count B' W'
      right_turn =
          let below = first_below _ _ _ _ s.rest some in
          turn_at s.batch_kept s.work_kept (first_mark marks) below
          (passed s.batch_kept s.work_kept s.come (first_mark marks) (first_onward _ _ _ _ s.rest some) (omega (arith, below))
          (λ b h l. none_between _ _ _ _ s.rest some b h l) s.done)

      pub right_apart : bit_and (rule.own + b₁) (first_mark marks) ≡ 0
      right_apart = (free.takes (first_mark marks) (first_below _ _ _ _ s.rest some) (first_marked _ _ _ _ s.rest some)).1

      pub right_onward : {c : ℕ} {B'' W'' : List ℕ} → length B'' ≡ length B → length W'' ≡ length W
          → Runs (flags_at rule.own (first_mark marks + 1) b₁) rule k B W c B'' W'' → RightLoop rule k B W b₁ walked (later_marks marks) c B'' W''
      right_onward eb ew done = record {
        batch_kept = eb;
        work_kept = ew;
        come = first_mark marks + 1;
        rest = rest_onward _ _ _ _ s.rest some;
        done = done;
      }

-- ---- a turn of the loop over b₁, which has come to n
pub record LeftTurn (rule : Branch) (k : ℕ) (B W : List ℕ) (n count : ℕ) (B' W' : List ℕ) : Type 0 where
  pub batch_kept : length B' ≡ length B
  pub work_kept : length W' ≡ length W
  pub room : Room rule k B W
  pub left_flag : n < rule.size
  pub done : Runs (each (up_to n) (flags_at rule.own rule.size)) rule k B W count B' W'

module _ {rule : Branch} {k : ℕ} {B W : List ℕ} {n count : ℕ} {B' W' : List ℕ} (s : LeftTurn rule k B W n count B' W') where
  open s use {batch_kept, work_kept, room, left_flag, done}

  -- the splits beside one left flag have room
  pub beside_room : Room rule count B' W'
  beside_room = room_stays batch_kept work_kept done.shelf room

  pub beside_few : k ≤ waiting_records → count + split_records * length (flags_at rule.own rule.size n) ≤ batch_records
  beside_few few =
      let flags = flags_at rule.own rule.size in
      omega (
        arith,
        done.shelf.few,
        ap length (each_up_to flags n),
        length-append (each (up_to n) flags) (flags n),
        each_le flags (n + 1) rule.size (omega (arith, left_flag)),
        few_flags rule.size rule.own room.flags room.own_flag,
      )

  -- a left flag that shares a bit with the own one
  without_left : (bit_and rule.own n ≡ 0 → ⊥) → Runs (each (up_to (n + 1)) (flags_at rule.own rule.size)) rule k B W count B' W'
  without_left f =
      let flags = flags_at rule.own rule.size in
      rw (each_up_to flags n, flags_none rule.own n rule.size f, append-nil (each (up_to n) flags)) done

  -- the splits beside one more left flag
  pub with_left : (c : ℕ) (B'' W'' : List ℕ) → Runs (flags_at rule.own rule.size n) rule count B' W' c B'' W''
      → Runs (each (up_to (n + 1)) (flags_at rule.own rule.size)) rule k B W c B'' W''
  with_left c B'' W'' m =
      let flags = flags_at rule.own rule.size in
      rw (each_up_to flags n) (then_run (each (up_to n) flags) (flags n) room.left_before room.right_before done m)

  -- an empty left slot
  with_none : slot_at W (rule.left + n) ≡ 0 → Runs (each (up_to (n + 1)) (flags_at rule.own rule.size)) rule k B W count B' W'
  with_none z =
      with_left count B' W'
      (skipped_left count B' W' beside_room.low n rule.size left_flag
      (same_set done.shelf rule.left room.left_before n left_flag ∙ z))

-- ---- the loop over b₁, likewise
pub record LeftLoop (rule : Branch) (k : ℕ) (B W : List ℕ) (walked marks count : ℕ) (B' W' : List ℕ) : Type 0 where
  pub batch_kept : length B' ≡ length B
  pub work_kept : length W' ≡ length W
  come : ℕ
  rest : Rest rule.size walked come marks
  done : Runs (each (up_to come) (flags_at rule.own rule.size)) rule k B W count B' W'

module _ {rule : Branch} {k : ℕ} {B W : List ℕ} (room : Room rule k B W) where
  module _ {count : ℕ} {B' W' : List ℕ} (eb : length B' ≡ length B) (ew : length W' ≡ length W) where
    left_at_lem : (n : ℕ) → n < rule.size → Runs (each (up_to n) (flags_at rule.own rule.size)) rule k B W count B' W'
        → LeftTurn rule k B W n count B' W'
    left_at_lem n h done = record { batch_kept = eb; work_kept = ew; room = room; left_flag = h; done = done }

  -- the flags of both loops: all splits of the rule
  all_done : {count : ℕ} {B' W' : List ℕ} → Runs (each (up_to rule.size) (flags_at rule.own rule.size)) rule k B W count B' W'
      → Branches rule k B W count B' W'
  all_done {count} {B'} {W'} m =
      record {
        branches = λ base arity label p q t lefts rights slots e f rl rr rs. rw (eq-eqb label label refl) (
          subst (λ n. Stands base t rule (splits_run rule p q t lefts rights (each (up_to n) (flags_at rule.own n)) (base ++ records_in k B, slots))
              count B' W') f
              (m.runs base p q t lefts rights (base ++ records_in k B, slots) e rl rr (record { table = refl; shelf = rs })),
          λ s b h. run_others rule p q t lefts rights s b h (each (up_to (2 ^ arity)) (flags_at rule.own (2 ^ arity))) (base ++ records_in k B, slots),
        );
        shelf = record {
          more = m.shelf.more;
          few = omega (arith, m.shelf.few, few_flags rule.size rule.own room.flags room.own_flag);
          below = m.shelf.below;
          above = m.shelf.above;
          low = m.shelf.low;
          marked = m.shelf.marked;
        };
      }

  -- no mark at all: none is walked
  none_free : (flag marked : ℕ) → marked ≡ 0 → Free rule.size flag marked 0
  none_free flag marked e = record {
    few = omega (arith, pow_pos rule.size);
    takes = λ b h w. absurd (omega (arith, no_mark b));
    skips = λ b h w. inl (ap (λ x. mark_at x b) e ∙ no_mark b);
  }

  -- nothing at all on the right side: the splits beside any left flag change nothing
  beside_none : marks_at W rule.right ≡ 0 → (b : ℕ) → b < rule.size → Runs (flags_at rule.own rule.size b) rule k B W k B W
  beside_none e b h = go (eqb (bit_and rule.own b) 0) refl
    where
      go : (c : Bool) → eqb (bit_and rule.own b) 0 ≡ c → Runs (flags_at rule.own rule.size b) rule k B W k B W
      go true a =
          let apart = eqb-true (bit_and rule.own b) 0 a in
          let free = none_free (rule.own + b) (marks_at W rule.right) e in
          right_ends room h apart free (right_starts room h apart free) refl
      go false a = rw (flags_none rule.own b rule.size (eqb-false (bit_and rule.own b) 0 a)) (none_run k B W room.low)

  pub right_none : marks_at W rule.right ≡ 0 → Branches rule k B W k B W
  right_none e =
      all_done
      (climbs (λ x. Runs (each (up_to x) (flags_at rule.own rule.size)) rule k B W k B W) rule.size 0 rule.size (omega arith)
      (λ b from to done. with_left (left_at_lem refl refl b to done) k B W (beside_none e b to)) (none_run k B W room.low))

  module _ {walked : ℕ} (free : Free rule.size rule.own (marks_at W rule.left) walked) where
    pub left_starts : LeftLoop rule k B W walked walked k B W
    left_starts = record {
      batch_kept = refl;
      work_kept = refl;
      come = 0;
      rest = rest_starts rule.size walked (size_small rule.size room.flags) free.few;
      done = none_run k B W room.low;
    }

    module _ {count : ℕ} {B' W' : List ℕ} (eb : length B' ≡ length B) (ew : length W' ≡ length W) where
      left_passed : (n m : ℕ) → n ≤ m → m ≤ rule.size → ((b : ℕ) → n ≤ b → b < m → mark_at walked b ≡ 0)
          → Runs (each (up_to n) (flags_at rule.own rule.size)) rule k B W count B' W'
          → Runs (each (up_to m) (flags_at rule.own rule.size)) rule k B W count B' W'
      left_passed n m l h z =
          climbs (λ x. Runs (each (up_to x) (flags_at rule.own rule.size)) rule k B W count B' W') (m - n) n m (omega arith)
          (λ b from to done.
          let turn = left_at_lem eb ew b (omega arith) done in
          ⊎_elim (λ unmarked. with_none turn (room.left_marked.empty b (omega arith) unmarked)) (without_left turn)
          (free.skips b (omega arith) (z b from to)))

    module _ {marks count : ℕ} {B' W' : List ℕ} (s : LeftLoop rule k B W walked marks count B' W') where
      pub left_ends : marks ≡ 0 → Branches rule k B W count B' W'
      left_ends e =
          all_done
          (left_passed s.batch_kept s.work_kept s.come rule.size s.rest.far (omega arith)
          (λ b h l. rest_ends _ _ _ _ s.rest e b h) s.done)

      module _ (some : (marks ≡ 0 → ⊥)) where
        pub left_turn : LeftTurn rule k B W (first_mark marks) count B' W'
        left_turn =
            let below = first_below _ _ _ _ s.rest some in
            left_at_lem s.batch_kept s.work_kept (first_mark marks) below
            (left_passed s.batch_kept s.work_kept s.come (first_mark marks) (first_onward _ _ _ _ s.rest some) (omega (arith, below))
            (λ b h l. none_between _ _ _ _ s.rest some b h l) s.done)

        pub left_apart_first : bit_and rule.own (first_mark marks) ≡ 0
        left_apart_first = (free.takes (first_mark marks) (first_below _ _ _ _ s.rest some) (first_marked _ _ _ _ s.rest some)).1

        pub left_onward : {c : ℕ} {B'' W'' : List ℕ} → length B'' ≡ length B → length W'' ≡ length W
            → Runs (each (up_to (first_mark marks + 1)) (flags_at rule.own rule.size)) rule k B W c B'' W''
            → LeftLoop rule k B W walked (later_marks marks) c B'' W''
        left_onward eb ew done = record {
          batch_kept = eb;
          work_kept = ew;
          come = first_mark marks + 1;
          rest = rest_onward _ _ _ _ s.rest some;
          done = done;
        }
