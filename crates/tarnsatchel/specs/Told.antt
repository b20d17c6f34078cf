-- What a call from C is told: a number; the head, which C holds as six numbers; an answer or a position in an out parameter; and what the
-- lent buffers hold.
-- First the head's six numbers, then a reply as C gets it, then a record for each exported function.
use Rattle.std.specs.Prelude.{Bool, cond, List, [], ◌∷◌, ◌≡◌, ℕ, eqb, length, get_or}
use Rattle.paper.specs.declared.Head.{Head}
use Rattle.paper.specs.declared.Record.{Record}
use Rattle.paper.specs.declared.Set.{Set}
use Rattle.paper.specs.declared.Set.TheVariants.{Empty, Unit, Record as At}
use Rattle.paper.specs.Answers.{told}
use Rattle.paper.specs.Conversions.{TreeReply, TextReply}
use Rattle.paper.specs.Questions.{question_work}
use Rattle.paper.specs.Refusals.{No, no, no_at, number_in, Reply, refused, answer, build, count, row_by_number, member, project, fix}
use Rattle.paper.specs.Refusals.{work_for, work_after, table_after, output_after, target_after}
use Rattle.paper.specs.Row.{Row}

-- ---- the head: nodes, arity, open places, used, and the set
-- the set: 0 empty, 1 unit, 2 a record, and then the record's number, 0 for the others
abbrev pub set_kind : Set → ℕ
set_kind Empty = 0
set_kind Unit = 1
set_kind (At i) = 2

abbrev pub set_record : Set → ℕ
set_record Empty = 0
set_record Unit = 0
set_record (At i) = i

abbrev pub head_numbers : Head → List ℕ
head_numbers h = h.nodes ∷ h.arity ∷ h.open_places ∷ h.used ∷ set_kind h.set ∷ set_record h.set ∷ []

-- no sound set uses a record of this number: at most 60,000 are used
abbrev pub no_record : ℕ
no_record = 65535

-- any other kind is read as that record, so that every question on the set is refused, 11 if not 5
abbrev pub set_of : ℕ → ℕ → Set
set_of kind i = cond (eqb kind 0) Empty (cond (eqb kind 1) Unit (At (cond (eqb kind 2) i no_record)))

abbrev pub head_of : List ℕ → Head
head_of numbers = record {
  nodes = get_or numbers 0 0;
  arity = get_or numbers 1 0;
  open_places = get_or numbers 2 0;
  used = get_or numbers 3 0;
  set = set_of (get_or numbers 4 0) (get_or numbers 5 0);
}

-- ---- a reply
-- 0, or the number that says no
abbrev pub code : {A : Type 0} → Reply A → ℕ
code (refused w) = number_in w
code (answer a) = 0

-- an out parameter: the answer, or what was there
abbrev pub answer_after : {A : Type 0} → Reply A → A → A
answer_after (refused w) old = old
answer_after (answer a) old = a

-- the out parameter for a position: that of a refusal, or what was there
abbrev pub position_or : No → ℕ → ℕ
position_or (no n) old = old
position_or (no_at n p) old = p

abbrev pub position_after : {A : Type 0} → Reply A → ℕ → ℕ
position_after (refused w) old = position_or w old
position_after (answer a) old = old

-- 1 for a row that is listed, 0 for one that is not
abbrev pub listed_number : Bool → ℕ
listed_number b = cond b 1 0

-- what is told of a reply with an out parameter, before and after
pub record Tells {A : Type 0} (reply : Reply A) (old : A) (r : ℕ) (new : A) : Type 0 where
  pub number : r ≡ code reply
  pub shown : new ≡ answer_after reply old

-- and of one with a second for its position
pub record TellsWhere {A : Type 0} (reply : Reply A) (old : A) (position r : ℕ) (new : A) (position' : ℕ) : Type 0 where
  pub tells : Tells reply old r new
  pub position_is : position' ≡ position_after reply position

-- ---- the exported functions. In each, what is lent as it is before, the number returned, and what is lent as it is after
pub record TellsBuild (input work : List ℕ) (table : List Record) (head : List ℕ) (position r : ℕ) (work' : List ℕ) (table' : List Record)
    (head' : List ℕ) (position' : ℕ) : Type 0 where
  pub number : r ≡ code (build input (length work) (length table))
  pub worked : work' ≡ work_after (build input (length work) (length table)) (work_for input) work
  pub written : table' ≡ table_after (build input (length work) (length table)) table
  pub shown : head' ≡ answer_after (told (λ a. head_numbers a.0) (build input (length work) (length table))) head
  pub position_is : position' ≡ position_after (build input (length work) (length table)) position

pub record TellsCount (head : List ℕ) (table : List Record) (work : List ℕ) (rows : ℕ) (r : ℕ) (work' : List ℕ) (rows' : ℕ) : Type 0 where
  pub number : r ≡ code (count (head_of head) table (length work))
  pub worked : work' ≡ work_after (count (head_of head) table (length work)) (question_work (head_of head)) work
  pub shown : rows' ≡ answer_after (count (head_of head) table (length work)) rows

pub record TellsRow (head : List ℕ) (table : List Record) (work : List ℕ) (n : ℕ) (row : List ℕ) (r : ℕ) (work' row' : List ℕ) : Type 0 where
  pub number : r ≡ code (row_by_number (head_of head) table (length work) n (length row))
  pub worked : work' ≡ work_after (row_by_number (head_of head) table (length work) n (length row)) (question_work (head_of head)) work
  pub written : row' ≡ output_after (row_by_number (head_of head) table (length work) n (length row)) row

pub record TellsMember (head : List ℕ) (table : List Record) (work : List ℕ) (row : Row) (listed : ℕ) (r : ℕ) (work' : List ℕ) (listed' : ℕ)
    : Type 0 where
  pub number : r ≡ code (member (head_of head) table (length work) row)
  pub worked : work' ≡ work_after (member (head_of head) table (length work) row) (question_work (head_of head)) work
  pub shown : listed' ≡ answer_after (told listed_number (member (head_of head) table (length work) row)) listed

pub record TellsProject (head : List ℕ) (table : List Record) (work : List ℕ) (place : ℕ) (marks : List ℕ) (r : ℕ) (work' marks' : List ℕ)
    : Type 0 where
  pub number : r ≡ code (project (head_of head) table (length work) place (length marks))
  pub worked : work' ≡ work_after (project (head_of head) table (length work) place (length marks)) (question_work (head_of head)) work
  pub written : marks' ≡ output_after (project (head_of head) table (length work) place (length marks)) marks

pub record TellsFix (head : List ℕ) (source : List Record) (work : List ℕ) (place n : ℕ) (target : List Record) (fixed : List ℕ) (r : ℕ)
    (work' : List ℕ) (target' : List Record) (fixed' : List ℕ) : Type 0 where
  pub number : r ≡ code (fix (head_of head) source (length work) place n (length target))
  pub worked : work' ≡ work_after (fix (head_of head) source (length work) place n (length target)) (question_work (head_of head)) work
  pub written : target' ≡ target_after (fix (head_of head) source (length work) place n (length target)) target
  pub shown : fixed' ≡ answer_after (told (λ a. head_numbers a.0) (fix (head_of head) source (length work) place n (length target))) fixed

-- text to tree, and tree to text: a reply that is the right one, whose bytes stand in the output; `bytes` is how many they are
pub record TellsConversion (Right : Reply (List ℕ) → Type 0) (out : List ℕ) (bytes : ℕ) (r : ℕ) (out' : List ℕ) (bytes' : ℕ) : Type 0 where
  pub reply : Reply (List ℕ)
  pub right : Right reply
  pub number : r ≡ code reply
  pub written : out' ≡ output_after reply out
  pub shown : bytes' ≡ answer_after (told length reply) bytes

abbrev pub TellsTree : List ℕ → List ℕ → ℕ → ℕ → List ℕ → ℕ → Type 0
TellsTree text tree bytes r tree' bytes' = TellsConversion (TreeReply text (length tree)) tree bytes r tree' bytes'

abbrev pub TellsText : List ℕ → List ℕ → ℕ → ℕ → List ℕ → ℕ → Type 0
TellsText tree text bytes r text' bytes' = TellsConversion (TextReply tree (length text)) text bytes r text' bytes'
