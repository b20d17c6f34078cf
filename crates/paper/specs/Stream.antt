-- 'The input stream': its records, and where the tree's end and the query's begin.
-- First the length of each body, then the records that the bytes make and where the next one stands, then the two parts.
use Rattle.std.specs.Prelude.{Bool, cond, ◌||◌, List, [], ◌∷◌, ℕ, zero, suc, ◌+◌, eqb, length, get_or, take, drop}

-- each kind with the length of its body: leaf, branch, head, leaf rule, branch rule, accepting state
abbrev pub body_lengths : List (ℕ × ℕ)
body_lengths = (1, 1) ∷ (2, 1) ∷ (16, 2) ∷ (17, 3) ∷ (18, 5) ∷ (19, 1) ∷ []

abbrev pub look_up : List (ℕ × ℕ) → ℕ → ℕ
look_up [] k = 0
look_up (e ∷ es) k = cond (eqb e.0 k) e.1 (look_up es k)

-- the length of a body, by its kind; an unknown kind has none
abbrev pub body_length : ℕ → ℕ
body_length k = look_up body_lengths k

-- a record of the stream: its kind, and as much of its body as the input has
pub record StreamRecord : Type 0 where
  pub kind : ℕ
  pub body : List ℕ

-- number i of a body, from 0
abbrev pub number : StreamRecord → ℕ → ℕ
number r i = get_or r.body i 0

-- the input is not cut in the record
abbrev pub whole : StreamRecord → Bool
whole r = eqb (length r.body) (body_length r.kind)

-- one byte of kind, then the body, then the other records. The first number bounds how many there can be
abbrev pub records_within : ℕ → List ℕ → List StreamRecord
records_within zero bytes = []
records_within (suc most) [] = []
records_within (suc most) (k ∷ bytes) =
    record { kind = k; body = take (body_length k) bytes } ∷ records_within most (drop (body_length k) bytes)

abbrev pub records_of : List ℕ → List StreamRecord
records_of input = records_within (length input) input

-- the position behind records, the first of which stands at the given one: each takes up its kind and its body
abbrev pub behind : ℕ → List StreamRecord → ℕ
behind position [] = position
behind position (r ∷ rs) = behind (position + suc (length r.body)) rs

abbrev pub is_tree_kind : ℕ → Bool
is_tree_kind k = eqb k 1 || eqb k 2

-- tree records come first and end before the first kind that is neither 1 nor 2
abbrev pub tree_records : List StreamRecord → List StreamRecord
tree_records [] = []
tree_records (r ∷ rs) = cond (is_tree_kind r.kind) (r ∷ tree_records rs) []

abbrev pub query_records : List StreamRecord → List StreamRecord
query_records [] = []
query_records (r ∷ rs) = cond (is_tree_kind r.kind) (query_records rs) (r ∷ rs)
