-- Reading a text. The bytes are cut into tokens from the first to the last; then the tokens make forests from the last to the first.
use Rattle.std.specs.Prelude.{cond, ◌&&◌, List, [], ◌∷◌, ℕ, ◌+◌, ◌*◌, ◌-◌, eqb, leb}
use Rattle.std.proofs.Math.Option.{Option, none, some}
use Rattle.paper.specs.WrittenTree.{Forest, nil, tree, WrittenTree, written_nodes}
use Rattle.paper.specs.BracketedText.{Token, number, opening, closing}

-- ---- bytes to tokens
pub data Symbol : Type 0 where
  is_blank is_line_end is_mark is_opening is_closing is_wrong : Symbol

pub data Sign : Type 0 where
  digit : ℕ → Sign
  symbol : Symbol → Sign

abbrev pub symbol_of : ℕ → Symbol
symbol_of b =
    cond (eqb b 32) is_blank (cond (eqb b 10) is_line_end (cond (eqb b 33) is_mark (cond (eqb b 40) is_opening (cond (eqb b 41) is_closing is_wrong))))

abbrev pub sign_of : ℕ → Sign
sign_of b = cond (leb 48 b && leb b 57) (digit (b - 48)) (symbol (symbol_of b))

-- where the reading stands: between tokens, in a number that is n so far, in a comment
pub data Mode : Type 0 where
  outside : Mode
  in_number : ℕ → Mode
  in_comment : Mode

abbrev pub put : Token → Option (List Token) → Option (List Token)
put x none = none
put x (some ts) = some (x ∷ ts)

-- a byte between tokens; k reads on
abbrev pub fresh : Sign → (Mode → Option (List Token)) → Option (List Token)
fresh (digit d) k = k (in_number d)
fresh (symbol is_blank) k = k outside
fresh (symbol is_line_end) k = k outside
fresh (symbol is_mark) k = k in_comment
fresh (symbol is_opening) k = put opening (k outside)
fresh (symbol is_closing) k = put closing (k outside)
fresh (symbol is_wrong) k = none

-- a byte in a number: one more digit, with no leading zero and up to 63, or the byte after its end
abbrev pub numbered : ℕ → Sign → (Mode → Option (List Token)) → Option (List Token)
numbered n (digit d) k = cond (leb 1 n && leb (10 * n + d) 63) (k (in_number (10 * n + d))) none
numbered n (symbol x) k = put (number n) (fresh (symbol x) k)

abbrev pub byte : Mode → ℕ → (Mode → Option (List Token)) → Option (List Token)
byte outside b k = fresh (sign_of b) k
byte (in_number n) b k = numbered n (sign_of b) k
byte in_comment b k = k (cond (eqb b 10) outside in_comment)

abbrev pub text_end : Mode → Option (List Token)
text_end outside = some []
text_end (in_number n) = some (number n ∷ [])
text_end in_comment = some []

abbrev pub cut_from : Mode → List ℕ → Option (List Token)
cut_from m [] = text_end m
cut_from m (b ∷ t) = byte m b (λ m'. cut_from m' t)

-- ---- tokens to forests
-- what the tokens are that stand at the end of a text: a forest, and then one for each bracket that they close and that was opened
-- before them, from inner to outer; or an opening bracket, its content, and then the same
pub data Ending : Type 0 where
  forests : Forest → List Forest → Ending
  bracket : Forest → Forest → List Forest → Ending
  refused : Ending

abbrev pub number_before : ℕ → Ending → Ending
number_before l (forests s fs) = forests (tree l nil s) fs
number_before l (bracket c s fs) = forests (tree l c s) fs
number_before l refused = refused

abbrev pub opening_before : Ending → Ending
opening_before (forests c []) = refused
opening_before (forests c (s ∷ fs)) = bracket c s fs
opening_before (bracket c s fs) = refused
opening_before refused = refused

abbrev pub closing_before : Ending → Ending
closing_before (forests f fs) = forests nil (f ∷ fs)
closing_before (bracket c s fs) = refused
closing_before refused = refused

abbrev pub ending_of : List Token → Ending
ending_of [] = forests nil []
ending_of (number l ∷ ts) = number_before l (ending_of ts)
ending_of (opening ∷ ts) = opening_before (ending_of ts)
ending_of (closing ∷ ts) = closing_before (ending_of ts)

-- ---- the text
-- one root, and at most 2,047 written nodes
abbrev pub if_few : WrittenTree → Option WrittenTree
if_few w = cond (leb (written_nodes w) 2047) (some w) none

abbrev pub one_root : Forest → Option WrittenTree
one_root nil = none
one_root (tree l c nil) = if_few (record { label = l; children = c })
one_root (tree l c (tree l' c' s)) = none

abbrev pub closed_root : Ending → Option WrittenTree
closed_root (forests f []) = one_root f
closed_root (forests f (g ∷ fs)) = none
closed_root (bracket c s fs) = none
closed_root refused = none

abbrev pub root_of : Option (List Token) → Option WrittenTree
root_of none = none
root_of (some ts) = closed_root (ending_of ts)

abbrev pub read_text : List ℕ → Option WrittenTree
read_text t = root_of (cut_from outside t)
