-- What a pass over an image from its last byte to its first keeps, for code that writes the canonical text from its end to its start:
-- the written nodes of which something is still to come, each with what that is.
use Rattle.std.specs.Prelude.{Bool, true, false, cond, List, [], ◌∷◌, ◌++◌, ℕ, eqb}
use Rattle.paper.specs.BracketedText.{decimal}
pub use Rattle.text.specs.Nodes.{Waiting}
use Rattle.text.specs.declared.node.Waiting.TheVariants.{Others, LastChildren, Children, Inside}

abbrev pub blank_if : Bool → List ℕ
blank_if b = cond b (32 ∷ []) []

-- a node without children: its label, and a blank if it has others
abbrev pub childless : ℕ → Bool → List ℕ
childless l others = decimal l ++ blank_if others

-- a tree is complete. If it is the first in brackets, so is the node before them, and so on; the next node that waits has others.
-- What waits then, and what is written before it. (In an image no node but the last waits for its children.)
abbrev pub completed : List Waiting → List Waiting × List ℕ
completed [] = ([], [])
completed (Others l ∷ ws) = (Children l ∷ ws, [])
completed (LastChildren l ∷ ws) = (Children l ∷ ws, [])
completed (Children l ∷ ws) = (Children l ∷ ws, [])
completed (Inside l ∷ ws) = ((completed ws).0, (completed ws).1 ++ (decimal l ++ (40 ∷ [])))

-- a pad: the last node that waits has no others, or it has no children and is complete. (In an image it is not inside its brackets.)
abbrev pub missing : List Waiting → List Waiting × List ℕ
missing [] = ([], [])
missing (Others l ∷ ws) = (LastChildren l ∷ ws, [])
missing (LastChildren l ∷ ws) = ((completed ws).0, (completed ws).1 ++ childless l false)
missing (Children l ∷ ws) = ((completed ws).0, (completed ws).1 ++ childless l true)
missing (Inside l ∷ ws) = ((completed ws).0, (completed ws).1 ++ childless l true)

-- a branch: the root, the last of the others of the last node that waits, or of its children, behind which its brackets are closed. (In
-- an image they are not closed yet.)
abbrev pub met : ℕ → List Waiting → List Waiting × List ℕ
met m [] = (Others m ∷ [], [])
met m (Others l ∷ ws) = (Others m ∷ Others l ∷ ws, [])
met m (LastChildren l ∷ ws) = (Others m ∷ Inside l ∷ ws, 41 ∷ [])
met m (Children l ∷ ws) = (Others m ∷ Inside l ∷ ws, 41 ∷ [])
met m (Inside l ∷ ws) = (Others m ∷ Inside l ∷ ws, 41 ∷ [])

-- a pad, or a branch
abbrev pub step_of : ℕ → ℕ → List Waiting → List Waiting × List ℕ
step_of k l ws = cond (eqb k 1) (missing ws) (met l ws)

-- the text that is still to be written, of bytes read from the last to the first
abbrev pub text_before : List Waiting → List ℕ → List ℕ
text_before ws [] = []
text_before ws (l ∷ []) = []
text_before ws (l ∷ k ∷ bytes) = text_before (step_of k l ws).0 bytes ++ (step_of k l ws).1
