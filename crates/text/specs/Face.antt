-- What `text_to_tree` and `tree_to_text` answer and leave, in the request's words.
use Rattle.std.specs.Prelude.{List, ◌≡◌, ℕ, Result, length}
use Rattle.paper.specs.declared.Refusal.{Refusal}
use Rattle.paper.specs.Answers.{says_converted, told}
use Rattle.paper.specs.Conversions.{TreeReply, TextReply}
use Rattle.paper.specs.Refusals.{Reply, output_after}

-- a reply that is the right one: its bytes stand in the output, and how many they are is told
pub record Converts (Right : Reply (List ℕ) → Type 0) (out : List ℕ) (r : Result ℕ Refusal) (out' : List ℕ) : Type 0 where
  pub reply : Reply (List ℕ)
  pub right : Right reply
  pub answer : says_converted r ≡ told length reply
  pub written : out' ≡ output_after reply out

abbrev pub MakesTree : List ℕ → List ℕ → Result ℕ Refusal → List ℕ → Type 0
MakesTree text out r out' = Converts (TreeReply text (length out)) out r out'

abbrev pub MakesText : List ℕ → List ℕ → Result ℕ Refusal → List ℕ → Type 0
MakesText bytes out r out' = Converts (TextReply bytes (length out)) out r out'
