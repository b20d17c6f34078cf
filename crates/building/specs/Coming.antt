-- From a node to the next. First the frame of the node that is passed, then the building before it stands at the next, and after.
use Rattle.std.specs.Prelude.{List, ◌∷◌, ◌≡◌, ℕ, ◌+◌, length, drop}
use Rattle.building.specs.Batch.{Record}
use Rattle.building.specs.Standing.{AtNode, Constants, InWork, Standing, State, stack_left}

-- the frame of the present node becomes that of a subtree, in the place of those that it joins; so many frames are then below the next
pub record Joined (input : List ℕ) (t : State) (work : List ℕ) (made : List Record) (s : Standing input t work made) (top : ℕ) (work' : List ℕ)
    : Type 0 where
  pub high : top ≡ length (s.slots ∷ stack_left s.node.here s.node.stack)
  pub frames : InWork t work' (s.slots ∷ stack_left s.node.here s.node.stack)
  pub rest : drop t.asked work' ≡ drop t.asked work

abbrev pub Joins : List ℕ → State → List ℕ → ℕ → List ℕ → Type 0
Joins input t work top work' = (made : List Record) (s : Standing input t work made) → Joined input t work made s top work'

-- the building comes to a node: the state has its number, where its record stands, and how many frames are below its own, which is not
-- cleared yet; its rules are not looked for
pub record Coming (input : List ℕ) (t : State) (work : List ℕ) (made : List Record) : Type 0 where
  pub constants : Constants input t
  pub here : AtNode input t.node t.at t.top
  pub earlier : here.earlier ≡ made
  pub frames : InWork t work here.stack
  pub used : length made ≡ t.from + t.count

abbrev pub Comes : List ℕ → State → List ℕ → Type 0
Comes input t work = (made : List Record) × Coming input t work made

-- it has come there
pub record Come (input : List ℕ) (t : State) (work : List ℕ) (made : List Record) (r : State) (work' : List ℕ) : Type 0 where
  pub standing : Standing input r work' made
  pub limit : r.limit ≡ t.limit
  pub asked : r.asked ≡ t.asked
  pub number : r.node ≡ t.node
  pub from : r.from ≡ t.from
  pub count : r.count ≡ t.count
  pub rest : drop t.asked work' ≡ drop t.asked work

abbrev pub HasCome : List ℕ → State → List ℕ → State → List ℕ → Type 0
HasCome input t work r work' = (made : List Record) → Coming input t work made → Come input t work made r work'

-- the end of a node and the start of the next: the same records are made, and as many of them are in the batch
pub record GoneOn (input : List ℕ) (t : State) (work : List ℕ) (made : List Record) (r : State) (work' : List ℕ) : Type 0 where
  pub standing : Standing input r work' made
  pub limit : r.limit ≡ t.limit
  pub asked : r.asked ≡ t.asked
  pub node : r.node ≡ t.node + 1
  pub from : r.from ≡ t.from
  pub count : r.count ≡ t.count
  pub rest : drop t.asked work' ≡ drop t.asked work

abbrev pub GoesOn : List ℕ → State → List ℕ → State → List ℕ → Type 0
GoesOn input t work r work' = (made : List Record) → Standing input t work made → GoneOn input t work made r work'
