-- A question's own tests, which come behind those of `weigh`, each with its refusal; and what a question leaves of the work of a sound set.
use Rattle.std.specs.Prelude.{Bool, List, [], ◌∷◌, ℕ, min, length, replicate}
use Rattle.paper.specs.declared.Refusal.{Refusal}
use Rattle.paper.specs.Answers.{no_of}
use Rattle.paper.specs.Refusals.{Test, over}

-- a test, and the refusal where it fails
abbrev pub OwnTest : Type 0
OwnTest = Refusal × Bool

-- the paper's tests
abbrev pub tests_of : List OwnTest → List Test
tests_of [] = []
tests_of (t ∷ ts) = (no_of t.0, t.1) ∷ tests_of ts

-- the work with its first numbers 0, as far as it goes
abbrev pub cleared : ℕ → List ℕ → List ℕ
cleared n work = over (replicate (min n (length work)) 0) work
