-- A cause is what a line of the table 'Numbers that say no' names beside its number. Here: 'the first in the paper's order whose cause
-- applies', for any order and any causes.
use Rattle.std.specs.Prelude.{◌≡◌, ◌⊎◌, List, [], ◌∷◌, ℕ}
use Rattle.paper.specs.Refusals.{No, no, no_at}

-- n is the first number of the list whose cause applies
abbrev pub FirstOf : List ℕ → (ℕ → Type 0) → ℕ → Type 0
FirstOf [] Applies n = ⊥
FirstOf (m ∷ ms) Applies n = (Applies m × (n ≡ m)) ⊎ ((Applies m → ⊥) × FirstOf ms Applies n)

-- what says no is a number alone, and that number is as stated
abbrev pub Alone : (ℕ → Type 0) → No → Type 0
Alone Stated (no n) = Stated n
Alone Stated (no_at n position) = ⊥

-- no cause of the list applies
abbrev pub NoneOf : List ℕ → (ℕ → Type 0) → Type 0
NoneOf [] Applies = Unit {0}
NoneOf (m ∷ ms) Applies = (Applies m → ⊥) × NoneOf ms Applies
