-- Membership in a listing, nodes that stand in it, and the flag with all places: the tests, and what they say.
use mathlib.Core.Bool.{false≢true, true}
use mathlib.Core.List.Memᴰ
use mathlib.Core.List.{List, [], ◌∷◌, map}
use mathlib.Core.Logic.{⊎_elim}
use mathlib.Core.Path.{◌∙◌, ◌≡◌, ap, sym}
use Prim.Native.Nat.{◌%◌, ◌+◌, ◌-◌, ◌/◌, ◌<◌, ◌^◌, suc, zero, ℕ}
use native.Mathlib.Nat.{pow-suc}
use native.Mathlib.Omega.{arith}
use borrow.Author.Tests.{eq-eqb}
use lib.ListN.{get_or}
use lib.Pow.{pow_pos}
use Rattle.paper.specs.Building.{all_places}
use Rattle.paper.specs.Lists.{◌∈◌, count_from, same, up_to}
use Rattle.paper.specs.Questions.{has_place, is_listed, stands_at}
use Rattle.paper.specs.Row.{Row, blank}
use Rattle.laws.specs.Said.{StandsIn}
use Rattle.laws.proofs.Lists.{has_true, or_cases, or_left, or_right, same_refl, same_true, true_has}

-- ---- rows of a listing
pub listed_in : (rows : List Row) (row : Row) → is_listed rows row ≡ true → row ∈ rows
listed_in [] row e = absurd (false≢true e)
listed_in (x ∷ xs) row e =
    ⊎_elim (λ w. Memᴰ.head (sym (same_true x row w))) (λ w. Memᴰ.tail (listed_in xs row w)) (or_cases (same x row) (is_listed xs row) e)

pub in_listed : (rows : List Row) (row : Row) → row ∈ rows → is_listed rows row ≡ true
in_listed [] row m = absurd (Memᴰ.not-nil m)
in_listed (x ∷ xs) row m =
    ⊎_elim (λ e. or_left (same x row) (is_listed xs row) (ap (same x) e ∙ same_refl x)) (λ n. or_right (same x row) (is_listed xs row) (in_listed xs row n))
    (Memᴰ.cases_cons m)

-- ---- nodes of a listing
pub stands_row : (rows : List Row) (i n : ℕ) → stands_at i n rows ≡ true → StandsIn i n rows
stands_row rows i n e = Memᴰ.of_map (λ (row : Row). get_or row i blank) rows (has_true (map (λ (row : Row). get_or row i blank) rows) n e)

pub row_stands : (rows : List Row) (i n : ℕ) (row : Row) → row ∈ rows → get_or row i blank ≡ n → stands_at i n rows ≡ true
row_stands rows i n row m e =
    true_has (map (λ (r : Row). get_or r i blank) rows) n (Memᴰ.cast (sym e) (Memᴰ.map (λ (r : Row). get_or r i blank) m))

map_from : (f : ℕ → ℕ) (k n i : ℕ) → i < n → get_or (map f (count_from k n)) i 0 ≡ f (k + i)
map_from f k zero i h = absurd (omega arith)
map_from f k (suc n) zero h = ap f (let z : k ≡ k + 0 = omega arith in z)
map_from f k (suc n) (suc i) h = map_from f (suc k) n i (omega arith) ∙ ap f (let z : suc k + i ≡ k + suc i = omega arith in z)

-- one number for each node
pub map_up_to : (f : ℕ → ℕ) (n i : ℕ) → i < n → get_or (map f (up_to n)) i 0 ≡ f i
map_up_to f n i h = map_from f 0 n i h ∙ ap f (let z : 0 + i ≡ i = omega arith in z)

-- ---- the flag with all places has each
pub all_places_lem : (k i : ℕ) → i < k → has_place (all_places k) i ≡ true
all_places_lem zero i h = absurd (omega arith)
all_places_lem (suc k) zero h = eq-eqb ((2 ^ suc k - 1) % 2) 1 (omega (arith, pow-suc 2 k, pow_pos k))
all_places_lem (suc k) (suc i) h =
    let half : (2 ^ suc k - 1) / 2 ≡ 2 ^ k - 1 = omega (arith, pow-suc 2 k, pow_pos k) in
    ap (λ (b : ℕ). has_place b i) half ∙ all_places_lem k i (omega arith)
