-- A part of the work that is set to 0. Then sets up to a bound where a part is pasted over, and two works that agree from a place on.
use mathlib.Core.Bool.{Bool, false, true}
use mathlib.Core.List.{List, ◌++◌}
use mathlib.Core.Path.{◌∙◌, ◌≡◌, ap, refl, sym}
use Prim.Native.Nat.{◌+◌, ◌-◌, ◌<◌, ◌%◌, ◌≤◌, ℕ}
use native.Mathlib.Omega.{arith}
use borrow.Author.Tests.{ltb-false, ltb-true}
use lib.Dec.{ltb}
use lib.ListN.{drop, get_or, length, length-drop, length-replicate, length-take, replicate, take}
use lib.Seq.{ext_get_or, get_or-drop, paste}
use borrow.Rule.Slice.PartMut.{put_mid}
use Rattle.std.proofs.lemmas.Slice.{put_mid-paste}
use Rattle.building.specs.Bounds.{slot_sets}
use Rattle.building.specs.Slots.{slot_at}
use Rattle.building.proofs.Frames.{paste_before, paste_within}

-- a part of the work filled with 0, as the library's `fill` says it of the part
pub filled : (work part : List ℕ) (from n : ℕ) → from + n ≤ length work
    → part ≡ replicate (length (take (from + n - from) (drop from work))) 0
    → put_mid from (from + n - from) work part ≡ paste work from (replicate n 0) n
filled work part from n fits e =
    put_mid-paste from (from + n - from) work part (replicate n 0) n (e ∙ ap (λ m. replicate m 0) long) (omega arith) (sym (length-replicate n 0))
  where
    long : length (take (from + n - from) (drop from work)) ≡ n
    long = length-take (from + n - from) (drop from work) ∙ omega (arith, length-drop from work)

-- and its first part
pub filled_first : (work part : List ℕ) (n : ℕ) → n ≤ length work → part ≡ replicate (length (take n work)) 0
    → part ++ drop n work ≡ replicate n 0 ++ drop n work
filled_first work part n fits e =
    ap (λ zeros. zeros ++ drop n work) (e ∙ ap (λ m. replicate m 0) (length-take n work ∙ omega arith))

-- ---- sets up to a bound
-- those before the part that is pasted and those of the part
pub paste_low : (work new : List ℕ) (base size bound : ℕ) → base + size ≤ length work → size ≤ length new
    → ((i : ℕ) → i < base → slot_at work i ≤ bound) → ((i : ℕ) → i < size → slot_at new i ≤ bound)
    → (i : ℕ) → i < base + size → slot_at (paste work base new size) i ≤ bound
paste_low work new base size bound fits enough before within i h = go (ltb i base) refl
  where
    go : (c : Bool) → ltb i base ≡ c → slot_at (paste work base new size) i ≤ bound
    go true e =
        omega (
          arith,
          ap (λ x. x % slot_sets) (paste_before work new base size fits enough i (ltb-true i base e)),
          before i (ltb-true i base e),
        )
    go false e =
        let j : ℕ = i - base in
        let there : base + j ≡ i = omega (arith, ltb-false i base e) in
        let small : j < size = omega (arith, ltb-false i base e) in
        omega (
          arith,
          ap (slot_at (paste work base new size)) there,
          ap (λ x. x % slot_sets) (paste_within work new base size fits enough j small),
          within j small,
        )

-- ---- works that agree
module _ (work work' : List ℕ) (long : length work' ≡ length work) where
  pub same_behind : (n : ℕ) → ((i : ℕ) → n ≤ i → get_or work' i 0 ≡ get_or work i 0) → drop n work' ≡ drop n work
  same_behind n same =
      ext_get_or 0 (drop n work') (drop n work) (simp length-drop (ap (λ (m : ℕ). m - n) long))
      (λ i h. get_or-drop n work' i 0 ∙ same (n + i) (omega arith) ∙ sym (get_or-drop n work i 0))
