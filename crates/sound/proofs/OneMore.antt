-- One record more: its weight goes into the work, behind those of the records before it.
use mathlib.Core.List.{List, []}
use mathlib.Core.Logic.{⊎_elim}
use mathlib.Core.Path.{◌∙◌, ◌≡◌, ap, subst, sym}
use Prim.Native.Nat.{◌+◌, ◌<◌, ℕ}
use native.Mathlib.Omega.{arith}
use lib.ListN.{get_or, length, set}
use lib.Seq.{get_or-set_other, get_or-set_same}
use Rattle.paper.specs.declared.Record.{Record}
use Rattle.paper.specs.Records.{listings}
use Rattle.paper.specs.Sound.{entry}
use Rattle.laws.proofs.Shaped.{last_or}
use Rattle.sound.specs.Passing.{SoundRecord, Weighing}
use Rattle.sound.specs.Weights.{weight}

module _ (arity nodes : ℕ) (used : List Record) (n : ℕ) (work weights : List ℕ) (W : Weighing arity nodes used n work weights) where
  abbrev weight_of : ℕ → ℕ
  weight_of k = weight (get_or (listings arity used) k []) (entry used k)

  pub weighs_more : n < length weights → SoundRecord arity nodes used n → Weighing arity nodes used (n + 1) work (set weights n (weight_of n))
  weighs_more room new = record {
    sound = λ k l. ⊎_elim (W.sound k) (λ e. subst (SoundRecord arity nodes used) (sym e) new) (last_or k n l);
    weighed = λ k l. ⊎_elim (old k) (last k) (last_or k n l);
    kept = λ k l. get_or-set_other weights n k (weight_of n) 0 (λ e. omega arith) ∙ W.kept k (omega arith);
  }
    where
      old : (k : ℕ) → k < n → get_or (set weights n (weight_of n)) k 0 ≡ weight_of k
      old k l = get_or-set_other weights n k (weight_of n) 0 (λ e. omega arith) ∙ W.weighed k l

      last : (k : ℕ) → k ≡ n → get_or (set weights n (weight_of n)) k 0 ≡ weight_of k
      last k e =
          ap (λ (j : ℕ). get_or (set weights n (weight_of n)) j 0) e ∙ get_or-set_same weights n (weight_of n) 0 room ∙ ap weight_of (sym e)
