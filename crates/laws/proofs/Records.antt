-- The records that a build makes list the answer's rows, are sound, and list no row twice: the build over records goes hand in
-- hand with the build over lists of rows.
use mathlib.Core.List.Memᴰ
use mathlib.Core.List.{[]}
use mathlib.Core.Path.{refl, subst, sym}
use Prim.Native.Nat.{◌≤◌, ℕ}
use native.Mathlib.Omega.{arith}
use Rattle.paper.specs.Building.{all_places, made, record_sets}
use Rattle.paper.specs.Lists.{Once}
use Rattle.paper.specs.Query.{Query}
use Rattle.paper.specs.Tree.{Tree}
use Rattle.laws.specs.Numbered.{Deterministic, InRange, Numbered}
use Rattle.laws.specs.RowSets.{answer_rows, row_sets}
use Rattle.laws.proofs.Answer.{answer_once}
use Rattle.laws.proofs.Correct.{right}
use Rattle.laws.proofs.Lists.{once_left}
use Rattle.laws.proofs.Simulation.{Simulation, answer_made}
use Rattle.laws.proofs.SoundRecords.{SoundFrom}
use Rattle.laws.proofs.Stands.{Extends, Makes, OnceFrom, Stands, extends_refl, extends_trans, later, nothing_stands, product_stands, single_stands, union_stands}

pub record_simulation : (k N : ℕ) → N ≤ 4095 → Simulation record_sets (row_sets k) k N (Stands k) (Extends k N) Once
record_simulation k N few = record {
  later_refl = extends_refl k N;
  later_trans = extends_trans k N;
  later = later k N;
  nothing = λ b s. record { lists = refl; valid = refl; shape = λ row m. absurd (Memᴰ.not-nil m); once = tt };
  is_nothing = nothing_stands k;
  single = single_stands k N few;
  product = product_stands k N few;
  union = union_stands k N few;
  ok_left = λ n b u v o. once_left u v o;
}

module _ (Q : Query) (det : Deterministic Q) (ok : InRange Q) (t : Tree) (nodes : ℕ) (num : Numbered 0 t nodes) (few : nodes ≤ 4095) where
  both : Makes Q.arity nodes (all_places Q.arity) [] (made Q t) (answer_rows Q t)
  both =
      answer_made record_sets (row_sets Q.arity) Q nodes (Stands Q.arity) (Extends Q.arity nodes) Once
      (record_simulation Q.arity nodes few) ok.flags
      (λ lo t' hi m h. (right Q.arity Q.rules det ok.flags m (omega arith)).once) t num (answer_once Q t det ok nodes num few) []

  -- the set made stands for the answer's rows
  pub records_right : Stands Q.arity (all_places Q.arity) (made Q t).0 (made Q t).1 (answer_rows Q t)
  records_right = both.1

  -- every record made is sound after those before it
  pub records_sound : SoundFrom Q.arity nodes [] (made Q t).0
  records_sound = subst (SoundFrom Q.arity nodes []) (sym both.0.longer) both.0.sound

  -- no record made lists a row twice
  pub records_once : OnceFrom Q.arity [] (made Q t).0
  records_once = subst (OnceFrom Q.arity []) (sym both.0.longer) both.0.once
