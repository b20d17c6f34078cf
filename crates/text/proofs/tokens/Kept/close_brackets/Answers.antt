-- Brackets that are closed take the room of their last pad, and each label that has waited that of its branch.
use Rattle.std.proofs.Common.{Bool, true, false, cond, List, [], ◌∷◌, ℕ, ◌≡◌, ◌+◌, ◌*◌, ap, arith, length, length-append}
use Rattle.text.specs.Pass.{Label, branches, closed, inner, outer, siblings_end}
use Rattle.text.specs.Room.{one}
use Rattle.text.proofs.tokens.Kept.close_brackets.Goals as goal

length-branches : (ls : List ℕ) → length (branches ls) ≡ 2 * length ls
length-branches [] = omega arith
length-branches (l ∷ ls) = omega (arith, length-branches ls)

length-siblings_end : (may : Bool) (ls : List ℕ) → length (siblings_end may ls) ≡ 2 * one may + 2 + 2 * length ls
length-siblings_end true ls = omega (arith, length-branches ls)
length-siblings_end false ls = omega (arith, length-branches ls)

-- a label waits on, or has its branch
length-outer : (ls : List Label) → length (closed (outer ls)) + length (inner ls) ≡ length ls
length-outer [] = omega arith
length-outer (l ∷ ls) = go l.is_open (length-outer ls)
  where
    go : (p : Bool) → length (closed (outer ls)) + length (inner ls) ≡ length ls
        → length (closed (cond p (l ∷ ls) (outer ls))) + length (cond p [] (l.number ∷ inner ls)) ≡ length (l ∷ ls)
    go true h = omega arith
    go false h = omega arith

pub invariant_of-self : goal.invariant_of-self
invariant_of-self c = let k = c.self.inside in record {
  few = c.self.invariant.few;
  waited = omega (arith, c.self.invariant.waited, ap length c.end_siblings.ensures.labels, length-outer k.waiting);
  room = omega (
    arith,
    c.self.invariant.room,
    ap length c.end_siblings.ensures.labels,
    ap length c.end_siblings.ensures.records,
    length-append k.image (siblings_end k.may_open (inner k.waiting)),
    length-siblings_end k.may_open (inner k.waiting),
    length-outer k.waiting,
  );
}
