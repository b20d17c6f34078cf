-- Refusals 1 and 2 of all that reads a tree, whatever it answers then: they are exact, with their position.
-- First that the first test that fails is the tree's or else the query's, then either of them, then the theorem.
use mathlib.Core.List.{List, ◌++◌, [], ◌∷◌}
use mathlib.Core.Logic.{◌↔◌, ◌⊎◌, inl, inr, ⊎_elim}
use mathlib.Core.Path.{◌∙◌, ◌≡◌, ap, subst, sym}
use Prim.Native.Nat.{◌≤◌, ℕ}
use native.Mathlib.Omega.{arith}
use Rattle.paper.specs.Refusals.{No, Test, no, no_at, number_in, query_part, refused, tree_part, unless, tree_end}
use Rattle.paper.specs.Stream.{query_records, records_of, tree_records}
use Rattle.laws.specs.StreamCauses.{StreamRefused, TreeRefused}
use Rattle.laws.proofs.AtEach.{ThreeOrFour, query_says, tree_says}
use Rattle.laws.proofs.Judged.{FailsFirst, fails_refused}
use Rattle.laws.proofs.Replies.{Passes, answers, passes_left, refused_inj, refused_not_answer, says_refused}
use Rattle.laws.proofs.StreamRefusals.{Outcome, all_fine, first_refused, refused_not_fine, refused_same, stream_outcome, stream_refused, stream_tests}

-- it is of the first list; or that passes, and it is of the second
fails_either : (ts us : List Test) (w : No) → FailsFirst (ts ++ us) w → FailsFirst ts w ⊎ (Passes ts × FailsFirst us w)
fails_either [] us w f = inr (tt, f)
fails_either (t ∷ ts) us w (inl f) = inl (inl f)
fails_either (t ∷ ts) us w (inr f) = ⊎_elim (λ g. inl (inr (f.0, g))) (λ (p, g). inr ((f.0, p), g)) (fails_either ts us w f.1)

module _ {A : Type 0} (a : A) (input : List ℕ) where
  abbrev of_tree : List Test
  of_tree = tree_part (tree_records (records_of input))

  abbrev of_query : List Test
  of_query = query_part (tree_end input) (query_records (records_of input))

  -- no test of the tree fails: it is answered
  none_fails : Passes of_tree → ((w : No) → TreeRefused input w → ⊥) → (w : No) → (unless of_tree a ≡ refused w) ↔ TreeRefused input w
  none_fails p none w = (λ e. absurd (refused_not_answer (sym e ∙ answers of_tree a p)), λ r. absurd (none w r))

  module _ (n position : ℕ) (s : StreamRefused input n position) where
    -- the first that fails is the tree's
    of_tree_lem : FailsFirst of_tree (no_at n position) → (w : No) → (unless of_tree a ≡ refused w) ↔ TreeRefused input w
    of_tree_lem f w = (λ e. subst (TreeRefused input) (refused_inj (sym given ∙ e)) (s, low), back w)
      where
        given : unless of_tree a ≡ refused (no_at n position)
        given = fails_refused of_tree (no_at n position) a f

        low : n ≤ 2
        low = says_refused (λ v. number_in v ≤ 2) of_tree a (tree_says (tree_records (records_of input))) given

        back : (v : No) → TreeRefused input v → unless of_tree a ≡ refused v
        back (no m) r = absurd r
        back (no_at m at) r = given ∙ ap refused (refused_same s r.0)

    -- or the query's, which is no fault of the tree
    of_query_lem : FailsFirst of_query (no_at n position) → (w : No) → TreeRefused input w → ⊥
    of_query_lem f (no m) r = r
    of_query_lem f (no_at m at) r =
        let given : unless of_query a ≡ refused (no_at n position) = fails_refused of_query (no_at n position) a f in
        let high = says_refused ThreeOrFour of_query a (query_says (tree_end input) (query_records (records_of input))) given in
        omega (arith, high.0, r.1, ap number_in (refused_same s r.0))

  -- a tree is refused exactly where the first record at fault is the tree's, with that record's number and position
  pub tree_exact : (w : No) → (unless of_tree a ≡ refused w) ↔ TreeRefused input w
  tree_exact = by_stream (stream_outcome input)
    where
      by_stream : Outcome [] input (stream_tests input) → (w : No) → (unless of_tree a ≡ refused w) ↔ TreeRefused input w
      by_stream (all_fine p f) = none_fails (passes_left of_tree of_query p) never
        where
          never : (v : No) → TreeRefused input v → ⊥
          never (no m) r = r
          never (no_at m at) r = refused_not_fine r.0 f
      by_stream (first_refused n position f s) =
          ⊎_elim (of_tree_lem n position (stream_refused s)) (λ (p, g). none_fails p (of_query_lem n position (stream_refused s) g))
          (fails_either of_tree of_query (no_at n position) f)
