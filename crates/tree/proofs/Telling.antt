-- What is told of an input, on plain values: what `text_to_tree` and `put_refusal` leave in the output is it, and it is one.
use mathlib.Core.List.{List}
use mathlib.Core.Path.{◌∙◌, ◌≡◌, ap, refl, subst, sym}
use Prim.Native.Nat.{◌≤◌, ℕ}
use native.Mathlib.Omega.{arith}
use lib.ListN.{drop, length, take}
use lib.Seq.{take_at}
use Rattle.std.specs.Prelude.{IfErr, IfOk, Result, Ok, Err}
use Rattle.paper.specs.declared.Refusal.{Refusal}
use Rattle.paper.specs.Answers.{no_of, told}
use Rattle.paper.specs.Conversions.{TreeReply, no_room, of_none, the_result}
use Rattle.paper.specs.Image.{image_bytes}
use Rattle.paper.specs.Refusals.{No, Reply, answer, output_after, refused}
use Rattle.laws.proofs.Replies.{answer_inj, refused_inj, refused_not_answer}
use Rattle.writings.proofs.ImageTrees.{image_short}
use Rattle.writings.proofs.Texts.{one_tree, writes_allowed}
use Rattle.text.specs.Face.{MakesTree}
use Rattle.lines.specs.PutAt.{put_refusal_at}
use Rattle.lines.specs.Text.{refusal_text}
use Rattle.lines.proofs.Putting.{refusal_short}
use Rattle.lines.proofs.PuttingAt.{puts_refusal_at}
use Rattle.tree.specs.Telling.{Stands, Tells, longest_image, longest_input}
use Rattle.tree.specs.Telling as T

-- the line of a refusal stands in an output that is long enough
pub line_stands : (input : List ℕ) (n : No) → Tells input (refusal_text n) → (out : List ℕ) → length out ≡ longest_image
    → {end : ℕ} {out' : List ℕ} → length out' ≡ longest_image → put_refusal_at n (0, out) ≡ (end, out') → Stands input end out'
line_stands input n tells out long {end} {out'} long' e =
    let short = refusal_short n in
    let put = puts_refusal_at n 0 out (omega (arith, short, long)) e in record {
      within = omega (arith, put.ends, short, long');
      tells = subst (Tells input) (sym put.stands) tells;
    }

module _ (input out : List ℕ) (short : length input ≤ longest_input) (long : length out ≡ longest_image) where
  -- a refusal is 15
  reply_refused : (reply : Reply (List ℕ)) → TreeReply input (length out) reply → (n : No) → refused n ≡ told length reply
      → Tells input (refusal_text n)
  reply_refused _ (of_none none) n e = subst (λ (m : No). Tells input (refusal_text m)) (sym (refused_inj e)) (T.no_writing short none)
  reply_refused _ (no_room {w} h full) n e = absurd (omega (arith, image_short w (writes_allowed input w h), full, long))
  reply_refused _ (the_result h fits) n e = absurd (refused_not_answer e)

  -- an answer is how many bytes of records stand in the output
  reply_answered : (reply : Reply (List ℕ)) → TreeReply input (length out) reply → (n : ℕ) → answer n ≡ told length reply
      → (out' : List ℕ) → length out' ≡ longest_image → out' ≡ output_after reply out → Stands input n out'
  reply_answered _ (of_none none) n e out' long' o = absurd (refused_not_answer (sym e))
  reply_answered _ (no_room h full) n e out' long' o = absurd (refused_not_answer (sym e))
  reply_answered _ (the_result {w} h fits) n e out' long' o =
      let bytes = image_bytes w in
      let all : n ≡ length bytes = answer_inj e in
      let stands : take n out' ≡ bytes = ap (take n) o ∙ take_at bytes (drop (length bytes) out) n (sym all) in record {
        within = omega (arith, all, fits, long, long');
        tells = subst (Tells input) (sym stands) (T.the_records short h);
      }

  pub answer_stands : (r : Result ℕ Refusal) (out' : List ℕ) → MakesTree input out r out' → length out' ≡ longest_image
      → IfOk r (λ n. Stands input n out')
  answer_stands (Ok n) out' M long' = reply_answered M.reply M.right n M.answer out' long' M.written
  answer_stands (Err why) out' M long' = tt

  pub refusal_tells : (r : Result ℕ Refusal) (out' : List ℕ) → MakesTree input out r out' → IfErr r (λ why. Tells input (refusal_text (no_of why)))
  refusal_tells (Ok n) out' M = tt
  refusal_tells (Err why) out' M = reply_refused M.reply M.right (no_of why) M.answer

-- ---- one text
-- what is told of an input is told of it alone: two that are allowed are one
pub one_telling : (input : List ℕ) (a b : List ℕ) → Tells input a → Tells input b → a ≡ b
one_telling input _ _ (T.too_long h) (T.too_long h') = refl
one_telling input _ _ (T.too_long h) (T.no_writing s none) = absurd (omega (arith, h, s))
one_telling input _ _ (T.too_long h) (T.the_records s g) = absurd (omega (arith, h, s))
one_telling input _ _ (T.no_writing s none) (T.too_long h) = absurd (omega (arith, h, s))
one_telling input _ _ (T.no_writing s none) (T.no_writing s' none') = refl
one_telling input _ _ (T.no_writing s none) (T.the_records {w} s' g) = absurd (none w g)
one_telling input _ _ (T.the_records s g) (T.too_long h) = absurd (omega (arith, h, s))
one_telling input _ _ (T.the_records {w} s g) (T.no_writing s' none) = absurd (none w g)
one_telling input _ _ (T.the_records {w = v} s g) (T.the_records {w} s' h) = ap image_bytes (one_tree input v w g h)
