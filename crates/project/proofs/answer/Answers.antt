-- `answer`: where the tests hold, the cells keep the nodes that stand at the place (`Projecting`), and the bytes that they give are the marks.
use Rattle.std.proofs.Common.{◌≡◌, ◌∙◌, ◌-◌, ◌≤◌, ℕ, true, List, ◌++◌, Ok, ap, drop, length, length-take-le, sym, take}
use Rattle.std.proofs.lemmas.List.{length-map}
use borrow.Author.Tests.{le-leb}
use Rattle.paper.specs.declared.Head.{Head}
use Rattle.paper.specs.declared.Record.{Record}
use Rattle.paper.specs.Answers.{told}
use Rattle.paper.specs.Lists.{up_to}
use Rattle.paper.specs.Questions.{marks_of}
use Rattle.paper.specs.Refusals.{answer, is_open, output_after}
use Rattle.laws.proofs.Counting.{length_count_from}
use Rattle.laws.specs.QuestionCauses.{Sound}
use Rattle.sound.proofs.Questions.{all_hold}
use Rattle.project.specs.Answer.{Answers, own_reply_of, own_tests}
use Rattle.project.specs.Marks.{Kept, marks_in}
use Rattle.project.specs.Passing.{nodes_kept}
use Rattle.project.proofs.Projecting.{Ends, pass_ends, pass_ready}
use Rattle.project.proofs.answer.Goals as goal

module _ {h : Head} {table : List Record} (S : Sound h table) (work : List ℕ) (room : h.used ≤ length work) (place : ℕ)
    (opened : is_open h place ≡ true) (out : List ℕ) (fits : h.nodes ≤ length out) {now : List ℕ}
    (pass : now ≡ nodes_kept (place - 1) h table work) where
  bytes : length (take h.nodes out) ≡ h.nodes
  bytes = length-take-le h.nodes out fits

  passed : Ends h table place work now
  passed = rw pass (pass_ends h table S place opened work room)

  asks : Kept (take h.used now) (length (take h.nodes out))
  asks = rw bytes passed.kept

  ends : {marks : List ℕ} → marks ≡ marks_in (take h.used now) (length (take h.nodes out))
      → Answers h table work place out (Ok tt) now (marks ++ drop h.nodes out)
  ends given = record {
    answer = sym (ap (told (λ _. tt)) held);
    rest = passed.behind;
    written =
        ap (λ m. m ++ drop h.nodes out) (given ∙ ap (marks_in (take h.used now)) bytes ∙ passed.marks)
        ∙ sym (ap (λ n. marks_of h table place ++ drop n out) long)
        ∙ sym (ap (λ q. output_after q out) held);
  }
    where
      held : own_reply_of h table place (length out) ≡ answer (marks_of h table place)
      held = all_hold (marks_of h table place) (own_tests h place (length out)) (opened, (le-leb h.nodes (length out) fits, tt))

      long : length (marks_of h table place) ≡ h.nodes
      long = length-map (up_to h.nodes) _ ∙ length_count_from h.nodes 0

pub keep_nodes-requires : goal.keep_nodes-requires
keep_nodes-requires c = pass_ready c.requires.sound c.args.work.now c.requires.room

pub mark-requires : goal.mark-requires
mark-requires c =
    asks c.requires.sound c.args.work.now c.requires.room c.args.place (sym c.is_open.ensures ∙ c.if-not-is_open.false)
    c.args.out.now c.if-out-nodes.false c.keep_nodes.ensures

pub returns : goal.returns
returns c =
    ends c.requires.sound c.args.work.now c.requires.room c.args.place (sym c.is_open.ensures ∙ c.if-not-is_open.false)
    c.args.out.now c.if-out-nodes.false c.keep_nodes.ensures c.mark.ensures
