-- The symbols' own numbers are filled with the end, and a symbol's cell is the symbol.
use Rattle.std.proofs.Common.{◌≡◌, length, take, get_or, replicate, ◌∙◌, ap, rules, arith}
use Rattle.std.proofs.lemmas.List.{get_or_append_left, get_or-replicate, length-take-le}
use Rattle.stream.proofs.lists.start_lists.Goals as goal

pub returns : goal.returns
returns c =
    let lists = c.args.lists.now in
    let long : length (take 128 lists) ≡ 128 = length-take-le 128 lists c.requires in
    let filled : c.fill.new.self ≡ replicate (length (take 128 lists)) c.args.end = c.fill.ensures.after (λ y e. e) in
    λ s h. (
      get_or_append_left c.fill.new.self _ 0 s (omega (arith, c.fill.ensures.len)) ∙ ap (λ xs. get_or xs s 0) filled ∙ get_or-replicate _ s c.args.end 0 (omega arith),
      let called = (c.from_fn.ensures.items.at s 0 h).2 in search rules,
    )
