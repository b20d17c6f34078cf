-- `put_number` puts the digits that `io::decimal` makes.
use Rattle.std.proofs.Common.{List, ℕ, ap, sym, ◌∙◌, rules}
use Rattle.lines.specs.PutAt.{put_at}
use Rattle.lines.proofs.Numbers.{decimal_text}
use Rattle.lines.proofs.put_number.Goals as goal

pub returns : goal.returns
returns c =
    let made = c.decimal-count in
    ap (λ (w : List ℕ). put_at w (c.args.at, c.args.text.now))
    (sym (decimal_text c.args.n made.result made.new.out (search rules) made.ensures.len made.ensures.digits))
    ∙ c.put_word.ensures
