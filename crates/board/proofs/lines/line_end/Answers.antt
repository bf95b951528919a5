use Rattle.std.proofs.Common.{◌∙◌, ap, length, unwrap_or}
use Rattle.std.proofs.lemmas.List.{take_rest}
use Rattle.std.specs.List.{position_or_len}
use Rattle.board.proofs.Reading.{feeds, place, line_at}
use Rattle.board.proofs.lines.line_end.Goals as goal

pub returns-clause-line : goal.returns-clause-line
returns-clause-line c lt =
    let rest = c.in-Some.rest.now in
    let same = c.in-Some.ensures.lookup.0.2 ∙ take_rest c.args.input.now c.args.from in
    line_at c.args.input.now c.args.from c.unwrap_or.result lt
    (c.unwrap_or.ensures
    ∙ ap (λ o. unwrap_or o (length rest)) c.place_of-feed.ensures
    ∙ place feeds rest
    ∙ ap (position_or_len feeds) same)
