use Rattle.std.proofs.Common.{◌+◌, ◌∷◌, take, sym, ap, ◌∙◌}
use Rattle.std.proofs.lemmas.List.{take_rest}
use Rattle.board.specs.Lines.{fields_of}
use Rattle.board.proofs.Reading.{field_cut, field_last}
use Rattle.board.proofs.command.cut.Goals as goal

pub returns-in-Some : goal.returns-in-Some
returns-in-Some c =
    let xs = c.args.fields.now in
    let i = c.in-Some.space in
    field_cut xs i (sym c.place_of.ensures ∙ c.in-Some.is)
    ∙ ap (λ ys. take i xs ∷ fields_of ys) (sym (take_rest xs (i + 1)))

pub returns-in-None : goal.returns-in-None
returns-in-None c = field_last c.args.fields.now (sym c.place_of.ensures ∙ c.in-None.is)
