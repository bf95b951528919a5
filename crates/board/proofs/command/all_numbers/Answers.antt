use Rattle.std.proofs.Common.{arith}
use Rattle.std.proofs.lemmas.Grind.{common_steps}
use Rattle.board.proofs.Reading.{full_none}
use Rattle.board.proofs.command.all_numbers.Goals as goal

pub returns-then-is_full : goal.returns-then-is_full
returns-then-is_full c letter =
    let none = full_none letter c.loop-left.numbers.items c.in-Some.rest.now in grind (arith, common_steps, none)
