use Rattle.std.proofs.Common.{◌≡◌, ◌-◌, option_map, length}
use Rattle.board.specs.Lines.{fields_of, all_numbers}
use Rattle.board.specs.Parts.{fields_left}
use Rattle.board.proofs.Reading.{before_all}
use Rattle.board.proofs.command.all_numbers.Given as goal

abbrev pub invariant-loop-left : goal.invariant-loop-left
invariant-loop-left l =
    all_numbers (fields_of l.fields)
    ≡ before_all l.numbers.items (all_numbers (fields_left (option_map (λ more. more.now) l.left)))

abbrev pub decreases-loop-left : goal.decreases-loop-left
decreases-loop-left l = 4 - length l.numbers.items
