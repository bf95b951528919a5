use Rattle.std.proofs.Common.{◌≡◌, ◌≤◌, drop}
use Rattle.board.specs.Parts.{digits_number}
use Rattle.board.proofs.number.digits_number.Given as goal

abbrev pub invariant-loop-digit : goal.invariant-loop-digit
invariant-loop-digit l =
    (l.number ≤ 4294967295)
    × (digits_number 0 l.digits ≡ digits_number l.number (drop l.digit-index l.digits))
