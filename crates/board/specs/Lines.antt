-- The lines of an input, and the command that a line gives.
use Rattle.std.specs.Prelude.{ℕ, ◌+◌, ◌-◌, ◌*◌, Bool, cond, ◌&&◌, List, [], ◌∷◌, length, Some, None, Option, ◌==◌, nat_le}
use Rattle.std.specs.Char.{is_ascii_digit}
use Rattle.std.specs.List.{list_all, onto_first, slice_split}
use Rattle.board.specs.declared.command.Command.{Command}
use Rattle.board.specs.declared.command.Command.TheVariants.{Mount, Save, Get, Checkpoint, Cycle}

-- The lines of an input: each ends with a line feed, the last one also without.
abbrev pub lines_of : List ℕ → List (List ℕ)
lines_of [] = []
lines_of (c ∷ cs) = cond (c == 10) ([] ∷ lines_of cs) (onto_first c (lines_of cs))

-- The pieces between the spaces: one more than there are spaces.
abbrev pub fields_of : List ℕ → List (List ℕ)
fields_of = slice_split (λ c. c == 32)

-- Digits, and the number that they write after the number so far.
abbrev pub all_digits : List ℕ → Bool
all_digits = list_all is_ascii_digit

abbrev pub value : ℕ → List ℕ → ℕ
value n [] = n
value n (c ∷ cs) = value (10 * n + (c - 48)) cs

-- The number of a field: at least one digit, nothing but digits, and at most 4,294,967,295.
abbrev pub number_of : List ℕ → Option ℕ
number_of cs = cond (nat_le 1 (length cs) && (all_digits cs && nat_le (value 0 cs) 4294967295)) (Some (value 0 cs)) None

-- A number, and those after it, if all are numbers.
abbrev pub followed : Option ℕ → Option (List ℕ) → Option (List ℕ)
followed None more = None
followed (Some n) None = None
followed (Some n) (Some more) = Some (n ∷ more)

abbrev pub all_numbers : List (List ℕ) → Option (List ℕ)
all_numbers [] = Some []
all_numbers (f ∷ fs) = followed (number_of f) (all_numbers fs)

-- The numbers behind the letter of a line: none, or each after one space.
abbrev pub numbers_of : List ℕ → Option (List ℕ)
numbers_of [] = Some []
numbers_of (c ∷ cs) = cond (c == 32) (all_numbers (fields_of cs)) None

-- The commands: `k`; `m` B; `g` page offset; `c` flash disk; `s` page offset byte, the byte at most 255.
abbrev pub command_by : ℕ → List ℕ → Option Command
command_by letter [] = cond (letter == 107) (Some Checkpoint) None
command_by letter (a ∷ []) = cond (letter == 109) (Some (Mount a)) None
command_by letter (a ∷ b ∷ []) =
    cond (letter == 103) (Some (Get a b)) (cond (letter == 99) (Some (Cycle a b)) None)
command_by letter (a ∷ b ∷ c ∷ []) = cond (letter == 115 && nat_le c 255) (Some (Save a b c)) None
command_by letter (a ∷ b ∷ c ∷ d ∷ more) = None

abbrev pub command_with : ℕ → Option (List ℕ) → Option Command
command_with letter None = None
command_with letter (Some numbers) = command_by letter numbers

-- The command of a line, if it is well-formed: a letter, and its numbers.
abbrev pub command_of : List ℕ → Option Command
command_of [] = None
command_of (letter ∷ rest) = command_with letter (numbers_of rest)
