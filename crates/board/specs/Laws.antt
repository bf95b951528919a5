-- What is written is read back.
use Rattle.std.specs.Prelude.{◌≡◌, ℕ, ◌≤◌, List, [], ◌∷◌, ◌++◌, Some, codes, decimal, ◌≢◌}
use Rattle.board.specs.declared.command.Command.{Command}
use Rattle.board.specs.declared.command.Command.TheVariants.{Mount, Save, Get, Checkpoint, Cycle}
use Rattle.board.specs.Lines.{command_of, lines_of}

-- The plain line of a command: its letter, and its numbers without leading zeros.
abbrev pub line_of : Command → List ℕ
line_of (Mount frames) = codes "m " ++ decimal frames
line_of (Save page offset byte) =
    codes "s " ++ (decimal page ++ (codes " " ++ (decimal offset ++ (codes " " ++ decimal byte))))
line_of (Get page offset) = codes "g " ++ (decimal page ++ (codes " " ++ decimal offset))
line_of Checkpoint = codes "k"
line_of (Cycle flash disk) = codes "c " ++ (decimal flash ++ (codes " " ++ decimal disk))

-- Its numbers have 32 bits, the byte has 8.
abbrev pub Small : ℕ → Type 0
Small n = n ≤ 4294967295

abbrev pub Fitting : Command → Type 0
Fitting (Mount frames) = Small frames
Fitting (Save page offset byte) = Small page × Small offset × (byte ≤ 255)
Fitting (Get page offset) = Small page × Small offset
Fitting Checkpoint = Unit {0}
Fitting (Cycle flash disk) = Small flash × Small disk

abbrev pub CommandsReadBack : Type 0
CommandsReadBack = (c : Command) → Fitting c → command_of (line_of c) ≡ Some c

-- Lines, each with a line feed behind it.
abbrev pub fed : List (List ℕ) → List ℕ
fed [] = []
fed (l ∷ ls) = l ++ (10 ∷ fed ls)

-- None of the bytes is a line feed; no line has one.
abbrev pub Unfed : List ℕ → Type 0
Unfed [] = Unit {0}
Unfed (c ∷ cs) = (c ≢ 10) × Unfed cs

abbrev pub AllUnfed : List (List ℕ) → Type 0
AllUnfed [] = Unit {0}
AllUnfed (l ∷ ls) = Unfed l × AllUnfed ls

abbrev pub LinesReadBack : Type 0
LinesReadBack = (ls : List (List ℕ)) → AllUnfed ls → lines_of (fed ls) ≡ ls
