-- What a line prints.
use Rattle.std.specs.Prelude.{ℕ, List, ◌++◌, codes, decimal}
use Rattle.rules.specs.Refusals.{number_of}
use Rattle.board.specs.declared.command.Command.{Command}
use Rattle.board.specs.declared.command.Command.TheVariants as command
use Rattle.board.specs.declared.command.Letter.{Letter}
use Rattle.board.specs.declared.command.Letter.TheVariants as letter
use Rattle.board.specs.declared.reply.Reply.{Reply}
use Rattle.board.specs.declared.reply.Reply.TheVariants.{Mounted, Saved, Got, Kept, Cycled, Refused, Unclear}

-- The letter of a command.
abbrev pub letter_of : Command → Letter
letter_of (command.Mount frames) = letter.Mount
letter_of (command.Save page offset byte) = letter.Save
letter_of (command.Get page offset) = letter.Get
letter_of command.Checkpoint = letter.Checkpoint
letter_of (command.Cycle flash disk) = letter.Cycle

abbrev pub letter_text : Letter → List ℕ
letter_text letter.Mount = codes "m"
letter_text letter.Save = codes "s"
letter_text letter.Get = codes "g"
letter_text letter.Checkpoint = codes "k"
letter_text letter.Cycle = codes "c"

-- The line of a reply, without its line feed.
abbrev pub said : Reply → List ℕ
said (Mounted m) =
    codes "m " ++ (decimal m.last ++ (codes " " ++ (decimal m.live ++ (codes " " ++ decimal m.reads))))
said (Saved version) = codes "s " ++ decimal version
said (Got byte version) = codes "g " ++ (decimal byte ++ (codes " " ++ decimal version))
said (Kept count) = codes "k " ++ decimal count
said Cycled = codes "c"
said (Refused letter cause) = letter_text letter ++ (codes " -" ++ decimal (number_of cause))
said Unclear = codes "?"
