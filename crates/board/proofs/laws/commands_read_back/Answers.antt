use Rattle.board.proofs.ReadBack.{commands_read_back}
use Rattle.board.proofs.laws.commands_read_back.Goals as goal

pub returns : goal.returns
returns c = commands_read_back
