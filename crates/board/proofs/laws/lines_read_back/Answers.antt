use Rattle.board.proofs.ReadBack.{lines_read_back}
use Rattle.board.proofs.laws.lines_read_back.Goals as goal

pub returns : goal.returns
returns c = lines_read_back
