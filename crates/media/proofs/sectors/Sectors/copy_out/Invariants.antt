use Rattle.std.proofs.Common.{◌≡◌, ℕ, ◌<◌, get_or}
use Rattle.media.specs.Card.{content}
use Rattle.media.proofs.sectors.Sectors.copy_out.Given as goal

abbrev pub invariant-loop-at : goal.invariant-loop-at
invariant-loop-at l = (k : ℕ) → k < l.at → get_or l.into k 0 ≡ content l.self.bytes.now 0 k
