use Rattle.std.proofs.Common.{◌-◌, length}
use Rattle.session.specs.Replies.{Carries}
use Rattle.session.proofs.play.reply_to_all.Given as goal

abbrev pub invariant-loop-from : goal.invariant-loop-from
invariant-loop-from g l = Carries g.F.Medium g.D.Medium l.initial.store l.store

abbrev pub decreases-loop-from : goal.decreases-loop-from
decreases-loop-from g l = length l.input - l.from
