-- From what a call's contract says, that answer and state are what the rule gives, to the whole promise.
use Rattle.std.proofs.Common.{List, Result, refl}
use Rattle.medium.specs.Outcome.{Outcome, Wrote, Gives, done, refused, struck}
use Rattle.rules.specs.Steps.{Ends}
use Rattle.rules.specs.Promise.{EachCall}
use Rattle.rules.specs.Store.{step}
use Rattle.rules.proofs.Theorem.{every_run}

-- An outcome that gives an answer and a state ends so, with some frame writes.
ends_so : {E S A : Type 0} (o : Outcome E S A) (r : Result A E) (t : S) → Gives o r t
    → (ws : List Wrote) × Ends o r t ws
ends_so (done a s ws) r t g = (ws, (g.0, g.1, refl))
ends_so (refused e s ws) r t g = (ws, (g.0, g.1, refl))
ends_so (struck e f ws) r t g = (ws g.1.0, (g.0, (g.1.0, g.1.1, refl)))

pub each_call : EachCall
each_call x c r y g = λ b run.
    let e = ends_so (step x c) r y g in
    (e.0, e.1, every_run x b run c r y e.0 e.1)
