use Rattle.std.proofs.Common.{◌≡◌, ◌+◌, ◌-◌, None, get_or, rules}
use Rattle.rules.specs.Queue.{place, or_zero}
use Rattle.queue.specs.Runs.{run_in}
use Rattle.queue.proofs.Runs.{made, run_given}
use Rattle.queue.proofs.segment.segment_of.Goals as goal

pub returns : goal.returns
returns c = λ some.
    let n = c.args.frames in
    let es = c.args.entries.now in
    let q = c.args.last - 14 in
    let all : c.from_fn.result ≡ run_in n es 15 q =
    run_given n es 15 q c.from_fn.result c.from_fn.ensures.items.long
    (made _ (λ i. or_zero (get_or es (place n (q + i)) None)) _ (λ i t f k. search rules) c.from_fn.result 15 c.from_fn.ensures.items) in
    λ j. record { last = c.args.last; front = c.args.front; entries = all j }
