use Rattle.std.proofs.Common.{◌+◌, ◌-◌, length, map, set, Some, Err, sym, ap, ◌∙◌, arith, rules}
use Rattle.std.proofs.lemmas.Result.{err_from_is_err_and}
use Rattle.format.specs.Segments.{all_said}
use Rattle.rules.specs.Recovery.{last_of, foreign_at}
use Rattle.recovery.proofs.Gather.{filled, so_far, filled_more, filled_not, filled_all, fault_is}
use Rattle.recovery.proofs.scan.Scan.entries.Goals as goal

pub returns-in_err-trailer : goal.returns-in_err-trailer
returns-in_err-trailer c =
    let x = c.args.self.now in
    let s = x.shape.groups in
    let gs = map all_said x.segments.places.items in
    let b = last_of (all_said x.segments.newest) in
    let q = c.loop-q.q in
    let was = err_from_is_err_and c.from_residual.result c.from_residual.ensures.1 in
    let whole =
    so_far s gs b x.tail.items (b + length x.tail.items) _ c.last-q-end.result c.front-q.result q c.loop-q.entries
    c.last-q-end.ensures.exact c.front-q.ensures c.loop-q.invariant.1 in
    rw (was.1, was.2)
    (ap Err (fault_is c.described.result _ _ c.in_err-trailer.ensures.ok_part c.in_err-trailer.ensures.value ∙ c.touched-foreign.ensures ∙ ap foreign_at c.frame_of-frame.ensures.exact)
    ∙ sym (whole ∙ filled_not s gs b x.tail.items (c.last-q-end.result + 1) q c.loop-q.entries (omega arith) (sym c.in_err-trailer.ensures.ok_part ∙ c.described.ensures)))

pub loop-q-preserved : goal.loop-q-preserved
loop-q-preserved c =
    let x = c.args.self.now in
    let s = x.shape.groups in
    let gs = map all_said x.segments.places.items in
    let b = last_of (all_said x.segments.newest) in
    let q = c.loop-q.q in
    let t = c.in_ok-trailer.trailer in
    let end = c.last-q-end.result + 1 in (
      search rules,
      c.loop-q.invariant.1
          ∙ filled_more s gs b x.tail.items end q t c.loop-q.entries (omega arith) (omega arith) (omega arith)
          (sym c.in_ok-trailer.ensures.ok_part ∙ c.described.ensures)
          ∙ ap (λ k. filled s gs b x.tail.items (set c.loop-q.entries k (Some t)) (end - (q + 1)) (q + 1))
          (sym (c.from.ensures ∙ c.frame_of-frame.ensures.exact)),
    )

pub returns : goal.returns
returns c =
    let x = c.args.self.now in
    let s = x.shape.groups in
    let gs = map all_said x.segments.places.items in
    let b = last_of (all_said x.segments.newest) in
    let q = c.loop-q.q in
    sym
    (so_far s gs b x.tail.items (b + length x.tail.items) _ c.last-q-end.result c.front-q.result q c.loop-q.entries
    c.last-q-end.ensures.exact c.front-q.ensures c.loop-q.invariant.1
    ∙ filled_all s gs b x.tail.items (c.last-q-end.result + 1) q c.loop-q.entries (omega arith))
