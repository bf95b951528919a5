use Rattle.std.proofs.Common.{◌+◌, ◌-◌, map, sym, ap, ◌∙◌, arith}
use Rattle.std.proofs.lemmas.List.{map_push}
use Rattle.std.proofs.lemmas.Result.{err_from_is_err_and}
use Rattle.rules.specs.Queue.{groups}
use Rattle.rules.specs.Recovery.{read_segments, later, newest}
use Rattle.format.specs.Segments.{all_said}
use Rattle.recovery.proofs.SegmentPages.{ahead, newest_push, read_more, read_fails, read_all}
use Rattle.recovery.proofs.segments.read_segments.Goals as goal

pub returns-in_err-segment-clause-found : goal.returns-in_err-segment-clause-found
returns-in_err-segment-clause-found g c = λ ok few.
    let m = g.F.Medium.means c.args.flash.now in
    let p = c.args.shape.pages in
    let n = c.args.shape.groups + 1 in
    let i = c.loop-place.place in
    let inv = c.loop-place.invariant in
    let gs = map all_said c.loop-place.places.items in
    let was = err_from_is_err_and c.from_residual.result c.from_residual.ensures.1 in
    let here = c.in_err-segment.ensures.found (inv.3 ok) (ap groups (inv.4 ok) ∙ few) in
    rw (was.1, was.2)
    (sym (read_fails m p n i gs (read_segments m p n 0) (inv.5 ok few) _ (inv.4 ok) c.in_err-segment.field-0.0 (omega arith) here))

pub loop-place-preserved : goal.loop-place-preserved
loop-place-preserved g c =
    let m = g.F.Medium.means c.args.flash.now in
    let p = c.args.shape.pages in
    let n = c.args.shape.groups + 1 in
    let i = c.loop-place.place in
    let os = c.loop-place.places.items in
    let o = c.in_ok-segment.segment in
    let gs = map all_said os in
    let inv = c.loop-place.invariant in
    let table = ap (map all_said) c.push.ensures.items ∙ map_push all_said os o in (
      c.push.ensures.len ∙ ap (λ k. k + 1) inv.0,
      c.newer-newest.ensures.most inv.1 c.in_ok-segment.ensures.most,
      c.newer-newest.ensures.exact
          ∙ ap (λ x. later x (all_said o)) inv.2
          ∙ sym (newest_push gs (all_said o))
          ∙ sym (ap newest table),
      λ ok. c.read_one.ensures.keeps (inv.3 ok),
      λ ok. c.read_one.ensures.same (inv.3 ok) ∙ inv.4 ok,
      λ ok few.
          let here = c.in_ok-segment.ensures.found (inv.3 ok) (ap groups (inv.4 ok) ∙ few) in
          read_more m p n i gs (read_segments m p n 0) (inv.5 ok few) _ (inv.4 ok) (all_said o) (omega arith)
          here
          ∙ ap (λ hs. ahead hs (read_segments m p (n - (i + 1)) (i + 1))) (sym table),
    )

pub returns-clause-found : goal.returns-clause-found
returns-clause-found g c = λ ok few.
    let m = g.F.Medium.means c.args.flash.now in
    let p = c.args.shape.pages in
    let n = c.args.shape.groups + 1 in
    let i = c.loop-place.place in
    sym (read_all m p n i _ (read_segments m p n 0) (c.loop-place.invariant.5 ok few) (omega arith))
