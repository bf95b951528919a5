use Rattle.std.proofs.Common.{◌+◌, length, Ok, sym, ap, ◌∙◌, arith}
use Rattle.std.proofs.lemmas.Result.{err_from_is_err_and}
use Rattle.rules.specs.Queue.{frames}
use Rattle.recovery.specs.Tails.{tail_left}
use Rattle.recovery.proofs.TailFrames.{ahead, tail_more, tail_fails, tail_ends, tail_all}
use Rattle.recovery.proofs.tail.read_tail.Goals as goal

pub returns-in_err-trailer-clause-found : goal.returns-in_err-trailer-clause-found
returns-in_err-trailer-clause-found g c = λ ok few.
    let m = g.F.Medium.means c.args.flash.now in
    let x = g.F.Medium.means c.loop-q.flash in
    let p = c.args.shape.pages in
    let q = c.args.after + 1 in
    let inv = c.loop-q.invariant in
    let was = err_from_is_err_and c.from_residual.result c.from_residual.ensures.1 in
    rw (was.1, was.2)
    (sym (tail_fails m p q c.loop-q.tail.items (tail_left m p q 0) (inv.3 ok few) x c.loop-q.q c.read_one.result
    (inv.2 ok) inv.0 (omega arith) (c.read_one.ensures.found (inv.1 ok) (ap frames (inv.2 ok) ∙ few))
    c.in_err-trailer.field-0.0 c.in_err-trailer.was))

pub returns-in_default-clause-found : goal.returns-in_default-clause-found
returns-in_default-clause-found g c = λ ok few.
    let m = g.F.Medium.means c.args.flash.now in
    let x = g.F.Medium.means c.loop-q.flash in
    let p = c.args.shape.pages in
    let q = c.args.after + 1 in
    let inv = c.loop-q.invariant in
    sym (tail_ends m p q c.loop-q.tail.items (tail_left m p q 0) (inv.3 ok few) x c.loop-q.q c.read_one.result
    (inv.2 ok) inv.0 (omega arith) (c.read_one.ensures.found (inv.1 ok) (ap frames (inv.2 ok) ∙ few))
    (c.in_ok-trailer.was ∙ ap Ok c.in_default.is))

pub loop-q-preserved : goal.loop-q-preserved
loop-q-preserved g c =
    let m = g.F.Medium.means c.args.flash.now in
    let x = g.F.Medium.means c.loop-q.flash in
    let p = c.args.shape.pages in
    let q = c.args.after + 1 in
    let inv = c.loop-q.invariant in (
      omega (arith, inv.0, c.push.ensures.len),
      λ ok. c.read_one.ensures.keeps (inv.1 ok),
      λ ok. c.read_one.ensures.same (inv.1 ok) ∙ inv.2 ok,
      λ ok few.
          tail_more m p q c.loop-q.tail.items (tail_left m p q 0) (inv.3 ok few) x c.loop-q.q c.read_one.result
          (inv.2 ok) inv.0 (omega arith) (c.read_one.ensures.found (inv.1 ok) (ap frames (inv.2 ok) ∙ few))
          c.in-Some.trailer (c.in_ok-trailer.was ∙ ap Ok c.in-Some.is)
          ∙ ap (λ ts. ahead ts (tail_left m p q (length ts))) (sym c.push.ensures.items),
      omega (arith, inv.0, c.push.ensures.len, rw c.in-Some.is at c.in_ok-trailer.ensures.most),
    )

pub returns-clause-found : goal.returns-clause-found
returns-clause-found g c = λ ok few.
    let m = g.F.Medium.means c.args.flash.now in
    let p = c.args.shape.pages in
    let q = c.args.after + 1 in
    let inv = c.loop-q.invariant in
    sym (tail_all m p q c.loop-q.tail.items (tail_left m p q 0) (inv.3 ok few) (omega (arith, inv.0)))
