use Rattle.std.proofs.Common.{◌≡◌, ◌+◌, ◌-◌, ◌*◌, ◌/◌, ◌%◌, ◌≤◌, ap, ◌∙◌, arith}
use Rattle.rules.specs.Queue.{frames}
use Rattle.queue.specs.View.{view}
use Rattle.queue.proofs.Joining.{segment_given}
use Rattle.queue.proofs.queue.Queue.write_segment.Goals as goal

pub returns : goal.returns
returns g c = λ o.
    let see = view g.F.Medium g.D.Medium in
    let size_is = c.size-size.ensures o.media.flash in
    let many : c.frames_of.result ≡ frames (see c.args.self.now).flash =
    c.frames_of.ensures.exact ∙ ap (λ n. 15 * ((n - 1) / 16)) size_is in
    let some : 1 ≤ c.frames_of.result = omega (arith, many, o.sized.least) in
    let (kept, put) =
    c.put_flash.ensures
    (record { media = record { flash = o.media.flash; disk = o.media.disk }; sized = o.sized }) in (
      kept,
      segment_given (see c.args.self.now) (see c.put_flash.new.self) c.segment_bytes-bytes.result
          c.frames_of.result c.segment_page.result c.put_flash.result many
          (c.segment_bytes-bytes.ensures some)
          (c.segment_page.ensures
          ∙ ap (λ n. 15 * ((n - 1) / 16) + (c.args.self.now.last / 15 - 1) % ((n - 1) / 16 + 1)) size_is) put,
    )
