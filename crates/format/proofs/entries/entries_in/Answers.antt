use Rattle.std.proofs.Common.{◌≡◌, ◌+◌, take, sym, ap, ◌∙◌, ap₂, arith, length-set}
use Rattle.std.proofs.lemmas.List.{take_more_set, take_all}
use Rattle.format.specs.Segments.{entries_left}
use Rattle.format.proofs.Loops.{before, before_none, before_all, before_more, first_of, left_more, left_none}
use Rattle.format.proofs.entries.entries_in.Goals as goal

pub returns-in_err-entry : goal.returns-in_err-entry
returns-in_err-entry c =
    let p = c.args.pages in
    let bs = c.args.bytes.now in
    let q = c.args.first in
    let i = c.loop-i.i in
    let ts = take i c.loop-i.entry-items in
    let rest = entries_left p bs q (i + 1) in
    c.from_residual.ensures
    ∙ sym (c.loop-i.invariant.1
    ∙ ap (before ts) (left_more p bs q i (omega arith))
    ∙ ap (λ o. before ts (first_of o rest)) (sym c.entry_at.ensures ∙ c.in_err-entry.was)
    ∙ before_none ts)

pub loop-i-preserved : goal.loop-i-preserved
loop-i-preserved c =
    let p = c.args.pages in
    let bs = c.args.bytes.now in
    let q = c.args.first in
    let i = c.loop-i.i in
    let es = c.loop-i.entry-items in
    let t = c.in_ok-entry.field-0 in
    let rest = entries_left p bs q (i + 1) in (
      length-set es i t ∙ c.loop-i.invariant.0,
      c.loop-i.invariant.1
          ∙ ap (before (take i es)) (left_more p bs q i (omega arith))
          ∙ ap (λ o. before (take i es) (first_of o rest)) (sym c.entry_at.ensures ∙ c.in_ok-entry.was)
          ∙ sym (before_more (take i es) t rest)
          ∙ ap (λ ts. before ts rest) (sym (take_more_set es i t (omega arith))),
    )

pub returns : goal.returns
returns c =
    let p = c.args.pages in
    let bs = c.args.bytes.now in
    let q = c.args.first in
    let i = c.loop-i.i in
    let es = c.loop-i.entry-items in
    let end : i ≡ 15 = omega arith in
    sym (c.loop-i.invariant.1
    ∙ ap₂ before (take_all i es (omega arith)) (ap (entries_left p bs q) end ∙ left_none p bs q)
    ∙ before_all es)
