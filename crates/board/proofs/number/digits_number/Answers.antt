use Rattle.std.proofs.Common.{◌+◌, drop, sym, ap, ◌∙◌, arith}
use Rattle.board.proofs.Digits.{and_on, digits_more, digits_all}
use Rattle.board.proofs.number.digits_number.Goals as goal

pub returns-in_err-number : goal.returns-in_err-number
returns-in_err-number c =
    let xs = c.args.digits.now in
    let i = c.loop-digit.digit-index in
    c.from_residual.ensures
    ∙ sym (c.loop-digit.invariant.1
    ∙ digits_more c.loop-digit.number xs i (omega arith)
    ∙ ap (λ o. and_on o (drop (i + 1) xs)) (sym c.one_more.ensures.value ∙ c.in_err-number.was))

pub loop-digit-preserved : goal.loop-digit-preserved
loop-digit-preserved c =
    let xs = c.args.digits.now in
    let i = c.loop-digit.digit-index in (
      c.in_ok-number.ensures.bound,
      c.loop-digit.invariant.1
          ∙ digits_more c.loop-digit.number xs i (omega arith)
          ∙ ap (λ o. and_on o (drop (i + 1) xs))
          (sym c.one_more.ensures.value ∙ c.in_ok-number.was),
    )

pub returns : goal.returns
returns c =
    sym (c.loop-digit.invariant.1
    ∙ digits_all c.loop-digit.number c.args.digits.now c.loop-digit.digit-index c.loop-digit.invariant.0
    (omega arith))
