use Rattle.std.proofs.Common.{◌≡◌, ℕ, suc, ◌+◌, ◌-◌, Err, subst, arith}
use Rattle.std.proofs.lemmas.Result.{err_from_is_err_and}
use Rattle.medium.specs.Outcome.{Gives}
use Rattle.rules.specs.Store.{save_all}
use Rattle.store.specs.View.{view}
use Rattle.store.proofs.Saving.{is_newer, is_as_saved, turn_passes, turn_saves, turn_fails}
use Rattle.store.proofs.store.Store.save_all.Goals as goal
use Rattle.store.proofs.store.Store.save_all.Goals.{in-Some+in_ok-save, in_default}

pub loop-number-preserved : goal.loop-number-preserved
loop-number-preserved g c =
    let see = view g.F.Medium g.D.Medium in
    let i = c.loop-number.number in
    let n = c.count-count.result - (i + 1) in
    let m = c.count-count.result - i in
    let one : m ≡ suc n = omega arith in
    let x = see c.loop-number.self in
    let k = c.loop-number.saved in
    elim c.match-newer.branch [
      | in-Some+in_ok-save w ↦ (
        omega (arith, w.saved-is, c.loop-number.invariant.0),
        λ o.
            let (still, whole) = c.loop-number.invariant.1 o in
            let (kept, put) = w.in_ok-save.ensures still in
            let (newer, own) = is_newer _ i w.in-Some.frame _ c.newer.ensures w.in-Some.is in
            rw (w.self-is, w.saved-is) (
              kept,
              λ r z rest. whole r z (turn_saves n m x i k one r z w.in-Some.frame own _ newer put rest),
            ),
      )
      | in_default w ↦ (
        omega (arith, w.saved-is, c.loop-number.invariant.0),
        λ o.
            let (still, whole) = c.loop-number.invariant.1 o in
            rw (w.self-is, w.saved-is)
            (still, λ r z rest. whole r z (turn_passes n m x i k one r z (is_as_saved _ i _ c.newer.ensures w.in_default.is) rest)),
      )
    ]

pub returns-in_err-save : goal.returns-in_err-save
returns-in_err-save g c = λ o.
    let see = view g.F.Medium g.D.Medium in
    let i = c.loop-number.number in
    let n = c.count-count.result - (i + 1) in
    let m = c.count-count.result - i in
    let one : m ≡ suc n = omega arith in
    let (still, whole) = c.loop-number.invariant.1 o in
    let (kept, failed) = c.in_err-save.ensures still in
    let (newer, own) = is_newer _ i c.in-Some.frame _ c.newer.ensures c.in-Some.is in
    let f = c.in_err-save.field-0.0 in
    let z = see c.save.new.self in
    let e = err_from_is_err_and c.from_residual.result c.from_residual.ensures.1 in
    rw (e.1, e.2) (
      kept,
      subst (λ (j : ℕ). Gives (save_all j (see c.args.self.now) 0 0) (Err f) z) c.count-count.ensures
          (whole (Err f) z
          (turn_fails n m (see c.loop-number.self) z i c.loop-number.saved one newer c.in-Some.frame own f
          failed)),
    )
