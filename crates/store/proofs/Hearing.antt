-- A rule of the queue, as the store hears its answer.
use Rattle.std.proofs.Common.{◌≡◌, ℕ, Bool, true, false, cond, Ok, Err, Result, refl, ap, ◌∙◌, arith}
use Rattle.medium.specs.Outcome.{Outcome, done, refused, struck, Gives}
use Rattle.rules.specs.declared.fault.Fault.{Fault}
use Rattle.rules.specs.declared.state.State.{State}
use Rattle.rules.specs.declared.state.State.TheVariants as state
use Rattle.rules.specs.Queue.{Queue}
use Rattle.rules.specs.Refusals.{is_dark}
use Rattle.rules.specs.Store.{Store, with_queue, with_state, darkened, on_queue}
use Rattle.rules.specs.Steps.{within}
use Rattle.store.specs.Parts.{state_after}
use Rattle.store.proofs.Strikes.{ToldDark}

-- The store with another state and queue.
abbrev pub turned : Store → State → Queue → Store
turned x t y = record { state = t; ram = x.ram; queue = y; holds = x.holds }

either : (b : Bool) (x : Store) → with_state x (cond b state.Dark x.state) ≡ cond b (with_state x state.Dark) x
either true x = refl
either false x = refl

module _ {A : Type 0} where
  -- A rule of the store itself that was refused or done.
  darkened_ok : (o : Outcome Fault Store A) (a : A) (y : Store) → Gives o (Ok a) y → Gives (darkened o) (Ok a) y
  darkened_ok (done b s ws) a y g = g
  darkened_ok (refused e s ws) a y g = let n : ◌≡◌ {A = ℕ} 0 1 = cc g.0 in absurd (omega arith)
  darkened_ok (struck e f ws) a y g = let n : ◌≡◌ {A = ℕ} 0 1 = cc g.0 in absurd (omega arith)

  darkened_err : (o : Outcome Fault Store A) (e : Fault) (y : Store) → ToldDark o → Gives o (Err e) y
      → Gives (darkened o) (Err e) (with_state y (state_after {A = A} (Err e) y.state))
  darkened_err (done b s ws) e y told g = let n : ◌≡◌ {A = ℕ} 0 1 = cc g.0 in absurd (omega arith)
  darkened_err (refused d s ws) e y told (is, at) =
      let same : e ≡ d = cc in (
        is,
        either (is_dark e.cause) y
            ∙ ap (λ (c : Fault). cond (is_dark c.cause) (with_state y state.Dark) y) same
            ∙ ap (λ (z : Store). cond (is_dark d.cause) (with_state z state.Dark) z) at,
      )
  darkened_err (struck d f ws) e y told (is, (w, at)) =
      let same : e ≡ d = cc in
      let dark : is_dark e.cause ≡ true = ap (λ (c : Fault). is_dark c.cause) same ∙ told in (
        is,
        (
          w,
          ap (λ (b : Bool). with_state y (cond b state.Dark y.state)) dark
              ∙ ap (λ (z : Store). with_state z state.Dark) at,
        ),
      )

  pub darkened_gives : (o : Outcome Fault Store A) (r : Result A Fault) (y : Store) → ToldDark o → Gives o r y
      → Gives (darkened o) r (with_state y (state_after r y.state))
  darkened_gives o (Ok a) y told g = darkened_ok o a y g
  darkened_gives o (Err e) y told g = darkened_err o e y told g

  -- A rule of the queue.
  within_gives : (x : Store) (o : Outcome Fault Queue A) (r : Result A Fault) (y : Queue) → Gives o r y
      → Gives (within (λ c. c) (with_queue x) o) r (with_queue x y)
  within_gives x (done b s ws) r y (is, at) = (is, ap (with_queue x) at)
  within_gives x (refused d s ws) r y (is, at) = (is, ap (with_queue x) at)
  within_gives x (struck d f ws) r y (is, (w, at)) = (is, (w, ap (with_queue x) at))

  within_told : (x : Store) (o : Outcome Fault Queue A) → ToldDark o → ToldDark (within (λ c. c) (with_queue x) o)
  within_told x (done b s ws) h = tt
  within_told x (refused d s ws) h = tt
  within_told x (struck d f ws) h = h

  pub queue_gives : (x : Store) (o : Outcome Fault Queue A) (r : Result A Fault) (y : Queue) → ToldDark o → Gives o r y
      → Gives (on_queue x o) r (turned x (state_after r x.state) y)
  queue_gives x o r y told g =
      darkened_gives (within (λ c. c) (with_queue x) o) r (with_queue x y) (within_told x o told) (within_gives x o r y g)
