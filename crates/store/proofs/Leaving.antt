-- A page that leaves its frame, by what the steps give.
use Rattle.std.proofs.Common.{◌≡◌, ℕ, Bool, true, false, cond, [], Some, None, Ok, Option, Result, sym, refl, subst}
use Rattle.medium.specs.Outcome.{Gives, done}
use Rattle.rules.specs.declared.fault.Fault.{Fault}
use Rattle.rules.specs.declared.state.State.{State}
use Rattle.rules.specs.declared.table.Card.{Card}
use Rattle.rules.specs.Queue.{Queue, enqueue}
use Rattle.rules.specs.Ram.{card_at, body_at}
use Rattle.rules.specs.Steps.{then_do}
use Rattle.rules.specs.Store.{Store, Way, enqueue_frame, must_go, emptied, leave, empty_frame}
use Rattle.rules.proofs.Given.{then_gives}
use Rattle.store.specs.Parts.{state_after}
use Rattle.store.proofs.Hearing.{turned, queue_gives}
use Rattle.store.proofs.Strikes.{of_enqueue}

-- What an enqueue gives, by what is heard of the queue.
pub enqueued_so : (x : Store) (f p : ℕ) (y : Queue) (r s : Result (Unit {0}) Fault) (t : State)
    → Gives (enqueue x.queue p (card_at x.ram f).version (card_at x.ram f).dirty (body_at x.ram f)) r y → s ≡ r
    → t ≡ state_after r x.state → Gives (enqueue_frame x f p) s (turned x t y)
enqueued_so x f p y r s t g same so =
    let c = card_at x.ram f in
    let o = enqueue x.queue p c.version c.dirty (body_at x.ram f) in
    subst (λ (q : Result (Unit {0}) Fault). Gives (enqueue_frame x f p) q (turned x t y)) (sym same)
    (subst (λ (u : State). Gives (enqueue_frame x f p) r (turned x u y)) (sym so)
    (queue_gives x o r y (of_enqueue x.queue p c.version c.dirty (body_at x.ram f)) g))

module _ (x : Store) (f : ℕ) (k : Card) (own : k ≡ card_at x.ram f) where
  -- By the card that was read.
  by_card : (y : Store) → Gives (leave x f k k.page) (Ok tt) y → Gives (empty_frame x f) (Ok tt) y
  by_card y g = subst (λ (c : Card). Gives (leave x f c c.page) (Ok tt) y) own g

  -- Its frame had no page.
  pub was_empty : k.page ≡ None → Gives (empty_frame x f) (Ok tt) (emptied x f)
  was_empty none =
      by_card (emptied x f)
      (subst (λ (o : Option ℕ). Gives (leave x f k o) (Ok tt) (emptied x f)) (sym none) (refl, refl))

  module _ (p : ℕ) (is : k.page ≡ Some p) where
    abbrev goes : Bool → Way
    goes b =
        cond b (then_do (enqueue_frame x f p) (λ u y. done tt (emptied y f) [])) (done tt (emptied x f) [])

    by_page : (b : Bool) (y : Store) → b ≡ must_go x.queue p k → Gives (goes b) (Ok tt) y
        → Gives (empty_frame x f) (Ok tt) y
    by_page b y so g =
        by_card y
        (subst (λ (o : Option ℕ). Gives (leave x f k o) (Ok tt) y) (sym is)
        (subst (λ (c : Bool). Gives (goes c) (Ok tt) y) so g))

    -- It was dropped.
    pub was_dropped : false ≡ must_go x.queue p k → Gives (empty_frame x f) (Ok tt) (emptied x f)
    was_dropped so = by_page false (emptied x f) so (refl, refl)

    -- It was enqueued.
    pub was_queued : true ≡ must_go x.queue p k → (y : Store) → Gives (enqueue_frame x f p) (Ok tt) y
        → Gives (empty_frame x f) (Ok tt) (emptied y f)
    was_queued so y g =
        by_page true (emptied y f) so
        (then_gives (λ u z. done tt (emptied z f) []) (enqueue_frame x f p) tt y g (Ok tt) (emptied y f) (refl, refl))
