use Rattle.std.proofs.Common.{◌≡◌, ℕ, Ok, sym, refl, subst}
use Rattle.medium.specs.declared.Medium.{Ghosts}
use Rattle.medium.specs.Outcome.{Gives}
use Rattle.rules.specs.Ram.{empty, with_card}
use Rattle.rules.specs.Store.{Store as RulesStore, emptied, empty_frame}
use Rattle.queue.specs.View as queue
use Rattle.store.specs.View.{view, Goes}
use Rattle.store.specs.declared.frames.Frames.{Frames}
use Rattle.store.specs.declared.store.Store.{Store}
use Rattle.store.proofs.Leaving.{was_empty, was_dropped, was_queued}
use Rattle.store.proofs.store.Store.empty_frame.Goals as goal
use Rattle.store.proofs.store.Store.empty_frame.Goals.{in-Some+then-must_go+in_ok-enqueue_frame}
use Rattle.store.proofs.store.Store.empty_frame.Goals.{in-Some+else-must_go, in_default}

-- Where the ways meet in the store m, the frame is emptied.
met : {F D : Type 0} (a : Ghosts F) (b : Ghosts D) (x : RulesStore) (f : ℕ) (m n : Store F D) (fr : Frames) → m ≡ n
    → Goes m.frames fr (λ r. with_card r f empty) → queue.InOrder a b n.queue
    → Gives (empty_frame x f) (Ok tt) (emptied (view a b n) f)
    → queue.InOrder a b m.queue
    × Gives (empty_frame x f) (Ok tt)
    (view a b (record { state = m.state; frames = fr; queue = m.queue; holds = m.holds; holds_in_range = m.holds_in_range }))
met {F} {D} a b x f m n fr is so kept g = (
  subst (λ (s : Store F D). queue.InOrder a b s.queue) (sym is) kept,
  subst (λ (z : RulesStore). Gives (empty_frame x f) (Ok tt) z)
      (λ i. record { state = m.state; ram = sym so i; queue = (view a b m).queue; holds = m.holds })
      (subst (λ (s : Store F D). Gives (empty_frame x f) (Ok tt) (emptied (view a b s) f)) (sym is) g),
)

pub returns-clause-works : goal.returns-clause-works
returns-clause-works g c = λ o.
    let see = view g.F.Medium g.D.Medium in
    let x = see c.args.self.now in
    let f = c.args.frame in
    let k = c.card-card.result in
    let own = c.card-card.ensures in
    elim c.match-card.branch [
      | in-Some+then-must_go+in_ok-enqueue_frame w ↦
          let (kept, put) = w.in_ok-enqueue_frame.ensures.works o in
          met g.F.Medium g.D.Medium x f _ _ c.empty.new.self w.self-is c.empty.ensures kept
          (was_queued x f k own w.in-Some.page w.in-Some.is w.if-must_go.ensures _ put)
      | in-Some+else-must_go w ↦
          met g.F.Medium g.D.Medium x f _ _ c.empty.new.self w.self-is c.empty.ensures o
          (was_dropped x f k own w.in-Some.page w.in-Some.is w.if-must_go.ensures)
      | in_default w ↦
          met g.F.Medium g.D.Medium x f _ _ c.empty.new.self w.self-is c.empty.ensures o (was_empty x f k own w.in_default.is)
    ]

pub returns-clause-holds : goal.returns-clause-holds
returns-clause-holds g c =
    elim c.match-card.branch [
      | in-Some+then-must_go+in_ok-enqueue_frame w ↦ rw w.self-is w.in_ok-enqueue_frame.ensures.holds
      | in-Some+else-must_go w ↦ rw w.self-is refl
      | in_default w ↦ rw w.self-is refl
    ]
