-- A mount writes no frame.
use Rattle.std.proofs.Common.{◌≡◌, ℕ, ◌+◌, ◌-◌, Bool, true, false, cond, eqb, List, [], ◌++◌, length, Some, None, Ok, Err, Option, Result, refl, ◌∙◌, ap₂}
use Rattle.medium.specs.declared.Cause.{Cause}
use Rattle.medium.specs.Meaning.{Bytes, Meaning, Left, size}
use Rattle.medium.specs.Outcome.{Outcome, Wrote, done, refused, struck}
use Rattle.medium.specs.Rules.{write, write_unless, refuses}
use Rattle.rules.specs.declared.fault.Fault.{Fault}
use Rattle.rules.specs.declared.fault.Side.TheVariants as side
use Rattle.rules.specs.declared.state.Mounted.{Mounted}
use Rattle.rules.specs.declared.state.State.{State}
use Rattle.rules.specs.declared.state.State.TheVariants as state
use Rattle.rules.specs.Steps.{Ends, after, then_do, within}
use Rattle.rules.specs.Format.{Segment}
use Rattle.rules.specs.Queue.{Queue, with_flash, write_segment, groups, live}
use Rattle.rules.specs.Refusals.{of_cause}
use Rattle.rules.specs.Recovery.{Tail, Entries, settle, with_directory, with_tail, with_segments, recover, last_of}
use Rattle.rules.specs.Recovery.{front_at, newest, gather, read_tail, read_segments}
use Rattle.rules.specs.Store.{Store, Answer, mount, mounted, darkened, on_queue, with_queue, raised, mount_shut, fits}
use Rattle.rules.specs.Store.{by_state, step}

-- A rule that tells no frame write.
abbrev pub Quiet : {E S A : Type 0} → Outcome E S A → Type 0
Quiet (done a s ws) = ws ≡ []
Quiet (refused e s ws) = ws ≡ []
Quiet (struck e f ws) = (w : Left) → ws w ≡ []

-- So is what is put together from such rules.
quiet_after : {E S A : Type 0} (ws : List Wrote) (o : Outcome E S A) → ws ≡ [] → Quiet o → Quiet (after ws o)
quiet_after ws (done a s vs) e q = ap₂ ◌++◌ e q
quiet_after ws (refused r s vs) e q = ap₂ ◌++◌ e q
quiet_after ws (struck r f vs) e q = λ w. ap₂ ◌++◌ e (q w)

quiet_then : {E S A B : Type 0} (o : Outcome E S A) (k : A → S → Outcome E S B) → Quiet o
    → ((a : A) (s : S) → Quiet (k a s)) → Quiet (then_do o k)
quiet_then (done a s ws) k q next = quiet_after ws (k a s) q (next a s)
quiet_then (refused e s ws) k q next = q
quiet_then (struck e f ws) k q next = q

quiet_within : {D E S T A : Type 0} (say : D → E) (put : S → T) (o : Outcome D S A) → Quiet o
    → Quiet (within say put o)
quiet_within say put (done a s ws) q = q
quiet_within say put (refused e s ws) q = q
quiet_within say put (struck e f ws) q = q

quiet_darkened : {A : Type 0} (o : Outcome Fault Store A) → Quiet o → Quiet (darkened o)
quiet_darkened (done a s ws) q = q
quiet_darkened (refused e s ws) q = q
quiet_darkened (struck e f ws) q = q

quiet_settle : (x : Queue) (a : Mounted) (o : Outcome Fault Queue (Unit {0})) → Quiet o → Quiet (settle x a o)
quiet_settle x a (done u y ws) q = q
quiet_settle x a (refused e y ws) q = q
quiet_settle x a (struck e f ws) q = q

quiet_cond : {E S A : Type 0} (t : Bool) (o u : Outcome E S A) → Quiet o → Quiet u → Quiet (cond t o u)
quiet_cond true o u p q = p
quiet_cond false o u p q = q

-- A medium's write tells none, and so the segment's does not.
quiet_unless : (o : Option Cause) (m : Meaning) (i : ℕ) (bs : Bytes) → Quiet (write_unless o m i bs)
quiet_unless (Some e) m i bs = refl
quiet_unless None m i bs = quiet_cond (eqb m.charge 0) _ _ (λ w. refl) refl

quiet_segment : (y : Queue) → Quiet (write_segment y)
quiet_segment y =
    quiet_within (of_cause side.Flash _) (with_flash y) (write y.flash _ _)
    (quiet_unless (refuses y.flash _ _) _ _ _)

-- The steps of a mount, from the last to the first.
quiet_directory : (x : Queue) (g : Option Segment) (t : Tail) (r : Result Entries Fault)
    → Quiet (with_directory x g t r)
quiet_directory x g t (Err e) = refl
quiet_directory x g t (Ok es) =
    let r = last_of g + length t.trailers in
    let y : Queue =
    record { flash = x.flash; disk = x.disk; front = front_at x.flash g r; last = r; entries = es } in
    let a : Mounted = record { last = r; live = live y; reads = groups x.flash + 1 + t.reads } in
    quiet_cond (eqb (length t.trailers) 15) (settle x a (write_segment y)) (done a y [])
    (quiet_settle x a (write_segment y) (quiet_segment y)) refl

quiet_tail : (x : Queue) (gs : List (Option Segment)) (r : Result Tail Fault) → Quiet (with_tail x gs r)
quiet_tail x gs (Err e) = refl
quiet_tail x gs (Ok t) =
    let g = newest gs in
    let r = last_of g + length t.trailers in
    let f = front_at x.flash g r in
    quiet_directory x g t (gather x.flash gs (last_of g) t.trailers (r + 1 - f) f)

quiet_segments : (x : Queue) (r : Result (List (Option Segment)) Fault) → Quiet (with_segments x r)
quiet_segments x (Err e) = refl
quiet_segments x (Ok gs) = quiet_tail x gs (read_tail x.flash (size x.disk) 15 (last_of (newest gs) + 1))

quiet_recover : (x : Queue) → Quiet (recover x)
quiet_recover x = quiet_segments x (read_segments x.flash (size x.disk) (groups x.flash + 1) 0)

quiet_mount : (x : Store) (n : ℕ) → Quiet (mount_shut x n)
quiet_mount x n =
    quiet_cond (fits n x.queue.flash x.queue.disk) _ _
    (quiet_then (on_queue x (recover x.queue)) (λ a y. done (mounted a) (raised n y) [])
    (quiet_darkened _
    (quiet_within (λ e. e) (with_queue x) (recover x.queue) (quiet_recover x.queue)))
    (λ a y. refl))
    refl

quiet_by : (t : State) (x : Store) (n : ℕ) → Quiet (by_state t x (mount n))
quiet_by state.Up x n = refl
quiet_by state.Shut x n = quiet_mount x n
quiet_by state.Dark x n = refl

-- The frame writes of a call that ends a quiet rule.
quiet_ends : {E S A : Type 0} (o : Outcome E S A) → Quiet o → (r : Result A E) (y : S) (ws : List Wrote) → Ends o r y ws
    → ws ≡ []
quiet_ends (done a s vs) q r y ws ends = ends.2 ∙ q
quiet_ends (refused e s vs) q r y ws ends = ends.2 ∙ q
quiet_ends (struck e f vs) q r y ws (er, (w, ey, ew)) = ew ∙ q w

pub mount_quiet : (x : Store) (n : ℕ) (r : Result Answer Fault) (y : Store) (ws : List Wrote)
    → Ends (step x (mount n)) r y ws → ws ≡ []
mount_quiet x n r y ws ends = quiet_ends (step x (mount n)) (quiet_by x.state x n) r y ws ends
