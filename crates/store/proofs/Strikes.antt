-- A strike is told as dark, whatever rules of the queue it met.
use Rattle.std.proofs.Common.{◌≡◌, ℕ, Bool, true, false, cond, eqb, List, [], ◌++◌, length, Some, None, Ok, Err, Option, Result, sym, refl, subst}
use Rattle.medium.specs.declared.Cause.{Cause}
use Rattle.medium.specs.declared.Cause.TheVariants.{Dark}
use Rattle.medium.specs.Meaning.{Bytes, Page, Meaning, size}
use Rattle.medium.specs.Outcome.{Wrote, Outcome, done, refused, struck}
use Rattle.medium.specs.Rules.{refuses, write_unless, struck_at, written}
use Rattle.rules.specs.declared.fault.Fault.{Fault}
use Rattle.rules.specs.declared.fault.Refusal.TheVariants as refusal
use Rattle.rules.specs.declared.fault.Side.{Side}
use Rattle.rules.specs.declared.fault.Side.TheVariants as side
use Rattle.rules.specs.declared.state.Mounted.{Mounted}
use Rattle.rules.specs.declared.trailer.Trailer.{Trailer}
use Rattle.rules.specs.Format.{encode}
use Rattle.rules.specs.Queue.{Queue, slot, with_flash, with_disk, write_flash, write_disk, write_frame, entry}
use Rattle.rules.specs.Queue.{checked, passed, saved, leave, must_save, dequeue}
use Rattle.rules.specs.Queue.{make_room, next, entered, append, describe_due, write_segment, enqueue}
use Rattle.rules.specs.Recovery.{recover, settle}
use Rattle.rules.specs.Refusals.{is_dark, of_cause, plain}
use Rattle.rules.specs.Steps.{after, framed, then_do, within}
use Rattle.recovery.specs.declared.recovered.Recovered.{Recovered}
use Rattle.recovery.specs.Reread.{reread, written_back}
use Rattle.recovery.proofs.Recover.{recover_is}

abbrev pub ToldDark : {S A : Type 0} → Outcome Fault S A → Type 0
ToldDark (done a s ws) = Unit {0}
ToldDark (refused e s ws) = Unit {0}
ToldDark (struck e f ws) = is_dark e.cause ≡ true

-- Rules put together.
module _ {S A : Type 0} where
  of_cond : (b : Bool) (o p : Outcome Fault S A) → ToldDark o → ToldDark p → ToldDark (cond b o p)
  of_cond true o p h k = h
  of_cond false o p h k = k

  of_after : (ws : List Wrote) (o : Outcome Fault S A) → ToldDark o → ToldDark (after ws o)
  of_after ws (done a s vs) h = tt
  of_after ws (refused e s vs) h = tt
  of_after ws (struck e f vs) h = h

  of_framed : (was : Page) (bs : Bytes) (o : Outcome Fault S A) → ToldDark o → ToldDark (framed was bs o)
  of_framed was bs (done a s vs) h = tt
  of_framed was bs (refused e s vs) h = tt
  of_framed was bs (struck e f vs) h = h

of_then : {S A B : Type 0} (o : Outcome Fault S A) (k : A → S → Outcome Fault S B) → ToldDark o
    → ((a : A) (s : S) → ToldDark (k a s)) → ToldDark (then_do o k)
of_then (done a s ws) k h g = of_after ws (k a s) (g a s)
of_then (refused e s ws) k h g = tt
of_then (struck e f ws) k h g = h

-- One page write.
of_write : (sd : Side) (i : ℕ) (put : Meaning → Queue) (m : Meaning) (bs : Bytes) (o : Option Cause)
    → ToldDark (within (of_cause sd i) put (write_unless o m i bs))
of_write sd i put m bs (Some e) = tt
of_write sd i put m bs None =
    elim (eqb m.charge 0) as
    (λ b. ToldDark (within (of_cause sd i) put (cond b (struck Dark (struck_at m i bs) (λ w. [])) (done tt (written m i bs) []))))
    [ true ↦ refl | false ↦ tt ]

module _ (x : Queue) where
  of_flash : (i : ℕ) (bs : Bytes) → ToldDark (write_flash x i bs)
  of_flash i bs = of_write side.Flash i (with_flash x) x.flash bs (refuses x.flash i (length bs))

  of_disk : (i : ℕ) (bs : Bytes) → ToldDark (write_disk x i bs)
  of_disk i bs = of_write side.Disk i (with_disk x) x.disk bs (refuses x.disk i (length bs))

  of_saved : (t : Trailer) (r : Result Bytes Fault) → ToldDark (saved x t r)
  of_saved t (Err e) = tt
  of_saved t (Ok bs) = of_then (write_disk x t.page bs) (λ a y. done tt (passed y) []) (of_disk t.page bs) (λ a y. tt)

  of_leave : (o : Option Trailer) → ToldDark (leave x o)
  of_leave None = tt
  of_leave (Some t) = of_cond (must_save x t) (saved x t (checked x t)) (done tt (passed x) []) (of_saved t (checked x t)) tt

  of_room : ToldDark (make_room x)
  of_room = of_cond _ (dequeue x) (done tt x []) (of_leave (entry x x.front)) tt

  of_segment : ToldDark (write_segment x)
  of_segment = of_flash _ _

  of_due : ToldDark (describe_due x)
  of_due = of_cond _ (write_segment x) (done tt x []) of_segment tt

of_append : (x : Queue) (t : Trailer) (body : Bytes) → ToldDark (append x t body)
of_append x t body =
    of_then (write_frame x t (body ++ encode t)) (λ a y. describe_due (entered y t))
    (of_framed _ _ (write_flash x (slot x t.q) (body ++ encode t)) (of_flash x (slot x t.q) (body ++ encode t)))
    (λ a y. of_due (entered y t))

pub of_enqueue : (x : Queue) (p v : ℕ) (d : Bool) (body : Bytes) → ToldDark (enqueue x p v d body)
of_enqueue x p v d body =
    of_cond _ (refused (plain refusal.Spent) x []) (then_do (make_room x) (λ a y. append y (next y p v d) body)) tt
    (of_then (make_room x) (λ a y. append y (next y p v d) body) (of_room x) (λ a y. of_append y (next y p v d) body))

of_settle : (x : Queue) (a : Mounted) (o : Outcome Fault Queue (Unit {0})) → ToldDark o → ToldDark (settle x a o)
of_settle x a (done u y ws) h = tt
of_settle x a (refused e y ws) h = tt
of_settle x a (struck e f ws) h = h

of_written_back : (x : Queue) (r : Result Recovered Fault) → ToldDark (written_back x r)
of_written_back x (Err e) = tt
of_written_back x (Ok f) =
    let y : Queue =
    record {
      flash = x.flash;
      disk = x.disk;
      front = f.front;
      last = f.found.last;
      entries = f.entries;
    } in
    of_cond (eqb f.tail 15) (settle x f.found (write_segment y)) (done f.found y [])
    (of_settle x f.found (write_segment y) (of_segment y)) tt

pub of_recover : (x : Queue) → ToldDark (recover x)
of_recover x =
    subst (λ (o : Outcome Fault Queue Mounted). ToldDark o) (sym (recover_is x))
    (of_written_back x (reread x.flash (size x.disk)))
