-- What recovery gives, by what its parts give.
use Rattle.std.proofs.Common.{◌≡◌, ℕ, ◌-◌, ◌/◌, Bool, true, false, cond, eqb, [], Ok, Err, Result, sym, refl, ap, subst, arith}
use Rattle.medium.specs.declared.Cause.{Cause}
use Rattle.medium.specs.Meaning.{Meaning, size}
use Rattle.medium.specs.Outcome.{Outcome, done, refused, struck, Gives}
use Rattle.medium.specs.Rules.{write}
use Rattle.rules.specs.declared.fault.Fault.{Fault}
use Rattle.rules.specs.declared.fault.Side.TheVariants as side
use Rattle.rules.specs.declared.state.Mounted.{Mounted}
use Rattle.rules.specs.Format.{Segment, encode_segment}
use Rattle.rules.specs.Queue.{Queue, frames, segment_page, with_flash, write_flash}
use Rattle.rules.specs.Recovery.{recover, settle}
use Rattle.rules.specs.Refusals.{of_cause}
use Rattle.rules.specs.Steps.{within}
use Rattle.recovery.specs.declared.recovered.Recovered.{Recovered}
use Rattle.recovery.specs.Reread.{reread, written_back}
use Rattle.recovery.proofs.Recover.{recover_is}
use Rattle.queue.specs.Back.{describes, adopted}
use Rattle.queue.specs.Runs.{segment_in}
use Rattle.queue.proofs.Runs.{segment_is}

module _ (x : Queue) (b : Recovered) (i : ℕ) where
  abbrev after : Outcome Cause Meaning (Unit {0}) → Outcome Fault Queue Mounted
  after o = settle x b.found (within (of_cause side.Flash i) (with_flash (adopted x b)) o)

  abbrev before : Outcome Cause Meaning (Unit {0}) → Outcome Fault Queue (Unit {0})
  before o = within (of_cause side.Flash i) (with_flash x) o

  -- The segment's write was done.
  settled : (o : Outcome Cause Meaning (Unit {0})) (z : Queue) → Gives (before o) (Ok tt) z
      → Gives (after o) (Ok b.found) (adopted z b)
  settled (done u m ws) z (is, at) = (refl, ap (λ (w : Queue). adopted w b) at)
  settled (refused e m ws) z (is, at) = let n : ◌≡◌ {A = ℕ} 0 1 = cc in absurd (omega arith)
  settled (struck e f ws) z (is, at) = let n : ◌≡◌ {A = ℕ} 0 1 = cc in absurd (omega arith)

  -- It failed.
  unsettled : (o : Outcome Cause Meaning (Unit {0})) (e : Fault) (z : Queue) → Gives (before o) (Err e) z
      → Gives (after o) (Err e) z
  unsettled (done u m ws) e z (is, at) = let n : ◌≡◌ {A = ℕ} 0 1 = cc in absurd (omega arith)
  unsettled (refused d m ws) e z (is, at) = let same : e ≡ of_cause side.Flash i d = cc in (ap Err same, at)
  unsettled (struck d f ws) e z (is, (w, at)) = let same : e ≡ of_cause side.Flash i d = cc in (ap Err same, (w, at))

module _ (x : Queue) (b : Recovered) where
  abbrev y : Queue
  y = adopted x b

  abbrev seat : ℕ
  seat = segment_page x.flash (b.found.last / 15 - 1)

  abbrev here : Segment
  here = segment_in (frames x.flash) b.entries b.front b.found.last

  abbrev back : Bool → Segment → Outcome Fault Queue Mounted
  back t g = cond t (settle x b.found (write_flash y seat (encode_segment g))) (done b.found y [])

  abbrev told : Bool → Outcome Fault Queue (Unit {0})
  told t = cond t (write_flash x seat (encode_segment here)) (done tt x [])

  -- What the write of the segment gives, all of recovery gives.
  both : (r : Result Mounted Fault) (z : Queue) → Gives (back (eqb b.tail 15) here) r z
      → Ok b ≡ reread x.flash (size x.disk) → Gives (recover x) r z
  both r z g e =
      subst (λ (o : Outcome Fault Queue Mounted). Gives o r z) (sym (recover_is x))
      (subst (λ (o : Result Recovered Fault). Gives (written_back x o) r z) e
      (subst (λ (s : Segment). Gives (back (eqb b.tail 15) s) r z) (sym (segment_is y)) g))

  done_so : (t : Bool) (z : Queue) → Gives (told t) (Ok tt) z → Gives (back t here) (Ok b.found) (adopted z b)
  done_so true z g = settled x b seat (write x.flash seat (encode_segment here)) z g
  done_so false z (is, at) = (refl, ap (λ (w : Queue). adopted w b) at)

  failed_so : (t : Bool) (e : Fault) (z : Queue) → Gives (told t) (Err e) z → Gives (back t here) (Err e) z
  failed_so true e z g = unsettled x b seat (write x.flash seat (encode_segment here)) e z g
  failed_so false e z (is, at) = let n : ◌≡◌ {A = ℕ} 0 1 = cc in absurd (omega arith)

  module _ (read : Ok b ≡ reread x.flash (size x.disk)) where
    pub recovered : (z : Queue) → Gives (describes x b) (Ok tt) z → Gives (recover x) (Ok b.found) (adopted z b)
    recovered z g = both (Ok b.found) (adopted z b) (done_so (eqb b.tail 15) z g) read

    pub not_described : (e : Fault) (z : Queue) → Gives (describes x b) (Err e) z → Gives (recover x) (Err e) z
    not_described e z g = both (Err e) z (failed_so (eqb b.tail 15) e z g) read

-- The flash could not be read back.
pub not_read : (x : Queue) (e : Fault) → Err e ≡ reread x.flash (size x.disk) → Gives (recover x) (Err e) x
not_read x e read =
    subst (λ (o : Outcome Fault Queue Mounted). Gives o (Err e) x) (sym (recover_is x))
    (subst (λ (o : Result Recovered Fault). Gives (written_back x o) (Err e) x) read (refl, refl))
