-- What recovery reads, apart from the segment that it may have to write.
use Rattle.std.specs.Prelude.{ℕ, ◌+◌, ◌-◌, cond, List, [], length, Ok, Err, Option, Result, ◌==◌}
use Rattle.medium.specs.Meaning.{Meaning}
use Rattle.medium.specs.Outcome.{Outcome, done, refused}
use Rattle.rules.specs.declared.fault.Fault.{Fault}
use Rattle.rules.specs.declared.state.Mounted.{Mounted}
use Rattle.rules.specs.Format.{Segment}
use Rattle.rules.specs.Queue.{Queue, groups, write_segment}
use Rattle.rules.specs.Recovery.{Tail, Entries, read_segments, newest, last_of, read_tail, gather, front_at, settle}
use Rattle.recovery.specs.declared.recovered.Recovered.{Recovered}

-- With the directory, after the newest segment g and the tail t.
abbrev pub from_entries : Meaning → Option Segment → Tail → Result Entries Fault → Result Recovered Fault
from_entries m g t (Err e) = Err e
from_entries m g t (Ok es) =
    Ok
    (record {
      found =
          record {
            last = last_of g + length t.trailers;
            live =
                last_of g + length t.trailers + 1 - front_at m g (last_of g + length t.trailers);
            reads = groups m + 1 + t.reads;
          };
      front = front_at m g (last_of g + length t.trailers);
      entries = es;
      tail = length t.trailers;
    })

-- With the tail, after all segments.
abbrev pub from_tail : Meaning → List (Option Segment) → Result Tail Fault → Result Recovered Fault
from_tail m gs (Err e) = Err e
from_tail m gs (Ok t) =
    from_entries m (newest gs) t
    (gather m gs (last_of (newest gs)) t.trailers
    (last_of (newest gs) + length t.trailers + 1
    - front_at m (newest gs) (last_of (newest gs) + length t.trailers))
    (front_at m (newest gs) (last_of (newest gs) + length t.trailers)))

abbrev pub from_segments : Meaning → ℕ → Result (List (Option Segment)) Fault → Result Recovered Fault
from_segments m p (Err e) = Err e
from_segments m p (Ok gs) = from_tail m gs (read_tail m p 15 (last_of (newest gs) + 1))

-- For a disk of p pages.
abbrev pub reread : Meaning → ℕ → Result Recovered Fault
reread m p = from_segments m p (read_segments m p (groups m + 1) 0)

-- What recovery then does: where the tail had fifteen frames, their segment is written.
abbrev pub written_back : Queue → Result Recovered Fault → Outcome Fault Queue Mounted
written_back x (Err e) = refused e x []
written_back x (Ok f) =
    let y : Queue =
    record {
      flash = x.flash;
      disk = x.disk;
      front = f.front;
      last = f.found.last;
      entries = f.entries;
    } in
    cond (f.tail == 15) (settle x f.found (write_segment y)) (done f.found y [])
