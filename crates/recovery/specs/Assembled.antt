-- What was read back from a flash of s groups, by its newest segment, all segments and the tail.
use Rattle.std.specs.Prelude.{ℕ, ◌+◌, ◌-◌, ◌*◌, max, List, length, Ok, Err, Option, Result}
use Rattle.rules.specs.declared.fault.Fault.{Fault}
use Rattle.rules.specs.Format.{Segment}
use Rattle.rules.specs.Recovery.{Tail, Entries, last_of, front_of}
use Rattle.recovery.specs.declared.recovered.Recovered.{Recovered}
use Rattle.recovery.specs.Directory.{gathered}

abbrev pub last_in : Option Segment → Tail → ℕ
last_in g t = last_of g + length t.trailers

abbrev pub front_in : ℕ → Option Segment → ℕ → ℕ
front_in s g r = max 1 (max (r + 2 - 15 * s) (front_of g))

abbrev pub live_in : ℕ → Option Segment → Tail → ℕ
live_in s g t = last_in g t + 1 - front_in s g (last_in g t)

abbrev pub put_together : ℕ → Option Segment → Tail → Result Entries Fault → Result Recovered Fault
put_together s g t (Err e) = Err e
put_together s g t (Ok es) =
    Ok
    (record {
      found = record { last = last_in g t; live = live_in s g t; reads = s + 1 + t.reads };
      front = front_in s g (last_in g t);
      entries = es;
      tail = length t.trailers;
    })

abbrev pub assembled : ℕ → Option Segment → List (Option Segment) → Tail → Result Recovered Fault
assembled s g gs t =
    put_together s g t
    (gathered s gs (last_of g) t.trailers (live_in s g t) (front_in s g (last_in g t)))
