-- The tail, one frame and then all.
use Rattle.std.specs.Prelude.{ℕ, ◌+◌, ◌-◌, min, Bool, cond, ◌&&◌, List, length, Some, None, Ok, Err, Option, Result, ◌==◌, nat_lt}
use Rattle.medium.specs.Meaning.{Page, Meaning, page}
use Rattle.rules.specs.declared.fault.Fault.{Fault}
use Rattle.rules.specs.declared.trailer.Trailer.{Trailer}
use Rattle.rules.specs.Format.{proper}
use Rattle.rules.specs.Queue.{frames, place}
use Rattle.rules.specs.Recovery.{foreign_at, dark_at, read_tail}
use Rattle.rules.specs.Recovery as rule
use Rattle.arrayvec.specs.ArrayVec.{ArrayVec}

-- Number n lay in the frame of q before, among c frames.
abbrev pub was_in : ℕ → ℕ → ℕ → Bool
was_in c q n = nat_lt n q && place c n == place c q

-- What stands in the frame of q: q itself, None where the tail ends, or something foreign.
abbrev pub sorted : ℕ → ℕ → Option Trailer → Result (Option Trailer) Fault
sorted c q None = Err (foreign_at (place c q))
sorted c q (Some t) =
    cond (t.q == q) (Ok (Some t)) (cond (was_in c q t.q) (Ok None) (Err (foreign_at (place c q))))

abbrev pub frame_in : ℕ → ℕ → ℕ → Page → Result (Option Trailer) Fault
frame_in c p q None = Ok None
frame_in c p q (Some bs) = sorted c q (proper p bs 240)

abbrev pub one_frame : Meaning → ℕ → ℕ → Result (Option Trailer) Fault
one_frame m p q =
    cond m.lit (frame_in (frames m) p q (page m (place (frames m) q))) (Err (dark_at (place (frames m) q)))

-- The tail as the rules have it: the frame that ended it early was read too.
abbrev pub tail_of : List Trailer → rule.Tail
tail_of ts = record { trailers = ts; reads = min (length ts + 1) 15 }

abbrev pub tail_said : Result (ArrayVec Trailer) Fault → Result rule.Tail Fault
tail_said (Err e) = Err e
tail_said (Ok t) = Ok (tail_of t.items)

-- Of the fifteen frames from that of q on, those from the i-th on: a proof opens it.
unfoldable pub tail_left : Meaning → ℕ → ℕ → ℕ → Result rule.Tail Fault
tail_left m p q i = read_tail m p (15 - i) (q + i)
