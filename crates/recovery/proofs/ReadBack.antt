-- What is read back, step by step.
use Rattle.std.proofs.Common.{◌≡◌, ℕ, ◌+◌, List, Ok, Err, Option, Result, sym, refl, ap, ◌∙◌, ap₂}
use Rattle.medium.specs.Meaning.{Meaning}
use Rattle.rules.specs.declared.fault.Fault.{Fault}
use Rattle.rules.specs.Format.{Segment}
use Rattle.rules.specs.Queue.{groups}
use Rattle.rules.specs.Recovery.{Tail, Entries, read_segments, read_tail, newest, last_of, gather}
use Rattle.recovery.specs.declared.recovered.Recovered.{Recovered}
use Rattle.recovery.specs.Tails.{tail_left}
use Rattle.recovery.specs.Assembled.{put_together, assembled, last_in, live_in, front_in}
use Rattle.recovery.specs.Reread.{from_entries, from_tail, from_segments, reread}
use Rattle.recovery.proofs.TailFrames.{left_all}
use Rattle.recovery.proofs.Gather.{gather_is}

-- What was put together is what the rules give.
together_is : (m : Meaning) (g : Option Segment) (t : Tail) (r : Result Entries Fault)
    → put_together (groups m) g t r ≡ from_entries m g t r
together_is m g t (Err e) = refl
together_is m g t (Ok es) = refl

assembled_is : (m : Meaning) (gs : List (Option Segment)) (t : Tail)
    → assembled (groups m) (newest gs) gs t ≡ from_tail m gs (Ok t)
assembled_is m gs t =
    let g = newest gs in
    let s = groups m in
    ap (put_together s g t) (gather_is m gs (last_of g) t.trailers (live_in s g t) (front_in s g (last_in g t)))
    ∙ together_is m g t
    (gather m gs (last_of g) t.trailers (live_in s g t) (front_in s g (last_in g t)))

module _ (m : Meaning) (p s : ℕ) (few : groups m ≡ s) where
  from_read : (r : Result (List (Option Segment)) Fault) → r ≡ read_segments m p (s + 1) 0
      → from_segments m p r ≡ reread m p
  from_read r is =
      ap (from_segments m p) (is ∙ ap (λ n. read_segments m p (n + 1) 0) (sym few))

  -- The segments are gs, the newest g ends at b, the flash then means x, the same, and the tail is r.
  module _ (gs : List (Option Segment)) (g : Option Segment) (b : ℕ) (x : Meaning)
      (all : Ok gs ≡ read_segments m p (s + 1) 0) (top : g ≡ newest gs) (base : b ≡ last_of g) (same : x ≡ m) where
    from_left : (r : Result Tail Fault) → r ≡ tail_left x p (b + 1) 0 → from_tail m gs r ≡ reread m p
    from_left r is =
        ap (from_tail m gs)
        (is
        ∙ ap (λ y. tail_left y p (b + 1) 0) same
        ∙ left_all m p (b + 1)
        ∙ ap (λ n. read_tail m p 15 (n + 1)) (base ∙ ap last_of top))
        ∙ from_read (Ok gs) all

    -- No further than a frame of the tail.
    pub stops_at_frame : (e : Fault) → Err e ≡ tail_left x p (b + 1) 0 → Err e ≡ reread m p
    stops_at_frame e is = from_left (Err e) is

    pub reads_all : (t : Tail) (r : Result Recovered Fault) → Ok t ≡ tail_left x p (b + 1) 0 → r ≡ assembled s g gs t
        → r ≡ reread m p
    reads_all t r is own =
        own
        ∙ ap₂ (λ n h. assembled n h gs t) (sym few) top
        ∙ assembled_is m gs t
        ∙ from_left (Ok t) is
