-- What mount reads back from the flash.
use Rattle.std.specs.Prelude.{ℕ, zero, suc, ◌+◌, ◌-◌, ◌*◌, ◌/◌, ◌%◌, max, Bool, cond, ◌&&◌, List, [], ◌∷◌, length, replicate, Some, None, Ok, Err, Option, Result, ◌==◌, nat_le, nat_lt, slice_index, slice_index_or, slice_set}
use Rattle.medium.specs.Meaning.{Bytes, Page, Meaning, size, page}
use Rattle.medium.specs.Outcome.{Outcome, done, refused, struck}
use Rattle.rules.specs.declared.fault.Fault.{Fault}
use Rattle.rules.specs.declared.fault.Refusal.TheVariants as refusal
use Rattle.rules.specs.declared.fault.Side.TheVariants as side
use Rattle.rules.specs.declared.state.Mounted.{Mounted}
use Rattle.rules.specs.declared.trailer.Trailer.{Trailer}
use Rattle.rules.specs.Format.{Segment, proper, described, of2, of4, most}
use Rattle.rules.specs.Queue.{Queue, groups, frames, place, segment_page, with_flash, write_segment, live}
use Rattle.rules.specs.Refusals.{touched}

-- Something that no store left there, or a dark medium, met at flash page i.
abbrev pub foreign_at : ℕ → Fault
foreign_at i = touched refusal.Foreign side.Flash i

abbrev pub dark_at : ℕ → Fault
dark_at i = touched refusal.Dark side.Flash i

-- Segments. The bytes of the j-th segment page are a segment in its own place: the fields of its trailer are proper,
-- and its body is fifteen proper trailers in order.
abbrev pub is_segment : Meaning → ℕ → Bytes → Bool
is_segment m j bs =
    nat_le 15 (of4 bs 240)
    && (nat_le (of4 bs 240) most
    && (of4 bs 240 % 15 == 0
    && (segment_page m (of4 bs 240 / 15 - 1) == frames m + j
    && (of4 bs 248 == of4 bs 240 - 14
    && (of2 bs 252 == 15
    && (slice_index bs 254 == 0
    && (slice_index bs 255 == 2
    && (nat_le (max 1 (of4 bs 240 + 2 - frames m)) (of4 bs 244)
    && nat_le (of4 bs 244) (of4 bs 240)))))))))

abbrev pub with_entries : Bytes → Option (List Trailer) → Option Segment
with_entries bs None = None
with_entries bs (Some ts) = Some (record { last = of4 bs 240; front = of4 bs 244; entries = ts })

abbrev pub segment_in : Meaning → ℕ → ℕ → Bytes → Option Segment
segment_in m p j bs = cond (is_segment m j bs) (with_entries bs (described p bs 15 0 (of4 bs 240 - 14))) None

abbrev pub found_in : Meaning → ℕ → Option Segment → Result (Option Segment) Fault
found_in m j None = Err (foreign_at (frames m + j))
found_in m j (Some g) = Ok (Some g)

-- An unreadable segment page is passed over.
abbrev pub from_page : Meaning → ℕ → ℕ → Page → Result (Option Segment) Fault
from_page m p j None = Ok None
from_page m p j (Some bs) = found_in m j (segment_in m p j bs)

abbrev pub joined : {A : Type 0} → Result A Fault → Result (List A) Fault → Result (List A) Fault
joined (Err e) rs = Err e
joined (Ok a) (Err e) = Err e
joined (Ok a) (Ok rest) = Ok (a ∷ rest)

-- The n segment pages from the j-th on.
abbrev pub read_segments : Meaning → ℕ → ℕ → ℕ → Result (List (Option Segment)) Fault
read_segments m p zero j = Ok []
read_segments m p (suc n) j =
    joined (cond m.lit (from_page m p j (page m (frames m + j))) (Err (dark_at (frames m + j))))
    (read_segments m p n (j + 1))

abbrev pub later : Option Segment → Option Segment → Option Segment
later None h = h
later (Some g) None = Some g
later (Some g) (Some h) = cond (nat_lt g.last h.last) (Some h) (Some g)

abbrev pub newest : List (Option Segment) → Option Segment
newest [] = None
newest (g ∷ gs) = later g (newest gs)

abbrev pub last_of : Option Segment → ℕ
last_of None = 0
last_of (Some g) = g.last

abbrev pub front_of : Option Segment → ℕ
front_of None = 0
front_of (Some g) = g.front

-- The tail: the frames after the newest segment that hold the numbers sought, and how many reads they took.
pub record Tail : Type 0 where
  pub trailers : List Trailer
  pub reads : ℕ

abbrev pub ended : Result Tail Fault
ended = Ok (record { trailers = []; reads = 1 })

abbrev pub more : Trailer → Result Tail Fault → Result Tail Fault
more t (Err e) = Err e
more t (Ok x) = Ok (record { trailers = t ∷ x.trailers; reads = x.reads + 1 })

-- A number that lay in the frame of q before.
abbrev pub older : Meaning → ℕ → Trailer → Bool
older m q t = nat_lt t.q q && place (frames m) t.q == place (frames m) q

-- The frame of q has q, and the tail goes on; an older number, and it ends; or something foreign.
abbrev pub sort_of : Meaning → ℕ → Option Trailer → Result Tail Fault → Result Tail Fault
sort_of m q None rest = Err (foreign_at (place (frames m) q))
sort_of m q (Some t) rest =
    cond (t.q == q) (more t rest) (cond (older m q t) ended (Err (foreign_at (place (frames m) q))))

-- It ends at an unreadable frame too.
abbrev pub from_frame : Meaning → ℕ → ℕ → Page → Result Tail Fault → Result Tail Fault
from_frame m p q None rest = ended
from_frame m p q (Some bs) rest = sort_of m q (proper p bs 240) rest

abbrev pub read_tail : Meaning → ℕ → ℕ → ℕ → Result Tail Fault
read_tail m p zero q = Ok (record { trailers = []; reads = 0 })
read_tail m p (suc n) q =
    cond m.lit (from_frame m p q (page m (place (frames m) q)) (read_tail m p n (q + 1)))
    (Err (dark_at (place (frames m) q)))

-- The directory. Number q is described by the tail if it is above b, the newest segment's last, or else by the segment
-- of its group, if that was found.
abbrev pub nth : List Trailer → ℕ → Option Trailer
nth [] i = None
nth (t ∷ ts) zero = Some t
nth (t ∷ ts) (suc i) = nth ts i

abbrev pub of_group : ℕ → Option Segment → Option Trailer
of_group q None = None
of_group q (Some g) = cond (g.last == 15 * ((q - 1) / 15) + 15) (nth g.entries ((q - 1) % 15)) None

abbrev pub described_by : Meaning → List (Option Segment) → ℕ → List Trailer → ℕ → Option Trailer
described_by m gs b ts q =
    cond (nat_lt b q) (nth ts (q - b - 1)) (of_group q (slice_index_or gs ((q - 1) / 15 % (groups m + 1)) None))

abbrev pub Entries : Type 0
Entries = List (Option Trailer)

abbrev pub placed : Meaning → Option Trailer → ℕ → Result Entries Fault → Result Entries Fault
placed m None q rest = Err (foreign_at (place (frames m) q))
placed m (Some t) q (Err e) = Err e
placed m (Some t) q (Ok es) = Ok (slice_set es (place (frames m) q) (Some t))

unfoldable pub no_entries : Entries
no_entries = replicate 210 None

-- The entries of n numbers from q on; the lowest that is described nowhere is foreign.
abbrev pub gather : Meaning → List (Option Segment) → ℕ → List Trailer → ℕ → ℕ → Result Entries Fault
gather m gs b ts zero q = Ok no_entries
gather m gs b ts (suc n) q = placed m (described_by m gs b ts q) q (gather m gs b ts n (q + 1))

-- The front of a queue with last number r.
abbrev pub front_at : Meaning → Option Segment → ℕ → ℕ
front_at m g r = max 1 (max (r + 2 - frames m) (front_of g))

-- Where the tail has fifteen frames, their segment is missing and is written; if that fails, the queue's memory is as
-- it was.
abbrev pub settle : Queue → Mounted → Outcome Fault Queue (Unit {0}) → Outcome Fault Queue Mounted
settle x a (done u y ws) = done a y ws
settle x a (refused e y ws) = refused e (with_flash x y.flash) ws
settle x a (struck e f ws) = struck e (λ w. with_flash x (f w).flash) ws

abbrev pub with_directory : Queue → Option Segment → Tail → Result Entries Fault → Outcome Fault Queue Mounted
with_directory x g t (Err e) = refused e x []
with_directory x g t (Ok es) =
    let r = last_of g + length t.trailers in
    let y : Queue =
    record { flash = x.flash; disk = x.disk; front = front_at x.flash g r; last = r; entries = es } in
    let a : Mounted = record { last = r; live = live y; reads = groups x.flash + 1 + t.reads } in
    cond (length t.trailers == 15) (settle x a (write_segment y)) (done a y [])

abbrev pub with_tail : Queue → List (Option Segment) → Result Tail Fault → Outcome Fault Queue Mounted
with_tail x gs (Err e) = refused e x []
with_tail x gs (Ok t) =
    let g = newest gs in
    let r = last_of g + length t.trailers in
    let f = front_at x.flash g r in
    with_directory x g t (gather x.flash gs (last_of g) t.trailers (r + 1 - f) f)

abbrev pub with_segments : Queue → Result (List (Option Segment)) Fault → Outcome Fault Queue Mounted
with_segments x (Err e) = refused e x []
with_segments x (Ok gs) = with_tail x gs (read_tail x.flash (size x.disk) 15 (last_of (newest gs) + 1))

-- Recovery reads all segment pages, then the tail, then makes the directory.
abbrev pub recover : Queue → Outcome Fault Queue Mounted
recover x = with_segments x (read_segments x.flash (size x.disk) (groups x.flash + 1) 0)
