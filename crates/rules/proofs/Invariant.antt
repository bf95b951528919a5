-- What holds of a store and its media at each point of a run: the history of its frame writes accounts for every page.
use Rattle.std.proofs.Common.{◌≡◌, ℕ, zero, suc, ◌+◌, ◌-◌, ◌*◌, ◌%◌, ◌<◌, ◌≤◌, max, true, false, ◌≢◌, ◌⊎◌, List, [], ◌∷◌, ◌++◌, length, get_or, Some, None, Option}
use Rattle.medium.specs.Meaning.{Bytes}
use Rattle.rules.specs.declared.state.State.TheVariants as state
use Rattle.rules.specs.declared.state.State.{State}
use Rattle.rules.specs.declared.table.Card.{Card}
use Rattle.rules.specs.declared.trailer.Trailer.{Trailer}
use Rattle.rules.specs.Ram.{Ram, card_at, body_at, blank, empty}
use Rattle.rules.specs.Format.{Segment, encode, encode_segment}
use Rattle.rules.specs.Queue.{Queue, place, or_zero}
use Rattle.rules.specs.Store.{Store}
use Rattle.rules.specs.Book.{Book, Copy, page_of}

-- The pages of a medium; None is one that is unreadable.
abbrev pub Pages : Type 0
Pages = List (Option Bytes)

-- A page that a frame write left whole, and its bytes.
pub record Page : Type 0 where
  pub trailer : Trailer
  pub body : Bytes

unfoldable pub bytes : Page → Bytes
bytes e = e.body ++ encode e.trailer

-- Every page that was left whole by a frame write, in order; number q is the q-th.
abbrev pub History : Type 0
History = List Page

abbrev pub no_page : Page
no_page = record { trailer = or_zero None; body = [] }

unfoldable pub hist : History → ℕ → Page
hist h q = get_or h (q - 1) no_page

-- The trailer, the body and the bytes of number q, and whether there is such a number.
abbrev pub trailer : History → ℕ → Trailer
trailer h q = (hist h q).trailer

abbrev pub body : History → ℕ → Bytes
body h q = (hist h q).body

abbrev pub whole : History → ℕ → Option Bytes
whole h q = Some (bytes (hist h q))

abbrev pub In : History → ℕ → Type 0
In h q = (1 ≤ q) × (q ≤ length h)

-- What the book keeps of a page.
abbrev pub copy : Page → Copy
copy e = record { body = e.body; version = e.trailer.version }

-- The last number of page p is q, or p has none.
pub record Latest (h : History) (p q : ℕ) : Type 0 where
  pub there : In h q
  pub page : (trailer h q).page ≡ p
  pub last : (r : ℕ) → q < r → r ≤ length h → (trailer h r).page ≢ p

abbrev pub Never : History → ℕ → Type 0
Never h p = (q : ℕ) → In h q → (trailer h q).page ≢ p

-- A trailer that may stand on a disk of p pages, and such a page.
pub record Good (p : ℕ) (t : Trailer) : Type 0 where
  pub some : 1 ≤ t.version
  pub few : t.version ≤ 4000000000
  pub back : t.back < t.q
  pub page : t.page < p

pub record Sound (p : ℕ) (e : Page) : Type 0 where
  pub long : length e.body ≡ 240
  pub good : Good p e.trailer

-- A history on a disk of p pages.
pub record Written (p : ℕ) (h : History) : Type 0 where
  pub short : length h ≤ 4000000000
  pub sound : (q : ℕ) → In h q → Sound p (hist h q)
  pub own : (q : ℕ) → In h q → (trailer h q).q ≡ q
  -- Versions of one page never fall, and equal versions have equal bodies.
  pub rising : (q r : ℕ) → In h q → In h r → q < r → (trailer h q).page ≡ (trailer h r).page
      → (trailer h q).version ≤ (trailer h r).version
  pub alike : (q r : ℕ) → In h q → In h r → (trailer h q).page ≡ (trailer h r).page
      → (trailer h q).version ≡ (trailer h r).version → body h q ≡ body h r

-- The bytes bs are those of a number that may stand in frame i of c.
abbrev pub OfFrame : History → ℕ → ℕ → Bytes → Type 0
OfFrame h c i bs = (q : ℕ) × In h q × (length h + 1 ≤ q + c) × (place c q ≡ i) × (bs ≡ bytes (hist h q))

-- The first c pages hold the end of the history, all but one place, which may hold one page more or be unreadable.
pub record Framed (ps : Pages) (c : ℕ) (h : History) : Type 0 where
  pub held : (q : ℕ) → In h q → length h + 2 ≤ q + c → get_or ps (place c q) None ≡ whole h q
  pub only : (i : ℕ) (bs : Bytes) → i < c → get_or ps i None ≡ Some bs → OfFrame h c i bs

-- The trailers of n numbers from q on.
abbrev pub trailers : History → ℕ → ℕ → List Trailer
trailers h zero q = []
trailers h (suc n) q = trailer h q ∷ trailers h n (q + 1)

-- The front of a queue of c frames with last number n.
abbrev pub first : ℕ → ℕ → ℕ
first c n = max 1 (n + 2 - c)

-- Segment g of a flash of s groups, and its bytes.
abbrev pub seg : ℕ → History → ℕ → Segment
seg s h g =
    record { last = 15 * g + 15; front = first (15 * s) (15 * g + 15); entries = trailers h 15 (15 * g + 1) }

unfoldable pub segment : ℕ → History → ℕ → Bytes
segment s h g = encode_segment (seg s h g)

-- The bytes bs are those of a segment that may stand in segment page j, where k were written.
abbrev pub OfSegment : ℕ → History → ℕ → ℕ → Bytes → Type 0
OfSegment s h k j bs =
    (g : ℕ) × (g < k) × (k ≤ g + s + 1) × (g % (s + 1) ≡ j) × (bs ≡ segment s h g)

-- The first k segments were written; the last s of them stand, and one place may hold one more or be unreadable.
pub record Described (ps : Pages) (s : ℕ) (h : History) (k : ℕ) : Type 0 where
  pub low : 15 * k ≤ length h
  pub high : length h ≤ 15 * k + 15
  pub there : (g : ℕ) → g < k → k ≤ g + s → get_or ps (15 * s + g % (s + 1)) None ≡ Some (segment s h g)
  pub only : (j : ℕ) (bs : Bytes) → j ≤ s → get_or ps (15 * s + j) None ≡ Some bs → OfSegment s h k j bs

-- A copy of version v of page p is on the disk.
abbrev pub OnDisk : Pages → History → ℕ → ℕ → Type 0
OnDisk ps h p v =
    (r : ℕ) × In h r × ((trailer h r).page ≡ p) × ((trailer h r).version ≡ v) × (get_or ps p None ≡ whole h r)

-- The bytes bs are those of a number of page p.
abbrev pub OfPage : History → ℕ → Bytes → Type 0
OfPage h p bs = (q : ℕ) × In h q × ((trailer h q).page ≡ p) × (bs ≡ bytes (hist h q))

-- With front f, the disk has what left the queue, and what clean entries say that it has.
pub record Saved (ps : Pages) (h : History) (f : ℕ) : Type 0 where
  pub only : (p : ℕ) (bs : Bytes) → get_or ps p None ≡ Some bs → OfPage h p bs
  pub safe : (p q : ℕ) → Latest h p q → (q < f) ⊎ ((trailer h q).dirty ≡ false)
      → OnDisk ps h p (trailer h q).version

-- A flash of s groups, and a disk of d pages.
pub record Sized (s d : ℕ) (ps qs : Pages) : Type 0 where
  pub least : 2 ≤ s
  pub most : s ≤ 14
  pub flash : length ps ≡ 16 * s + 1
  pub disk : length qs ≡ d
  pub some : 1 ≤ d
  pub few : d ≤ 240

-- The pages ps of the flash and qs of the disk; the disk has what left the queue before f.
pub record Stored (s d : ℕ) (ps qs : Pages) (h : History) (k f : ℕ) : Type 0 where
  pub sizes : Sized s d ps qs
  pub written : Written d h
  pub framed : Framed ps (15 * s) h
  pub described : Described ps s h k
  pub saved : Saved qs h f

-- The same two of a queue's media.
abbrev pub Sizes : ℕ → ℕ → Queue → Type 0
Sizes s d x = Sized s d x.flash.pages x.disk.pages

abbrev pub Media : ℕ → ℕ → Queue → History → ℕ → ℕ → Type 0
Media s d x h k f = Stored s d x.flash.pages x.disk.pages h k f

-- Media at rest, from which a mount finds the front again.
abbrev pub Rests : ℕ → ℕ → Queue → History → ℕ → Type 0
Rests s d x h k = Media s d x h k (first (15 * s) (length h))

-- The trailer t is that of a number from f on whose frame is i of c.
abbrev pub OfEntry : History → ℕ → ℕ → ℕ → Trailer → Type 0
OfEntry h c f i t = (q : ℕ) × In h q × (f ≤ q) × (place c q ≡ i) × (t ≡ trailer h q)

-- The entries are the trailers of the live numbers, each in its place.
pub record Directory (es : List (Option Trailer)) (c f : ℕ) (h : History) : Type 0 where
  pub size : c ≤ length es
  pub there : (q : ℕ) → f ≤ q → In h q → get_or es (place c q) None ≡ Some (trailer h q)
  pub only : (i : ℕ) (t : Trailer) → get_or es i None ≡ Some t → OfEntry h c f i t

-- A queue with front f, between its frame writes.
pub record Open (s d : ℕ) (x : Queue) (h : History) (k f : ℕ) : Type 0 where
  pub media : Media s d x h k f
  pub front : x.front ≡ f
  pub last : x.last ≡ length h
  pub directory : Directory x.entries (15 * s) f h

-- A queue in service: its front follows from its last number, and no segment is due.
pub record Serving (s d : ℕ) (x : Queue) (h : History) (k : ℕ) : Type 0 where
  pub running : Open s d x h k (first (15 * s) (length h))
  pub settled : length h < 15 * k + 15

-- What the book has kept of a page is its last page of the history.
pub record Kept (b : Book) (h : History) : Type 0 where
  pub last : (p q : ℕ) → Latest h p q → b.kept p ≡ copy (hist h q)
  pub none : (p : ℕ) → Never h p → b.kept p ≡ record { body = blank; version = 0 }

-- What a card and a body hold.
abbrev pub held_copy : Card → Bytes → Copy
held_copy c bs = record { body = bs; version = c.version }

-- A card and a body that hold page p, over a disk qs.
pub record Filled (qs : Pages) (b : Book) (h : History) (p : ℕ) (c : Card) (bs : Bytes) : Type 0 where
  pub within : p < length qs
  pub long : length bs ≡ 240
  pub now : b.now p ≡ held_copy c bs
  pub clean : c.fdirty ≡ false → b.kept p ≡ held_copy c bs
  pub newer : c.fdirty ≡ true → ((b.kept p).version < c.version) × (c.dirty ≡ true)
  pub on_disk : c.dirty ≡ false → 0 < c.version → OnDisk qs h p c.version

-- The RAM m with the hold numbers up to n.
pub record InRam (m : Ram) (n : ℕ) (qs : Pages) (b : Book) (h : History) : Type 0 where
  pub cards : length m.cards ≡ 16
  pub bodies : length m.bodies ≡ 16
  pub few : m.count ≤ 16
  pub spare : (f : ℕ) → m.count ≤ f → card_at m f ≡ empty
  pub filled : (f p : ℕ) → (card_at m f).page ≡ Some p → Filled qs b h p (card_at m f) (body_at m f)
  pub one : (f g p : ℕ) → (card_at m f).page ≡ Some p → (card_at m g).page ≡ Some p → f ≡ g
  pub absent : (p : ℕ) → ((f : ℕ) → (card_at m f).page ≢ Some p) → b.now p ≡ b.kept p
  pub holds : (f : ℕ) → (card_at m f).hold ≤ n
  pub versions : (f : ℕ) → (card_at m f).version ≤ 4000000000
  pub pages : (f : ℕ) → 0 < (card_at m f).hold → page_of b.taken f (card_at m f).hold ≡ (card_at m f).page
  pub taken : (f : ℕ) → 0 < (card_at m f).hold → (card_at m f).page ≢ None

-- A store that is shut or dark: its media are at rest.
pub record Resting (x : Store) (b : Book) : Type 0 where
  pub s : ℕ
  pub d : ℕ
  pub h : History
  pub k : ℕ
  pub media : Rests s d x.queue h k
  pub kept : Kept b h
  pub lit : x.state ≡ state.Shut → (x.queue.flash.lit ≡ true) × (x.queue.disk.lit ≡ true)

-- A store that is up: its queue is in service, and its RAM agrees with the book.
pub record Running (x : Store) (b : Book) : Type 0 where
  pub s : ℕ
  pub d : ℕ
  pub h : History
  pub k : ℕ
  pub serving : Serving s d x.queue h k
  pub kept : Kept b h
  pub in_ram : InRam x.ram x.holds x.queue.disk.pages b h

-- The invariant, by the state of the store.
abbrev pub by : State → Store → Book → Type 0
by state.Up x b = Running x b
by state.Shut x b = Resting x b
by state.Dark x b = Resting x b

abbrev pub Invariant : Store → Book → Type 0
Invariant x b = by x.state x b
