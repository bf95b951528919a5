-- What an operator may count on: what a checkpoint kept stays until it is written over, and no page grows older.
use Rattle.std.specs.Prelude.{◌≡◌, ℕ, ◌<◌, ◌≤◌, List, Some, Ok, Err, Result}
use Rattle.medium.specs.Meaning.{Bytes, size}
use Rattle.medium.specs.Outcome.{Wrote}
use Rattle.rules.specs.declared.fault.Fault.{Fault}
use Rattle.rules.specs.Steps.{Ends}
use Rattle.rules.specs.Format.{fields}
use Rattle.rules.specs.Store.{Store, step}
use Rattle.rules.specs.Store.{Call, mount, take_page, read, write, give_back, checkpoint, power_cycle}
use Rattle.rules.specs.Store.{Answer, gave}
use Rattle.rules.specs.Book.{Book, Copy, fed, page_of}
use Rattle.rules.specs.Promise.{Run, Stands, Found, Mounts}

-- Which calls may come, by the book before the call, the call and its answer.
abbrev pub Allowed : Type 1
Allowed = Book → Call → Result Answer Fault → Type 0

-- From store x and book b on: any number of calls that P allows, refused ones too, with whatever strikes left.
pub data Onward (P : Allowed) (x : Store) (b : Book) : Store → Book → Type 0 where
  here : Onward P x b x b
  more : {y z : Store} {c : Book} → Onward P x b y c → (a : Call) (r : Result Answer Fault) (ws : List Wrote)
      → P c a r → Ends (step y a) r z ws → Onward P x b z (fed c a r ws)

-- An accepted write of page p.
abbrev pub Writes : ℕ → Allowed
Writes p b (mount n) r = ⊥
Writes p b (take_page q) r = ⊥
Writes p b (read f n len) r = ⊥
Writes p b (write f n o bs) (Ok a) = page_of b.taken f n ≡ Some p
Writes p b (write f n o bs) (Err e) = ⊥
Writes p b (give_back f n) r = ⊥
Writes p b checkpoint r = ⊥
Writes p b (power_cycle cf cd) r = ⊥

-- Any call but that; any call at all.
abbrev pub Spares : ℕ → Allowed
Spares p b a r = Writes p b a r → ⊥

abbrev pub AnyCall : Allowed
AnyCall b a r = Unit {0}

-- Whatever an accepted read of page p gives in store z with book c, by any hold, is of this kind.
abbrev pub ReadsAs : ℕ → Store → Book → (Copy → Type 0) → Type 0
ReadsAs p z c K =
    (f n len : ℕ) (bs : Bytes) (v : ℕ) (y : Store) (ws : List Wrote)
    → Ends (step z (read f n len)) (Ok (gave bs v)) y ws → page_of c.taken f n ≡ Some p
    → K (record { body = bs; version = v })

-- Page p is still k: the run goes on, k is what is kept of p, and reads of p give k.
pub record Still (p : ℕ) (k : Copy) (z : Store) (c : Book) : Type 0 where
  pub behind : Run z c
  pub kept : c.kept p ≡ k
  pub reads : ReadsAs p z c (λ got. got ≡ k)

-- (i) After an accepted checkpoint, through any further calls, cuts, power cycles and mounts in which no write of page
-- p is accepted, an accepted read of p gives the body and the version that p had at the checkpoint: `b.now p`, where
-- b is the book before the checkpoint. Its frame writes change what is kept and never what a page is now, so that the
-- book after it has the same.
abbrev pub CheckpointStays : Type 0
CheckpointStays =
    (x : Store) (b : Book) → Run x b
    → (a : Answer) (y : Store) (ws : List Wrote) → Ends (step x checkpoint) (Ok a) y ws
    → (p : ℕ) (z : Store) (c : Book) → Onward (Spares p) y (fed b checkpoint (Ok a) ws) z c
    → Still p (b.now p) z c

-- No page is older in store z with book c than it was kept in book b: the run goes on, what is kept has not fallen,
-- reads give no lower version, a whole copy of no lower version stands on the media, and an accepted mount then gives
-- back what was kept.
pub record NoOlder (b : Book) (z : Store) (c : Book) : Type 0 where
  pub behind : Run z c
  pub kept : (p : ℕ) → (b.kept p).version ≤ (c.kept p).version
  pub reads : (p : ℕ) → ReadsAs p z c (λ got. (b.kept p).version ≤ got.version)
  pub stands : (p : ℕ) → p < size z.queue.disk → 0 < (b.kept p).version
      → (bs : Bytes) × Stands z p bs × ((b.kept p).version ≤ (fields bs 240).version)
  pub mounts : (n : ℕ) (a : Answer) (y : Store) (ws : List Wrote) → Ends (step z (mount n)) (Ok a) y ws
      → (p : ℕ) → ((fed c (mount n) (Ok a) ws).now p ≡ c.kept p) × ((fed c (mount n) (Ok a) ws).kept p ≡ c.kept p)

-- (ii) What is kept of a page never falls, through any calls, cuts, power cycles and mounts.
abbrev pub NeverOlder : Type 0
NeverOlder =
    (x : Store) (b : Book) → Run x b → (z : Store) (c : Book) → Onward AnyCall x b z c → NoOlder b z c

-- (iii) The promise speaks of the store after a call; what it says of the media and of mounts holds of the first store
-- too, and so at any point of a run.
pub record Ready (x : Store) (b : Book) : Type 0 where
  pub found : (p : ℕ) → p < size x.queue.disk → Found x b p
  pub mounts : Mounts x

abbrev pub AlwaysReady : Type 0
AlwaysReady = (x : Store) (b : Book) → Run x b → Ready x b
