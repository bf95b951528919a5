-- What a checkpoint kept stays, and no page grows older: both follow from the book's rules and from the promise.
use Rattle.std.proofs.Common.{◌≡◌, ℕ, ◌+◌, ◌<◌, ◌≤◌, Bool, true, false, cond, eqb, List, [], ◌∷◌, Some, None, Ok, Err, Option, Result, sym, refl, ap, ◌∙◌, subst, inl, inr, arith}
use Rattle.std.proofs.lemmas.Bool.{eqb-true}
use Rattle.medium.specs.Meaning.{Bytes, Meaning, size, page}
use Rattle.medium.specs.Outcome.{Wrote}
use Rattle.rules.specs.declared.fault.Fault.{Fault}
use Rattle.rules.specs.declared.fault.Refusal.TheVariants as refusal
use Rattle.rules.specs.declared.state.State.{State}
use Rattle.rules.specs.declared.state.State.TheVariants as state
use Rattle.rules.specs.Refusals.{plain}
use Rattle.rules.specs.Steps.{Ends}
use Rattle.rules.specs.Store.{Store, by_state}
use Rattle.rules.specs.Store.{Call, mount, take_page, read, write, give_back, checkpoint, power_cycle}
use Rattle.rules.specs.Store.{Answer, mounted, took, gave, wrote, given, saved, cycled}
use Rattle.rules.specs.Book.{Book, Copy, page_of, write_into, take_into, changed, answer, keep}
use Rattle.rules.specs.Book.{one_frame, frames, fed}
use Rattle.rules.specs.Promise.{Blank, Fresh, Run, begun, next, Now, Stands, Found, Mounts}
use Rattle.rules.specs.Durable.{Allowed, Onward, here, more, Writes, Spares, ReadsAs}
use Rattle.rules.specs.Durable.{CheckpointStays, NeverOlder, AlwaysReady}
use Rattle.rules.proofs.Theorem.{every_run}
use Rattle.rules.proofs.Quiet.{mount_quiet}

-- The run goes on.
goes_on : {P : Allowed} {x : Store} {b : Book} {z : Store} {c : Book} → Run x b → Onward P x b z c → Run z c
goes_on run here = run
goes_on run (more on a r ws ok ends) = next (goes_on run on) a r ws ends

-- An accepted read gives its page's now.
reads_now : (z : Store) (c : Book) → Run z c → (p : ℕ) → ReadsAs p z c (λ got. c.now p ≡ got)
reads_now z c run p f n len bs v y ws ends pg =
    subst (λ o. Now c o bs v) pg (every_run z c run (read f n len) (Ok (gave bs v)) y ws ends).reads

-- Page p is k, now and kept.
abbrev Both : ℕ → Copy → Book → Type 0
Both p k b = (b.now p ≡ k) × (b.kept p ≡ k)

-- It stays so: a frame write keeps what p is now, a mount takes what is kept of it, a checkpoint keeps what it is now,
-- and no accepted write is of p.
module _ (p : ℕ) (k : Copy) where
  both_keep : (b : Book) (q : ℕ) → Both p k b → Both p k (keep b q)
  both_keep b q (n, e) = (n, go (eqb p q) refl)
    where
      go : (t : Bool) → eqb p q ≡ t → cond t (b.now q) (b.kept p) ≡ k
      go true is = ap b.now (sym (eqb-true p q is)) ∙ n
      go false is = e

  both_one : (b : Book) (t : Bool) (q : ℕ) → Both p k b → Both p k (cond t (keep b q) b)
  both_one b true q s = both_keep b q s
  both_one b false q s = s

  both_frames : (b : Book) (ws : List Wrote) → Both p k b → Both p k (frames b ws)
  both_frames b [] s = s
  both_frames b (w ∷ ws) s = both_frames (one_frame b w) ws (both_one b _ _ s)

  both_write : (b : Book) (o : Option ℕ) (i : ℕ) (bs : Bytes) → (o ≡ Some p → ⊥) → Both p k b
      → Both p k (write_into b o i bs)
  both_write b None i bs off s = s
  both_write b (Some q) i bs off (n, e) = (go (eqb p q) refl, e)
    where
      go : (t : Bool) → eqb p q ≡ t → cond t (changed (b.now q) i bs) (b.now p) ≡ k
      go true is = absurd (off (ap Some (sym (eqb-true p q is))))
      go false is = n

  both_take : (b : Book) (q : ℕ) (a : Answer) → Both p k b → Both p k (take_into b q a)
  both_take b q (mounted a) s = s
  both_take b q (took h) s = s
  both_take b q (gave bs v) s = s
  both_take b q (wrote v) s = s
  both_take b q given s = s
  both_take b q (saved n) s = s
  both_take b q cycled s = s

  both_answer : (b : Book) (c : Call) (r : Result Answer Fault) → Spares p b c r → Both p k b → Both p k (answer b c r)
  both_answer b c (Err e) off s = s
  both_answer b (mount n) (Ok a) off s = (s.1, s.1)
  both_answer b (take_page q) (Ok a) off s = both_take b q a s
  both_answer b (read f n len) (Ok a) off s = s
  both_answer b (write f n o bs) (Ok a) off s = both_write b (page_of b.taken f n) o bs off s
  both_answer b (give_back f n) (Ok a) off s = s
  both_answer b checkpoint (Ok a) off s = (s.0, s.0)
  both_answer b (power_cycle cf cd) (Ok a) off s = s

-- Frame writes change no take, so that a write's page is the same before and after them.
one_taken : (b : Book) (t : Bool) (q : ℕ) → (cond t (keep b q) b).taken ≡ b.taken
one_taken b true q = refl
one_taken b false q = refl

frames_taken : (b : Book) (ws : List Wrote) → (frames b ws).taken ≡ b.taken
frames_taken b [] = refl
frames_taken b (w ∷ ws) = frames_taken (one_frame b w) ws ∙ one_taken b _ _

writes_back : (p : ℕ) (b : Book) (ws : List Wrote) (c : Call) (r : Result Answer Fault)
    → Writes p (frames b ws) c r → Writes p b c r
writes_back p b ws (mount n) r is = is
writes_back p b ws (take_page q) r is = is
writes_back p b ws (read f n len) r is = is
writes_back p b ws (write f n o bs) (Ok a) is = ap (λ ts. page_of ts f n) (sym (frames_taken b ws)) ∙ is
writes_back p b ws (write f n o bs) (Err e) is = is
writes_back p b ws (give_back f n) r is = is
writes_back p b ws checkpoint r is = is
writes_back p b ws (power_cycle cf cd) r is = is

-- And over many calls.
both_on : (p : ℕ) (k : Copy) {x : Store} {b : Book} {z : Store} {c : Book}
    → Onward (Spares p) x b z c → Both p k b → Both p k c
both_on p k here s = s
both_on p k (more {c = c} on a r ws off ends) s =
    both_answer p k (frames c ws) a r (λ is. off (writes_back p c ws a r is)) (both_frames p k c ws (both_on p k on s))

-- Frame writes do not change what a page is now.
one_now : (b : Book) (t : Bool) (q : ℕ) → (cond t (keep b q) b).now ≡ b.now
one_now b true q = refl
one_now b false q = refl

frames_now : (b : Book) (ws : List Wrote) → (frames b ws).now ≡ b.now
frames_now b [] = refl
frames_now b (w ∷ ws) = frames_now (one_frame b w) ws ∙ one_now b _ _

pub checkpoint_stays : CheckpointStays
checkpoint_stays x b run a y ws ends p z c on =
    let here_now = ap (λ g. g p) (frames_now b ws) in
    let (n, e) = both_on p (b.now p) on (here_now, here_now) in
    let run' = goes_on (next run checkpoint (Ok a) ws ends) on in
    record {
      behind = run';
      kept = e;
      reads = λ f m len bs v y' ws' ends' pg. sym (reads_now z c run' p f m len bs v y' ws' ends' pg) ∙ n;
    }

-- What is kept is never newer than what is now, and no call and no frame write makes it older.
abbrev Behind : Book → Type 0
Behind b = (p : ℕ) → (b.kept p).version ≤ (b.now p).version

-- From book b to book c.
pub record Grows (b c : Book) : Type 0 where
  pub behind : Behind c
  pub kept : (p : ℕ) → (b.kept p).version ≤ (c.kept p).version

grows_self : (b : Book) → Behind b → Grows b b
grows_self b h = record { behind = h; kept = λ p. omega arith }

grows_then : (b c d : Book) → Grows b c → Grows c d → Grows b d
grows_then b c d g h = record { behind = h.behind; kept = λ p. omega (arith, g.kept p, h.kept p) }

-- A frame write keeps what a page is now, which is no older than what was kept.
grows_keep : (b : Book) (q : ℕ) → Behind b → Grows b (keep b q)
grows_keep b q h = record { behind = λ p. go p (eqb p q) refl; kept = λ p. up p (eqb p q) refl }
  where
    go : (p : ℕ) (t : Bool) → eqb p q ≡ t → (cond t (b.now q) (b.kept p)).version ≤ (b.now p).version
    go p true is = subst (λ i. (b.now i).version ≤ (b.now p).version) (eqb-true p q is) (omega arith)
    go p false is = h p

    up : (p : ℕ) (t : Bool) → eqb p q ≡ t → (b.kept p).version ≤ (cond t (b.now q) (b.kept p)).version
    up p true is = subst (λ i. (b.kept p).version ≤ (b.now i).version) (eqb-true p q is) (h p)
    up p false is = omega arith

grows_one : (b : Book) (t : Bool) (q : ℕ) → Behind b → Grows b (cond t (keep b q) b)
grows_one b true q h = grows_keep b q h
grows_one b false q h = grows_self b h

grows_frames : (b : Book) (ws : List Wrote) → Behind b → Grows b (frames b ws)
grows_frames b [] h = grows_self b h
grows_frames b (w ∷ ws) h =
    let g = grows_one b _ _ h in grows_then b (one_frame b w) _ g (grows_frames (one_frame b w) ws g.behind)

-- A write raises what a page is now, and takes no version down.
grows_write : (b : Book) (o : Option ℕ) (i : ℕ) (bs : Bytes) → Behind b → Grows b (write_into b o i bs)
grows_write b None i bs h = grows_self b h
grows_write b (Some q) i bs h = record { behind = λ p. go p (eqb p q) refl; kept = λ p. omega arith }
  where
    go : (p : ℕ) (t : Bool) → eqb p q ≡ t → (b.kept p).version ≤ (cond t (changed (b.now q) i bs) (b.now p)).version
    go p true is = subst (λ j. (b.kept p).version ≤ (b.now j).version + 1) (eqb-true p q is) (omega (arith, h p))
    go p false is = h p

grows_take : (b : Book) (q : ℕ) (a : Answer) → Behind b → Grows b (take_into b q a)
grows_take b q (mounted a) h = grows_self b h
grows_take b q (took t) h = record { behind = h; kept = λ p. omega arith }
grows_take b q (gave bs v) h = grows_self b h
grows_take b q (wrote v) h = grows_self b h
grows_take b q given h = grows_self b h
grows_take b q (saved n) h = grows_self b h
grows_take b q cycled h = grows_self b h

grows_answer : (b : Book) (c : Call) (r : Result Answer Fault) → Behind b → Grows b (answer b c r)
grows_answer b c (Err e) h = grows_self b h
grows_answer b (mount n) (Ok a) h = record { behind = λ p. omega arith; kept = λ p. omega arith }
grows_answer b (take_page q) (Ok a) h = grows_take b q a h
grows_answer b (read f n len) (Ok a) h = grows_self b h
grows_answer b (write f n o bs) (Ok a) h = grows_write b (page_of b.taken f n) o bs h
grows_answer b (give_back f n) (Ok a) h = grows_self b h
grows_answer b checkpoint (Ok a) h = record { behind = λ p. omega arith; kept = h }
grows_answer b (power_cycle cf cd) (Ok a) h = grows_self b h

grows_fed : (b : Book) (c : Call) (r : Result Answer Fault) (ws : List Wrote) → Behind b → Grows b (fed b c r ws)
grows_fed b c r ws h =
    let g = grows_frames b ws h in grows_then b (frames b ws) _ g (grows_answer (frames b ws) c r g.behind)

-- So it is at the end of every run, and from there on.
run_behind : {x : Store} {b : Book} → Run x b → Behind b
run_behind (begun fr) = λ p. omega arith
run_behind (next {b = b} before c r ws ends) = (grows_fed b c r ws (run_behind before)).behind

grows_on : {P : Allowed} {x : Store} {b : Book} {z : Store} {c : Book} → Behind b → Onward P x b z c → Grows b c
grows_on {b = b} h here = grows_self b h
grows_on {b = b} h (more {c = c} on a r ws ok ends) =
    let g = grows_on h on in grows_then b c _ g (grows_fed c a r ws g.behind)

-- On blank media nothing stands; after a call the promise says what does.
blank_bytes : (m : Meaning) → Blank m → (i : ℕ) (bs : Bytes) → page m i ≡ Some bs → ⊥
blank_bytes m bl i bs is = let e = bl.none i in let z : ◌≡◌ {A = ℕ} 0 1 = cc in omega arith

fresh_stands : (x : Store) → Fresh x → (p : ℕ) (bs : Bytes) → Stands x p bs → ⊥
fresh_stands x fr p bs (pg, inl (i, lt, is)) = blank_bytes x.queue.flash fr.flash_blank i bs is
fresh_stands x fr p bs (pg, inr (i, lt, is)) = blank_bytes x.queue.disk fr.disk_blank i bs is

found_now : {x : Store} {b : Book} → Run x b → (p : ℕ) → p < size x.queue.disk → Found x b p
found_now (begun {x = x} fr) p lt =
    record {
      highest = λ bs sd. absurd (fresh_stands x fr p bs sd);
      alike = λ bs sd. absurd (fresh_stands x fr p bs sd);
      there = λ pos. absurd (omega arith);
      none = λ zero'. fresh_stands x fr p;
    }
found_now (next {x = x} {y = y} {b = b} before c r ws ends) p lt = (every_run x b before c r y ws ends).found p lt

-- A store that is shut refuses a read and stays as it is, so that the promise after that call is of the same store.
shut_read : (x : Store) (t : State) → t ≡ state.Shut
    → Ends (by_state t x (read 0 0 0)) (Err (plain refusal.Shut)) x []
shut_read x state.Shut e = (refl, refl, refl)
shut_read x state.Up e = let z : ◌≡◌ {A = ℕ} 0 1 = cc in absurd (omega arith)
shut_read x state.Dark e = let z : ◌≡◌ {A = ℕ} 0 1 = cc in absurd (omega arith)

mounts_now : (x : Store) (b : Book) → Run x b → Mounts x
mounts_now x b run shut n lo hi =
    (every_run x b run (read 0 0 0) (Err (plain refusal.Shut)) x [] (shut_read x x.state shut)).mounts shut n lo hi

pub always_ready : AlwaysReady
always_ready x b run = record { found = found_now run; mounts = mounts_now x b run }

pub never_older : NeverOlder
never_older x b run z c on =
    let run' = goes_on run on in
    let g = grows_on (run_behind run) on in
    record {
      behind = run';
      kept = g.kept;
      reads = λ p f n len bs v y ws ends pg.
          let e = ap (λ (k : Copy). k.version) (reads_now z c run' p f n len bs v y ws ends pg) in
          omega (arith, e, g.kept p, g.behind p);
      stands = λ p lt pos.
          let (bs, sd, ve) = (found_now run' p lt).there (omega (arith, g.kept p, pos)) in
          (bs, sd, omega (arith, ve, g.kept p));
      mounts = λ n a y ws ends p.
          let e = ap (λ vs. (frames c vs).kept p) (mount_quiet z n (Ok a) y ws ends) in
          (e, e);
    }
