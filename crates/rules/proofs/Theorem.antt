-- What is promised of every run: whatever calls were made and whatever strikes left, each call keeps the invariant, and
-- from the invariant follow the read, the copies that stand on the media, and the next mount.
use Rattle.std.proofs.Common.{◌≡◌, ℕ, zero, suc, ◌*◌, ◌<◌, ◌≤◌, Bool, true, false, cond, eqb, ◌≢◌, ◌⊎◌, List, [], length, take, Some, Err, Result, sym, refl, ap, ◌∙◌, subst, inl, inr, ⊎_elim, arith}
use Rattle.std.proofs.lemmas.Bool.{cases_eq, cases_lt}
use Rattle.medium.specs.Meaning.{Bytes, Meaning, size, page}
use Rattle.medium.specs.Outcome.{Wrote, done, refused, struck}
use Rattle.rules.specs.declared.fault.Fault.{Fault}
use Rattle.rules.specs.declared.fault.Refusal.TheVariants as refusal
use Rattle.rules.specs.declared.state.State.{State}
use Rattle.rules.specs.declared.state.State.TheVariants as state
use Rattle.rules.specs.declared.trailer.Trailer.{Trailer}
use Rattle.rules.specs.Steps.{Ends}
use Rattle.rules.specs.Format.{fields}
use Rattle.rules.specs.Ram.{card_at, body_at, is_held}
use Rattle.rules.specs.Queue.{groups, place}
use Rattle.rules.specs.Store.{Call, mount, take_page, read, write, give_back, checkpoint, power_cycle}
use Rattle.rules.specs.Store.{Answer, gave}
use Rattle.rules.specs.Store.{Store, Out, refuse, by_state, step}
use Rattle.rules.specs.Book.{Book, Copy, fed, opened}
use Rattle.rules.specs.Promise.{Blank, Fresh, Run, begun, next, Stands, Found, Reads, Now, accepted_read}
use Rattle.rules.specs.Promise.{EveryRun}
use Rattle.rules.proofs.Invariant.{History, hist, trailer, bytes, In, Latest, Never, first, Written}
use Rattle.rules.proofs.Invariant.{Resting, Running, by, Invariant}
use Rattle.rules.proofs.Writes.{frames_is}
use Rattle.rules.proofs.Past.{place_lt}
use Rattle.rules.proofs.Enqueue.{latest_of, version_le}
use Rattle.rules.proofs.Reread.{hist_body, hist_fields}
use Rattle.rules.proofs.Ram.{none_some}
use Rattle.rules.proofs.Keeps.{Keeps, runs}
use Rattle.rules.proofs.Calls.{Accepts, good_hold, take_keeps, read_keeps, write_keeps, give_keeps, all_keeps}
use Rattle.rules.proofs.Restarts.{Any, any, any_by, stays, cycle_keeps, fits_sizes, mounts, mount_keeps}

-- Each call in each state.
step_by : (x : Store) (b : Book) (t : State) → x.state ≡ t → by t x b → (c : Call)
    → Keeps b (Accepts c) (by_state t x c)
step_by x b state.Up st ru (mount n) = runs x b st ru
step_by x b state.Up st ru (take_page p) = take_keeps x b st ru p
step_by x b state.Up st ru (read f n l) = read_keeps x b st ru f n l
step_by x b state.Up st ru (write f n o bs) = write_keeps x b st ru f n o bs
step_by x b state.Up st ru (give_back f n) = give_keeps x b st ru f n
step_by x b state.Up st ru checkpoint =
    all_keeps x.ram.count x b st ru 0 0 (omega arith) (λ g p lt. absurd (omega arith))
step_by x b state.Up st ru (power_cycle cf cd) = cycle_keeps x b cf cd (any_by state.Up x b ru)
step_by x b state.Shut st re (mount n) = mount_keeps x b st re n
step_by x b state.Shut st re (take_page p) = stays x b state.Shut st re
step_by x b state.Shut st re (read f n l) = stays x b state.Shut st re
step_by x b state.Shut st re (write f n o bs) = stays x b state.Shut st re
step_by x b state.Shut st re (give_back f n) = stays x b state.Shut st re
step_by x b state.Shut st re checkpoint = stays x b state.Shut st re
step_by x b state.Shut st re (power_cycle cf cd) = cycle_keeps x b cf cd (any_by state.Shut x b re)
step_by x b state.Dark st re (mount n) = stays x b state.Dark st re
step_by x b state.Dark st re (take_page p) = stays x b state.Dark st re
step_by x b state.Dark st re (read f n l) = stays x b state.Dark st re
step_by x b state.Dark st re (write f n o bs) = stays x b state.Dark st re
step_by x b state.Dark st re (give_back f n) = stays x b state.Dark st re
step_by x b state.Dark st re checkpoint = stays x b state.Dark st re
step_by x b state.Dark st re (power_cycle cf cd) = cycle_keeps x b cf cd (any_by state.Dark x b re)

-- However a call ends, the invariant holds of the store and the book after it.
ended : (b : Book) (c : Call) (o : Out) → Keeps b (Accepts c) o
    → (r : Result Answer Fault) (y : Store) (ws : List Wrote) → Ends o r y ws → Invariant y (fed b c r ws)
ended b c (done a z vs) k r y ws (er, ey, ew) = rw (er, ey, ew) k
ended b c (refused e z vs) k r y ws (er, ey, ew) = rw (er, ey, ew) k
ended b c (struck e f vs) k r y ws (er, (w, ey, ew)) = rw (er, ey, ew) (k w)

-- The first store, of an empty history.
blank_none : (m : Meaning) → Blank m → (i : ℕ) (bs : Bytes) → page m i ≢ Some bs
blank_none m bl i bs is = none_some bs (sym (bl.none i) ∙ is)

no_number : (q : ℕ) → In [] q → ⊥
no_number q i = omega (arith, i.0, i.1)

fresh_rests : (x : Store) → Fresh x → Resting x opened
fresh_rests x fr =
    let flash_none = blank_none x.queue.flash fr.flash_blank in
    let disk_none = blank_none x.queue.disk fr.disk_blank in
    record {
      s = groups x.queue.flash;
      d = size x.queue.disk;
      h = [];
      k = 0;
      media = record {
        sizes = fits_sizes 1 x.queue fr.fitting;
        written = record {
          short = omega arith;
          sound = λ q i. absurd (no_number q i);
          own = λ q i. absurd (no_number q i);
          rising = λ q r i. absurd (no_number q i);
          alike = λ q r i. absurd (no_number q i);
        };
        framed = record {
          held = λ q i. absurd (no_number q i);
          only = λ i bs lt is. absurd (flash_none i bs is);
        };
        described = record {
          low = omega arith;
          high = omega arith;
          there = λ g lt. absurd (omega arith);
          only = λ j bs le is. absurd (flash_none _ bs is);
        };
        saved = record {
          only = λ p bs is. absurd (disk_none p bs is);
          safe = λ p q l. absurd (no_number q l.there);
        };
      };
      kept = record { last = λ p q l. absurd (no_number q l.there); none = λ p off. refl };
      lit = λ e. (fr.flash_blank.lit, fr.disk_blank.lit);
    }

-- The invariant holds after every run.
pub run_keeps : {x : Store} {b : Book} → Run x b → Invariant x b
run_keeps (begun {x = x} fr) = stays x opened state.Shut fr.shut_yet (fresh_rests x fr)
run_keeps (next {x = x} {y = y} {b = b} before c r ws ends) =
    ended b c (step x c) (step_by x b x.state refl (run_keeps before) c) r y ws ends

-- A page has a last number, or none: here if it has none above n.
last_or_never : (h : History) (p n : ℕ) → n ≤ length h
    → ((q : ℕ) → n < q → q ≤ length h → (trailer h q).page ≢ p)
    → ((q : ℕ) × Latest h p q) ⊎ Never h p
last_or_never h p zero le above = inr (λ q inh. above q inh.0 inh.1)
last_or_never h p (suc n) le above =
    ⊎_elim
    (λ (is : (trailer h (suc n)).page ≡ p). inl (suc n, record { there = (omega arith, le); page = is; last = above }))
    (λ (ne : (trailer h (suc n)).page ≡ p → ⊥).
    last_or_never h p n (omega arith)
    (λ q lt top.
    ⊎_elim
    (λ (eq : q ≡ suc n). subst (λ i. (trailer h i).page ≢ p) (sym eq) ne)
    (λ (off : q ≡ suc n → ⊥). above q (omega arith) top)
    (cases_eq q (suc n))))
    (cases_eq (trailer h (suc n)).page p)

-- The highest version that stands is the kept one.
module _ (x : Store) (b : Book) (an : Any x b) where
  abbrev h : History
  h = an.h

  wr : Written an.d h
  wr = an.media.written

  few : an.d ≤ 240
  few = an.media.sizes.few

  -- The trailer of a number, as its bytes have it.
  fields_is : (q : ℕ) → In h q → fields (bytes (hist h q)) 240 ≡ trailer h q
  fields_is = hist_fields an.d few h wr

  -- What a whole copy of page p is against what was kept of the page.
  record Copied (p : ℕ) (bs : Bytes) : Type 0 where
    some : 1 ≤ (fields bs 240).version
    below : (fields bs 240).version ≤ (b.kept p).version
    alike : (fields bs 240).version ≡ (b.kept p).version → take 240 bs ≡ (b.kept p).body

  of_number : (bs : Bytes) (p q : ℕ) → (fields bs 240).page ≡ p → In h q → bs ≡ bytes (hist h q) → Copied p bs
  of_number bs p q pg inh is =
      let same : fields bs 240 ≡ trailer h q = ap (λ y. fields y 240) is ∙ fields_is q inh in
      let at = ap (λ (t : Trailer). t.page) (sym same) ∙ pg in
      let version_is = ap (λ (t : Trailer). t.version) same in
      let (r, l, le) = latest_of h p q inh at in
      let kept_is = an.kept.last p r l in
      let kept_version = ap (λ (k : Copy). k.version) kept_is in
      record {
        some = omega (arith, version_is, (wr.sound q inh).good.some);
        below = omega (arith, version_is, kept_version, version_le an.d h wr p q r inh at l);
        alike = λ eq.
            ap (take 240) is
            ∙ hist_body an.d few h wr q inh
            ∙ wr.alike q r inh l.there (at ∙ sym l.page) (sym version_is ∙ eq ∙ kept_version)
            ∙ ap (λ (k : Copy). k.body) (sym kept_is);
      }

  -- Each copy that stands is a number of the history.
  copied : (bs : Bytes) (p : ℕ) → Stands x p bs → Copied p bs
  copied bs p (pg, inl (i, lt, is)) =
      let low : i < 15 * an.s = omega (arith, frames_is an.s an.d x.queue an.media.sizes) in
      let (q, inh, near, at, eq) = an.media.framed.only i bs low is in
      of_number bs p q pg inh eq
  copied bs p (pg, inr (i, lt, is)) =
      let (q, inh, at, eq) = an.media.saved.only i bs is in of_number bs p q pg inh eq

  -- The version of a page's last number stands: on the disk if the number left the queue, else in its frame.
  stands_last : (p q : ℕ) → p < size x.queue.disk → Latest h p q
      → (bs : Bytes) × Stands x p bs × ((fields bs 240).version ≡ (trailer h q).version)
  stands_last p q lt l =
      ⊎_elim
      (λ (low : q < first (15 * an.s) (length h)).
      let (r, inh, at, ve, here) = an.media.saved.safe p q l (inl low) in
      let same = fields_is r inh in (
        bytes (hist h r),
        (ap (λ (t : Trailer). t.page) same ∙ at, inr (p, lt, here)),
        ap (λ (t : Trailer). t.version) same ∙ ve,
      ))
      (λ (live : first (15 * an.s) (length h) ≤ q).
      let same = fields_is q l.there in
      let c = frames_is an.s an.d x.queue an.media.sizes in
      let place_low = place_lt (15 * an.s) q (omega (arith, an.media.sizes.least)) in
      let here = an.media.framed.held q l.there (omega arith) in (
        bytes (hist h q),
        (ap (λ (t : Trailer). t.page) same ∙ l.page, inl (place (15 * an.s) q, omega (arith, c, place_low), here)),
        ap (λ (t : Trailer). t.version) same,
      ))
      (cases_lt q (first (15 * an.s) (length h)))

  pub found : (p : ℕ) → p < size x.queue.disk → Found x b p
  found p lt =
      record {
        highest = λ bs sd. (copied bs p sd).below;
        alike = λ bs sd. (copied bs p sd).alike;
        there = λ pos.
            ⊎_elim
            (λ (on : (q : ℕ) × Latest h p q).
            let (q, l) = on in
            let (bs, sd, ve) = stands_last p q lt l in
            (bs, sd, ve ∙ ap (λ (k : Copy). k.version) (sym (an.kept.last p q l))))
            (λ (off : Never h p). absurd (omega (arith, pos, ap (λ (k : Copy). k.version) (an.kept.none p off))))
            (last_or_never h p (length h) (omega arith) (λ q lt le. absurd (omega arith)));
        none = λ nothing bs sd. let co = copied bs p sd in omega (arith, nothing, co.some, co.below);
      }

-- An accepted read gives what the page is now.
refusal_reads : (b : Book) (f n : ℕ) (e : Fault) (r : Result Answer Fault) → r ≡ Err e → accepted_read b f n r
refusal_reads b f n e r is = subst (λ i. accepted_read b f n i) (sym is) tt

-- A read of a store that is up, by whether the hold is good and the length is right.
abbrev read_if : Store → ℕ → Bool → Bool → Out
read_if x f good right =
    let answer = gave (body_at x.ram f) (card_at x.ram f).version in
    cond good (cond right (done answer x []) (refuse refusal.Length x)) (refuse refusal.Stale x)

reads_up : (x : Store) (b : Book) (st : x.state ≡ state.Up) (ru : Running x b) (f n : ℕ)
    (r : Result Answer Fault) (y : Store) (ws : List Wrote) (good right : Bool)
    → is_held x.ram f n ≡ good → Ends (read_if x f good right) r y ws → accepted_read b f n r
reads_up x b st ru f n r y ws false right e ends = refusal_reads b f n _ r ends.0
reads_up x b st ru f n r y ws true false e ends = refusal_reads b f n _ r ends.0
reads_up x b st ru f n r y ws true true e ends =
    let (lt, (p, is, at)) = good_hold x b st ru f n e in
    subst (λ i. accepted_read b f n i) (sym ends.0)
    (subst (λ o. Now b o (body_at x.ram f) (card_at x.ram f).version) (sym at) (ru.in_ram.filled f p is).now)

reads_by : (x : Store) (b : Book) (t : State) → x.state ≡ t → by t x b → (f n l : ℕ)
    (r : Result Answer Fault) (y : Store) (ws : List Wrote) → Ends (by_state t x (read f n l)) r y ws
    → accepted_read b f n r
reads_by x b state.Up st ru f n l r y ws ends =
    reads_up x b st ru f n r y ws (is_held x.ram f n) (eqb l 240) refl ends
reads_by x b state.Shut st re f n l r y ws ends = refusal_reads b f n _ r ends.0
reads_by x b state.Dark st re f n l r y ws ends = refusal_reads b f n _ r ends.0

reads : (x : Store) (b : Book) → Invariant x b → (c : Call) (r : Result Answer Fault) (y : Store) (ws : List Wrote)
    → Ends (step x c) r y ws → Reads b c r
reads x b iv (mount n) r y ws ends = tt
reads x b iv (take_page p) r y ws ends = tt
reads x b iv (read f n l) r y ws ends = reads_by x b x.state refl iv f n l r y ws ends
reads x b iv (write f n o bs) r y ws ends = tt
reads x b iv (give_back f n) r y ws ends = tt
reads x b iv checkpoint r y ws ends = tt
reads x b iv (power_cycle cf cd) r y ws ends = tt

-- All of it, of every run.
pub every_run : EveryRun
every_run x b run c r y ws ends =
    let b' = fed b c r ws in
    let behind : Run y (fed b c r ws) = next run c r ws ends in
    let iv : Invariant y (fed b c r ws) = run_keeps behind in
    record {
      behind = behind;
      reads = reads x b (run_keeps run) c r y ws ends;
      found = found y b' (any y b' iv);
      mounts = mounts y b' iv;
    }
