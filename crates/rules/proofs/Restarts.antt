-- Power cycles and mounts: what a store at rest keeps, and that it can be mounted.
use Rattle.std.proofs.Common.{◌≡◌, ℕ, ◌+◌, ◌-◌, ◌*◌, ◌≤◌, min, Bool, true, false, cond, eqb, leb, List, [], length, sym, refl, ap, ◌∙◌, subst, ap₂, subst₂}
use Rattle.std.proofs.lemmas.Bool.{eqb-true, leb-true, le-leb, eq-eqb, and_parts, and_from}
use Rattle.medium.specs.Meaning.{Meaning, size}
use Rattle.medium.specs.Outcome.{Outcome, Wrote, done, refused, struck}
use Rattle.rules.specs.declared.fault.Fault.{Fault}
use Rattle.rules.specs.declared.fault.Refusal.TheVariants as refusal
use Rattle.rules.specs.declared.state.Mounted.{Mounted}
use Rattle.rules.specs.declared.state.State.{State}
use Rattle.rules.specs.declared.state.State.TheVariants as state
use Rattle.rules.specs.Steps.{then_do}
use Rattle.rules.specs.Queue.{Queue, groups}
use Rattle.rules.specs.Recovery.{recover}
use Rattle.rules.specs.Store.{mount, power_cycle}
use Rattle.rules.specs.Store.{mounted}
use Rattle.rules.specs.Store.{Store, Out, refuse, with_queue, on_queue, fits, raised, mount_shut, cycle, by_state}
use Rattle.rules.specs.Book.{Book}
use Rattle.rules.specs.Book as book
use Rattle.rules.specs.Promise.{after_newest, tail_of, succeeds, Mounts}
use Rattle.rules.proofs.Invariant.{History, Sizes, Rests}
use Rattle.rules.proofs.Invariant.{Serving, Kept, Resting, by, Invariant}
use Rattle.rules.proofs.Writes.{groups_is}
use Rattle.rules.proofs.Mount.{Recovered, recover_gives, newest_last}
use Rattle.rules.proofs.Frame.{fresh_in}
use Rattle.rules.proofs.Keeps.{Keeps, keeps_then, rests}
use Rattle.rules.proofs.Calls.{Accepts}

-- What holds in every state.
pub record Any (x : Store) (b : Book) : Type 0 where
  pub s : ℕ
  pub d : ℕ
  pub h : History
  pub k : ℕ
  pub media : Rests s d x.queue h k
  pub kept : Kept b h

pub any_by : (t : State) (x : Store) (b : Book) → by t x b → Any x b
any_by state.Up x b ru =
    record { s = ru.s; d = ru.d; h = ru.h; k = ru.k; media = ru.serving.running.media; kept = ru.kept }
any_by state.Shut x b re = record { s = re.s; d = re.d; h = re.h; k = re.k; media = re.media; kept = re.kept }
any_by state.Dark x b re = record { s = re.s; d = re.d; h = re.h; k = re.k; media = re.media; kept = re.kept }

pub any : (x : Store) (b : Book) → Invariant x b → Any x b
any x b = any_by x.state x b

-- A store that stays as it is.
pub stays : (x : Store) (b : Book) (t : State) → x.state ≡ t → by t x b → Invariant x b
stays x b t st iv = subst (λ i. by i x b) (sym st) iv

-- A power cycle.
pub cycle_keeps : (x : Store) (b : Book) (cf cd : ℕ) → Any x b → Keeps b (Accepts (power_cycle cf cd)) (cycle x cf cd)
cycle_keeps x b cf cd an =
    record {
      s = an.s;
      d = an.d;
      h = an.h;
      k = an.k;
      media = an.media;
      kept = an.kept;
      lit = λ e. (refl, refl);
    }

-- What a mount wants: few enough frames, and media of fitting sizes.
pub few_frames : (n : ℕ) (fl di : Meaning) → fits n fl di ≡ true → n ≤ 16
few_frames n fl di e = let (a, r) = and_parts (leb 1 n) _ e in leb-true n 16 (and_parts (leb n 16) _ r).0

pub fits_sizes : (n : ℕ) (x : Queue) → fits n x.flash x.disk ≡ true → Sizes (groups x.flash) (size x.disk) x
fits_sizes n x e =
    let s = groups x.flash in
    let d = size x.disk in
    let (a₁, r₁) = and_parts (leb 1 n) _ e in
    let (a₂, r₂) = and_parts (leb n 16) _ r₁ in
    let (a₃, r₃) = and_parts (eqb (size x.flash) (16 * s + 1)) _ r₂ in
    let (a₄, r₄) = and_parts (leb 2 s) _ r₃ in
    let (a₅, r₅) = and_parts (leb s 14) _ r₄ in
    let (a₆, a₇) = and_parts (leb 1 d) (leb d 240) r₅ in
    record {
      least = leb-true 2 s a₄;
      most = leb-true s 14 a₅;
      flash = eqb-true (size x.flash) (16 * s + 1) a₃;
      disk = refl;
      some = leb-true 1 d a₆;
      few = leb-true d 240 a₇;
    }

pub sizes_fit : (n : ℕ) (x : Queue) → 1 ≤ n → n ≤ 16 → Sizes (groups x.flash) (size x.disk) x
    → fits n x.flash x.disk ≡ true
sizes_fit n x lo hi z =
    let s = groups x.flash in
    let d = size x.disk in
    and_from _ _ (le-leb 1 n lo)
    (and_from _ _ (le-leb n 16 hi)
    (and_from _ _ (eq-eqb (size x.flash) (16 * s + 1) z.flash)
    (and_from _ _ (le-leb 2 s z.least)
    (and_from _ _ (le-leb s 14 z.most)
    (and_from _ _ (le-leb 1 d z.some) (le-leb d 240 z.few))))))

-- A mount of a store that is shut.
module _ (x : Store) (b : Book) (st : x.state ≡ state.Shut) (re : Resting x b) where
  -- The media have the sizes that the store reads off them.
  abbrev s : ℕ
  s = groups x.queue.flash

  abbrev d : ℕ
  d = size x.queue.disk

  media : Rests s d x.queue re.h re.k
  media =
      subst₂ (λ s d. Rests s d x.queue re.h re.k)
      (sym (groups_is re.s re.d x.queue re.media.sizes))
      (sym re.media.sizes.disk)
      re.media

  flash_lit : x.queue.flash.lit ≡ true
  flash_lit = (re.lit st).0

  recovered : Recovered x.queue re.h re.k (recover x.queue)
  recovered = recover_gives x.queue re.h re.k media flash_lit

  -- Recovery writes no frame, so that the book stays.
  unfed : (ws : List Wrote) → ws ≡ [] → Kept (book.frames b ws) re.h
  unfed ws nil = subst (λ us. Kept (book.frames b us) re.h) (sym nil) re.kept

  -- What the queue is once it is recovered.
  abbrev Back : Mounted → Store → Book → Type 0
  Back a y c = (j : ℕ) × Serving s d y.queue re.h j × Kept c re.h

  back : (o : Outcome Fault Queue Mounted) → Recovered x.queue re.h re.k o → Keeps b Back (on_queue x o)
  back (done a y ws) (nil, (j, sv), same, la, rd) = (j, sv, unfed ws nil)
  back (refused e y ws) no' = absurd no'
  back (struck e f ws) left =
      λ w. let (nil, (j, rs)) = left w in
      rests (with_queue x (f w)) (book.frames b (ws w)) s d re.h j rs (unfed (ws w) nil)

  -- A mount of n frames, once the queue gave o.
  abbrev mount_then : ℕ → Outcome Fault Queue Mounted → Out
  mount_then n o = then_do (on_queue x o) (λ a y. done (mounted a) (raised n y) [])

  -- The mount keeps the invariant.
  pub mount_keeps : (n : ℕ) → Keeps b (Accepts (mount n)) (mount_shut x n)
  mount_keeps n = go _ refl
    where
      go : (t : Bool) → fits n x.queue.flash x.queue.disk ≡ t
          → Keeps b (Accepts (mount n)) (cond t (mount_then n (recover x.queue)) (refuse refusal.Size x))
      go false e = stays x b state.Shut st re
      go true e =
          let few = few_frames n x.queue.flash x.queue.disk e in
          keeps_then b Back (Accepts (mount n)) (on_queue x (recover x.queue))
          (λ a y. done (mounted a) (raised n y) []) (back (recover x.queue) recovered)
          (λ a y c got.
          let (j, sv, kept) = got in
          record {
            s = s;
            d = d;
            h = re.h;
            k = j;
            serving = sv;
            kept = record { last = kept.last; none = kept.none };
            in_ram = fresh_in n y.holds few y.queue.disk.pages c re.h;
          })

  -- It succeeds, and tells how many pages it read.
  mount_succeeds : (n : ℕ) (o : Outcome Fault Queue Mounted) → Recovered x.queue re.h re.k o
      → succeeds x (mount_then n o)
  mount_succeeds n (done a y ws) (nil, (j, sv), same, la, rd) =
      let (gs, is, last_is) = newest_last x.queue re.h re.k media flash_lit in
      let tail : tail_of x a ≡ length re.h - 15 * re.k =
      ap (λ r. after_newest r a.last) is ∙ ap₂ ◌-◌ la last_is in
      rd ∙ ap (λ t. s + 1 + min (t + 1) 15) (sym tail)
  mount_succeeds n (refused e y ws) no' = absurd no'
  mount_succeeds n (struck e f ws) left = tt

  pub mounts_now : (n : ℕ) → 1 ≤ n → n ≤ 16 → succeeds x (mount_shut x n)
  mounts_now n lo hi =
      subst (λ t. succeeds x (cond t (mount_then n (recover x.queue)) (refuse refusal.Size x)))
      (sym (sizes_fit n x.queue lo hi media.sizes))
      (mount_succeeds n (recover x.queue) recovered)

-- A store that is shut can be mounted.
pub mounts : (x : Store) (b : Book) → Invariant x b → Mounts x
mounts x b iv st n lo hi =
    subst (λ t. succeeds x (by_state t x (mount n))) (sym st)
    (mounts_now x b st (subst (λ t. by t x b) st iv) n lo hi)
