-- How a write of a medium ends, and the sizes of a queue's media.
use Rattle.std.proofs.Common.{◌≡◌, ℕ, ◌*◌, ◌<◌, ◌≤◌, Bool, true, false, cond, eqb, ◌⊎◌, [], length, ap, inl, inr, arith}
use Rattle.std.proofs.lemmas.Bool.{cases_Bool, lt-leb, eq-eqb}
use Rattle.medium.specs.declared.Cause.TheVariants as cause
use Rattle.medium.specs.Meaning.{Bytes, Meaning, size}
use Rattle.medium.specs.Outcome.{done, refused, struck}
use Rattle.medium.specs.Rules.{write, written, struck_at}
use Rattle.rules.specs.Queue.{Queue, groups, frames, place, slot}
use Rattle.rules.proofs.Invariant.{History, Sizes, Media}
use Rattle.rules.proofs.Disk.{saved_less}

-- The three ways of a write of a page's bytes to page i.
pub data WriteEnds (m : Meaning) (i : ℕ) (bs : Bytes) : Type 0 where
  kept : m.lit ≡ true → write m i bs ≡ done tt (written m i bs) [] → WriteEnds m i bs
  hit : write m i bs ≡ struck cause.Dark (struck_at m i bs) (λ w. []) → WriteEnds m i bs
  unlit : m.lit ≡ false → write m i bs ≡ refused cause.Dark m [] → WriteEnds m i bs

-- A write of 256 bytes inside the medium ends in one of them.
pub ends : (m : Meaning) (i : ℕ) (bs : Bytes) → i < size m → length bs ≡ 256 → WriteEnds m i bs
ends m i bs lt long = go (cases_Bool m.lit) (cases_Bool (eqb m.charge 0))
  where
    way : (c : Bool) → m.lit ≡ true → eqb m.charge 0 ≡ c
        → write m i bs ≡ cond c (struck cause.Dark (struck_at m i bs) (λ w. [])) (done tt (written m i bs) [])
    way c lit e = rw (lit, lt-leb (size m) i lt, eq-eqb (length bs) 256 long, e)

    go : (m.lit ≡ true) ⊎ (m.lit ≡ false) → (eqb m.charge 0 ≡ true) ⊎ (eqb m.charge 0 ≡ false) → WriteEnds m i bs
    go (inr off) c = unlit off (rw off)
    go (inl lit) (inl empty) = hit (way true lit empty)
    go (inl lit) (inr some) = kept lit (way false lit some)

-- The groups and frames of a flash by its size, and where a number lies in it.
pub groups_is : (s d : ℕ) (x : Queue) → Sizes s d x → groups x.flash ≡ s
groups_is s d x z = omega (arith, z.flash)

pub frames_is : (s d : ℕ) (x : Queue) → Sizes s d x → frames x.flash ≡ 15 * s
frames_is s d x z = ap (λ n. 15 * n) (groups_is s d x z)

pub slot_is : (s d : ℕ) (x : Queue) → Sizes s d x → (q : ℕ) → slot x q ≡ place (15 * s) q
slot_is s d x z q = ap (λ c. place c q) (frames_is s d x z)

-- A lower front asks less of the disk.
pub media_less : (s d : ℕ) (x : Queue) (h : History) (k f g : ℕ) → g ≤ f → Media s d x h k f → Media s d x h k g
media_less s d x h k f g le me =
    record {
      sizes = me.sizes;
      written = me.written;
      framed = me.framed;
      described = me.described;
      saved = saved_less x.disk.pages h f g le me.saved;
    }
