-- The worked facts.
use Rattle.std.proofs.Common.{◌≡◌, ℕ, zero, suc, ◌+◌, ◌-◌, ◌*◌, ◌/◌, ◌%◌, ◌<◌, ◌≤◌, min, max, true, false, cond, eqb, ◌≢◌, List, [], ◌∷◌, length, Option, refl, ap, ◌∙◌, ap₂, arith, length-append}
use Rattle.std.proofs.lemmas.Bool.{ne_eqb, or_from}
use Rattle.std.proofs.lemmas.List.{drop_at}
use Rattle.medium.specs.Meaning.{Bytes, Meaning, size}
use Rattle.media.specs.Card.{tick, carries, free_from, next_tick}
use Rattle.rules.specs.declared.state.Mounted.{Mounted}
use Rattle.rules.specs.declared.state.State.TheVariants as state
use Rattle.rules.specs.declared.trailer.Trailer.{Trailer}
use Rattle.rules.specs.Format.{encode, encode_all, encode_segment, most}
use Rattle.rules.specs.Ranks.{highest}
use Rattle.rules.specs.Queue.{Queue, place, page_of, number, found_entry, next}
use Rattle.rules.specs.Recovery.{no_entries}
use Rattle.rules.specs.Ram.{card_at, is_held}
use Rattle.rules.specs.Store.{Store, mounted}
use Rattle.rules.specs.Promise.{reports}
use Rattle.worked.specs.Examples.{TwoGroups, MountReads, BodyEnd, first_save, Worked}

-- Everything of the flash's layout follows from its size.
two_groups : (m : Meaning) → size m ≡ 33 → TwoGroups m
two_groups m e =
    record {
      groups_are = ap (λ n. (n - 1) / 16) e;
      frames_are = ap (λ n. 15 * ((n - 1) / 16)) e;
      number_1 = ap (λ n. place (15 * ((n - 1) / 16)) 1) e;
      number_30 = ap (λ n. place (15 * ((n - 1) / 16)) 30) e;
      number_31 = ap (λ n. place (15 * ((n - 1) / 16)) 31) e;
      segment_0 = ap (λ n. 15 * ((n - 1) / 16) + 0 % ((n - 1) / 16 + 1)) e;
      segment_2 = ap (λ n. 15 * ((n - 1) / 16) + 2 % ((n - 1) / 16 + 1)) e;
      segment_3 = ap (λ n. 15 * ((n - 1) / 16) + 3 % ((n - 1) / 16 + 1)) e;
      front = λ g is. ap₂ (λ n k. max 1 (max (42 - 15 * ((n - 1) / 16)) k)) e is;
    }

mount_reads : (x : Store) (a : Mounted) → size x.queue.flash ≡ 33 → reports x (mounted a) → MountReads x a
mount_reads x a e is =
    record {
      after_0 = λ t. is ∙ ap₂ (λ n k. (n - 1) / 16 + 1 + min (k + 1) 15) e t;
      after_14 = λ t. is ∙ ap₂ (λ n k. (n - 1) / 16 + 1 + min (k + 1) 15) e t;
      after_15 = λ t. is ∙ ap₂ (λ n k. (n - 1) / 16 + 1 + min (k + 1) 15) e t;
    }

first_trailer : (x : Queue) → x.last ≡ 0 → x.entries ≡ no_entries
    → encode (next x 3 1 true) ≡ first_save
unfolding encode no_entries
first_trailer x e es =
    let back : List (Option Trailer) → ℕ = λ xs. number (found_entry (highest page_of number 3 xs)) in
    ap₂ (λ l xs. encode (record { q = l + 1; back = back xs; version = 1; page = 3; dirty = true })) e es

-- Fifteen trailers are 240 bytes.
length_one : (t : Trailer) → length (encode t) ≡ 16
unfolding encode
length_one t = refl

length_all : (ts : List Trailer) → length (encode_all ts) ≡ 16 * length ts
length_all [] = refl
length_all (t ∷ ts) = length-append (encode t) (encode_all ts) ∙ omega (arith, length_one t, length_all ts)

-- A write by a good hold, by the test on its length alone.
body_end : (x : Store) (f n k : ℕ) → x.state ≡ state.Up → is_held x.ram f n ≡ true
    → (card_at x.ram f).version ≢ most → BodyEnd x f n k
body_end x f n k up held ne =
    let v = ne_eqb (card_at x.ram f).version most ne in
    record { last_byte = rw (up, held, v); no_byte = rw (up, held, v); past_end = rw (up, held) }

-- No sector of the first n carries tick 1.
none_carries : (bs : Bytes) (i n : ℕ) → n ≤ 16 → ((s : ℕ) → s < 16 → tick bs i s ≡ 4) → carries bs i 1 n ≡ false
unfolding carries
none_carries bs i zero le all = refl
none_carries bs i (suc n) le all =
    or_from (eqb (tick bs i n) 1) (carries bs i 1 n)
    (ap (λ t. eqb t 1) (all n (omega arith)))
    (none_carries bs i n (omega arith) all)

after_tick_4 : (bs : Bytes) (i : ℕ) → ((s : ℕ) → s < 16 → tick bs i s ≡ 4) → next_tick bs i ≡ 1
unfolding free_from
after_tick_4 bs i all = ap (λ t. cond t (free_from bs i 2 253) 1) (none_carries bs i 16 (omega arith) all)

pub worked : Worked
unfolding encode_segment
worked =
    record {
      two_groups = two_groups;
      mount_reads = mount_reads;
      first_trailer = first_trailer;
      segment_end = λ ts long. drop_at (encode_all ts) _ 240 (omega (arith, length_all ts));
      body_end = body_end;
      after_tick_4 = after_tick_4;
    }
