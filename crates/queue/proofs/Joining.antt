-- What enqueue gives, by what its parts give.
use Rattle.std.proofs.Common.{◌≡◌, ℕ, ◌+◌, ◌-◌, ◌/◌, ◌<◌, Bool, cond, [], ◌++◌, Ok, Result, sym, ap, ◌∙◌, subst, arith}
use Rattle.std.proofs.lemmas.Bool.{ne_eqb}
use Rattle.medium.specs.Meaning.{Bytes, Meaning, page, size}
use Rattle.medium.specs.Outcome.{Gives, refused}
use Rattle.rules.specs.declared.fault.Fault.{Fault}
use Rattle.rules.specs.declared.fault.Refusal.TheVariants as refusal
use Rattle.rules.specs.declared.trailer.Trailer.{Trailer}
use Rattle.rules.specs.Format.{encode, encode_segment, most}
use Rattle.rules.specs.Queue.{Queue, frames, slot, valid, number, entered, next, append, make_room, enqueue}
use Rattle.rules.specs.Queue.{describe_due, segment_of, segment_page, write_flash, write_frame, write_segment}
use Rattle.rules.specs.Refusals.{plain}
use Rattle.rules.specs.Steps.{then_do}
use Rattle.rules.proofs.Given.{framed_gives, then_gives}
use Rattle.queue.specs.Parts.{put_frame}
use Rattle.queue.specs.Runs.{segment_in}
use Rattle.queue.specs.View.{Sized}
use Rattle.queue.proofs.Runs.{segment_is}

abbrev Answer : Type 0
Answer = Result (Unit {0}) Fault

-- Making room leaves the last number as it was.
room_last : (x y : Queue) → Gives (make_room x) (Ok tt) y → y.last ≡ x.last
room_last x y g = grind arith

-- After the room, the page is appended under the next number.
pub enqueue_given : (x y z : Queue) (t : Trailer) (body : Bytes) (r : Answer) → x.last < most
    → t.q ≡ x.last + 1 → t.back ≡ number (valid y t.page) → Gives (make_room x) (Ok tt) y
    → Gives (append y t body) r z → Gives (enqueue x t.page t.version t.dirty body) r z
enqueue_given x y z t body r low is back room g =
    let k : Trailer → Queue → Trailer = λ u w. next w u.page u.version u.dirty in
    let own : t ≡ k t y =
    λ i. record {
      q = (is ∙ ap (λ n. n + 1) (sym (room_last x y room))) i;
      back = back i;
      version = t.version;
      page = t.page;
      dirty = t.dirty;
    } in
    subst
    (λ (b : Bool).
    Gives (cond b (refused (plain refusal.Spent) x []) (then_do (make_room x) (λ a w. append w (k t w) body))) r z)
    (sym (ne_eqb x.last most (λ e. absurd (omega (arith, e, low)))))
    (then_gives (λ a w. append w (k t w) body) (make_room x) tt y room r z
    (subst (λ (u : Trailer). Gives (append y u body) r z) own g))

-- A page is written into a frame, entered, and a segment after it where it is due.
pub append_given : (x y w z : Queue) (t : Trailer) (body : Bytes) (r : Answer) → Gives (put_frame x t body) (Ok tt) y
    → w ≡ entered y t → Gives (describe_due w) r z → Gives (append x t body) r z
append_given x y w z t body r put is g =
    let all = body ++ encode t in
    then_gives (λ a v. describe_due (entered v t)) (write_frame x t all) tt y
    (framed_gives (Ok tt) y (page x.flash (slot x t.q)) all (put_frame x t body) put) r z
    (subst (λ (v : Queue). Gives (describe_due v) r z) is g)

-- A segment is written as its bytes are, at its page.
pub segment_given : (x z : Queue) (bs : Bytes) (c i : ℕ) (r : Answer) → c ≡ frames x.flash
    → bs ≡ encode_segment (segment_in c x.entries x.front x.last)
    → i ≡ segment_page x.flash (x.last / 15 - 1) → Gives (write_flash x i bs) r z → Gives (write_segment x) r z
segment_given x z bs c i r many laid seat put =
    let own : segment_in c x.entries x.front x.last ≡ segment_of x =
    ap (λ n. segment_in n x.entries x.front x.last) many ∙ sym (segment_is x) in
    subst (λ (j : ℕ). Gives (write_flash x j (encode_segment (segment_of x))) r z) seat
    (subst (λ (xs : Bytes). Gives (write_flash x i xs) r z) (laid ∙ ap encode_segment own) put)

-- A flash of the same size has it still.
pub sized_still : (m n : Meaning) → size n ≡ size m → Sized m → Sized n
sized_still m n is s = record { least = rw is s.least; most = rw is s.most }
