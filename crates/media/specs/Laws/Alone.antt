-- The bytes of a page alone say at 0 what all the bytes say at the page.
use Rattle.std.proofs.Common.{◌≡◌, ℕ, ◌+◌, ◌*◌, ◌/◌, ◌%◌, ◌<◌, get_or, drop, sym, ap, ◌∙◌, subst, arith}
use Rattle.std.proofs.lemmas.List.{get_or-take, get_or-drop}
use Rattle.medium.specs.Meaning.{Bytes}
use Rattle.media.specs.Card.{sectors_of, tick, content, card_page, NextTick, next_tick}
use Rattle.media.specs.Laws.Cards.{page_by}
use Rattle.media.specs.Laws.Ticks.{next_tick_only}

module _ (bs : Bytes) (i : ℕ) where
  byte_alone : (q p : ℕ) → q < 272 → p ≡ i * 272 + q → get_or (sectors_of bs i) q 0 ≡ get_or bs p 0
  byte_alone q p h e =
      get_or-take 272 (drop (i * 272) bs) q 0 h ∙ get_or-drop (i * 272) bs q 0 ∙ ap (λ n. get_or bs n 0) (sym e)

  tick_alone : (s : ℕ) → s < 16 → tick (sectors_of bs i) 0 s ≡ tick bs i s
  tick_alone s h = byte_alone (0 * 272 + s * 17 + 16) (i * 272 + s * 17 + 16) (omega arith) (omega arith)

  content_alone : (k : ℕ) → k < 256 → content (sectors_of bs i) 0 k ≡ content bs i k
  content_alone k h =
      byte_alone (0 * 272 + k / 16 * 17 + k % 16) (i * 272 + k / 16 * 17 + k % 16) (omega arith) (omega arith)

  module _ (xs : Bytes) (alone : xs ≡ sectors_of bs i) where
    pub page_alone : card_page xs 0 ≡ card_page bs i
    page_alone = ap (λ ys. card_page ys 0) alone ∙ page_by bs (sectors_of bs i) i 0 tick_alone content_alone

    -- the tick that is next in the page alone
    pub next_alone : (t : ℕ) → NextTick xs 0 t → t ≡ next_tick bs i
    next_alone t h =
        let next = subst (λ ys. NextTick ys 0 t) alone h in
        next_tick_only bs i t
        (record {
          low = next.low;
          high = next.high;
          free = λ c. next.free (c.0, c.1, tick_alone c.0 c.1 ∙ c.2);
          smallest = λ u lo lt. let c = next.smallest u lo lt in (c.0, c.1, sym (tick_alone c.0 c.1) ∙ c.2);
        })
