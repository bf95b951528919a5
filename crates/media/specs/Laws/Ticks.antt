-- The ticks of a card's page: whether it is whole, and which tick comes next.
use Rattle.std.proofs.Common.{◌≡◌, ℕ, zero, suc, ◌+◌, ◌<◌, ◌≤◌, Bool, true, false, cond, not, eqb, Decides, Some, None, Option, sym, refl, ◌∙◌, subst, ⊎_elim, arith, rules}
use Rattle.std.specs.Option.{IsSome}
use Rattle.std.proofs.lemmas.Bool.{cases_eq, cases_lt}
use Rattle.std.proofs.lemmas.Bool.Decides.{Decides-below_and, Decides-below_or, Decides-eqb, Decides-and, Decides-not, not_from_Decides}
use Rattle.medium.specs.Meaning.{Bytes}
use Rattle.media.specs.Card.{tick, level, Whole, whole, Carried, carries, free_from, next_tick, NextTick, FirstFree}
use Rattle.media.specs.Laws.Pigeons.{at_most}

module _ (bs : Bytes) (i : ℕ) where
  level_decides : (t n : ℕ) → Decides (level bs i t n) ((k : ℕ) → k < n → tick bs i k ≡ t)
  unfolding level
  level_decides t n =
      Decides-below_and (λ k. eqb (tick bs i k) t) (λ k. tick bs i k ≡ t) (level bs i t)
      (λ k. Decides-eqb (tick bs i k) t) refl (λ _. refl) n

  pub whole_decides : Decides (whole bs i) (Whole bs i)
  unfolding whole
  whole_decides =
      Decides-and (not (eqb (tick bs i 0) 0)) (level bs i (tick bs i 0) 16)
      (Decides-not (eqb (tick bs i 0) 0) (Decides-eqb (tick bs i 0) 0)) (level_decides (tick bs i 0) 16)

  carries_decides : (t : ℕ) → Decides (carries bs i t 16) (Carried bs i t)
  unfolding carries
  carries_decides t =
      Decides-below_or (λ k. eqb (tick bs i k) t) (λ k. tick bs i k ≡ t) (carries bs i t)
      (λ k. Decides-eqb (tick bs i k) t) refl (λ _. refl) 16

  -- sixteen sectors do not carry the ticks from 1 to 17
  pub not_all_carried : (m : ℕ) → 17 < m → ((u : ℕ) → 1 ≤ u → u < m → Carried bs i u) → ⊥
  not_all_carried m h all =
      let few : 17 ≤ 16 = at_most 16 17 (tick bs i) (λ t lo hi. all t lo (omega arith)) in
      omega arith

  free_is_next : (n t : ℕ) → 1 ≤ t → t + n ≡ 255 → ((u : ℕ) → 1 ≤ u → u < t → Carried bs i u)
      → NextTick bs i (free_from bs i t n)
  unfolding free_from
  free_is_next zero t lo e below = absurd (not_all_carried t (omega arith) below)
  free_is_next (suc n) t lo e below =
      by (carries bs i t 16) refl
      (λ more. free_is_next n (t + 1) (omega arith) (omega arith) more)
    where
      by : (b : Bool) → carries bs i t 16 ≡ b
          → (((u : ℕ) → 1 ≤ u → u < t + 1 → Carried bs i u) → NextTick bs i (free_from bs i (t + 1) n))
          → NextTick bs i (cond b (free_from bs i (t + 1) n) t)
      by true z later =
          later
          (λ u l h. ⊎_elim
          (λ (q : u ≡ t). let c = (carries_decides t).0 z in (c.0, c.1, c.2 ∙ sym q))
          (λ ne. below u l (omega arith))
          (cases_eq u t))
      by false z later = record {
        low = lo;
        high = omega arith;
        free = not_from_Decides (carries bs i t 16) (carries_decides t) z;
        smallest = below;
      }

  pub next_tick_is : NextTick bs i (next_tick bs i)
  next_tick_is = free_is_next 254 1 (omega arith) (omega arith) (λ u lo hi. absurd (omega arith))

  -- there is one smallest
  pub next_tick_only : (t : ℕ) → NextTick bs i t → t ≡ next_tick bs i
  next_tick_only t h =
      let n = next_tick bs i in
      let k = next_tick_is in
      ⊎_elim
      (λ (l : t < n). absurd (h.free (k.smallest t h.low l)))
      (λ (g : n ≤ t).
      ⊎_elim (λ (e : t ≡ n). e)
      (λ ne. absurd (k.free (h.smallest n k.low (omega arith))))
      (cases_eq t n))
      (cases_lt t n)

  -- a search from 1 on finds it
  pub some_free : (r : Option ℕ) → FirstFree bs i 1 r → IsSome r
  some_free None all = absurd (not_all_carried 255 (omega arith) all)
  some_free (Some t) f = search rules

  pub first_is_next : (r : Option ℕ) (t : ℕ) → FirstFree bs i 1 r → r ≡ Some t → NextTick bs i t
  first_is_next r t f e =
      let h = subst (FirstFree bs i 1) e f in
      record { low = h.0; high = omega (arith, h.1); free = h.2; smallest = h.3 }
