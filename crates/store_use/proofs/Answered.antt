-- A give back right after a read or a write is refused only if that was, and then for the same cause. So a visit
-- answers what was answered in between.
use Rattle.std.proofs.Common.{◌≡◌, ℕ, zero, suc, ◌+◌, Bool, true, false, cond, ◌&&◌, eqb, leb, ltb, List, [], ◌∷◌, length, get_or, Ok, Err, Result, refl, ap, subst, ◌∙◌, arith}
use Rattle.std.proofs.Math.ListN.{set}
use Rattle.std.specs.Result.{result_and}
use Rattle.medium.specs.Meaning.{Bytes}
use Rattle.medium.specs.Outcome.{Gives, done}
use Rattle.rules.specs.declared.fault.Fault.{Fault}
use Rattle.rules.specs.declared.fault.Refusal.TheVariants as refusal
use Rattle.rules.specs.declared.state.State.{State}
use Rattle.rules.specs.declared.state.State.TheVariants as state
use Rattle.rules.specs.declared.table.Card.{Card}
use Rattle.rules.specs.Format.{most}
use Rattle.rules.specs.Ram.{empty, card_at, body_at, with_card, held_card, changed, is_held}
use Rattle.rules.specs.Refusals.{plain}
use Rattle.rules.specs.Store.{Store, Answer, step, by_state, read, write, give_back, gave, wrote, given}
use Rattle.rules.specs.Store.{refuse, with_ram, written_frame}
use Rattle.store.specs.View.{answered}

-- Of a frame that was written the hold is as it was.
same_hold : (cs : List Card) (f : ℕ) (c : Card) → c.hold ≡ (get_or cs f empty).hold
    → (get_or (set cs f c) f empty).hold ≡ (get_or cs f empty).hold
same_hold [] f c e = refl
same_hold (d ∷ ds) zero c e = e
same_hold (d ∷ ds) (suc f) c e = same_hold ds f c e

still_held : (y : Store) (f n o : ℕ) (bs : Bytes) → is_held (written_frame y f o bs).ram f n ≡ is_held y.ram f n
still_held y f n o bs =
    ap (λ h. ltb f y.ram.count && (ltb 0 n && eqb h n)) (same_hold y.ram.cards f (changed (card_at y.ram f)) refl)

module _ (f n : ℕ) (v : Result ℕ Fault) (g : Result (Unit {0}) Fault) (z : Store) where
  abbrev Back : Store → Type 0
  Back w = Gives (step w (give_back f n)) (answered (λ u. given) g) z

  is_given : (r : Result (Unit {0}) Fault) → answered (λ u. given) r ≡ Ok given → result_and r v ≡ v
  is_given (Ok u) e = refl
  is_given (Err x) e = let m : ◌≡◌ {A = ℕ} 0 1 = cc in absurd (omega arith)

  both_refused : (say : ℕ → Answer) (e : Fault) (a : Result ℕ Fault) (r : Result (Unit {0}) Fault)
      → answered say a ≡ Err e → answered (λ u. given) r ≡ Err e → result_and r a ≡ a
  both_refused say e (Ok k) r is gone = let m : ◌≡◌ {A = ℕ} 0 1 = cc in absurd (omega arith)
  both_refused say e (Err x) (Ok u) is gone = refl
  both_refused say e (Err x) (Err y) is gone = let same : x ≡ e = cc in let other : y ≡ e = cc in cc

  -- The give back of a store that is up, of a good hold and of another.
  back_up : (w : Store) (t : Bool) → w.state ≡ state.Up → is_held w.ram f n ≡ t → Back w
      → Gives (cond t (done given (with_ram w (with_card w.ram f (held_card (card_at w.ram f) 0))) []) (refuse refusal.Stale w))
      (answered (λ u. given) g) z
  back_up w t up held back =
      let b = subst (λ (s : State). Gives (by_state s w (give_back f n)) (answered (λ u. given) g) z) up back in
      subst
      (λ (i : Bool). Gives (cond i (done given (with_ram w (with_card w.ram f (held_card (card_at w.ram f) 0))) []) (refuse refusal.Stale w)) (answered (λ u. given) g) z)
      held b

  held_back : (w : Store) → w.state ≡ state.Up → is_held w.ram f n ≡ true → Back w → result_and g v ≡ v
  held_back w up held back = let b = back_up w true up held back in is_given g b.0

  module _ (y w : Store) (say : ℕ → Answer) where
    stale_back : Gives (refuse refusal.Stale y) (answered say v) w → y.state ≡ state.Up → is_held y.ram f n ≡ false
        → Back w → result_and g v ≡ v
    stale_back did up held back =
        let b = back_up y false up held (subst (λ (u : Store). Back u) did.1 back) in
        both_refused say (plain refusal.Stale) v g did.0 b.0

    shut_back : Gives (refuse refusal.Shut y) (answered say v) w → y.state ≡ state.Shut → Back w → result_and g v ≡ v
    shut_back did at back =
        let b = subst (λ (s : State). Gives (by_state s y (give_back f n)) (answered (λ u. given) g) z) at
        (subst (λ (u : Store). Back u) did.1 back) in
        both_refused say (plain refusal.Shut) v g did.0 b.0

    dark_back : Gives (refuse refusal.Dark y) (answered say v) w → y.state ≡ state.Dark → Back w → result_and g v ≡ v
    dark_back did at back =
        let b = subst (λ (s : State). Gives (by_state s y (give_back f n)) (answered (λ u. given) g) z) at
        (subst (λ (u : Store). Back u) did.1 back) in
        both_refused say (plain refusal.Dark) v g did.0 b.0

    -- The store goes over into one in which the hold is good still.
    good_back : (u : Store) → w ≡ u → u.state ≡ state.Up → is_held u.ram f n ≡ true → Back w → result_and g v ≡ v
    good_back u same up held back = held_back u up held (subst (λ (t : Store). Back t) same back)

  module _ (y w : Store) where
    pub read_answered : (len : ℕ) (body : Bytes) → Gives (step y (read f n len)) (answered (gave body) v) w → Back w
        → result_and g v ≡ v
    read_answered len body did back = by y.state refl did
      where
        up : (t a : Bool) → y.state ≡ state.Up → is_held y.ram f n ≡ t
            → Gives (cond t (cond a (done (gave (body_at y.ram f) (card_at y.ram f).version) y [])
            (refuse refusal.Length y)) (refuse refusal.Stale y)) (answered (gave body) v) w
            → result_and g v ≡ v
        up true true at held d = good_back y w (gave body) y d.1 at held back
        up true false at held d = good_back y w (gave body) y d.1 at held back
        up false a at held d = stale_back y w (gave body) d at held back

        by : (s : State) → y.state ≡ s → Gives (by_state s y (read f n len)) (answered (gave body) v) w
            → result_and g v ≡ v
        by state.Up at d = up (is_held y.ram f n) (eqb len 240) at refl d
        by state.Shut at d = shut_back y w (gave body) d at back
        by state.Dark at d = dark_back y w (gave body) d at back

    pub write_answered : (o : ℕ) (bs : Bytes) → Gives (step y (write f n o bs)) (answered wrote v) w → Back w
        → result_and g v ≡ v
    write_answered o bs did back = by y.state refl did
      where
        up : (t a b : Bool) → y.state ≡ state.Up → is_held y.ram f n ≡ t
            → Gives (cond t (cond a (cond b (refuse refusal.Spent y)
            (done (wrote ((card_at y.ram f).version + 1)) (written_frame y f o bs) []))
            (refuse refusal.Length y)) (refuse refusal.Stale y)) (answered wrote v) w
            → result_and g v ≡ v
        up true true true at held d = good_back y w wrote y d.1 at held back
        up true true false at held d =
            good_back y w wrote (written_frame y f o bs) d.1 at (still_held y f n o bs ∙ held) back
        up true false b at held d = good_back y w wrote y d.1 at held back
        up false a b at held d = stale_back y w wrote d at held back

        by : (s : State) → y.state ≡ s → Gives (by_state s y (write f n o bs)) (answered wrote v) w
            → result_and g v ≡ v
        by state.Up at d =
            up (is_held y.ram f n) (leb (o + length bs) 240) (eqb (card_at y.ram f).version most) at refl d
        by state.Shut at d = shut_back y w wrote d at back
        by state.Dark at d = dark_back y w wrote d at back
