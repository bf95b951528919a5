-- A page that comes into a frame, by what the steps give.
use Rattle.std.proofs.Common.{◌≡◌, ℕ, Bool, true, false, cond, eqb, [], length, take, Some, None, Ok, Err, Option, Result, sym, refl, ap, ◌∙◌, subst, arith}
use Rattle.std.proofs.lemmas.Bool.{eq-eqb}
use Rattle.medium.specs.Meaning.{Bytes, Page, size, page}
use Rattle.medium.specs.Outcome.{Gives, done, refused}
use Rattle.rules.specs.declared.fault.Fault.{Fault}
use Rattle.rules.specs.declared.fault.Refusal.TheVariants as refusal
use Rattle.rules.specs.declared.fault.Side.TheVariants as side
use Rattle.rules.specs.declared.state.State.{State}
use Rattle.rules.specs.declared.trailer.Trailer.{Trailer}
use Rattle.rules.specs.Format.{proper}
use Rattle.rules.specs.Queue.{valid, checked}
use Rattle.rules.specs.Ram.{fetched}
use Rattle.rules.specs.Refusals.{touched}
use Rattle.rules.specs.Store.{Store, with_state, filled, fetch, from_valid, from_flash, from_disk, of_page}
use Rattle.format.specs.Pages.{trailer_of}
use Rattle.recovery.specs.Looks.{looks}
use Rattle.store.specs.Parts.{disk_page, from_media, state_after}
use Rattle.store.proofs.Hearing.{darkened_gives}
use Rattle.store.proofs.Strikes.{ToldDark}

-- A page read from the disk.
module _ (x : Store) (f p : ℕ) (bs : Bytes) (t : Trailer) (z : Store)
    (is : z ≡ filled x f (fetched p t.version false) (take 240 bs)) where
  of_trailer : (o : Option Trailer) → o ≡ Some t → t.page ≡ p → Gives (of_page x f p bs o) (Ok tt) z
  of_trailer o has own =
      subst (λ (o : Option Trailer). Gives (of_page x f p bs o) (Ok tt) z) (sym has)
      (subst
      (λ (b : Bool).
      Gives
      (cond b (done tt (filled x f (fetched p t.version false) (take 240 bs)) [])
      (refused (touched refusal.Foreign side.Disk p) x [])) (Ok tt) z)
      (sym (eq-eqb t.page p own)) (refl, is))

  whole : (g : Page) → g ≡ Some bs → proper (size x.queue.disk) bs 240 ≡ Some t → t.page ≡ p
      → Gives (from_disk x f p g) (Ok tt) z
  whole g has good own =
      subst (λ (o : Page). Gives (from_disk x f p o) (Ok tt) z) (sym has)
      (of_trailer (proper (size x.queue.disk) bs 240) good own)

  pub from_disk_given : (pages : ℕ) → Ok (Some bs) ≡ looks side.Disk x.queue.disk p
      → pages ≡ size x.queue.disk → length bs ≡ 256 → Some t ≡ trailer_of pages bs → t.page ≡ p
      → Gives (disk_page x f p) (Ok tt) z
  from_disk_given pages found many long good own = go x.queue.disk.lit found
    where
      proper_is : proper (size x.queue.disk) bs 240 ≡ Some t
      proper_is =
          ap (λ n. proper n bs 240) (sym many)
          ∙ sym (good ∙ ap (λ (b : Bool). cond b (proper pages bs 240) None) (eq-eqb (length bs) 256 long))

      go : (b : Bool)
          → Ok (Some bs) ≡ cond b (Ok (page x.queue.disk p)) (Err (touched refusal.Dark side.Disk p))
          → Gives
          (cond b (from_disk x f p (page x.queue.disk p)) (refused (touched refusal.Dark side.Disk p) x []))
          (Ok tt) z
      go true at = whole (page x.queue.disk p) (cc) proper_is own
      go false at = let n : ◌≡◌ {A = ℕ} 0 1 = cc in absurd (omega arith)

-- A fetch strikes nothing.
module _ (x : Store) (f p : ℕ) where
  told_flash : (t : Trailer) (r : Result Bytes Fault) → ToldDark (from_flash x f p t r)
  told_flash t (Err e) = tt
  told_flash t (Ok bs) = tt

  told_page : (bs : Bytes) (o : Option Trailer) → ToldDark (of_page x f p bs o)
  told_page bs None = tt
  told_page bs (Some t) =
      elim (eqb t.page p) as
      (λ b.
      ToldDark
      (cond b (done tt (filled x f (fetched p t.version false) (take 240 bs)) [])
      (refused (touched refusal.Foreign side.Disk p) x [])))
      [ true ↦ tt | false ↦ tt ]

  told_disk : (g : Page) → ToldDark (from_disk x f p g)
  told_disk None = tt
  told_disk (Some bs) = told_page bs (proper (size x.queue.disk) bs 240)

  told : (o : Option Trailer) → ToldDark (from_valid x f p o)
  told (Some t) = told_flash t (checked x.queue t)
  told None = go x.queue.disk.lit
    where
      go : (b : Bool)
          → ToldDark
          (cond b (from_disk x f p (page x.queue.disk p)) (refused (touched refusal.Dark side.Disk p) x []))
      go true = told_disk (page x.queue.disk p)
      go false = tt

  -- What a fetch gives, by what is heard of the media.
  pub fetched_so : (y : Store) (r s : Result (Unit {0}) Fault) (t : State) → Gives (from_media x f p) r y → s ≡ r
      → t ≡ state_after r y.state → Gives (fetch x f p) s (with_state y t)
  fetched_so y r s t g same so =
      subst (λ (q : Result (Unit {0}) Fault). Gives (fetch x f p) q (with_state y t)) (sym same)
      (subst (λ (u : State). Gives (fetch x f p) r (with_state y u)) (sym so)
      (darkened_gives (from_media x f p) r y (told (valid x.queue p)) g))
