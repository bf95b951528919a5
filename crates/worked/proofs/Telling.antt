-- The stories, by computation.
use Rattle.std.proofs.Common.{◌≡◌, ℕ, ◌<◌, ◌≤◌, List, [], ◌∷◌, get_or, replicate, None, refl, ⊎_elim, arith}
use Rattle.std.proofs.lemmas.Bool.{cases_lt}
use Rattle.std.proofs.lemmas.List.{get_or-replicate, get_or_past, length-replicate}
use Rattle.medium.specs.Meaning.{Page, Left}
use Rattle.medium.specs.Outcome.{done, refused, struck}
use Rattle.rules.specs.Format.{encode, encode_segment}
use Rattle.rules.specs.Recovery.{no_entries}
use Rattle.rules.specs.Ram.{no_cards, no_bodies, all_frames}
use Rattle.rules.specs.Steps.{Ends}
use Rattle.rules.specs.Store.{Store, Call, Out, step}
use Rattle.rules.specs.Book.{Book, fed}
use Rattle.rules.specs.Promise.{Fresh, Run, next}
use Rattle.worked.specs.Stories.{Told, answers, store_after, book_after, ended, new_store}

-- No page of a medium that was never written is readable.
none_at : (n i : ℕ) → get_or (replicate {A = Page} n None) i None ≡ None
none_at n i =
    ⊎_elim (λ (lt : i < n). get_or-replicate n i None None lt)
    (λ (le : n ≤ i). get_or_past (replicate n None) i None (omega (arith, length-replicate {A = Page} n None)))
    (cases_lt i n)

begins : (cf cd : ℕ) → Fresh (new_store cf cd)
begins cf cd =
    record {
      shut_yet = refl;
      unused = refl;
      fitting = refl;
      flash_blank = record { lit = refl; none = none_at 33 };
      disk_blank = record { lit = refl; none = none_at 8 };
    }

-- A call as it is told is one that a run can make.
ends : (w : Left) (o : Out) → Ends o (ended w o).answer (ended w o).store (ended w o).frames
ends w (done a y ws) = (refl, refl, refl)
ends w (refused e y ws) = (refl, refl, refl)
ends w (struck e f ws) = (refl, (w, refl, refl))

runs : (w : Left) (x : Store) (b : Book) → Run x b → (cs : List Call) → Run (store_after w x cs) (book_after w x b cs)
unfolding store_after book_after
runs w x b run [] = run
runs w x b run (c ∷ cs) =
    let e = ended w (step x c) in
    runs w e.store (fed b c e.answer e.frames)
    (next run c e.answer e.frames (ends w (step x c))) cs

pub told : Told
unfolding answers store_after book_after encode encode_segment no_entries no_cards no_bodies all_frames
told =
    record {
      begins = begins;
      runs = runs;
      first = refl;
      new_stands = refl;
      old_stands = refl;
      torn_away = refl;
      new_kept = refl;
      torn_kept = refl;
      segment_struck = refl;
      by_the_disk = refl;
      disk_struck = refl;
      frame_bytes = refl;
      segment_bytes = refl;
      disk_bytes = refl;
      evicted = refl;
      refused = refl;
      spent = refl;
      foreign = refl;
    }
