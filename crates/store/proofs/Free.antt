-- The last free frame of a list is the first from its end.
use Rattle.std.proofs.Common.{◌≡◌, ℕ, cond, List, [], ◌∷◌, reverse, find, Some, None, Option, refl, ap, ◌∙◌}
use Rattle.std.specs.Option.{option_or}
use Rattle.std.proofs.lemmas.Grind.{reverse_onto}
use Rattle.std.proofs.lemmas.List.Folds.{find-append}
use Rattle.rules.specs.Ram.{Ram, or_else, is_free, last_free}

same : (o p : Option ℕ) → option_or o p ≡ or_else o p
same (Some f) p = refl
same None p = refl

pub from_the_end : (m : Ram) (fs : List ℕ) → find (is_free m) (reverse fs) ≡ last_free m fs
from_the_end m [] = refl
from_the_end m (f ∷ fs) =
    ap (find (is_free m)) (reverse_onto fs f [])
    ∙ find-append (is_free m) (reverse fs) (f ∷ [])
    ∙ same (find (is_free m) (reverse fs)) (cond (is_free m f) (Some f) None)
    ∙ ap (λ o. or_else o (cond (is_free m f) (Some f) None)) (from_the_end m fs)
