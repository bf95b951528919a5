-- Pages with a trailer.
use Rattle.std.specs.Prelude.{ℕ, Bool, cond, ◌&&◌, length, drop, None, Option, ◌==◌}
use Rattle.medium.specs.Meaning.{Bytes}
use Rattle.rules.specs.declared.trailer.Trailer.{Trailer}
use Rattle.rules.specs.Format.{encode, proper}
use Rattle.rules.specs.Steps.{same}

-- A page has 256 bytes.
abbrev pub is_page : Bytes → Bool
is_page bs = length bs == 256

-- The trailer of a page, if it is proper.
abbrev pub trailer_of : ℕ → Bytes → Option Trailer
trailer_of p bs = cond (is_page bs) (proper p bs 240) None

-- A page whose last sixteen bytes are the trailer's.
abbrev pub is_like : Bytes → Trailer → Bool
is_like bs t = is_page bs && same (drop 240 bs) (encode t)
