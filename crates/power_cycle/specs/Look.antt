-- A look: a page that has one level for all its channels.
use Rattle.std.specs.Prelude.{◌≡◌, ℕ, ◌<◌, length, slice_index}
use Rattle.medium.specs.Meaning.{Bytes}

abbrev pub AllAt : ℕ → Bytes → Type 0
AllAt v bs = (k : ℕ) → k < length bs → slice_index bs k ≡ v
