-- A power cut in a write, and what is found once the power is back.
use Rattle.std.specs.Prelude.{◌≡◌, ℕ, ◌<◌, true, length, Err}
use Rattle.medium.specs.declared.Cause.TheVariants.{Dark}
use Rattle.medium.specs.Meaning.{Bytes, Meaning, Left, size, page, leaves}
use Rattle.medium.specs.Rules.{readable, plainly, filled, struck_at, relit}
use Rattle.power_cycle.specs.declared.cut.Cut.{Cut}

-- The power is on and fails in the next write, which would be done otherwise.
pub record Ready (m : Meaning) (i : ℕ) (from into : Bytes) : Type 0 where
  pub lit : m.lit ≡ true
  pub charge : m.charge ≡ 0
  pub inside : i < size m
  pub bytes : length from ≡ 256
  pub buffer : length into ≡ 256

-- The write of `from` to page i of the medium m was cut, and the medium is n then, with a new charge. The write and a
-- read in the dark were answered dark; page i is the old one, the new one or a torn one; the last read shows exactly
-- that; no other page changed.
pub record Lives (m : Meaning) (i : ℕ) (from : Bytes) (charge : ℕ) (before : Bytes) (c : Cut) (n : Meaning)
    (after : Bytes) : Type 0 where
  pub left : Left
  pub write : c.write ≡ Err Dark
  pub dark : c.dark ≡ Err Dark
  pub stands : n ≡ relit (struck_at m i from left) charge
  pub read : c.read ≡ plainly (readable (leaves left (page m i) from))
  pub buffer : after ≡ filled before (readable (leaves left (page m i) from))
