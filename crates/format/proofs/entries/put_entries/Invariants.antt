use Rattle.std.proofs.Common.{◌≡◌, ◌*◌, length, take}
use Rattle.rules.specs.Format.{encode_all}
use Rattle.format.proofs.entries.put_entries.Given as goal

abbrev pub invariant-loop-i : goal.invariant-loop-i
invariant-loop-i l = (length l.into ≡ 240) × (take (16 * l.i) l.into ≡ encode_all (take l.i l.entries))
