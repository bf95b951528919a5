-- Parts of an enqueue.
use Rattle.std.specs.Prelude.{◌++◌}
use Rattle.medium.specs.Meaning.{Bytes}
use Rattle.medium.specs.Outcome.{Outcome}
use Rattle.rules.specs.declared.fault.Fault.{Fault}
use Rattle.rules.specs.declared.trailer.Trailer.{Trailer}
use Rattle.rules.specs.Format.{encode}
use Rattle.rules.specs.Queue.{Queue, slot, write_flash}

-- A body and its trailer are written into the frame of the trailer's number.
abbrev pub put_frame : Queue → Trailer → Bytes → Outcome Fault Queue (Unit {0})
put_frame x t body = write_flash x (slot x t.q) (body ++ encode t)
