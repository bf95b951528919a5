-- What recovery does with what was read back.
use Rattle.std.specs.Prelude.{◌-◌, ◌/◌, cond, [], ◌==◌}
use Rattle.medium.specs.Outcome.{Outcome, done}
use Rattle.rules.specs.declared.fault.Fault.{Fault}
use Rattle.rules.specs.Format.{encode_segment}
use Rattle.rules.specs.Queue.{Queue, frames, segment_page, write_flash}
use Rattle.recovery.specs.declared.recovered.Recovered.{Recovered}
use Rattle.queue.specs.Runs.{segment_in}

-- The segment of a tail of fifteen frames is written.
abbrev pub describes : Queue → Recovered → Outcome Fault Queue (Unit {0})
describes x b =
    cond (b.tail == 15)
    (write_flash x (segment_page x.flash (b.found.last / 15 - 1))
    (encode_segment (segment_in (frames x.flash) b.entries b.front b.found.last)))
    (done tt x [])

-- The memory is that which was read back.
abbrev pub adopted : Queue → Recovered → Queue
adopted x b =
    record {
      flash = x.flash;
      disk = x.disk;
      front = b.front;
      last = b.found.last;
      entries = b.entries;
    }
