-- Recovery of the rules is what is read back, and then the segment that may be missing.
use Rattle.std.proofs.Common.{◌≡◌, ◌+◌, List, Ok, Err, Option, Result, refl}
use Rattle.medium.specs.Meaning.{size}
use Rattle.rules.specs.declared.fault.Fault.{Fault}
use Rattle.rules.specs.Format.{Segment}
use Rattle.rules.specs.Queue.{Queue, groups}
use Rattle.rules.specs.Recovery.{Tail, Entries, recover, with_directory, with_tail, with_segments}
use Rattle.rules.specs.Recovery.{read_segments, newest}
use Rattle.recovery.specs.Reread.{from_entries, from_tail, from_segments, reread, written_back}

entries_back : (x : Queue) (g : Option Segment) (t : Tail) (r : Result Entries Fault)
    → with_directory x g t r ≡ written_back x (from_entries x.flash g t r)
entries_back x g t (Err e) = refl
entries_back x g t (Ok es) = refl

tail_back : (x : Queue) (gs : List (Option Segment)) (r : Result Tail Fault)
    → with_tail x gs r ≡ written_back x (from_tail x.flash gs r)
tail_back x gs (Err e) = refl
tail_back x gs (Ok t) = entries_back x (newest gs) t _

segments_back : (x : Queue) (r : Result (List (Option Segment)) Fault)
    → with_segments x r ≡ written_back x (from_segments x.flash (size x.disk) r)
segments_back x (Err e) = refl
segments_back x (Ok gs) = tail_back x gs _

pub recover_is : (x : Queue) → recover x ≡ written_back x (reread x.flash (size x.disk))
recover_is x = segments_back x (read_segments x.flash (size x.disk) (groups x.flash + 1) 0)
