use Rattle.std.proofs.Common.{refl, ◌∙◌, ap₂, ◌++◌}
use Rattle.rules.specs.Format.{encode_segment}
use Rattle.format.proofs.segment.write_segment.Goals as goal

pub returns-clause-done : goal.returns-clause-done
unfolding encode_segment
returns-clause-done c = λ l. (
  refl,
  ap₂ ◌++◌ c.put_entries.ensures (c.copy_from_slice.ensures.after ∙ c.ending_of.ensures),
)
