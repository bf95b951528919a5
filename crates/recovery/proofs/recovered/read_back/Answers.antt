use Rattle.std.proofs.Common.{◌≡◌, ℕ, ◌-◌, ◌*◌, ◌/◌, map, sym, ap, ◌∙◌}
use Rattle.std.proofs.lemmas.Result.{err_from_is_err_and}
use Rattle.medium.specs.Meaning.{Meaning, size}
use Rattle.rules.specs.Queue.{groups, frames}
use Rattle.format.specs.Segments.{all_said}
use Rattle.recovery.specs.Reread.{reread}
use Rattle.recovery.specs.Tails.{tail_of}
use Rattle.recovery.proofs.ReadBack.{stops_at_frame, reads_all}
use Rattle.recovery.proofs.recovered.read_back.Goals as goal

-- The groups that were counted are those of the flash.
counted : (m : Meaning) (n s : ℕ) → n ≡ size m → s ≡ (n - 1) / 16 → groups m ≡ s
counted m n s is own = sym (own ∙ ap (λ k. (k - 1) / 16) is)

pub returns-in_err-tail-clause-found : goal.returns-in_err-tail-clause-found
returns-in_err-tail-clause-found g c = λ ok some most.
    let m = g.F.Medium.means c.args.flash.now in
    let x = g.F.Medium.means c.read_segments.new.flash in
    let shape = c.in_ok-shape.shape in
    let found = c.in_ok-segments.segments in
    let segments = c.in_ok-segments.ensures in
    let e = c.in_err-tail.field-0.0 in
    let was = err_from_is_err_and c.from_residual-in_err-tail.result c.from_residual-in_err-tail.ensures.1 in
    let sizes = rw c.in_ok-shape.ensures.ok_part at c.of.ensures.sizes in
    let few = counted m c.size.result shape.groups (c.size.ensures ok) sizes.0 in
    let same = segments.same ok in
    let here = c.in_err-tail.ensures.found (segments.keeps ok) (ap frames same ∙ ap (λ n. 15 * n) few) in
    rw (was.1, was.2)
    (stops_at_frame m shape.pages shape.groups few (map all_said found.places.items) (all_said found.newest) c.last.result x
    (segments.found ok few) segments.newest c.last.ensures.exact same e here
    ∙ ap (reread m) sizes.1)

pub returns-clause-found : goal.returns-clause-found
returns-clause-found g c = λ ok some most.
    let m = g.F.Medium.means c.args.flash.now in
    let x = g.F.Medium.means c.read_segments.new.flash in
    let shape = c.in_ok-shape.shape in
    let found = c.in_ok-segments.segments in
    let segments = c.in_ok-segments.ensures in
    let sizes = rw c.in_ok-shape.ensures.ok_part at c.of.ensures.sizes in
    let few = counted m c.size.result shape.groups (c.size.ensures ok) sizes.0 in
    let same = segments.same ok in
    let here = c.in_ok-tail.ensures.found (segments.keeps ok) (ap frames same ∙ ap (λ n. 15 * n) few) in
    reads_all m shape.pages shape.groups few (map all_said found.places.items) (all_said found.newest) c.last.result x
    (segments.found ok few) segments.newest c.last.ensures.exact same (tail_of c.in_ok-tail.tail.items)
    c.recovered.result here c.recovered.ensures.exact
    ∙ ap (reread m) sizes.1
