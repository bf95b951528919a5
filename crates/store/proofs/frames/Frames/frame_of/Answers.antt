use Rattle.std.proofs.Common.{◌≡◌, sym, ◌∙◌, rules}
use Rattle.rules.specs.Ram.{in_ram}
use Rattle.rules.specs.declared.table.Card.{Card}
use Rattle.store.specs.View.{ram_of}
use Rattle.store.specs.declared.slot.Slot.{Slot}
use Rattle.store.proofs.Slots.{place_so}
use Rattle.store.proofs.frames.Frames.frame_of.Goals as goal

pub returns : goal.returns
returns c =
    let s = c.args.self.now in
    let found : c.highest.result ≡ in_ram (ram_of s) c.args.page =
    c.highest.ensures.value ∙ sym (place_so (λ (x : Slot). x.card) (λ (k : Card). k.page) (λ (k : Card). k.version) c.args.page s.slots) in
    search rules
