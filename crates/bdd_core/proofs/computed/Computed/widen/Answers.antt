use Rattle.std.proofs.Common.{◌≡◌, ◌∙◌, ap, sym, subst, take, replicate, ◌++◌, ◌-◌, if◌then◌else◌, vec_len}
use Rattle.bdd_core.specs.Steps.{GainsOnly, blank}
use Rattle.bdd_core.proofs.KeptLemmas.{gains-resize, gains-trans}
use Rattle.bdd_core.proofs.computed.Computed.widen.Goals as goal

pub returns-then-is_ok : goal.returns-then-is_ok
returns-then-is_ok c =
    let more = c.max-room.result - vec_len c.args.self.now.slots in
    let grown : c.resize.new.self.items ≡ take c.max-room.result c.args.self.now.slots.items ++ replicate (c.max-room.result - vec_len c.args.self.now.slots) blank =
    c.resize.ensures.items ∙ ap (λ b. if b then take c.max-room.result c.args.self.now.slots.items ++ replicate (c.max-room.result - vec_len c.args.self.now.slots) blank else c.args.self.now.slots.items) (sym c.is_ok.ensures.value ∙ c.if-is_ok.true) in
    gains-trans c.args.self.now.slots.items c.resize.new.self.items c.spread.new.self.slots.items
    (subst (λ now. GainsOnly c.args.self.now.slots.items now blank) (sym grown) (gains-resize c.args.self.now.slots.items c.max-room.result (c.max-room.result - vec_len c.args.self.now.slots)))
    c.spread.ensures
