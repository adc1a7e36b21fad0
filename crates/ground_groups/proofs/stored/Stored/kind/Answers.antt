use Rattle.ground_groups.proofs.Rising.{blank}
use Rattle.ground_groups.proofs.GroupLemmas.{get_at, state_kind, send_kind, function_kind, item_at}
use Rattle.ground_groups.proofs.stored.Stored.kind.Goals as goal

pub returns-in-State : goal.returns-in-State
returns-in-State c = λ s g h e. state_kind s c.args.self.now h c.args.group c.in-State.place g _ e c.in-State.ensures.0 c.in-State.ensures.1
    (get_at c.as_slice.result.now c.args.self.now.states.heads.keys c.in-State.place blank c.as_slice.ensures.keys c.in-State.ensures.1)

pub returns-in-Send : goal.returns-in-Send
returns-in-Send c = λ s g h e. send_kind s c.args.self.now h c.args.group c.in-Send.place g _ e c.in-Send.ensures.0 c.in-Send.ensures.1
    (get_at c.as_slice-in-Send.result.now c.args.self.now.sends.heads.keys c.in-Send.place blank c.as_slice-in-Send.ensures.keys c.in-Send.ensures.1)

pub returns-in-Function : goal.returns-in-Function
returns-in-Function c = λ s g h e. function_kind s c.args.self.now h c.args.group c.in-Function.place g c.index.result.now e c.in-Function.ensures.0
    (item_at c.args.self.now.functions.items c.in-Function.place c.index.result.now _ c.in-Function.ensures.1 c.index.ensures)
