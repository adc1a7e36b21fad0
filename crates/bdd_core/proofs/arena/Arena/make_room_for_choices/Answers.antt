use Rattle.bdd_core.specs.Diagram.{Diagram}
use Rattle.bdd_core.specs.Steps.{blank}
use Rattle.bdd_core.proofs.KeptLemmas.{gain_choice-holds, blank_choice}
use Rattle.bdd_core.proofs.arena.Arena.make_room_for_choices.Goals as goal

pub invariant_of-self : goal.invariant_of-self
invariant_of-self c =
    let d : Diagram = record { levels = c.self.inside.levels; nodes = c.self.inside.nodes } in
    gain_choice-holds d c.self.inside.choices.slots.items c.make_room.new.self.slots.items c.self.inside.cuts.slots.items blank
    c.self.invariant c.make_room.ensures (blank_choice d c.self.invariant.is_reduced.at_least)
