use Rattle.bdd_core.specs.Diagram.{Diagram}
use Rattle.bdd_core.specs.Steps.{blank}
use Rattle.bdd_core.proofs.KeptLemmas.{gain_cut-holds, blank_cut}
use Rattle.bdd_core.proofs.arena.Arena.make_room_for_cuts.Goals as goal

pub invariant_of-self : goal.invariant_of-self
invariant_of-self c =
    let d : Diagram = record { levels = c.self.inside.levels; nodes = c.self.inside.nodes } in
    gain_cut-holds d c.self.inside.choices.slots.items c.self.inside.cuts.slots.items c.make_room.new.self.slots.items blank
    c.self.invariant c.make_room.ensures (blank_cut d c.self.invariant.is_reduced.at_least)
