use Rattle.std.proofs.Common.{ap, ◌∙◌}
use Rattle.rsml_meaning.specs.Words.{at, place_in}
use Rattle.state_arrays.specs.Places.{send_place}
use Rattle.state_arrays.proofs.names.Names.send_of.Goals as goal

pub returns : goal.returns
returns c =
    c.place.ensures.at
    ∙ ap (λ xs. place_in xs (at c.args.name.now c.args.index)) c.self.invariant.are_sends
    ∙ ap (λ s. send_place s (at c.args.name.now c.args.index)) c.self.view_is
