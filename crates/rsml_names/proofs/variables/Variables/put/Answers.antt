use Rattle.rsml_names.proofs.BoundLemmas.{joined_push}
use Rattle.rsml_names.proofs.variables.Variables.put.Goals as goal

pub returns : goal.returns
returns c =
    rw (c.in_ok-push.ensures.items, c.in_ok-add.ensures.put, c.bytes.ensures, ← c.self.view_is)
    (joined_push c.self.inside.names c.self.inside.places.items c.args.name.now c.args.place c.self.invariant)
