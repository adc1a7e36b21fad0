use Rattle.std.proofs.Common.{length, sym, ap, ◌∙◌}
use Rattle.rsml_syntax.specs.rules.Globals.{many}
use Rattle.rsml_meaning.specs.Instances.{events_of}
use Rattle.state_arrays.proofs.Room.{many_instances}
use Rattle.elaborate.proofs.count.declared.Goals as goal

pub returns-in-Event : goal.returns-in-Event
returns-in-Event c =
    c.many.ensures ∙ ap (many c.args.globals.now) c.as_ref.ensures.value ∙ sym (many_instances c.args.globals.now c.in-Event.name c.in-Event.size) ∙ ap (λ d. length (events_of c.args.globals.now d)) (sym c.in-Event.is)
