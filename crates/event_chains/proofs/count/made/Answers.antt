use Rattle.std.proofs.Common.{length, ap, sym, ◌∙◌}
use Rattle.rsml_syntax.specs.declared.syntax.Decl.{Decl}
use Rattle.rsml_syntax.specs.rules.Globals.{many}
use Rattle.rsml_meaning.specs.Instances.{events_of}
use Rattle.state_arrays.proofs.Room.{many_instances}
use Rattle.event_chains.proofs.count.made.Goals as goal

pub returns-in-Event : goal.returns-in-Event
returns-in-Event c =
    c.many.ensures ∙ ap (many c.args.globals.now) c.as_ref.ensures.value ∙ sym (many_instances c.args.globals.now c.in-Event.name c.in-Event.size)
    ∙ ap (λ (d : Decl). length (events_of c.args.globals.now d)) (sym c.in-Event.is)
