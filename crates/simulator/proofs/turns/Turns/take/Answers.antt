use Rattle.std.proofs.Common.{◌≡◌, ◌+◌, [], sym, ap, ◌∙◌, subst}
use Rattle.rsml_syntax.specs.declared.syntax.Spec.{Spec}
use Rattle.rsml_meaning.specs.EventLines.{breaks, read_line}
use Rattle.event_lines.specs.Told.{rule_of}
use Rattle.simulator.specs.helpers.Turns.{Turning, Takes}
use Rattle.simulator.proofs.TurnLemmas.{takes_received, turning, is_there, are_numbers}
use Rattle.simulator.proofs.turns.Turns.take.Goals as goal

pub latch-requires-clause-none : goal.latch-requires-clause-none
latch-requires-clause-none c = subst (λ (z : Turning). z.present ≡ []) (sym c.self.view_is) c.requires.none

pub latch-requires-clause-there : goal.latch-requires-clause-there
latch-requires-clause-there c =
    is_there c.self.inside.machine.now.base.spec c.self.inside.forms c.args.line.now c.in-Ok.received c.read_line.new.values c.self.invariant.forms_are c.in-Ok.ensures.ok

pub latch-requires-clause-holds : goal.latch-requires-clause-holds
latch-requires-clause-holds c =
    are_numbers c.self.inside.machine.now.base.spec c.self.inside.forms c.args.line.now c.in-Ok.received c.read_line.new.values c.self.invariant.forms_are c.in-Ok.ensures.ok

pub returns-in-Ok-clause-ok : goal.returns-in-Ok-clause-ok
returns-in-Ok-clause-ok c =
    let s = c.self.inside.machine.now.base.spec in
    let old = c.self.inside.running in
    let new = c.latch.new.running in
    let line = c.args.line.now in
    let r = c.in-Ok.received in
    let values = c.read_line.new.values in
    subst (λ (z : Turning). Takes (read_line z.spec line) r.interface z (turning s new.world new.present (c.self.inside.events + 1) new.last)) c.self.view_is
    (takes_received s c.self.inside.forms line r values c.self.invariant.forms_are c.in-Ok.ensures.ok old.world new.world old.present new.present c.self.inside.events old.last new.last
    (λ x at. let l = c.latch.ensures.latches x at in (l.world, l.present, l.last)))

pub returns-in-Err-clause-err : goal.returns-in-Err-clause-err
returns-in-Err-clause-err c =
    let line = c.args.line.now in
    subst (λ (z : Turning). read_line z.spec line ≡ breaks (rule_of c.in-Err.fault)) c.self.view_is
    (ap (λ (z : Spec). read_line z line) (sym c.self.invariant.forms_are) ∙ c.in-Err.ensures.err)
