use Rattle.std.proofs.Common.{◌≡◌, ◌<◌, ◌∷◌, [], length, Some, IfSome, slice_get, sym, ap, ◌∙◌, subst, arith}
use Rattle.std.proofs.lemmas.Option.{same_Some}
use Rattle.rsml_syntax.specs.declared.syntax.Spec.{Spec}
use Rattle.rsml_meaning.specs.Words.{place_in}
use Rattle.rsml_meaning.specs.Instances.{events}
use Rattle.rsml_meaning.specs.Interfaces.{ReceiveInstance, receives}
use Rattle.state_tree.proofs.Lists.{get_within}
use Rattle.reactions.proofs.RaisedLemmas.{raised_at, set_is, set_has}
use Rattle.reactions.proofs.raising.raise.Goals as goal

pub raised-event-requires : goal.raised-event-requires
raised-event-requires c = subst (λ (s : Spec). c.args.receive < length (receives s)) (sym c.interfaces.ensures) c.requires

pub put-requires : goal.put-requires
put-requires c =
    let s = c.args.machine.now.base.spec in
    let n = c.raised-event.result in
    let at = raised_at s c.args.receive n c.requires (subst (λ (u : Spec). IfSome (slice_get (receives u) c.args.receive) (λ x. place_in (events u) x.raised ≡ Some n)) c.interfaces.ensures c.raised-event.ensures) in
    let below = get_within (events s) n at.0.raised at.2 in
    omega (arith, below, c.events-count.ensures.count, c.events-count.ensures.few)

pub returns-clause-events : goal.returns-clause-events
returns-clause-events c =
    let s = c.args.machine.now.base.spec in
    let n = c.raised-event.result in
    let at = raised_at s c.args.receive n c.requires (subst (λ (u : Spec). IfSome (slice_get (receives u) c.args.receive) (λ x. place_in (events u) x.raised ≡ Some n)) c.interfaces.ensures c.raised-event.ensures) in
    set_is s n at.0.raised c.clear.new.self c.put.new.self c.clear.ensures c.put.ensures at.2

pub returns-clause-one : goal.returns-clause-one
returns-clause-one c x here =
    let s = c.args.machine.now.base.spec in
    let n = c.raised-event.result in
    let at = raised_at s c.args.receive n c.requires (subst (λ (u : Spec). IfSome (slice_get (receives u) c.args.receive) (λ x. place_in (events u) x.raised ≡ Some n)) c.interfaces.ensures c.raised-event.ensures) in
    let same : at.0 ≡ x = same_Some at.0 x (sym at.1 ∙ here) in
    set_has s n at.0.raised c.clear.new.self c.put.new.self c.clear.ensures c.put.ensures at.2 ∙ ap (λ (y : ReceiveInstance). y.raised ∷ []) same
