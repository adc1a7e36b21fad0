use Rattle.std.proofs.Common.{◌<◌, Some, sym, subst, arith}
use Rattle.rsml_syntax.specs.rules.Globals.{many}
use Rattle.rsml_meaning.specs.Instances.{globals_of}
use Rattle.rsml_meaning.specs.Truth.{within, quantified}
use Rattle.rsml_ground.specs.Scoped.{SimpleIsScoped}
use Rattle.phrase_builder.proofs.Lists.{each_up_to, up_to_turn}
use Rattle.ground_claims.specs.StandsFor.{StateIs}
use Rattle.ground_claims.proofs.phrases.ground_states.Goals as goal

pub ground_state-requires-clause-scoped : goal.ground_state-requires-clause-scoped
ground_state-requires-clause-scoped c =
    let s = c.args.lookup.now in
    let r = quantified (within 0) c.args.variable.now in
    let count = c.many-count.ensures in
    let few = c.requires.scoped.few in
    let test = c.loop-before-test.true in
    let below : c.loop-before.before < many (globals_of s) (Some c.args.bound.now) = omega (arith, count, few, test) in
    subst (λ h. SimpleIsScoped s 0 h c.args.simple.now) (sym c.quantified-here.ensures)
    (each_up_to (λ i. SimpleIsScoped s 0 (r i) c.args.simple.now) (many (globals_of s) (Some c.args.bound.now)) c.loop-before.before c.requires.scoped.each below)

pub loop-before-preserved : goal.loop-before-preserved
loop-before-preserved c =
    let s = c.args.lookup.now in
    let b = c.args.simple.now in
    let r = quantified (within 0) c.args.variable.now in
    up_to_turn (λ i k. StateIs s (r i) b k) (λ i k. StateIs s (r i) b k) (λ i k e. e) c.loop-before.before c.in_ok-node.node c.loop-before.nodes c.push.new.self
    c.in_ok-push.ensures.ok c.loop-before.invariant (subst (λ h. StateIs s h b c.in_ok-node.node) c.quantified-here.ensures c.in_ok-node.ensures)
