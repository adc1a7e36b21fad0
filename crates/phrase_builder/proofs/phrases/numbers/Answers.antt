use Rattle.std.proofs.Common.{length, ◌<◌, Some, sym, subst, arith}
use Rattle.rsml_syntax.specs.rules.Globals.{many}
use Rattle.rsml_meaning.specs.Cells.{cells}
use Rattle.rsml_meaning.specs.Instances.{globals_of}
use Rattle.rsml_meaning.specs.Truth.{within, quantified}
use Rattle.rsml_ground.specs.StandsFor.{NumberIs}
use Rattle.rsml_ground.specs.Scoped.{SimpleIsScoped}
use Rattle.phrase_builder.proofs.Growing.{grew_both}
use Rattle.phrase_builder.proofs.Lists.{each_up_to, up_to_turn}
use Rattle.phrase_builder.proofs.Standing.{number_stays}
use Rattle.phrase_builder.proofs.phrases.numbers.Goals as goal

pub simple_number-requires-clause-scoped : goal.simple_number-requires-clause-scoped
simple_number-requires-clause-scoped c =
    let s = c.args.site.now.lookup.now in
    let r = quantified (within c.args.site.now.this) c.args.variable.now in
    let count = c.many-count.ensures in
    let few = c.requires.scoped.few in
    let test = c.loop-before-test.true in
    let below : c.loop-before.before < many (globals_of s) (Some c.args.bound.now) = omega (arith, count, few, test) in
    subst (λ h. SimpleIsScoped s (length c.args.site.now.definitions.now) h c.args.body.now) (sym c.quantified-here.ensures)
    (each_up_to (λ i. SimpleIsScoped s (length c.args.site.now.definitions.now) (r i) c.args.body.now) (many (globals_of s) (Some c.args.bound.now)) c.loop-before.before c.requires.scoped.each below)

pub loop-before-preserved : goal.loop-before-preserved
loop-before-preserved c =
    let s = c.args.site.now.lookup.now in
    let b = c.args.body.now in
    let r = quantified (within c.args.site.now.this) c.args.variable.now in
    let old = c.loop-before.phrases in
    let new = c.simple_number.new.phrases in
    record {
      grew = grew_both (length (cells s)) c.args.site.now.definitions.now c.args.phrases.now old new c.loop-before.invariant.grew c.simple_number.ensures.grew;
      are = up_to_turn (λ i k. NumberIs old s (r i) b k) (λ i k. NumberIs new s (r i) b k) (λ i k. number_stays old new s (r i) b k c.simple_number.ensures.grew.keeps) c.loop-before.before c.in_ok-number.number c.loop-before.found c.push.new.self
          c.in_ok-push.ensures.ok c.loop-before.invariant.are (subst (λ h. NumberIs new s h b c.in_ok-number.number) c.quantified-here.ensures c.in_ok-number.ensures.is);
    }
