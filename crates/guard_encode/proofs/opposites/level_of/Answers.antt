use Rattle.rsml_ground.specs.declared.phrases.GroundPhrase.TheVariants as phrases
use Rattle.keyed_levels.specs.Keyed.{key_at}
use Rattle.guard_encode.proofs.NextLemmas.{level_there, stands_at}
use Rattle.guard_encode.proofs.opposites.level_of.Goals as goal

pub returns-then-is_comparison-clause-stands : goal.returns-then-is_comparison-clause-stands
returns-then-is_comparison-clause-stands c =
    stands_at c.args.levels.now c.keys-keys.result.now c.args.phrase c.in-Some.place c.phrase-compared.result.now (phrases.Compare c.args.left.now c.args.relation c.args.right.now)
    c.keys-keys.ensures.keyed c.in-Some.ensures c.phrase-compared.ensures.is (c.is_comparison.ensures c.if-is_comparison.true)

pub returns-then-is_comparison-clause-within : goal.returns-then-is_comparison-clause-within
returns-then-is_comparison-clause-within c =
    level_there c.args.levels.now (phrases.Compare c.args.left.now c.args.relation c.args.right.now) (key_at c.keys-keys.result.now c.in-Some.place).level c.keys-keys.ensures.law
    (stands_at c.args.levels.now c.keys-keys.result.now c.args.phrase c.in-Some.place c.phrase-compared.result.now (phrases.Compare c.args.left.now c.args.relation c.args.right.now)
    c.keys-keys.ensures.keyed c.in-Some.ensures c.phrase-compared.ensures.is (c.is_comparison.ensures c.if-is_comparison.true))
