use Rattle.std.proofs.Common.{◌≡◌, drop, [], map}
use Rattle.rsml_rules.specs.breaches.Noting.{noted}
use Rattle.rsml_syntax.specs.rules.Declarations as declarations
use Rattle.rsml_rules.proofs.breaches.contents.mentioned_again.Given as goal

abbrev pub invariant-loop-mention : goal.invariant-loop-mention
invariant-loop-mention l =
    noted l.worst (declarations.repeats l.rule l.earlier (map (λ m. m.name) (drop l.mention-index l.mentions)))
    ≡ noted l.fn.worst (declarations.repeats l.rule [] (map (λ m. m.name) l.mentions))
