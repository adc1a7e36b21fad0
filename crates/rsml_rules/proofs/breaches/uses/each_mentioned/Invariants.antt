use Rattle.std.proofs.Common.{◌≡◌, drop}
use Rattle.std.specs.Prelude.{flat_map}
use Rattle.rsml_rules.specs.breaches.Noting.{noted}
use Rattle.rsml_syntax.specs.rules.Uses as uses
use Rattle.rsml_rules.proofs.breaches.uses.each_mentioned.Given as goal

abbrev pub invariant-loop-mention : goal.invariant-loop-mention
invariant-loop-mention l =
    noted l.worst (flat_map (uses.mentioned l.tables l.scope l.want) (drop l.mention-index l.mentions))
    ≡ noted l.fn.worst (flat_map (uses.mentioned l.tables l.scope l.want) l.mentions)
