use Rattle.std.specs.Prelude.{codes}
use Rattle.std.proofs.lemmas.Bool.Decides.{Decides-eqb}
use Rattle.std.proofs.lemmas.Slice.Eq.{strip_prefix_is}
use Rattle.event_lines.proofs.reading.behind_mark.Goals as goal

pub returns : goal.returns
returns c = strip_prefix_is Decides-eqb c.args.rest.now (codes "=") c.strip_prefix.result c.strip_prefix.ensures.cases
