use Rattle.std.specs.Prelude.{◌==◌}
use Rattle.std.specs.Str.{byte}
use Rattle.event_lines.proofs.WordLemmas.{place_is, none_is}
use Rattle.event_lines.proofs.words.name_width.Goals as goal

pub returns-in-Some-clause-is : goal.returns-in-Some-clause-is
returns-in-Some-clause-is c = (place_is (λ z. z == byte "[") c.args.word.now c.in-Some.width c.in-Some.ensures).0

pub returns-in-None-clause-is : goal.returns-in-None-clause-is
returns-in-None-clause-is c = none_is (λ z. z == byte "[") c.args.word.now c.in-None.ensures
