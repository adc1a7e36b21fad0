use Rattle.std.proofs.Common.{arith}
use Rattle.rsml_meaning.specs.EventLines.{is_blank}
use Rattle.event_lines.proofs.WordLemmas.{found_first, none_first}
use Rattle.event_lines.proofs.words.width_among_low.Goals as goal

pub returns-in-Some-clause-is : goal.returns-in-Some-clause-is
returns-in-Some-clause-is c = found_first is_blank c.args.text.now c.in-Some.width c.in-Some.ensures

pub returns-in-None-clause-is : goal.returns-in-None-clause-is
returns-in-None-clause-is c = omega (arith, none_first is_blank c.args.text.now c.in-None.ensures)
