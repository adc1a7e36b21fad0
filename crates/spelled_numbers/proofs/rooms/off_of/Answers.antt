use Rattle.std.proofs.Common.{◌<◌, length, ap, arith}
use Rattle.std.proofs.lemmas.List.{drop_more}
use Rattle.spelled_numbers.specs.Steps.{no_term, taken_off}
use Rattle.spelled_numbers.proofs.StepLemmas.{taken_most}
use Rattle.spelled_numbers.proofs.rooms.off_of.Goals as goal

pub overflow_add-off : goal.overflow_add-off
overflow_add-off c =
    let less : c.loop-term.term-index < length c.args.terms.now = omega (arith, c.loop-term-test.true) in
    omega (arith, c.loop-term.invariant, ap taken_off (drop_more c.args.terms.now c.loop-term.term-index no_term less), c.taken-off.ensures, taken_most c.args.terms.now, c.requires)
