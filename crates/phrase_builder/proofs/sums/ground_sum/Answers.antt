use Rattle.std.proofs.Common.{subst}
use Rattle.std.specs.List.{AllZip}
use Rattle.rsml_ground.specs.StandsFor.{TermIs}
use Rattle.phrase_builder.proofs.Operands.{sum_fits}
use Rattle.phrase_builder.proofs.sums.ground_sum.Goals as goal

pub returns-clause-fits : goal.returns-clause-fits
returns-clause-fits c =
    sum_fits c.args.lookup.now c.args.here.now c.args.sum.now (record { terms = c.in_ok-terms.terms }) c.requires
    (subst (λ ts. AllZip (TermIs c.args.lookup.now c.args.here.now) ts c.in_ok-terms.terms) c.as_slice.ensures c.in_ok-terms.ensures)
