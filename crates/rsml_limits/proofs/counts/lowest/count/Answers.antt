use Rattle.std.proofs.Common.{arith}
use Rattle.rsml_limits.proofs.PartsLemmas.{counts_joined}
use Rattle.rsml_limits.proofs.counts.lowest.count.Goals as goal

pub returns : goal.returns
returns c =
    omega (
      arith,
      counts_joined c.args.counted c.args.names.now c.args.spec.now c.as_slice.result.now c.declarations-declared.result c.in_ok-top.top c.in_ok-within.within
          c.as_slice.ensures c.declarations-declared.ensures c.in_ok-top.ensures c.in_ok-within.ensures,
    )
