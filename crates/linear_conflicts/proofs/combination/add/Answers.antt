use Rattle.std.proofs.Common.{◌≡◌, ◌<◌, length, get_or, arith, ◌+ℤ◌, w64, to_z, of_z}
use Rattle.std.proofs.lemmas.Int.{ints}
use Rattle.std.proofs.lemmas.Bool.Decides.{nat_tests}
use Rattle.linear_conflicts.proofs.CombinationLemmas.{combination-set}
use Rattle.linear_conflicts.proofs.combination.add.Goals as goal

pub returns : goal.returns
returns c v =
    let b = c.in_ok-get.ensures.lookup.0 in
    let old = c.in_ok-get.field-0.now in
    let within : c.args.variable < length c.args.factors.now = grind (arith, nat_tests, b) in
    let read : old ≡ get_or c.args.factors.now c.args.variable old = c.in_ok-get.ensures.lookup.1 in
    let sum : to_z w64 (of_z w64 c.in_ok-factor.factor) ≡ get_or c.args.factors.now c.args.variable old +ℤ c.args.more = omega (arith, ints, read, c.in_ok-factor.ensures) in
    combination-set v c.args.factors.now c.args.variable c.args.variable 0 old c.args.more (to_z w64 (of_z w64 c.in_ok-factor.factor)) within (omega arith) sum
