use Rattle.std.proofs.Common.{◌∙◌, ap, arith, rules, w64, FitsSigned, to_z, of_z, unsigned_abs, ◌-ℤ◌}
use Rattle.std.proofs.lemmas.Bool.Decides.{nat_tests}
use Rattle.std.proofs.lemmas.Int.{to_z-of_z}
use Rattle.rsml_meaning.specs.Cells.{cells}
use Rattle.world_levels.proofs.NumberLemmas.{minus, above_at, none_above}
use Rattle.world_levels.proofs.numbers.above_least.Goals as goal

pub returns-in-Some : goal.returns-in-Some
returns-in-Some c =
    let low_fits : FitsSigned w64 c.low.result = search rules in
    let fits : FitsSigned w64 c.in-Some.number.now = search rules in
    c.abs_diff.ensures
    ∙ ap (λ z. unsigned_abs (z -ℤ to_z w64 (of_z w64 c.low.result))) (to_z-of_z w64 c.in-Some.number.now fits)
    ∙ ap (λ z. unsigned_abs (c.in-Some.number.now -ℤ z)) (to_z-of_z w64 c.low.result low_fits)
    ∙ ap unsigned_abs (minus c.in-Some.number.now c.low.result)
    ∙ above_at (cells c.args.worlds.now) c.args.numbers.now c.args.cell c.low.result c.in-Some.number.now c.requires c.in-Some.ensures.lookup.1
    (let b = c.in-Some.ensures.lookup.0 in grind (arith, nat_tests, b)) c.low.ensures

pub returns-in-None : goal.returns-in-None
returns-in-None c = none_above (cells c.args.worlds.now) c.args.numbers.now c.args.cell (let b = c.in-None.ensures.lookup in grind (arith, nat_tests, b))
