use Rattle.std.proofs.Common.{◌≡◌, ◌↔◌, false, ◌&&◌, subst, ℤ, int_le, w64, SFits, rules}
use Rattle.std.proofs.lemmas.Int.{to_z-of_z}
use Rattle.rsml_syntax.specs.declared.world.World.{World}
use Rattle.rsml_meaning.specs.Worlds.{IsWorld}
use Rattle.guard_encode.specs.Encoding.{IsOfCell}
use Rattle.gap_tables.specs.Widening.{number_at}
use Rattle.gap_tables.proofs.PartAnswers.{none_between}
use Rattle.gap_tables.proofs.cells.lies.Goals as goal

pub returns-clause-answer : goal.returns-clause-answer
returns-clause-answer c = λ truth of.
    let low_fits : SFits w64 c.args.low = search rules in
    let high_fits : SFits w64 c.args.high = search rules in
    let a = c.args.encoder.now in
    let b = c.told_from.new.encoder in
    let cell = c.args.cell in
    let may = c.in_ok-may.may in
    let up = subst (λ (n : ℤ). IsOfCell b cell (λ w. truth w && int_le n (number_at cell w)) c.in_ok-up.up) (to_z-of_z w64 c.args.low low_fits) (c.in_ok-up.ensures.answer truth of) in
    let asked = subst (λ (n : ℤ). (may ≡ false) ↔ ((w : World) → IsWorld b.machine.base.spec w → ((truth w && int_le c.args.low (number_at cell w)) && int_le (number_at cell w) n) ≡ false))
    (to_z-of_z w64 c.args.high high_fits) (c.in_ok-may.ensures.answer (λ w. truth w && int_le c.args.low (number_at cell w)) up) in
    none_between a b truth cell c.args.low c.args.high may c.in_ok-up.ensures.keeps asked
