use Rattle.std.proofs.Common.{Bool, ◌&&◌, subst, ℤ, w64, int_le, SFits, rules}
use Rattle.std.proofs.lemmas.Int.{to_z-of_z}
use Rattle.std.proofs.lemmas.Result.{IfOk-weaker}
use Rattle.rsml_syntax.specs.declared.world.World.{World}
use Rattle.guard_encode.specs.Encoding.{Tells}
use Rattle.guard_encode.proofs.BoundLemmas.{grows_on, keeps_grows, told_grows}
use Rattle.gap_tables.specs.Widening.{TellsOf, number_at}
use Rattle.gap_tables.proofs.PartAnswers.{between_is}
use Rattle.gap_tables.proofs.cells.within.Goals as goal

pub returns-clause-told : goal.returns-clause-told
returns-clause-told c =
    let low_fits : SFits w64 c.args.numbers.low = search rules in
    let high_fits : SFits w64 c.args.numbers.high = search rules in
    let a = c.args.encoder.now in
    let b = c.at_least.new.encoder in
    let e = c.at_most.new.encoder in
    let d = c.and-2.new.self in
    let up = subst (λ (n : ℤ). TellsOf b (λ w. int_le n (number_at c.args.cell w)) c.in_ok-up.up) (to_z-of_z w64 c.args.numbers.low low_fits) c.in_ok-up.ensures.answer in
    let down = subst (λ (n : ℤ). Tells e (λ w. int_le (number_at c.args.cell w) n) c.in_ok-down.down) (to_z-of_z w64 c.args.numbers.high high_fits) c.in_ok-down.ensures.answer in
    let be = grows_on b c.and.new.self e (keeps_grows b c.and.new.self c.in_ok-higher.ensures.keeps) c.in_ok-down.ensures.keeps in
    IfOk-weaker c.and-2.result _ _
    (λ r h truth told.
    let higher : World → Bool = λ w. truth w && up.told w in
    let first = c.in_ok-higher.ensures.answer truth up.told (told_grows a b truth c.args.f c.in_ok-up.ensures.keeps told) up.tells in
    record {
      told = λ w. (truth w && up.told w) && int_le (number_at c.args.cell w) c.args.numbers.high;
      tells = h higher (λ w. int_le (number_at c.args.cell w) c.args.numbers.high) (told_grows c.and.new.self e higher c.in_ok-higher.higher c.in_ok-down.ensures.keeps first) down;
      same = between_is b d truth up.told c.args.cell c.args.numbers.low c.args.numbers.high (grows_on b e d be (keeps_grows e d c.and-2.ensures.keeps)) up.same;
    })
    c.and-2.ensures.answer

pub returns-clause-keeps : goal.returns-clause-keeps
returns-clause-keeps c =
    let a = c.args.encoder.now in
    let b = c.at_least.new.encoder in
    let e = c.at_most.new.encoder in
    let be = grows_on b c.and.new.self e (keeps_grows b c.and.new.self c.in_ok-higher.ensures.keeps) c.in_ok-down.ensures.keeps in
    grows_on a b c.and-2.new.self c.in_ok-up.ensures.keeps (grows_on b e c.and-2.new.self be (keeps_grows e c.and-2.new.self c.and-2.ensures.keeps))
