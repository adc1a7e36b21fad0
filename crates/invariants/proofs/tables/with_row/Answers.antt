use Rattle.std.proofs.Common.{Bool, not, ◌&&◌, sym, ap}
use Rattle.std.proofs.lemmas.Result.{IfOk-weaker}
use Rattle.rsml_syntax.specs.declared.world.World.{World}
use Rattle.rsml_syntax.specs.declared.syntax.Cell.{Cell}
use Rattle.rsml_syntax.specs.rules.Tables.{allows}
use Rattle.invariants.proofs.ToldLemmas.{tells_and, tells_as, tells_not, tells_on}
use Rattle.invariants.proofs.tables.with_row.Goals as goal

pub returns-in-T-clause-answer : goal.returns-in-T-clause-answer
returns-in-T-clause-answer c =
    IfOk-weaker c.and.result _ _
    (λ r h s one other x y.
    tells_as s c.and.new.self (λ w. one w && other w) (λ w. one w && allows c.args.cell (other w)) r (λ w _. ap (λ (k : Cell). one w && allows k (other w)) (sym c.in-T.is))
    (tells_and s c.args.encoder.now c.and.new.self one other c.args.others c.args.phrase r h x y))
    c.and.ensures.answer

pub returns-in_ok-never-in-F-clause-answer : goal.returns-in_ok-never-in-F-clause-answer
returns-in_ok-never-in-F-clause-answer c =
    let a = c.args.encoder.now in
    let b = c.not.new.self in
    let d = c.and-in-F.new.self in
    IfOk-weaker c.and-in-F.result _ _
    (λ r h s one other x y.
    let never : World → Bool = λ w. not (other w) in
    tells_as s d (λ w. one w && never w) (λ w. one w && allows c.args.cell (other w)) r (λ w _. ap (λ (k : Cell). one w && allows k (other w)) (sym c.in-F.is))
    (tells_and s b d one never c.args.others c.in_ok-never-in-F.never r h (tells_on s a b one c.args.others c.in_ok-never-in-F.ensures.keeps x)
    (tells_not s a b other c.args.phrase c.in_ok-never-in-F.never c.in_ok-never-in-F.ensures.answer y)))
    c.and-in-F.ensures.answer
