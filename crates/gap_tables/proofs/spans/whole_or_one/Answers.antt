use Rattle.std.proofs.Common.{◌≡◌, Some, sym, subst, slice_get, ℤ, w64, SFits, rules}
use Rattle.std.proofs.lemmas.Int.{to_z-of_z}
use Rattle.rsml_syntax.specs.declared.syntax.Spec.{Spec}
use Rattle.rsml_meaning.specs.Cells.{cells}
use Rattle.group_verdicts.proofs.Keeping.{on_new, on_old, spec_of}
use Rattle.world_columns.specs.Columns.{span}
use Rattle.world_columns.specs.Gaps.{IsWholeOrOne}
use Rattle.gap_tables.specs.Widening.{IsNowhere, NoneWithin}
use Rattle.gap_tables.proofs.PartAnswers.{is_not, one_asked, whole_asked}
use Rattle.gap_tables.proofs.spans.whole_or_one.Goals as goal

pub returns-then-is_false-clause-answer : goal.returns-then-is_false-clause-answer
returns-then-is_false-clause-answer c = λ truth found i at.
    let a = c.args.encoder.now in
    let d = c.decided.new.self in
    let s = a.machine.base.spec in
    let exact = c.in_ok-decided.ensures.found truth found in
    let own : c.worlds.result.now ≡ d.machine.base.spec = spec_of d c.machine.result.now c.worlds.result.now c.worlds.ensures c.machine.ensures in
    whole_asked s truth c.args.cell i c.args.own c.whole.result
    (c.whole.ensures i (subst (λ (t : Spec). slice_get (cells t) c.args.cell ≡ Some i) (sym own) (on_new (λ t. slice_get (cells t) c.args.cell ≡ Some i) a d c.in_ok-decided.ensures.keeps at)))
    (on_old (λ t. IsNowhere t truth) a d c.in_ok-decided.ensures.keeps (exact.none.0 (c.is_false.ensures.0 c.if-is_false.true)))

pub returns-clause-answer : goal.returns-clause-answer
returns-clause-answer c = λ truth found i at.
    let a = c.args.encoder.now in
    let d = c.decided.new.self in
    let s = a.machine.base.spec in
    let exact = c.in_ok-decided.ensures.found truth found in
    let fits : SFits w64 c.args.own = search rules in
    subst (λ (n : ℤ). IsWholeOrOne (NoneWithin s truth c.args.cell) i.numbers c.args.own (span n n)) (sym (to_z-of_z w64 c.args.own fits))
    (one_asked s truth c.args.cell i c.args.own at
    (λ none. is_not c.is_false.result _ c.is_false.ensures c.if-is_false.false (exact.none.1 (on_new (λ t. IsNowhere t truth) a d c.in_ok-decided.ensures.keeps none))))
