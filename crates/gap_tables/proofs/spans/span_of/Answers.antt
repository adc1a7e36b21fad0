use Rattle.std.proofs.Common.{◌≡◌, true, false, sym, ap, ◌∙◌, subst, ℤ, w64, SFits, rules}
use Rattle.std.proofs.lemmas.Int.{to_z-of_z}
use Rattle.std.proofs.lemmas.Result.{IfOk-weaker}
use Rattle.rsml_syntax.specs.declared.syntax.Spec.{Spec}
use Rattle.world_columns.specs.Gaps.{IsWholeOrOne, IsWidestSpan}
use Rattle.world_columns.specs.Columns.{span}
use Rattle.gap_tables.specs.Widening.{NoneWithin}
use Rattle.gap_tables.proofs.PartAnswers.{has_names, of_names, of_range}
use Rattle.gap_tables.proofs.spans.span_of.Goals as goal

pub returns-then-has_names-clause-answer : goal.returns-then-has_names-clause-answer
returns-then-has_names-clause-answer c =
    let s = c.args.encoder.now.machine.base.spec in
    let fits : SFits w64 c.args.own = search rules in
    let some : has_names s c.args.cell ≡ true = ap (λ (t : Spec). has_names t c.args.cell) (sym c.requires.texts) ∙ sym c.has_names.ensures ∙ c.if-has_names.true in
    IfOk-weaker c.whole_or_one.result _ _
    (λ x h truth found none i at. of_names s c.args.cell i (NoneWithin s truth c.args.cell) c.args.own x at some
    (subst (λ (n : ℤ). IsWholeOrOne (NoneWithin s truth c.args.cell) i.numbers n x) (to_z-of_z w64 c.args.own fits) (h truth found i at)))
    c.whole_or_one.ensures.answer

pub returns-else-has_names-clause-answer : goal.returns-else-has_names-clause-answer
returns-else-has_names-clause-answer c =
    let s = c.args.encoder.now.machine.base.spec in
    let fits : SFits w64 c.args.own = search rules in
    let same = to_z-of_z w64 c.args.own fits in
    let not : has_names s c.args.cell ≡ false = ap (λ (t : Spec). has_names t c.args.cell) (sym c.requires.texts) ∙ sym c.has_names.ensures ∙ c.if-has_names.false in
    IfOk-weaker c.range.result _ _
    (λ x h truth found none i at. of_range s c.args.cell i (NoneWithin s truth c.args.cell) c.args.own x at not
    (subst (λ (n : ℤ). IsWidestSpan (NoneWithin s truth c.args.cell) i.numbers n x) same
    (h truth found (subst (λ (n : ℤ). NoneWithin s truth c.args.cell (span n n)) (sym same) none) i at)))
    c.range.ensures.answer
