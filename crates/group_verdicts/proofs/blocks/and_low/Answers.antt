use Rattle.std.proofs.Common.{◌≡◌, ℕ, Some, sym, ◌∙◌, subst, slice_get, slice_index_or, SFits, to_z, of_z, w64, int_le, pos, rules}
use Rattle.std.proofs.lemmas.Int.{to_z-of_z}
use Rattle.std.proofs.lemmas.Result.{IfOk-weaker}
use Rattle.rsml_syntax.specs.declared.syntax.Spec.{Spec}
use Rattle.rsml_meaning.specs.Cells.{cells}
use Rattle.state_tree.proofs.Lists.{within_get}
use Rattle.guard_encode.specs.Encoding.{Tells}
use Rattle.guard_encode.proofs.StepLemmas.{keeps_on, told_on}
use Rattle.group_verdicts.proofs.Keeping.{spec_of}
use Rattle.group_verdicts.proofs.BlockSteps.{read_cell}
use Rattle.group_verdicts.proofs.blocks.and_low.Goals as goal

pub returns-clause-answer : goal.returns-clause-answer
returns-clause-answer c =
    let a = c.args.encoder.now in
    let b = c.at_most.new.self in
    let d = c.and.new.self in
    let n = c.args.place in
    let s = a.machine.base.spec in
    let own : c.worlds.result.now ≡ s = spec_of a c.machine.result.now c.worlds.result.now c.worlds.ensures c.machine.ensures in
    let there = within_get (cells s) n c.requires.place in
    let fits : SFits w64 c.low-low.result = search rules in
    let low : to_z w64 (of_z w64 c.low-low.result) ≡ there.0.numbers.low =
    to_z-of_z w64 c.low-low.result fits
    ∙ c.low-low.ensures there.0 (subst (λ (t : Spec). slice_get (cells t) c.in_ok-cell.cell ≡ Some there.0) (sym own)
    (subst (λ (k : ℕ). slice_get (cells s) k ≡ Some there.0) (sym c.in_ok-cell.ensures) there.1)) in
    let told = subst (λ (k : ℕ). Tells b (λ w. int_le (slice_index_or w.cells k (pos 0)) (to_z w64 (of_z w64 c.low-low.result))) c.in_ok-own.own) c.in_ok-cell.ensures c.in_ok-own.ensures.answer in
    IfOk-weaker c.and.result _ _
    (λ both h from order tests.
    read_cell a d c.args.read.now there.0 from n (to_z w64 (of_z w64 c.low-low.result)) c.args.test both (keeps_on a b d c.in_ok-own.ensures.keeps c.and.ensures.keeps)
    order there.1 low (sym c.is_read.ensures ∙ c.if-not-is_read.false) tests
    (h tests.test (λ w. int_le (slice_index_or w.cells n (pos 0)) (to_z w64 (of_z w64 c.low-low.result))) (told_on a b tests.test c.args.test c.in_ok-own.ensures.keeps tests.told) told))
    c.and.ensures.answer
