use Rattle.std.proofs.Common.{◌≡◌, ◌<◌, Some, length, sym, ◌∙◌, subst, slice_get, SFits, to_z, of_z, w64, ℤ, rules}
use Rattle.std.proofs.lemmas.Int.{to_z-of_z}
use Rattle.rsml_syntax.specs.declared.syntax.Spec.{Spec}
use Rattle.rsml_meaning.specs.Cells.{cells}
use Rattle.state_tree.proofs.Lists.{within_get}
use Rattle.guard_encode.proofs.StepLemmas.{keeps_on}
use Rattle.group_verdicts.specs.Finding.{Bounded}
use Rattle.group_verdicts.proofs.Keeping.{spec_of}
use Rattle.group_verdicts.proofs.BoundSteps.{number_in, narrowed_at}
use Rattle.group_verdicts.proofs.LowSteps.{number_read, number_unread}
use Rattle.group_verdicts.proofs.cells.least_number.Goals as goal

pub returns-then-not-is_read-clause-answer : goal.returns-then-not-is_read-clause-answer
returns-then-not-is_read-clause-answer c =
    let a = c.args.encoder.now in
    let s = c.worlds.result.now in
    let own : s ≡ a.machine.base.spec = spec_of a c.machine.result.now s c.worlds.ensures c.machine.ensures in
    let there = within_get (cells s) c.args.cell (subst (λ (t : Spec). c.args.cell < length (cells t)) (sym own) c.requires.cell) in
    let fits : SFits w64 c.low.result = search rules in
    number_unread a c.args.read.now there.0 c.args.cell (to_z w64 (of_z w64 c.low.result)) c.args.f
    (subst (λ (t : Spec). slice_get (cells t) c.args.cell ≡ Some there.0) own there.1)
    (to_z-of_z w64 c.low.result fits ∙ c.low.ensures there.0 there.1)
    (sym c.is_read.ensures ∙ c.if-not-is_read.true)

pub returns-clause-answer : goal.returns-clause-answer
returns-clause-answer c =
    let a = c.args.encoder.now in
    let b = c.least_by_halving.new.encoder in
    let d = c.fixed.new.self in
    let number = to_z w64 (of_z w64 c.in_ok-number.number) in
    let fits : SFits w64 c.in_ok-number.number = search rules in
    number_read a d c.args.read.now c.args.cell number c.args.f c.in_ok-rest.rest
    (keeps_on a b d c.in_ok-number.ensures.keeps c.in_ok-rest.ensures.keeps) (sym c.is_read.ensures ∙ c.if-not-is_read.false)
    (narrowed_at a b d (number_in c.args.cell) number c.args.f c.in_ok-rest.rest c.in_ok-number.ensures.keeps c.in_ok-rest.ensures.keeps
    (subst (λ (n : ℤ). Bounded a (number_in c.args.cell) n n c.args.f) (sym (to_z-of_z w64 c.in_ok-number.number fits)) c.in_ok-number.ensures.answer)
    c.in_ok-rest.ensures.answer)
