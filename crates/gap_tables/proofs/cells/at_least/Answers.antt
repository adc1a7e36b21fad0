use Rattle.std.proofs.Common.{◌≡◌, not, Some, sym, subst, slice_get, ℤ, int_le, pos, ◌-ℤ◌, ◌≤ℤ◌, to_z, of_z, w64, SFits, rules}
use Rattle.std.proofs.lemmas.Int.{to_z-of_z}
use Rattle.std.proofs.lemmas.Result.{IfOk-weaker}
use Rattle.rsml_syntax.specs.declared.syntax.Spec.{Spec}
use Rattle.rsml_meaning.specs.Cells.{cells}
use Rattle.state_tree.proofs.Lists.{within_get}
use Rattle.guard_encode.specs.Encoding.{Tells}
use Rattle.guard_encode.proofs.BoundLemmas.{grows_on, keeps_grows}
use Rattle.group_verdicts.proofs.Keeping.{spec_of}
use Rattle.gap_tables.specs.Widening.{number_at}
use Rattle.gap_tables.proofs.Ends.{at_most_is}
use Rattle.gap_tables.proofs.PartAnswers.{above_told, all_told}
use Rattle.gap_tables.proofs.cells.at_least.Goals as goal

pub returns-then-number-low-clause-answer : goal.returns-then-number-low-clause-answer
returns-then-number-low-clause-answer c =
    let a = c.args.encoder.now in
    let cell = c.args.cell in
    let there = within_get (cells a.machine.base.spec) cell c.requires in
    let own : c.worlds.result.now ≡ a.machine.base.spec = spec_of a c.machine.result.now c.worlds.result.now c.worlds.ensures c.machine.ensures in
    let less : c.args.number ≤ℤ c.low.result = search rules in
    all_told a cell c.args.number c.low.result there.0 c.constant.result there.1 (c.low.ensures there.0 (subst (λ (t : Spec). slice_get (cells t) cell ≡ Some there.0) (sym own) there.1))
    (at_most_is c.args.number c.low.result less) c.constant.ensures

pub returns-clause-answer : goal.returns-clause-answer
returns-clause-answer c =
    let d = c.not.new.self in
    let cell = c.args.cell in
    let number = to_z w64 (of_z w64 c.args.number) in
    let fits : SFits w64 c.args.number = search rules in
    let less_fits : SFits w64 (number -ℤ pos 1) = search rules in
    IfOk-weaker c.not.result _ _
    (λ r h. above_told d cell c.args.number r
    (subst (λ (n : ℤ). Tells d (λ w. not (int_le (number_at cell w) (n -ℤ pos 1))) r) (to_z-of_z w64 c.args.number fits)
    (subst (λ (n : ℤ). Tells d (λ w. not (int_le (number_at cell w) n)) r) (to_z-of_z w64 (number -ℤ pos 1) less_fits)
    (h _ c.in_ok-below.ensures.answer))))
    c.not.ensures.answer

pub returns-clause-keeps : goal.returns-clause-keeps
returns-clause-keeps c =
    grows_on c.args.encoder.now c.at_most.new.encoder c.not.new.self c.in_ok-below.ensures.keeps (keeps_grows c.at_most.new.encoder c.not.new.self c.not.ensures.keeps)
