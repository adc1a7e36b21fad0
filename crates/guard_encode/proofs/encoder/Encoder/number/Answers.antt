use Rattle.std.proofs.Common.{◌≡◌, ◌<◌, ◌&&◌, ◌+ℤ◌, false, length, Some, sym, ap, ◌∙◌, subst, slice_get, int_le, pos, to_z, of_z, w64, SFits, rules}
use Rattle.std.proofs.lemmas.Int.{to_z-of_z}
use Rattle.std.proofs.lemmas.Result.{IfOk-weaker}
use Rattle.rsml_syntax.specs.declared.syntax.Spec.{Spec}
use Rattle.rsml_meaning.specs.Cells.{cells}
use Rattle.bdd_core.specs.Calls.{Represents}
use Rattle.spelled_numbers.specs.Bits.{bits_of}
use Rattle.state_tree.proofs.Lists.{within_get}
use Rattle.world_levels.specs.Spelling.{cell_part}
use Rattle.keyed_levels.specs.Keyed.{AreKeyed}
use Rattle.guard_encode.specs.Encoding.{Encoding, worlds_of}
use Rattle.guard_encode.specs.Spelling.{is_spelled}
use Rattle.guard_encode.proofs.SpellingLemmas.{is_number, no_number}
use Rattle.guard_encode.proofs.StepLemmas.{encoded_stay}
use Rattle.guard_encode.proofs.encoder.Encoder.number.Goals as goal

pub invariant_of-self : goal.invariant_of-self
invariant_of-self c = encoded_stay _ _ _ c.spelled_in.new.arena _ c.spelled_in.ensures.keeps c.self.invariant

pub returns-in-None-clause-answer : goal.returns-in-None-clause-answer
returns-in-None-clause-answer c =
    let e = c.args.self.now in
    let s = c.worlds-worlds.result.now in
    let own : s ≡ e.machine.base.spec = c.worlds-worlds.ensures ∙ ap (λ (x : Encoding). x.machine.base.spec) c.self.view_is in
    let there = within_get (cells s) c.args.cell (subst (λ (t : Spec). c.args.cell < length (cells t)) (sym own) c.requires) in
    let number_fits : SFits w64 c.args.number = search rules in
    let low_fits : SFits w64 c.low.result = search rules in
    let high_fits : SFits w64 c.high.result = search rules in
    let number : to_z w64 (of_z w64 c.args.number) ≡ c.args.number = to_z-of_z w64 c.args.number number_fits in
    let low : to_z w64 (of_z w64 c.low.result) ≡ there.0.numbers.low = to_z-of_z w64 c.low.result low_fits ∙ c.low.ensures there.0 there.1 in
    let high : to_z w64 (of_z w64 c.high.result) ≡ there.0.numbers.high = to_z-of_z w64 c.high.result high_fits ∙ c.high.ensures there.0 there.1 in
    no_number c.world_laws.ensures.each e.diagram (worlds_of e) c.args.cell there.0 c.args.number c.constant.result
    (subst (λ (x : Encoding). AreKeyed (worlds_of x)) c.self.view_is c.self.invariant.stored.levels)
    (subst (λ (t : Spec). slice_get (cells t) c.args.cell ≡ Some there.0) own there.1)
    ((λ i. int_le (sym low i) (sym number i) && int_le (sym number i) (sym high i)) ∙ c.in-None.ensures)
    (subst (λ (x : Encoding). Represents x.diagram (λ v. false) c.constant.result) c.self.view_is c.constant.ensures)

pub returns-in-Some-clause-answer : goal.returns-in-Some-clause-answer
returns-in-Some-clause-answer c =
    let e = c.args.self.now in
    let levels = c.self.inside.levels in
    let s = c.worlds-worlds.result.now in
    let own : s ≡ e.machine.base.spec = c.worlds-worlds.ensures ∙ ap (λ (x : Encoding). x.machine.base.spec) c.self.view_is in
    let there = within_get (cells s) c.args.cell (subst (λ (t : Spec). c.args.cell < length (cells t)) (sym own) c.requires) in
    let number_fits : SFits w64 c.args.number = search rules in
    let low_fits : SFits w64 c.low.result = search rules in
    let high_fits : SFits w64 c.high.result = search rules in
    let number : to_z w64 (of_z w64 c.args.number) ≡ c.args.number = to_z-of_z w64 c.args.number number_fits in
    let low : to_z w64 (of_z w64 c.low.result) ≡ there.0.numbers.low = to_z-of_z w64 c.low.result low_fits ∙ c.low.ensures there.0 there.1 in
    let high : to_z w64 (of_z w64 c.high.result) ≡ there.0.numbers.high = to_z-of_z w64 c.high.result high_fits ∙ c.high.ensures there.0 there.1 in
    let bits = bits_of (cell_part levels.base.spec c.args.cell) false levels.slots 0 in
    IfOk-weaker c.spelled_in.result (Represents c.spelled_in.new.arena (is_spelled bits c.in-Some.above)) _
    (λ r h. is_number c.world_laws.ensures.each c.spelled_in.new.arena (worlds_of e) c.args.cell c.in-Some.above r there.0 c.args.number bits
    (subst (λ (x : Encoding). AreKeyed (worlds_of x)) c.self.view_is c.self.invariant.stored.levels)
    (subst (λ (t : Spec). slice_get (cells t) c.args.cell ≡ Some there.0) own there.1)
    c.requires
    ((λ i. bits_of (cell_part (c.self.invariant.same i).spec c.args.cell) false levels.slots 0)
    ∙ ap (λ (x : Encoding). bits_of (cell_part x.machine.base.spec c.args.cell) false x.slots 0) c.self.view_is)
    (sym number ∙ c.in-Some.ensures.0 ∙ ap (λ z. z +ℤ pos c.in-Some.above) low)
    ((λ i. int_le (sym number i) (sym high i)) ∙ c.in-Some.ensures.1)
    h)
    c.spelled_in.ensures.answer
