use Rattle.std.proofs.Common.{◌≤◌, ◌<◌, ◌∙◌, subst, length, arith}
use Rattle.std.proofs.lemmas.Option.{slice_get_within}
use Rattle.rsml_meaning.specs.Cells.{cells}
use Rattle.rsml_ground.specs.Grounded.{IsGrounded}
use Rattle.macros.proofs.Below.{rests_wider}
use Rattle.macros.proofs.Learning.{phrase_asked}
use Rattle.macros.proofs.macros.Macros.truth_by.Goals as goal

pub number_truth-requires-clause-rests : goal.number_truth-requires-clause-rests
number_truth-requires-clause-rests c =
    let within : c.args.number < length c.args.self.now.phrases = slice_get_within c.args.self.now.phrases c.args.number c.args.phrase.now c.requires.phrase in
    let less : c.args.number ≤ length c.truths.result.now = omega (arith, c.truths.ensures.count, c.requires.knows.count, within) in
    rests_wider c.args.self.now.definitions (length (cells c.args.self.now.spec)) c.args.number (length c.truths.result.now) less c.args.phrase.now c.requires.rests

pub returns : goal.returns
returns c =
    c.number_truth.ensures
    ∙ phrase_asked c.args.self.now c.args.world.now c.args.memo.now c.truths.result.now c.args.number c.args.phrase.now (subst IsGrounded c.self.view_is c.self.invariant.grounded)
    c.requires.knows c.truths.ensures.right c.requires.phrase c.requires.named
