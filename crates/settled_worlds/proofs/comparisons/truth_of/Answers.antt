use Rattle.std.proofs.Common.{◌≡◌, Some, slice_get, ap, ◌∙◌}
use Rattle.std.proofs.lemmas.Result.{IfOk-weaker}
use Rattle.rsml_syntax.specs.rules.Relations.{compare}
use Rattle.rsml_ground.specs.Truths.{sum_number}
use Rattle.rsml_ground.specs.declared.phrases.GroundPhrase.TheVariants as phrases
use Rattle.bdd_core.specs.Calls.{Represents}
use Rattle.world_levels.specs.Spelling.{world_of}
use Rattle.keyed_levels.specs.Keyed.{phrases_of}
use Rattle.settled_worlds.proofs.ExactLemmas.{compared}
use Rattle.settled_worlds.proofs.comparisons.truth_of.Goals as goal

pub returns-in-Compare-clause-answer : goal.returns-in-Compare-clause-answer
returns-in-Compare-clause-answer c =
    let p = c.in-Compare in
    let l = c.layout.result.now in
    let at : slice_get (phrases_of c.args.levels.now) c.args.phrase ≡ Some (phrases.Compare p.left p.relation p.right) = c.phrase.ensures.is ∙ ap Some p.is in
    IfOk-weaker c.compare.result
    (Represents c.compare.new.arena (λ v. compare p.relation (sum_number (world_of l.spec l.slots v).cells p.left) (sum_number (world_of l.spec l.slots v).cells p.right))) _
    (λ r h. compared c.compare.new.arena c.args.levels.now l c.args.phrase p.left p.right p.relation r c.layout.ensures.spec c.layout.ensures.slots at h)
    c.compare.ensures.answer
