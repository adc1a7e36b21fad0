use Rattle.std.proofs.Common.{sym, subst}
use Rattle.bdd_core.specs.Steps.{IsCut}
use Rattle.bdd_core.proofs.ChildLemmas.{cut-joined}
use Rattle.bdd_core.proofs.arena.Arena.joined_cut.Goals as goal

pub note_cut-requires-clause-right : goal.note_cut-requires-clause-right
note_cut-requires-clause-right c =
    cut-joined c.args.self.now c.make.new.self c.level-top.ensures.reduced c.make.ensures.keeps c.args.level c.args.value c.args.frame c.args.low c.args.high c.level-top.result c.in_ok-answer.answer
    c.requires.low c.requires.high c.level-top.ensures.level c.in_ok-answer.ensures.node

pub returns-clause-cut : goal.returns-clause-cut
returns-clause-cut c =
    subst (λ d. IsCut d c.args.frame.f c.args.level c.args.value c.in_ok-answer.answer) (sym c.note_cut.ensures)
    (cut-joined c.args.self.now c.make.new.self c.level-top.ensures.reduced c.make.ensures.keeps c.args.level c.args.value c.args.frame c.args.low c.args.high c.level-top.result c.in_ok-answer.answer
    c.requires.low c.requires.high c.level-top.ensures.level c.in_ok-answer.ensures.node)
