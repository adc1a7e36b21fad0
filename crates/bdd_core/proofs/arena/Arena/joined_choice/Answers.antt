use Rattle.std.proofs.Common.{sym, subst, arith}
use Rattle.bdd_core.specs.Diagram.{IsRef}
use Rattle.bdd_core.specs.Steps.{IsChoice}
use Rattle.bdd_core.proofs.WaitingLemmas.{choice-join}
use Rattle.bdd_core.proofs.arena.Arena.joined_choice.Goals as goal

pub note-requires-clause-right : goal.note-requires-clause-right
note-requires-clause-right c =
    choice-join c.args.self.now c.make.new.self c.args.frame.f c.args.frame.g c.args.frame.h c.min-level.result c.args.low c.args.high c.in_ok-answer.answer
    c.requires.open.f_ref c.requires.open.g_ref c.requires.open.h_ref
    (omega (arith, c.level.ensures.level, c.level-2.ensures.level, c.level-3.ensures.level, c.min.ensures, c.min-level.ensures))
    c.make.ensures.keeps c.requires.low c.requires.high c.in_ok-answer.ensures.node

pub returns-clause-choice : goal.returns-clause-choice
returns-clause-choice c =
    subst (λ d. IsChoice d c.args.frame.f c.args.frame.g c.args.frame.h c.in_ok-answer.answer) (sym c.note.ensures)
    (choice-join c.args.self.now c.make.new.self c.args.frame.f c.args.frame.g c.args.frame.h c.min-level.result c.args.low c.args.high c.in_ok-answer.answer
    c.requires.open.f_ref c.requires.open.g_ref c.requires.open.h_ref
    (omega (arith, c.level.ensures.level, c.level-2.ensures.level, c.level-3.ensures.level, c.min.ensures, c.min-level.ensures))
    c.make.ensures.keeps c.requires.low c.requires.high c.in_ok-answer.ensures.node)

pub returns-in_err-answer-clause-added : goal.returns-in_err-answer-clause-added
returns-in_err-answer-clause-added c k from to =
    choice-join c.args.self.now c.make.new.self c.args.frame.f c.args.frame.g c.args.frame.h c.min-level.result c.args.low c.args.high k
    c.requires.open.f_ref c.requires.open.g_ref c.requires.open.h_ref
    (omega (arith, c.level.ensures.level, c.level-2.ensures.level, c.level-3.ensures.level, c.min.ensures, c.min-level.ensures))
    c.make.ensures.keeps c.requires.low c.requires.high (c.make.ensures.added k from to)

pub returns-clause-added : goal.returns-clause-added
returns-clause-added c k from to =
    subst (λ d. IsChoice d c.args.frame.f c.args.frame.g c.args.frame.h k) (sym c.note.ensures)
    (choice-join c.args.self.now c.make.new.self c.args.frame.f c.args.frame.g c.args.frame.h c.min-level.result c.args.low c.args.high k
    c.requires.open.f_ref c.requires.open.g_ref c.requires.open.h_ref
    (omega (arith, c.level.ensures.level, c.level-2.ensures.level, c.level-3.ensures.level, c.min.ensures, c.min-level.ensures))
    c.make.ensures.keeps c.requires.low c.requires.high (c.make.ensures.added k from (subst (λ d. IsRef d k) c.note.ensures to)))

pub returns-in_err-note-clause-added : goal.returns-in_err-note-clause-added
returns-in_err-note-clause-added c k from to =
    subst (λ d. IsChoice d c.args.frame.f c.args.frame.g c.args.frame.h k) (sym c.note.ensures)
    (choice-join c.args.self.now c.make.new.self c.args.frame.f c.args.frame.g c.args.frame.h c.min-level.result c.args.low c.args.high k
    c.requires.open.f_ref c.requires.open.g_ref c.requires.open.h_ref
    (omega (arith, c.level.ensures.level, c.level-2.ensures.level, c.level-3.ensures.level, c.min.ensures, c.min-level.ensures))
    c.make.ensures.keeps c.requires.low c.requires.high (c.make.ensures.added k from (subst (λ d. IsRef d k) c.note.ensures to)))
