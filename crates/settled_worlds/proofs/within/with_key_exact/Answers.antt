use Rattle.std.proofs.Common.{ap}
use Rattle.std.proofs.lemmas.Result.{IfOk-weaker}
use Rattle.keyed_levels.specs.declared.keyed.Keyed.{Keyed}
use Rattle.settled_worlds.proofs.SameLemmas.{same_composed}
use Rattle.settled_worlds.proofs.within.with_key_exact.Goals as goal

pub returns-clause-answer : goal.returns-clause-answer
returns-clause-answer c =
    IfOk-weaker c.compose.result _ _
    (λ r h.
    same_composed c.args.arena.now c.exact_of.new.arena c.compose.new.arena c.args.levels.now c.args.place c.key.result.level c.in_ok-made.made c.args.f r
    c.exact_of.ensures.keeps c.compose.ensures.keeps c.requires.f_ref c.requires.place (ap (λ (t : Keyed). t.level) c.key.ensures.is) c.in_ok-made.ensures.answer h)
    c.compose.ensures.answer
