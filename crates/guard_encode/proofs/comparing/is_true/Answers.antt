use Rattle.std.proofs.Common.{length, sym, subst}
use Rattle.rsml_meaning.specs.Cells.{cells}
use Rattle.rsml_meaning.specs.Worlds.{IsWorld}
use Rattle.rsml_ground.specs.declared.phrases.GroundPhrase.{GroundPhrase}
use Rattle.rsml_ground.specs.Rests.{RestsOn, SumFits}
use Rattle.rsml_ground.specs.Truths.{Grounded}
use Rattle.guard_encode.proofs.comparing.is_true.Goals as goal

pub compared-requires-clause-world : goal.compared-requires-clause-world
compared-requires-clause-world c = subst (λ (g : Grounded). IsWorld g.spec c.args.world.now) (sym c.macros.ensures) c.requires.world

pub compared-requires-clause-left : goal.compared-requires-clause-left
compared-requires-clause-left c =
    let n = length (cells c.args.levels.now.base.spec) in
    let fit : SumFits n c.in-Compare.left × SumFits n c.in-Compare.right =
    subst (λ (p : GroundPhrase). RestsOn c.args.levels.now.base.definitions n c.args.phrase p) c.in-Compare.is c.phrase.ensures.rests in
    subst (λ (g : Grounded). SumFits (length (cells g.spec)) c.in-Compare.left) (sym c.macros.ensures) fit.0

pub compared-requires-clause-right : goal.compared-requires-clause-right
compared-requires-clause-right c =
    let n = length (cells c.args.levels.now.base.spec) in
    let fit : SumFits n c.in-Compare.left × SumFits n c.in-Compare.right =
    subst (λ (p : GroundPhrase). RestsOn c.args.levels.now.base.definitions n c.args.phrase p) c.in-Compare.is c.phrase.ensures.rests in
    subst (λ (g : Grounded). SumFits (length (cells g.spec)) c.in-Compare.right) (sym c.macros.ensures) fit.1
